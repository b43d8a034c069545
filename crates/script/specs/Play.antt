-- What playing a line leaves.
use Rattle.std.specs.Prelude.{ℕ, ◌+◌, ◌*◌, ◌≤◌, ◌<◌, ◌≡◌, Option, Some, None, cond, List, eqb, length, take, drop, replicate}
use Rattle.text.specs.declared.wire.Memory.{Memory}
use Rattle.text.specs.Line.{most_room}
use Rattle.text.specs.Held.{Written, Holds, remembered}
use Rattle.script.specs.declared.player.Player.{Player}
use Rattle.script.specs.declared.play.LinePlayed.{LinePlayed}
use Rattle.script.specs.declared.play.Played.{Played}
use Rattle.script.specs.declared.play.Stop.{Stop}
use Rattle.script.specs.Reading.{Meant}
use Rattle.script.specs.Player.{Ends, ends_of, seat_at, wrote, played_at}

-- the bytes of a line buffer, before a call
unfoldable pub filled : List ℕ
filled = replicate most_room 0xee

-- no answer is longer: 400 bytes of words, two characters for each byte of the longest message, and a line feed
abbrev pub longest_answer : ℕ
longest_answer = 400 + 2 * most_room + 1

-- both ends after a line that means this
abbrev pub played : Meant → Ends → Ends
played m e = played_at m.near m.named (take m.room filled) e

-- what is held after a line that means this: what it wrote too, if it wrote something
abbrev pub held_after : Memory → (written : List ℕ) (lent : ℕ) → List Written → List Written
held_after memory written lent ws = cond (eqb (length written) 0) ws (remembered memory written lent ws)

abbrev pub held_by : Player → Meant → (lent : ℕ) → List Written → List Written
held_by player m lent ws = held_after player.memory (wrote m.named (take m.room filled) (seat_at m.near (ends_of player))) lent ws

-- the memory holds what it held, and what the line wrote; or what it held, where the output has no room for the answer
abbrev pub Remembers : Player → (then : List Written → List Written) (wire wire' : List ℕ) → Option LinePlayed → Type 0
Remembers player then wire wire' None = (ws : List Written) → Holds player.memory wire ws → Holds player.memory wire' ws
Remembers player then wire wire' (Some r) = (ws : List Written) → Holds player.memory wire ws → Holds r.player.memory wire' (then ws)

-- A line was played: the two ends, each session with its running totals, are as they are to be next. Of the output only the answer is
-- written. The text of the answer is left open.
pub record IsDone (next : Ends) (before after : List ℕ) (r : LinePlayed) : Type 0 where
  pub ends : ends_of r.player ≡ next
  pub written : r.written ≤ length before
  pub kept : drop r.written after ≡ drop r.written before

-- nothing was done: the output has no room for the answer, which it has wherever the longest would fit
pub record NoRoom (before after : List ℕ) : Type 0 where
  pub full : length before < longest_answer
  pub kept : after ≡ before

abbrev pub Done : (next : Ends) (before after : List ℕ) → Option LinePlayed → Type 0
Done next before after None = NoRoom before after
Done next before after (Some r) = IsDone next before after r

-- how much of a text was played: all of it, where nothing stopped it
pub record ReadOf (size : ℕ) (r : Played) : Type 0 where
  pub most : r.read ≤ size
  pub all : r.stop ≡ Stop.Done → r.read ≡ size
