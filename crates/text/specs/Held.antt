-- What the memory holds: bytes that were written, each with its number, in the order of the calls; and how the lent bytes hold them.
use Rattle.std.specs.Prelude.{ℕ, ◌+◌, ◌*◌, ◌-◌, ◌^◌, ◌≤◌, ◌<◌, ◌≡◌, Bool, ◌&&◌, Some, None, cond, List, [], ◌∷◌, ◌++◌, eqb, leb, ltb, length}
use Rattle.packed.specs.Part.{part}
use Rattle.packed.specs.Writing.{packed_bytes}
use Rattle.text.specs.declared.wire.Memory.{Memory}
use Rattle.text.specs.Got.{Got}
use Rattle.text.specs.Memory.{contents_bytes, most_entries, wire_bytes}

pub record Written : Type 0 where
  pub number : ℕ
  pub bytes : List ℕ

-- what was written under a number, if it is held
unfoldable pub held_under : List Written → ℕ → Got
held_under [] wanted = None
held_under (w ∷ ws) wanted = cond (eqb w.number wanted) (Some w.bytes) (held_under ws wanted)

-- all bytes, one after another
unfoldable pub contents : List Written → List ℕ
contents [] = []
contents (w ∷ ws) = w.bytes ++ contents ws

-- an entry for each, behind bytes that end at a place: its number, and where its own bytes end
unfoldable pub entries : (end : ℕ) → List Written → List ℕ
entries end [] = []
entries end (w ∷ ws) = packed_bytes 8 w.number ++ (packed_bytes 8 (end + length w.bytes) ++ entries (end + length w.bytes) ws)

-- numbers rise, from above one to at most another, and each fits an entry
unfoldable pub Rising : (above most : ℕ) → List Written → Type 0
Rising above most [] = above ≤ most
Rising above most (w ∷ ws) = (above < w.number) × (w.number < 100 ^ 8) × Rising w.number most ws

-- the lent bytes and the record hold these
pub record Holds (m : Memory) (wire : List ℕ) (ws : List Written) : Type 0 where
  pub kept : m.kept ≡ length ws
  pub used : m.used ≡ length (contents ws)
  pub numbers : Rising 0 m.numbered ws
  pub few : length ws ≤ most_entries
  pub fit : length (contents ws) ≤ contents_bytes
  pub stand : part 0 (length (contents ws)) wire ≡ contents ws
  pub listed : part contents_bytes (length ws * 16) wire ≡ entries 0 ws
  pub short : length wire < wire_bytes → ws ≡ []

-- the number of what is written next; the largest stays
abbrev pub next_number : (numbered : ℕ) → ℕ
next_number n = cond (ltb n (2 ^ 64 - 1)) (n + 1) n

-- whether so many bytes are kept: in a MiB with those before them, and while an entry can name them
unfoldable pub has_room : Memory → (size lent : ℕ) → Bool
has_room m size lent =
    leb wire_bytes lent && ltb m.kept most_entries && leb (m.used + size) contents_bytes && ltb m.numbered (100 ^ 8 - 1)

-- what is held after something was written: it too, if there is room for it
abbrev pub remembered : Memory → (written : List ℕ) (lent : ℕ) → List Written → List Written
remembered m written lent ws = cond (has_room m (length written) lent) (ws ++ record { number = m.numbered + 1; bytes = written } ∷ []) ws
