-- What the code tells of a line behind other answers.
use Rattle.std.specs.Prelude.{ℕ, ◌+◌, ◌^◌, ◌≤◌, ◌<◌, ◌≡◌, Option, Some, None, List, length, drop}
use Rattle.script.specs.declared.play.LinePlayed.{LinePlayed}

-- a line was played, with so many bytes of output before its answer
pub record IsBehind (count : ℕ) (before after : List ℕ) (r : LinePlayed) : Type 0 where
  pub written : count + r.written ≤ length before
  pub fits : count + r.written < 2 ^ 64
  pub kept : drop (count + r.written) after ≡ drop (count + r.written) before

-- or it was not, and behind those bytes the output is as it was
abbrev pub Behind : (count : ℕ) (before after : List ℕ) → Option LinePlayed → Type 0
Behind count before after None = drop count after ≡ drop count before
Behind count before after (Some r) = IsBehind count before after r
