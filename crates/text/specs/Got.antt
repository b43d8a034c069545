-- Bytes that were read into a buffer, if they were.
use Rattle.std.specs.Prelude.{ℕ, Option, Some, None, cond, List, leb, length, take}

abbrev pub Got : Type 0
Got = Option (List ℕ)

-- if no more are got than fit
unfoldable pub fitting : (most : ℕ) → Got → Got
fitting most None = None
fitting most (Some bytes) = cond (leb (length bytes) most) (Some bytes) None

-- what a function says it read, by the buffer that it leaves: its first bytes, so many
abbrev pub got_of : Option ℕ → (buffer : List ℕ) → Got
got_of None buffer = None
got_of (Some count) buffer = Some (take count buffer)
