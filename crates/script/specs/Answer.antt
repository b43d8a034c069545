-- The length of an answer.
use Rattle.std.specs.Prelude.{ℕ, zero, suc, ◌+◌, ◌*◌}

-- its words, two characters for each byte that it shows, and a line feed; nothing answers a line that is passed over
unfoldable pub answer_bytes : (words shown : ℕ) → ℕ
answer_bytes zero shown = 0
answer_bytes (suc words) shown = suc words + 2 * shown + 1
