-- 01, 'Layouts': a value as packed bytes.
use Rattle.std.specs.Prelude.{ℕ, zero, suc, ◌+◌, ◌*◌, ◌^◌, ◌/◌, ◌%◌, List, [], ◌∷◌}

-- a value's last two digits as one byte: tens in the high half, units in the low half
unfoldable pub packed_byte : ℕ → ℕ
packed_byte v = v / 10 % 10 * 16 + v % 10

-- a value's last n pairs of digits as n bytes
unfoldable pub packed_bytes : (n v : ℕ) → List ℕ
packed_bytes zero v = []
packed_bytes (suc n) v = packed_byte (v / 100 ^ n) ∷ packed_bytes n v
