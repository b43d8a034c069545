-- Bytes as text, two hexadecimal digits each, the high half first.
use Rattle.std.specs.Prelude.{ℕ, ◌+◌, ◌*◌, ◌/◌, ◌%◌, Bool, ◌&&◌, Some, None, cond, List, [], ◌∷◌, ltb, eqb, length}
use Rattle.packed.specs.Every.{every}
use Rattle.text.specs.Ascii.{ascii}
use Rattle.text.specs.Digit.{digit_value, is_hexadecimal}
use Rattle.text.specs.Word.{equal_bytes}
use Rattle.text.specs.Got.{Got}

-- the character of a half of a byte: 0 to 9, then a to f
abbrev pub hex_digit : ℕ → ℕ
hex_digit half = cond (ltb half 10) (48 + half) (87 + half)

-- two characters a byte
unfoldable pub hex_text : List ℕ → List ℕ
hex_text [] = []
hex_text (b ∷ bs) = hex_digit (b / 16) ∷ hex_digit (b % 16) ∷ hex_text bs

-- the bytes of pairs of digits
unfoldable pub hex_bytes : List ℕ → List ℕ
hex_bytes [] = []
hex_bytes (high ∷ []) = []
hex_bytes (high ∷ low ∷ text) = (digit_value high * 16 + digit_value low) ∷ hex_bytes text

-- an even number of digits, and not none
abbrev pub is_paired : ℕ → Bool
is_paired count = ltb 0 count && eqb (count % 2) 0

-- a word as bytes: digits, or `-` for no bytes at all
unfoldable pub hex_word : List ℕ → Got
hex_word w =
    cond (equal_bytes w (ascii "-")) (Some [])
    (cond (is_paired (length w)) (cond (every is_hexadecimal w) (Some (hex_bytes w)) None) None)
