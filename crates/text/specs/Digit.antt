-- The digits of numbers and of bytes, 0 to 9 and a to f in either case.
use Rattle.std.specs.Prelude.{ℕ, ◌+◌, ◌-◌, Bool, ◌&&◌, cond, leb, ltb}
use Rattle.text.specs.Ascii.{byte}

abbrev pub between : (low high : ℕ) → ℕ → Bool
between low high b = leb low b && leb b high

-- a digit's value; 16 for what is no digit
unfoldable pub digit_value : ℕ → ℕ
digit_value b =
    cond (between (byte "0") (byte "9") b) (b - byte "0")
    (cond (between (byte "a") (byte "f") b) (b - byte "a" + 10) (cond (between (byte "A") (byte "F") b) (b - byte "A" + 10) 16))

abbrev pub is_decimal : ℕ → Bool
is_decimal b = ltb (digit_value b) 10

abbrev pub is_hexadecimal : ℕ → Bool
is_hexadecimal b = ltb (digit_value b) 16
