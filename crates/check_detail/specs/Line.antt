-- 01, 'The check program': the one line that it writes, in ASCII.
use Rattle.std.specs.Prelude.{ℕ, ◌+◌, ◌*◌, ◌/◌, ◌%◌, List, [], ◌∷◌, ◌++◌}
use Rattle.decimal.specs.Decimal.{glyph, behind_space, most_behind_space}
use Rattle.detail.specs.declared.checked.Checked.{Checked}
use Rattle.detail.specs.Checked.{program_checked}

abbrev pub line_feed : ℕ
line_feed = 0x0A

-- a code has two digits
abbrev pub two_digits : ℕ → List ℕ
two_digits code = glyph (code / 10 % 10) ∷ glyph (code % 10) ∷ []

-- 'one line: code, documents, nominal, commission'
unfoldable pub line_of : Checked → List ℕ
line_of c = two_digits c.code ++ behind_space c.documents ++ behind_space c.nominal ++ behind_space c.commission ++ line_feed ∷ []

-- which has at most so many bytes
abbrev pub most_line_bytes : ℕ
most_line_bytes = 2 + 3 * most_behind_space + 1

-- what the program writes for the bytes that it read
abbrev pub program_line : (body : List ℕ) → List ℕ
program_line body = line_of (program_checked body)
