-- 02, card 1: 'the table's text, one number a line', in ASCII, with a line feed after the last line too.
use Rattle.std.specs.Prelude.{ℕ, suc, List, [], ◌∷◌, ◌++◌}
use Rattle.calendar.specs.Rule.{table_of}
use Rattle.calendar.specs.Year.{unworked2028}
use Rattle.decimal.specs.Decimal.{decimal, most_digits}

abbrev pub line_feed : ℕ
line_feed = 0x0A

-- a number and its line feed
abbrev pub line_of : ℕ → List ℕ
line_of n = decimal n ++ line_feed ∷ []

-- a line for each entry
unfoldable pub table_text : List ℕ → List ℕ
table_text [] = []
table_text (n ∷ ns) = line_of n ++ table_text ns

-- a line has at most so many bytes
abbrev pub most_line_bytes : ℕ
most_line_bytes = suc most_digits

-- what the program writes
abbrev pub program_text : List ℕ
program_text = table_text (table_of unworked2028)
