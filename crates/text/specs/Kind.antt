-- The kinds of lines (docs/SCRIPTS.md): the word of each call, and what follows its end.
use Rattle.std.specs.Prelude.{ℕ, Bool, true, false, Option, Some, None, cond, List, [], ◌∷◌}
use Rattle.text.specs.declared.kind.Kind.{Kind}
use Rattle.text.specs.declared.kind.Kind.TheVariants.{Start, Header, Detail, LotTotal, SessionTotal, Receive, Reply, Clock, Report, Passed, Bad}
use Rattle.text.specs.declared.kind.Source.{Source}
use Rattle.text.specs.declared.kind.Source.TheVariants.{Hex, HexOrWritten}
use Rattle.text.specs.declared.kind.Shape.{Shape}
use Rattle.text.specs.Ascii.{ascii}
use Rattle.text.specs.Word.{equal_bytes}

-- the word of each call
abbrev pub calls : List (List ℕ × Kind)
calls =
    (ascii "start", Start)
    ∷ (ascii "header", Header)
    ∷ (ascii "detail", Detail)
    ∷ (ascii "lot", LotTotal)
    ∷ (ascii "session", SessionTotal)
    ∷ (ascii "receive", Receive)
    ∷ (ascii "reply", Reply)
    ∷ (ascii "clock", Clock)
    ∷ (ascii "report", Report)
    ∷ []

-- the first whose word it is; a word that none has makes a bad line
unfoldable pub kind_in : List (List ℕ × Kind) → (word : List ℕ) → Kind
kind_in [] word = Bad
kind_in (call ∷ calls) word = cond (equal_bytes word call.0) call.1 (kind_in calls word)

abbrev pub kind_of : (word : List ℕ) → Kind
kind_of word = kind_in calls word

abbrev pub is_bad : Kind → Bool
is_bad Start = false
is_bad Header = false
is_bad Detail = false
is_bad LotTotal = false
is_bad SessionTotal = false
is_bad Receive = false
is_bad Reply = false
is_bad Clock = false
is_bad Report = false
is_bad Passed = false
is_bad Bad = true

abbrev pub shape : (asked : ℕ) → Option Source → (more : ℕ) (room : Bool) → Shape
shape asked source more room = record { asked = asked; source = source; more = more; room = room }

-- how many numbers follow the end, where bytes come from, how many numbers more may follow, and whether that is ROOM
abbrev pub shape_of : Kind → Shape
shape_of Start = shape 3 None 16 false
shape_of Header = shape 4 None 1 true
shape_of Detail = shape 2 (Some Hex) 1 true
shape_of LotTotal = shape 1 None 1 true
shape_of SessionTotal = shape 1 None 1 true
shape_of Receive = shape 1 (Some HexOrWritten) 1 true
shape_of Reply = shape 1 (Some HexOrWritten) 0 false
shape_of Clock = shape 1 None 0 false
shape_of Report = shape 0 None 0 false
shape_of Passed = shape 0 None 0 false
shape_of Bad = shape 0 None 0 false
