-- What one pass over the documents of a tray finds: the first code, and how many documents stand before it.
use Rattle.std.specs.Prelude.{ℕ, List, Result, Ok, Err}
use Rattle.tariff.specs.declared.row.Row.{Row}
use Rattle.tariff.specs.declared.filled.Earned.{Earned}
use Rattle.tariff.specs.declared.filled.FillShown.{FillShown}
use Rattle.tariff.specs.Tray.{first_refusal, good_before}

-- the number of what a document earns
abbrev pub earned_number : Result (Unit {0}) Earned → ℕ
earned_number (Ok nothing) = 0
earned_number (Err Earned.WrongKey) = 1
earned_number (Err Earned.WrongAmount) = 3
earned_number (Err Earned.UnknownKey) = 41

abbrev pub judged : List Row → List (List ℕ) → FillShown
judged rows ds = record { code = first_refusal rows ds; documents = good_before rows ds }
