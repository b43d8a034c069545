-- 02, card 7: what the calls of a lot file answer.
use Rattle.std.specs.Prelude.{ℕ, Result, Ok, Err}
use Rattle.lot_file.specs.declared.answers.LotRefusal.{LotRefusal}
use Rattle.lot_file.specs.declared.answers.Found.{Found}
use Rattle.lot_file.specs.declared.answers.FindShown.{FindShown}

-- the paper's number of each refusal
abbrev pub refusal_number : LotRefusal → ℕ
refusal_number LotRefusal.Repeated = 4  -- a number that is in a row
refusal_number LotRefusal.Wrong = 25  -- a slice, an order number or a tray that breaks the rules
refusal_number LotRefusal.NoRoom = 45  -- no free row, or too few bytes behind the last body
refusal_number LotRefusal.Absent = 46  -- a number that is in no row

-- and of an answer, 0 where nothing is refused
abbrev pub answer_number : {A : Type 0} → Result A LotRefusal → ℕ
answer_number (Ok a) = 0
answer_number (Err r) = refusal_number r

-- where the body starts and how many documents it has, 0 beside a refusal
abbrev pub find_shown : Result Found LotRefusal → FindShown
find_shown (Ok lot) = record { code = 0; start = lot.start; documents = lot.documents }
find_shown (Err r) = record { code = refusal_number r; start = 0; documents = 0 }
