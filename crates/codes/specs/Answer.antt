-- 01, 'Given because of the input' and 'Given because of the state': the number of a call, 0 if it is not refused.
use Rattle.std.specs.Prelude.{ℕ, Result, Ok, Err}
use Rattle.codes.specs.declared.refusal.Refusal.{Refusal}
use Rattle.codes.specs.Refusal.{refusal_number}

-- the paper's number of an answer
abbrev pub answer_number : Result (Unit {0}) Refusal → ℕ
answer_number (Ok done) = 0
answer_number (Err r) = refusal_number r
