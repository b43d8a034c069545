-- What C is shown of a compensation date: a number for each answer, and the date, 0 where there is none.
use Rattle.std.specs.Prelude.{ℕ, Result, Ok, Err}
use Rattle.calendar.specs.declared.compensation.NoDate.{NoDate}
use Rattle.calendar.specs.declared.shown.CompensationShown.{CompensationShown}

abbrev pub shown : Result ℕ NoDate → CompensationShown
shown (Ok date) = record { found = 0; date = date }
shown (Err NoDate.NoneLeft) = record { found = 1; date = 0 }
shown (Err NoDate.NoDay) = record { found = 2; date = 0 }
