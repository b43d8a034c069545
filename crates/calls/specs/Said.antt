-- What the answer of a call says: the paper's number, and what the call leaves.
use Rattle.std.specs.Prelude.{ℕ, List}
use Rattle.codes.specs.Answer.{answer_number}
use Rattle.session.specs.declared.running.Running.{Running}
use Rattle.session.specs.Outcome.{held, Outcome}
use Rattle.calls.specs.declared.called.Called.{Called}

-- of a call that writes nothing, beside the running totals and the line buffer that it leaves
abbrev pub called_said : Called → Running → (line : List ℕ) → Outcome
called_said r t line = record { number = answer_number r.answer; written = 0; left = held r.session t line }
