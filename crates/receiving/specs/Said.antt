-- What receiving says: the paper's number and the length of its reply; and what it leaves, the session, the running totals and the line buffer.
use Rattle.std.specs.Prelude.{ℕ, List}
use Rattle.codes.specs.Answer.{answer_number}
use Rattle.session.specs.declared.running.Running.{Running}
use Rattle.session.specs.Outcome.{Outcome, held}
use Rattle.receiving.specs.declared.receive.Received.{Received}

abbrev pub received_said : Received → Running → (line : List ℕ) → Outcome
received_said r t line = record { number = answer_number r.answer; written = r.written; left = held r.session t line }
