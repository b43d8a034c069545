-- What the answer of a send says: the paper's number, how many bytes were written, and what the call leaves.
use Rattle.std.specs.Prelude.{ℕ, List, Result, Ok, Err}
use Rattle.codes.specs.Refusal.{refusal_number}
use Rattle.codes.specs.Code.{code_number}
use Rattle.session.specs.declared.running.Running.{Running}
use Rattle.session.specs.Outcome.{Outcome, held}
use Rattle.presenting.specs.declared.answer.Stop.{Stop}
use Rattle.presenting.specs.declared.answer.SendOutcome.{SendOutcome}

-- the paper's number: of a code that stopped it, or of a refusal
abbrev pub send_number : Result ℕ Stop → ℕ
send_number (Ok bytes) = 0
send_number (Err (Stop.Stopped code)) = code_number code
send_number (Err (Stop.Refused r)) = refusal_number r

-- how many bytes it wrote
abbrev pub send_written : Result ℕ Stop → ℕ
send_written (Ok bytes) = bytes
send_written (Err stop) = 0

-- of a send, beside the running totals that it leaves as they are
abbrev pub send_said : SendOutcome → Running → (line : List ℕ) → Outcome
send_said r t line = record { number = send_number r.answer; written = send_written r.answer; left = held r.session t line }
