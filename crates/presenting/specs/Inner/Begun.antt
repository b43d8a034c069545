-- What every send begins with, by its code and the length of its message: the answer; and where nothing stops it the envelope at the start of the line
-- buffer, and the session in which its message awaits a reply. Else all is left.
use Rattle.std.specs.Prelude.{ℕ, ◌≡◌, Bool, cond, List, eqb, length, Result}
use Rattle.std.proofs.lemmas.List.Edits.{sets}
use Rattle.message.specs.declared.envelope.Kind.{Kind}
use Rattle.message.specs.Envelope.{written_envelope}
use Rattle.session.specs.declared.effect.Effect.{Effect}
use Rattle.session.specs.declared.session.Session.{Session}
use Rattle.session.specs.Sending.{next_envelope, send_refusal, sent}
use Rattle.presenting.specs.declared.answer.Stop.{Stop}
use Rattle.presenting.specs.declared.answer.SendOutcome.{SendOutcome}
use Rattle.presenting.specs.Said.{send_number, send_written}

-- nothing stops it
abbrev pub unstopped : Result ℕ Stop → Bool
unstopped a = eqb (send_number a) 0

-- what it leaves, begun with this code, length and effect
pub record Begun (time code bytes : ℕ) (effect : Effect) (s : Session) (line after : List ℕ) (o : SendOutcome) : Type 0 where
  pub number : send_number o.answer ≡ send_refusal time code bytes (length line) s
  pub written : send_written o.answer ≡ cond (unstopped o.answer) bytes 0
  pub session : o.session ≡ cond (unstopped o.answer) (sent time effect s) s
  pub envelope : after ≡ cond (unstopped o.answer) (sets line 0 (written_envelope Kind.Message (next_envelope s))) line
