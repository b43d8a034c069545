-- A round is put together from its calls, whichever of them are made.
use mathlib.Core.Path.{◌≡◌, ap, sym, ◌∙◌}
use mathlib.Core.List.{List, []}
use Prim.Native.Nat.{ℕ}
use borrow.Author.Tests.{eq-eqb, ne_eqb}
use Rattle.session.specs.Engine.{Call, Engine, Performed, performed, said_by}
use Rattle.exchange.specs.Round.{Answered, reply_to, answered, answer_to, rounded}

-- the receiver has heard `bytes`
module _ (time : ℕ) (bytes reply : List ℕ) (presenter receiver : Engine) (heard : Performed) (so : heard ≡ performed (Call.receive time bytes) reply receiver) where
  by_heard : reply_to time heard presenter ≡ answered time bytes reply presenter receiver
  unfolding answered
  by_heard = ap (λ (t : Performed). reply_to time t presenter) so

  -- and the presenter took the reply
  pub replied : (told : Performed) → heard.number ≡ 0 → told ≡ performed (Call.reply time (said_by heard).bytes) [] presenter → record { presenter = told.engine; receiver = heard.engine; received = heard.number; replied = told.number; reply = heard.line } ≡ answered time bytes reply presenter receiver
  replied told none e =
      ap (λ (t : Performed). record { presenter = t.engine; receiver = heard.engine; received = heard.number; replied = t.number; reply = heard.line }) e
      ∙ (rw (eq-eqb heard.number 0 none))
      ∙ by_heard

  -- or it refused
  pub unreplied : (heard.number ≡ 0 → ⊥) → record { presenter = presenter; receiver = heard.engine; received = heard.number; replied = 0; reply = heard.line } ≡ answered time bytes reply presenter receiver
  unreplied some = (rw (ne_eqb heard.number 0 some)) ∙ by_heard

-- the presenter has made its call
module _ (call : Call) (time : ℕ) (message reply : List ℕ) (presenter receiver : Engine) (turn : Performed) (so : turn ≡ performed call message presenter) where
  by_turn : answer_to time reply turn receiver ≡ rounded call time message reply presenter receiver
  unfolding rounded
  by_turn = ap (λ (t : Performed). answer_to time reply t receiver) so

  -- and its message was answered
  pub heard : (sent : ℕ) (answer : Answered) → turn.number ≡ 0 → sent ≡ 0 → answer ≡ answered time (said_by turn).bytes reply turn.engine receiver → record { sent = sent; message = turn.line; answer = answer } ≡ rounded call time message reply presenter receiver
  heard sent answer none unsent e =
      (λ i. record { sent = (unsent ∙ sym none) i; message = turn.line; answer = e i })
      ∙ (rw (eq-eqb turn.number 0 none))
      ∙ by_turn

  -- or it was refused
  pub unheard : (turn.number ≡ 0 → ⊥) → record { sent = turn.number; message = turn.line; answer = record { presenter = turn.engine; receiver = receiver; received = 0; replied = 0; reply = reply } } ≡ rounded call time message reply presenter receiver
  unheard some = (rw (ne_eqb turn.number 0 some)) ∙ by_turn
