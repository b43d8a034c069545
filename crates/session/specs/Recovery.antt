-- Demand 3 ends with what follows if a lot's total and then its reply still get through. Here stands that they can: whatever waits for its reply
-- after any list of calls can still be answered, whether the other end has taken it or not. The theorem is `recovery` of proofs/Recovery.
use Rattle.std.specs.Prelude.{ℕ, ◌≤◌, ◌≡◌, List, [], ◌∷◌, length, Some}
use Rattle.message.specs.Limits.{reply_room}
use Rattle.session.specs.declared.report.Awaited.{Awaited}
use Rattle.session.specs.Time.{time_refusal}
use Rattle.session.specs.Engine.{Call, Engine, Said, said_by, performed}
use Rattle.session.specs.Ends.{End, other, World, Step, act, run, Possible}
use Rattle.session.specs.Entering.{Waiting, presenter_ledger_at}
use Rattle.session.specs.Claim.{report_at, Level, AfterAnyCalls}

-- an end's clock allows a call: a time of the day, the session not closed, not before the last seen, within the hours
abbrev pub ClockAllows : (time : ℕ) → Engine → Type 0
ClockAllows time e = time_refusal time e.session.seen e.session.close ≡ 0

-- what a call says
abbrev pub said_at : Step → World → Said
said_at s w = said_by (performed s.call s.line (w.engine s.at))

-- no call of a list is refused
unfoldable pub Unrefused : List Step → World → Type 0
Unrefused [] w = Unit {0}
Unrefused (s ∷ steps) w = ((said_at s w).number ≡ 0) × Unrefused steps (act s w)

-- a message that the end p presented reaches the other end
abbrev pub delivery : (p : End) (message : List ℕ) (time : ℕ) (line : List ℕ) → Step
delivery p message time line = record { at = other p; call = Call.receive time message; line = line }

-- and the reply that this writes comes back; a reply call uses no line buffer
abbrev pub delivery_and_reply : World → (p : End) (message : List ℕ) (there here : ℕ) (line : List ℕ) → List Step
delivery_and_reply w p message there here line =
    let first = delivery p message there line in
    first ∷ record { at = p; call = Call.reply here (said_at first w).bytes; line = [] } ∷ []

-- some calls can be made, none is refused, and after them nothing is named in the direction in which p presents, and its ends are level
pub record Settles (w : World) (p : End) (steps : List Step) : Type 0 where
  pub possible : Possible steps w
  pub unrefused : Unrefused steps w
  pub unnamed : (report_at (run steps w) p).awaited ≡ Awaited.Neither
  pub level : Level (run steps w) p

-- both clocks allow a call, and the receiver is lent room for a reply
pub record Allowing (w : World) (p : End) (there here : ℕ) (line : List ℕ) : Type 0 where
  pub clock_there : ClockAllows there (w.engine (other p))
  pub clock_here : ClockAllows here (w.engine p)
  pub room : reply_room ≤ length line

-- then these two calls settle whatever waits at an end
abbrev pub CanBeAnswered : World → (p : End) → Type 0
CanBeAnswered w p = (m : Waiting) → (presenter_ledger_at p w.trace).waiting ≡ Some m → (there here : ℕ) (line : List ℕ) → Allowing w p there here line → Settles w p (delivery_and_reply w p m.message there here line)

-- so it is after any list of calls, at both ends
abbrev pub WhatWaitsCanBeAnswered : Type 0
WhatWaitsCanBeAnswered = AfterAnyCalls (λ (w : World). (p : End) → CanBeAnswered w p)
