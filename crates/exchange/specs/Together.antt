-- An evening of this driver is a list of calls such as 01's 'Both ends together' speaks of, whatever lies in the four trays. So what is claimed there of
-- both ends holds of it, and where it ends each end has received what the other presented. Proved in proofs/Laws/Together.
use Rattle.std.specs.Prelude.{ℕ, ◌≡◌, List, []}
use Rattle.session.specs.Ends.{End, World, Step, run, Possible, begun}
use Rattle.session.specs.Claim.{report_at, Agreement}
use Rattle.exchange.specs.declared.shown.Evening.{Evening}
use Rattle.exchange.specs.Fixed.{date, near, far}
use Rattle.exchange.specs.Evening.{side_of, exchanged}

-- the two ends of the claim, just started
abbrev pub both_started : World
both_started = begun date near far (λ (x : End). [])

-- an evening shows the two reports after some calls that the line allows, and both ends agree there; a bad tray leaves them as they started
pub record IsAList (e : Evening) : Type 0 where
  pub steps : List Step
  pub possible : Possible steps both_started
  pub near_side_shown : e.near_side ≡ side_of (report_at (run steps both_started) End.near)
  pub far_side_shown : e.far_side ≡ side_of (report_at (run steps both_started) End.far)
  pub agreed : (p : End) → Agreement (run steps both_started) p

abbrev pub EveningIsAList : Type 0
EveningIsAList = (near_presentations near_returns far_presentations far_returns : List ℕ) → IsAList (exchanged near_presentations near_returns far_presentations far_returns)

-- each end's received totals are the other's presented ones, and neither awaits a reply
pub record Settled (e : Evening) : Type 0 where
  pub near_received : e.near_side.received ≡ e.far_side.presented
  pub far_received : e.far_side.received ≡ e.near_side.presented
  pub near_awaits : e.near_side.awaited ≡ 0
  pub far_awaits : e.far_side.awaited ≡ 0

abbrev pub EveningIsSettled : Type 0
EveningIsSettled = (near_presentations near_returns far_presentations far_returns : List ℕ) → Settled (exchanged near_presentations near_returns far_presentations far_returns)
