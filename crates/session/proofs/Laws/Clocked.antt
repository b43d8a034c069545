-- A clock that allows a call at a time allows it still after a call at that time, refused or not.
use mathlib.Core.Path.{◌≡◌, refl, ap, sym, subst, ◌∙◌}
use mathlib.Core.Bool.{Bool}
use mathlib.Core.List.{List}
use Prim.Native.Nat.{ℕ, zero, suc}
use native.Mathlib.Omega.{arith}
use lib.Dec.{ltb, lit<}
use borrow.Author.Tests.{le-ltb}
use Rattle.codes.specs.Chain.{◌when◌, ◌orelse◌}
use Rattle.codes.proofs.Laws.Chain.{goes_on, passes, passed, none_both}
use Rattle.session.specs.declared.session.Close.{Close}
use Rattle.session.specs.Hours.{past_day}
use Rattle.session.specs.Parties.{Direction}
use Rattle.session.specs.Time.{is_closed, clock_refusal, time_refusal}
use Rattle.session.specs.Engine.{Call, Engine, meaning, direction_of, lent, given_back, performed}
use Rattle.session.specs.Recovery.{ClockAllows}
use Rattle.session.proofs.Laws.EveryCall.{Stamp, stamp_of, stamped, stamps, refused_engine}

-- a time that is in its hours is so when it is itself the last seen
same_time : (time seen : ℕ) (close : Close) → time_refusal time seen close ≡ 0 → time_refusal time time close ≡ 0
unfolding time_refusal clock_refusal ◌when◌
same_time time seen close e =
    let by-clock = none_both (20 when past_day time orelse 32 when is_closed close orelse 30 when ltb time seen) _ e in
    let day = passed 20 (past_day time) _ (lit< tt) by-clock.0 in
    let running = passed 32 (is_closed close) _ (lit< tt) day.1 in
    goes_on (20 when past_day time orelse 32 when is_closed close orelse 30 when ltb time time) _ (passes 20 (past_day time) _ day.0 ∙ passes 32 (is_closed close) _ running.0 ∙ ap (λ (t : Bool). 30 when t) (le-ltb time time (omega arith)))
    ∙ by-clock.1

module _ (call : Call) (line : List ℕ) (e : Engine) where
  -- what a call that is not refused makes of the last seen time and the close
  pub engine_stamps : (performed call line e).number ≡ 0 → stamp_of (performed call line e).engine.session ≡ stamped call e.session
  unfolding performed
  engine_stamps = go (direction_of call)
    where
      go : (d : Direction) → (meaning call (lent d line e)).number ≡ 0 → stamp_of (given_back d (meaning call (lent d line e)).left e).session ≡ stamped call e.session
      go Direction.presenting z = stamps call (lent Direction.presenting line e) z
      go Direction.receiving z = stamps call (lent Direction.receiving line e) z

  pub still_allowed : (time : ℕ) → stamped call e.session ≡ record { seen = time; close = e.session.close } → ClockAllows time e → ClockAllows time (performed call line e).engine
  still_allowed time stamp allowed = go (performed call line e).number refl
    where
      go : (n : ℕ) → (performed call line e).number ≡ n → ClockAllows time (performed call line e).engine
      go zero z = subst (λ (s : Stamp). time_refusal time s.seen s.close ≡ 0) (sym (engine_stamps z ∙ stamp)) (same_time time e.session.seen e.session.close allowed)
      go (suc n) z = subst (ClockAllows time) (sym (refused_engine call line e (λ (q : (performed call line e).number ≡ 0). omega (arith, z, q)))) allowed
