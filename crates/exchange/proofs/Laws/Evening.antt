-- Laws of an evening: what the code of the trays decides.
use mathlib.Core.Path.{◌≡◌, ap, sym, ◌∙◌}
use mathlib.Core.Bool.{true, cond}
use mathlib.Core.List.{List}
use Prim.Native.Nat.{ℕ}
use lib.Dec.{eqb, lit<}
use lib.ListN.{replicate}
use borrow.Author.Tests.{eq-eqb, ne_eqb}
use Rattle.codes.proofs.Laws.Chain.{none_both, none_held}
use Rattle.session.specs.Engine.{Engine}
use Rattle.outgoing.specs.Outgoing.{both_good, check_code}
use Rattle.exchange.specs.declared.shown.Side.{Side}
use Rattle.message.specs.Limits.{message_room, reply_room}
use Rattle.exchange.specs.Fixed.{near, far}
use Rattle.exchange.specs.Course.{Ends, both_directions}
use Rattle.exchange.specs.Cursors.{unmoved, within}
use Rattle.exchange.specs.Evening.{no_side, closed_side, started_end, beginning, shown_of, evening, trays_code, exchanged}

-- trays without a code are good
tray_good_lem : (presentations returns : List ℕ) → check_code presentations returns 0 0 ≡ 0 → within presentations returns unmoved ≡ true
tray_good_lem presentations returns none = none_held 25 (both_good presentations returns 0 0) (lit< tt) none

module _ (near_presentations near_returns far_presentations far_returns : List ℕ) (code : ℕ) (so : code ≡ trays_code near_presentations near_returns far_presentations far_returns) where
  pub trays_good : code ≡ 0 → (within near_presentations near_returns unmoved ≡ true) × (within far_presentations far_returns unmoved ≡ true)
  unfolding trays_code
  trays_good none =
      let both = none_both (check_code near_presentations near_returns 0 0) (check_code far_presentations far_returns 0 0) (sym so ∙ none) in
      (tray_good_lem near_presentations near_returns both.0, tray_good_lem far_presentations far_returns both.1)

  by_code : cond (eqb code 0) (evening near_presentations near_returns far_presentations far_returns) (record { code = code; near_side = no_side; far_side = no_side }) ≡ exchanged near_presentations near_returns far_presentations far_returns
  unfolding exchanged
  by_code = ap (λ (n : ℕ). cond (eqb n 0) (evening near_presentations near_returns far_presentations far_returns) (record { code = n; near_side = no_side; far_side = no_side })) so

  pub ran : code ≡ 0 → evening near_presentations near_returns far_presentations far_returns ≡ exchanged near_presentations near_returns far_presentations far_returns
  ran none = (rw (eq-eqb code 0 none)) ∙ by_code

  pub refused : {near far : Side} → (code ≡ 0 → ⊥) → near ≡ no_side → far ≡ no_side → record { code = code; near_side = near; far_side = far } ≡ exchanged near_presentations near_returns far_presentations far_returns
  refused some n f = (λ i. record { code = code; near_side = n i; far_side = f i }) ∙ (rw (ne_eqb code 0 some)) ∙ by_code

-- what the ends show after both directions
pub shows : (near_presentations near_returns far_presentations far_returns : List ℕ) {first second : Engine} {last : Ends} {a b : Side} → first ≡ started_end near far → second ≡ started_end far near → last ≡ both_directions near_presentations near_returns far_presentations far_returns (record { presenter = first; receiver = second; message = replicate message_room 0; reply = replicate reply_room 0 }) → a ≡ closed_side last.receiver → b ≡ closed_side last.presenter → record { code = 0; near_side = a; far_side = b } ≡ evening near_presentations near_returns far_presentations far_returns
unfolding beginning evening
shows near_presentations near_returns far_presentations far_returns f s l x y =
    (λ i. record { code = 0; near_side = x i; far_side = y i })
    ∙ ap shown_of (l ∙ (λ i. both_directions near_presentations near_returns far_presentations far_returns (record { presenter = f i; receiver = s i; message = replicate message_room 0; reply = replicate reply_room 0 })))
