-- Laws of the cursors: past a part they are still within their trays.
use mathlib.Core.Path.{◌≡◌, refl, sym, subst, ◌∙◌}
use mathlib.Core.Bool.{Bool, true, false, cond, and-eq-true_iff}
use mathlib.Core.List.{List}
use Prim.Native.Nat.{ℕ, ◌+◌, ◌*◌, ◌%◌, ◌-◌, ◌≤◌}
use native.Mathlib.Omega.{arith}
use lib.Dec.{eqb, leb}
use lib.ListN.{length, length-take, length-drop}
use borrow.Author.Tests.{leb-true, le-leb, ltb-true, ltb-false}
use Rattle.document.specs.Limits.{document_bytes}
use Rattle.outgoing.specs.Outgoing.{ready_good, next_of}
use Rattle.outgoing.proofs.Laws.Outgoing.{cursor_within, each_good, next_presented, next_returned}
use Rattle.outgoing.specs.declared.Cursors.{Cursors}
use Rattle.exchange.specs.Cursors.{within, part_at, presenting, moved}
use Rattle.document.specs.Part.{count_in}
use Rattle.exchange.specs.Course.{past_part}

-- of one tray: its next part ends within it
advanced : (ready : List ℕ) (cursor : ℕ) → ready_good ready cursor ≡ true → ready_good ready (cursor + count_in (next_of ready cursor)) ≡ true
advanced ready cursor good =
    let told = (and-eq-true_iff (eqb (length ready % document_bytes) 0) (leb cursor (count_in ready))).0 good in
    let at = leb-true cursor (count_in ready) told.1 in
    let size : length (next_of ready cursor) ≤ length ready - cursor * document_bytes = simp (length-take, length-drop) (omega arith) in
    (and-eq-true_iff (eqb (length ready % document_bytes) 0) (leb (cursor + count_in (next_of ready cursor)) (count_in ready))).1 (told.0, le-leb (cursor + count_in (next_of ready cursor)) (count_in ready) (omega arith))

module _ (presentations returns : List ℕ) (c : Cursors) where
  -- how far the moved cursor is, in bytes
  pub moved_first : (documents : ℕ) → presenting presentations c ≡ true → within presentations returns (moved presentations documents c) ≡ true → (c.presentations + documents) * document_bytes ≤ length presentations
  moved_first documents first good = cursor_within presentations (c.presentations + documents) (each_good presentations returns (c.presentations + documents) c.returns (simp first at good)).0

  pub moved_second : (documents : ℕ) → presenting presentations c ≡ false → within presentations returns (moved presentations documents c) ≡ true → (c.returns + documents) * document_bytes ≤ length returns
  moved_second documents second good = cursor_within returns (c.returns + documents) (each_good presentations returns c.presentations (c.returns + documents) (simp second at good)).1

  module _ (good : within presentations returns c ≡ true) where
    each : (ready_good presentations c.presentations ≡ true) × (ready_good returns c.returns ≡ true)
    each = each_good presentations returns c.presentations c.returns good

    -- past the next part
    pub moved_within : (bytes : List ℕ) → bytes ≡ part_at presentations returns c → within presentations returns (moved presentations (count_in bytes) c) ≡ true
    moved_within bytes so = go (presenting presentations c) refl
      where
        go : (b : Bool) → presenting presentations c ≡ b → within presentations returns (cond b (record { presentations = c.presentations + count_in bytes; returns = c.returns }) (record { presentations = c.presentations; returns = c.returns + count_in bytes })) ≡ true
        go true first =
            let here = so ∙ next_presented presentations returns c.presentations c.returns good (ltb-true _ _ first) in
            (and-eq-true_iff (ready_good presentations (c.presentations + count_in bytes)) (ready_good returns c.returns)).1 (subst (λ (b : List ℕ). ready_good presentations (c.presentations + count_in b) ≡ true) (sym here) (advanced presentations c.presentations each.0), each.1)
        go false second =
            let here = so ∙ next_returned presentations returns c.presentations c.returns good (ltb-false _ _ second) in
            (and-eq-true_iff (ready_good presentations c.presentations) (ready_good returns (c.returns + count_in bytes))).1 (each.0, subst (λ (b : List ℕ). ready_good returns (c.returns + count_in b) ≡ true) (sym here) (advanced returns c.returns each.1))

    -- past it or not
    pub past_within : (documents before after : ℕ) (next : Cursors) → within presentations returns (moved presentations documents c) ≡ true → next ≡ past_part presentations documents before after c → within presentations returns next ≡ true
    past_within documents before after next on so = subst (λ (n : Cursors). within presentations returns n ≡ true) (sym so) (go (eqb after before))
      where
        go : (b : Bool) → within presentations returns (cond b c (moved presentations documents c)) ≡ true
        go true = good
        go false = on
