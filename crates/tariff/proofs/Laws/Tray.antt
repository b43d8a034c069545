-- The outcomes of filling a tray: its answer, and what it leaves in the tray.
use mathlib.Core.Path.{◌≡◌, refl, ap, sym, ◌∙◌}
use mathlib.Core.Bool.{true, false}
use mathlib.Core.List.{List, flat_map}
use Prim.Native.Nat.{ℕ, ◌%◌}
use lib.ListN.{length}
use borrow.Author.Tests.{eq-eqb, ne_eqb}
use native.Mathlib.Omega.{arith}
use Rattle.std.specs.Prelude.{Result, Err}
use Rattle.codes.specs.Chain.{◌when◌, ◌orelse◌}
use Rattle.document.specs.Limits.{document_bytes}
use Rattle.document.specs.Part.{documents_of}
use Rattle.tariff.specs.declared.filled.Earned.{Earned}
use Rattle.tariff.specs.declared.filled.FillRefusal.{FillRefusal}
use Rattle.tariff.specs.declared.filled.FillShown.{FillShown}
use Rattle.tariff.specs.Tariff.{rows_of, good_tariff}
use Rattle.tariff.specs.Tray.{fill_refusal, fill_shown, filled, filled_document, tray_after}
use Rattle.tariff.specs.Inner.Judged.{judged}

module _ (tariff tray : List ℕ) where
  abbrev Answered : Result ℕ FillRefusal → (after : List ℕ) → Type 0
  Answered a after = (fill_shown a ≡ filled tariff tray) × (after ≡ tray_after tariff tray)

  pub wrong_tariff : good_tariff tariff ≡ false → Answered (Err FillRefusal.WrongTariff) tray
  unfolding filled tray_after fill_refusal ◌when◌ ◌orelse◌
  wrong_tariff bad = rw bad (refl, refl)

  module _ (good : good_tariff tariff ≡ true) where
    pub wrong_tray : (length tray % document_bytes ≡ 0 → ⊥) → Answered (Err FillRefusal.WrongTray) tray
    unfolding filled tray_after fill_refusal ◌when◌ ◌orelse◌
    wrong_tray cut = rw (good, ne_eqb (length tray % document_bytes) 0 cut) (refl, refl)

    -- where tariff and tray are good, the documents decide
    module _ (whole : length tray % document_bytes ≡ 0) where
      pub documents_decide : filled tariff tray ≡ judged (rows_of tariff) (documents_of tray)
      unfolding filled fill_refusal ◌when◌ ◌orelse◌
      documents_decide = rw (good, eq-eqb (length tray % document_bytes) 0 whole)

      module _ (a : Result ℕ FillRefusal) (found : fill_shown a ≡ judged (rows_of tariff) (documents_of tray)) where
        shown : fill_shown a ≡ filled tariff tray
        shown = found ∙ sym documents_decide

        code : (fill_shown a).code ≡ fill_refusal tariff tray
        unfolding filled
        code = ap (λ (s : FillShown). s.code) shown

        pub all_filled : (fill_shown a).code ≡ 0 → Answered a (flat_map (filled_document (rows_of tariff)) (documents_of tray))
        unfolding tray_after
        all_filled e = (shown, rw (eq-eqb (fill_refusal tariff tray) 0 (sym code ∙ e)))

        pub one_refused : ((fill_shown a).code ≡ 0 → ⊥) → Answered a tray
        unfolding tray_after
        one_refused e = (shown, rw (ne_eqb (fill_refusal tariff tray) 0 (λ z. e (code ∙ z))))

-- no refusal has the number 0
pub some_number : (refusal : FillRefusal) → (fill_shown (Err refusal)).code ≡ 0 → ⊥
some_number FillRefusal.WrongTariff e = omega arith
some_number FillRefusal.WrongTray e = omega arith
some_number (FillRefusal.Document place Earned.WrongKey) e = omega arith
some_number (FillRefusal.Document place Earned.WrongAmount) e = omega arith
some_number (FillRefusal.Document place Earned.UnknownKey) e = omega arith
