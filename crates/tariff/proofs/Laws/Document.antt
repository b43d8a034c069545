-- Laws of one filled document: its commission is the one that the call for one document gives, all else is as it was, and a second filling
-- changes nothing.
use mathlib.Core.Path.{◌≡◌, refl, ap, sym, ◌∙◌}
use mathlib.Core.Bool.{Bool, true, false, ◌&&◌}
use mathlib.Core.List.{List, [], ◌∷◌}
use Prim.Native.Nat.{ℕ, ◌≤◌}
use native.Mathlib.Omega.{arith}
use lib.Dec.{eqb, lit<}
use lib.ListN.{length}
use borrow.Author.Tests.{eqb-true, eqb-false, le-leb}
use Rattle.std.specs.Prelude.{Option}
use Rattle.packed.specs.Part.{part}
use Rattle.packed.specs.Every.{every}
use Rattle.packed.specs.Digits.{are_digits}
use Rattle.packed.proofs.Laws.Told.{both}
use Rattle.codes.proofs.Laws.Chain.{all_held}
use Rattle.document.specs.Limits.{document_bytes, largest_nominal, largest_commission}
use Rattle.document.specs.Fields.{fields_good, amounts_good}
use Rattle.document.specs.Drawee.{drawee_served}
use Rattle.document.specs.Amounts.{nominal, commission, totals_of}
use Rattle.document.proofs.Laws.Fields.{amounts_split}
use Rattle.document.proofs.Laws.Amounts.{totals_below}
use Rattle.tariff.specs.declared.row.Row.{Row}
use Rattle.tariff.specs.declared.search.Rule.{Rule}
use Rattle.tariff.specs.Tariff.{rows_of, good_tariff}
use Rattle.tariff.specs.Commission.{rule_of, key_known, due, within_limits, commissioned}
use Rattle.tariff.specs.Tray.{tariff_key, key_digits, amount_digits, document_refusal, with_commission, filled_document, AfterFilling}
use Rattle.tariff.proofs.Laws.Rows.{each_good, rule_told}
use Rattle.tariff.proofs.Laws.Commission.{given, due_most}
use Rattle.tariff.proofs.Laws.Judged.{nothing}
use Rattle.tariff.proofs.Laws.Kept.{commission_place, key_kept, key_digits_kept, nominal_kept_lem, nominal_digits_kept, fields_kept, served_kept, commission_written, commission_digits, amounts_written, written_again}
use Rattle.tariff.proofs.Laws.Filled.{kept_key, written_key, filled_either}

-- what a document that earns nothing is known by
earns_nothing : (rows : List Row) (d : List ℕ) → document_refusal rows d ≡ 0 → (key_digits d ≡ true) × (amount_digits d ≡ true) × (key_known rows (tariff_key d) ≡ true)
unfolding document_refusal
earns_nothing rows d e =
    all_held 1 3 41 (key_digits d) (amount_digits d) (key_known rows (tariff_key d)) (lit< tt) (lit< tt) (lit< tt) e

module _ (tariff d : List ℕ) (good : good_tariff tariff ≡ true) (whole : length d ≡ document_bytes) (none : document_refusal (rows_of tariff) d ≡ 0) where
  abbrev rows : List Row
  rows = rows_of tariff

  abbrev worth : ℕ
  worth = due (rule_of rows (tariff_key d)) (nominal d) (commission d)

  digits : (are_digits (part 25 6 d) ≡ true) × (are_digits (part commission_place 4 d) ≡ true)
  digits = both (are_digits (part 25 6 d)) (are_digits (part commission_place 4 d)) (earns_nothing rows d none).1

  amounts_small : (nominal d ≤ largest_nominal) × (commission d ≤ largest_commission)
  unfolding totals_of every
  amounts_small =
      let good : amounts_good 0 0 d ≡ true = amounts_split 0 0 d ∙ (λ i. digits.0 i && digits.1 i) in
      let t = totals_below 0 0 (d ∷ []) (rw good) in
      (omega (arith, t.1), omega (arith, t.2))

  -- the commission of the filled document is the one that is due
  worth_read : commission (filled_document rows d) ≡ worth
  unfolding rule_of due
  worth_read = go (eqb (tariff_key d) 0) refl
    where
      go : (t : Bool) → eqb (tariff_key d) 0 ≡ t → commission (filled_document rows d) ≡ worth
      go true e = ap commission (sym (kept_key rows d (eqb-true (tariff_key d) 0 e))) ∙ rw e
      go false e =
          let most = due_most tariff (tariff_key d) (nominal d) (commission d) good amounts_small.1 in
          ap commission (sym (written_key rows d (eqb-false (tariff_key d) 0 e))) ∙ commission_written worth d whole (omega (arith, most))

  as_asked : commissioned tariff (tariff_key d) (nominal d) (commission d) ≡ record { code = 0; commission = commission (filled_document rows d) }
  as_asked =
      let within : within_limits (nominal d) (commission d) ≡ true = λ i. le-leb (nominal d) largest_nominal amounts_small.0 i && le-leb (commission d) largest_commission amounts_small.1 i in
      sym (given tariff (tariff_key d) (nominal d) (commission d) good within (earns_nothing rows d none).2)
      ∙ (λ i. record { code = 0; commission = sym worth_read i })

  pub after_filling : AfterFilling tariff d
  after_filling =
      record {
        asked = as_asked;
        fields = λ o r. filled_either rows (λ (e : List ℕ). fields_good o r e ≡ fields_good o r d) d refl (λ c. fields_kept c d o r);
        amounts = λ o r. filled_either rows (λ (e : List ℕ). amounts_good o r e ≡ true) d (amounts_split o r d ∙ (λ i. digits.0 i && digits.1 i)) (λ c. amounts_written c d whole o r digits.0);
        served = λ o own rep. filled_either rows (λ (e : List ℕ). drawee_served o own rep e ≡ drawee_served o own rep d) d refl (λ c. served_kept c d o own rep);
        nominal_kept = filled_either rows (λ (e : List ℕ). nominal e ≡ nominal d) d refl (λ c. nominal_kept_lem c d);
      }

  key_same : tariff_key (filled_document rows d) ≡ tariff_key d
  key_same = filled_either rows (λ (e : List ℕ). tariff_key e ≡ tariff_key d) d refl (λ c. key_kept c d)

  -- it earns nothing again
  pub nothing_again : document_refusal rows (filled_document rows d) ≡ 0
  nothing_again =
      let e = filled_document rows d in
      let told = earns_nothing rows d none in
      let keyed : key_digits e ≡ true = filled_either rows (λ (e : List ℕ). key_digits e ≡ true) d told.0 (λ c. key_digits_kept c d ∙ told.0) in
      let amounts : amount_digits e ≡ true = filled_either rows (λ (e : List ℕ). amount_digits e ≡ true) d told.1 (λ c. λ i. (nominal_digits_kept c d ∙ digits.0) i && commission_digits c d whole i) in
      sym (nothing rows e keyed amounts (ap (key_known rows) key_same ∙ told.2))

  -- and is filled already: for a key other than 0 the typed commission does not count
  typed_passed : (a b : ℕ) → (tariff_key d ≡ 0 → ⊥) → due (rule_of rows (tariff_key d)) (nominal d) a ≡ due (rule_of rows (tariff_key d)) (nominal d) b
  unfolding due
  typed_passed a b other =
      rule_told (tariff_key d) (λ (o : Option Rule). due o (nominal d) a ≡ due o (nominal d) b) (λ z. absurd (other z)) refl (λ r g. refl) rows (each_good tariff good)

  pub filled_again : filled_document rows (filled_document rows d) ≡ filled_document rows d
  filled_again = go (eqb (tariff_key d) 0) refl
    where
      go : (t : Bool) → eqb (tariff_key d) 0 ≡ t → filled_document rows (filled_document rows d) ≡ filled_document rows d
      go true e = ap (filled_document rows) (sym (kept_key rows d (eqb-true (tariff_key d) 0 e)))
      go false n =
          let e = with_commission worth d in
          let other = eqb-false (tariff_key d) 0 n in
          let first : e ≡ filled_document rows d = written_key rows d other in
          let same : due (rule_of rows (tariff_key e)) (nominal e) (commission e) ≡ worth = (λ i. due (rule_of rows (key_kept worth d i)) (nominal_kept_lem worth d i) (commission e)) ∙ typed_passed (commission e) (commission d) other in
          ap (filled_document rows) (sym first)
          ∙ sym (written_key rows e (λ z. other (sym (key_kept worth d) ∙ z)))
          ∙ ap (λ (c : ℕ). with_commission c e) same
          ∙ written_again worth d whole
          ∙ first
