-- Laws of judging: what a document earns, and a reading of the tray that stops at the first document that earns something.
use mathlib.Core.Path.{◌≡◌, refl, ap, sym, ◌∙◌, subst}
use mathlib.Core.Bool.{true, false}
use mathlib.Core.List.{List, [], ◌∷◌}
use Prim.Native.Nat.{ℕ, suc, ◌+◌, ◌≤◌, ◌<◌}
use native.Mathlib.Nat.{add-zero}
use native.Mathlib.Omega.{arith}
use borrow.Author.Tests.{eq-eqb, ne_eqb}
use lib.ListN.{length, drop, get_or, drop_of_length-le}
use lib.Seq.{drop-cons}
use Rattle.std.specs.Prelude.{Err}
use Rattle.codes.specs.Chain.{◌when◌, ◌orelse◌}
use Rattle.codes.proofs.Laws.Chain.{ends, goes_on}
use Rattle.tariff.specs.declared.row.Row.{Row}
use Rattle.tariff.specs.declared.filled.Earned.{Earned}
use Rattle.tariff.specs.declared.filled.FillRefusal.{FillRefusal}
use Rattle.tariff.specs.Commission.{key_known}
use Rattle.tariff.specs.Tray.{tariff_key, key_digits, amount_digits, document_refusal, first_refusal, good_before, fill_shown}
use Rattle.tariff.specs.Inner.Judged.{earned_number, judged}

-- one document, by what is known of the tests before
module _ (rows : List Row) (d : List ℕ) where
  pub wrong_key : key_digits d ≡ false → 1 ≡ document_refusal rows d
  unfolding document_refusal ◌when◌ ◌orelse◌
  wrong_key k = rw k

  pub wrong_amount : key_digits d ≡ true → amount_digits d ≡ false → 3 ≡ document_refusal rows d
  unfolding document_refusal ◌when◌ ◌orelse◌
  wrong_amount k a = rw (k, a)

  module _ (k : key_digits d ≡ true) (a : amount_digits d ≡ true) where
    pub unknown_key : key_known rows (tariff_key d) ≡ false → 41 ≡ document_refusal rows d
    unfolding document_refusal ◌when◌ ◌orelse◌
    unknown_key u = rw (k, a, u)

    pub nothing : key_known rows (tariff_key d) ≡ true → 0 ≡ document_refusal rows d
    unfolding document_refusal ◌when◌ ◌orelse◌
    nothing u = rw (k, a, u)

-- a reading that has passed `place` good documents and has these left: it is to find what all have
pub record Passed (rows : List Row) (all left : List (List ℕ)) (place : ℕ) : Type 0 where
  pub code : first_refusal rows left ≡ first_refusal rows all
  pub count : place + good_before rows left ≡ good_before rows all

module _ (rows : List Row) (all : List (List ℕ)) where
  -- it stops at a document that earns something
  stops : (place : ℕ) (d : List ℕ) (ds : List (List ℕ)) → Passed rows all (d ∷ ds) place → (document_refusal rows d ≡ 0 → ⊥) → record { code = document_refusal rows d; documents = place } ≡ judged rows all
  unfolding first_refusal good_before
  stops place d ds p bad =
      let n = document_refusal rows d in
      let code : n ≡ first_refusal rows all = sym (ends n (first_refusal rows ds) (omega arith)) ∙ p.code in
      let none : good_before rows (d ∷ ds) ≡ 0 = rw (ne_eqb n 0 bad) in
      let count : place ≡ good_before rows all = sym (add-zero place) ∙ ap (λ (k : ℕ). place + k) (sym none) ∙ p.count in
      λ i. record { code = code i; documents = count i }

  passes : (place : ℕ) (d : List ℕ) (ds : List (List ℕ)) → Passed rows all (d ∷ ds) place → document_refusal rows d ≡ 0 → Passed rows all ds (place + 1)
  unfolding first_refusal good_before
  passes place d ds p good =
      let n = document_refusal rows d in
      let code : first_refusal rows (d ∷ ds) ≡ first_refusal rows ds = goes_on n (first_refusal rows ds) good in
      let more : good_before rows (d ∷ ds) ≡ suc (good_before rows ds) = rw (eq-eqb n 0 good) in
      record { code = sym code ∙ p.code; count = omega (arith, more, p.count) }

  done : (place : ℕ) → Passed rows all [] place → record { code = 0; documents = place } ≡ judged rows all
  unfolding first_refusal good_before
  done place p = λ i. record { code = p.code i; documents = (sym (add-zero place) ∙ p.count) i }

-- the same at a place of the documents, which has earned this
module _ (rows : List Row) (all : List (List ℕ)) (place : ℕ) (p : Passed rows all (drop place all) place) where
  module _ (h : place < length all) where
    left : Passed rows all (get_or all place [] ∷ drop (suc place) all) place
    left = subst (λ (ds : List (List ℕ)). Passed rows all ds place) (drop-cons all place [] h) p

    pub stops_at : (e : Earned) → earned_number (Err e) ≡ document_refusal rows (get_or all place []) → fill_shown (Err (FillRefusal.Document place e)) ≡ judged rows all
    stops_at e told =
        shown e
        ∙ (λ i. record { code = told i; documents = place })
        ∙ stops rows all place (get_or all place []) (drop (suc place) all) left (λ z. some e (told ∙ z))
      where
        shown : (e : Earned) → fill_shown (Err (FillRefusal.Document place e)) ≡ record { code = earned_number (Err e); documents = place }
        shown Earned.WrongKey = refl
        shown Earned.WrongAmount = refl
        shown Earned.UnknownKey = refl

        some : (e : Earned) → earned_number (Err e) ≡ 0 → ⊥
        some Earned.WrongKey z = omega arith
        some Earned.WrongAmount z = omega arith
        some Earned.UnknownKey z = omega arith

    pub passes_at : 0 ≡ document_refusal rows (get_or all place []) → Passed rows all (drop (place + 1) all) (place + 1)
    passes_at told =
        subst (λ (k : ℕ). Passed rows all (drop k all) (place + 1)) {x = suc place} {y = place + 1} (omega arith) (passes rows all place (get_or all place []) (drop (suc place) all) left (sym told))

  pub done_at : length all ≤ place → record { code = 0; documents = place } ≡ judged rows all
  done_at h =
      done rows all place (subst (λ (ds : List (List ℕ)). Passed rows all ds place) (drop_of_length-le all {i = place} h) p)
