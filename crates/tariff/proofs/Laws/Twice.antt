-- Laws of whole trays: a whole tray is cut into whole documents, all of them are counted, and a second filling changes nothing.
use mathlib.Core.Path.{◌≡◌, refl, ap, sym, ◌∙◌}
use mathlib.Core.Bool.{Bool, true, ◌&&◌, cond}
use mathlib.Core.List.{List, [], ◌∷◌, ◌++◌, map, flat_map}
use Prim.Native.Nat.{ℕ, zero, suc, ◌+◌, ◌-◌, ◌*◌, ◌%◌, ◌≤◌}
use native.Mathlib.Omega.{arith}
use lib.Dec.{eqb, lit<}
use lib.ListN.{length, take, drop, length-append, length-drop}
use lib.Seq.{length-take-le}
use borrow.Author.Tests.{eq-eqb, ne_eqb, eqb-true}
use Rattle.packed.specs.Every.{every}
use Rattle.packed.specs.Pieces.{cut}
use Rattle.packed.proofs.Laws.Every.{every_cons}
use Rattle.packed.proofs.Laws.Pieces.{pieces_step, pieces_flat, pieces_made}
use Rattle.codes.specs.Chain.{◌orelse◌}
use Rattle.codes.proofs.Laws.Chain.{held, none_both}
use Rattle.document.specs.Limits.{document_bytes}
use Rattle.document.specs.Part.{is_whole, count_in, documents_of}
use Rattle.tariff.specs.declared.row.Row.{Row}
use Rattle.tariff.specs.declared.filled.FillShown.{FillShown}
use Rattle.tariff.specs.Tariff.{rows_of, good_tariff}
use Rattle.tariff.specs.Tray.{document_refusal, first_refusal, good_before, fill_refusal, filled, filled_document, tray_after, EveryTray}
use Rattle.tariff.specs.Inner.Judged.{judged}
use Rattle.tariff.proofs.Laws.Filled.{filled_length}
use Rattle.tariff.proofs.Laws.Document.{after_filling, nothing_again, filled_again}
use Rattle.tariff.proofs.Laws.Tray.{documents_decide}

-- a whole tray is cut into whole documents
full : List ℕ → Bool
full d = eqb (length d) document_bytes

all_full : (n : ℕ) (tray : List ℕ) → length tray ≤ n → length tray % document_bytes ≡ 0 → every full (documents_of tray) ≡ true
unfolding every cut full
all_full zero [] h w = refl
all_full (suc n) [] h w = refl
all_full zero (x ∷ s) h w = absurd (omega arith)
all_full (suc n) (x ∷ s) h w =
    let long : document_bytes ≤ length (x ∷ s) = omega arith in
    let behind : length (drop document_bytes (x ∷ s)) ≡ length (x ∷ s) - document_bytes = length-drop document_bytes (x ∷ s) in
    ap (every full) (pieces_step document_bytes (lit< tt) (x ∷ s) (omega arith))
    ∙ (λ i. eq-eqb (length (take document_bytes (x ∷ s))) document_bytes (length-take-le document_bytes (x ∷ s) long) i && all_full n (drop document_bytes (x ∷ s)) (omega (arith, behind)) (omega (arith, behind)) i)

-- and so is a tray that was filled
module _ (tariff : List ℕ) (good : good_tariff tariff ≡ true) where
  cut_again : (tray : List ℕ) → length tray % document_bytes ≡ 0 → documents_of (flat_map (filled_document (rows_of tariff)) (documents_of tray)) ≡ map (filled_document (rows_of tariff)) (documents_of tray)
  unfolding full
  cut_again tray w =
      pieces_made document_bytes document_bytes (lit< tt) (lit< tt) (filled_document (rows_of tariff)) full
      (λ p q e. filled_length (rows_of tariff) p ∙ e)
      (λ p q h. let k = eqb-true (length p) document_bytes q in (omega (arith, k, filled_length (rows_of tariff) p), omega (arith, k, filled_length (rows_of tariff) p)))
      tray
      (all_full (length tray) tray (omega arith) w)

  -- documents that earn nothing are judged alike when they are filled, and a second filling leaves them
  judged_again : (ds : List (List ℕ)) → every full ds ≡ true → first_refusal (rows_of tariff) ds ≡ 0 → judged (rows_of tariff) (map (filled_document (rows_of tariff)) ds) ≡ judged (rows_of tariff) ds
  unfolding first_refusal good_before full
  judged_again [] f e = refl
  judged_again (d ∷ ds) f e =
      let first = every_cons full d ds f in
      let none = none_both (document_refusal (rows_of tariff) d) (first_refusal (rows_of tariff) ds) e in
      let same : document_refusal (rows_of tariff) (filled_document (rows_of tariff) d) ≡ document_refusal (rows_of tariff) d = nothing_again tariff d good (eqb-true (length d) document_bytes first.0) none.0 ∙ sym none.0 in
      let rest = judged_again ds first.1 none.1 in
      λ i. record { code = same i orelse (rest i).code; documents = cond (eqb (same i) 0) (suc (rest i).documents) 0 }

  twice_filled : (ds : List (List ℕ)) → every full ds ≡ true → first_refusal (rows_of tariff) ds ≡ 0 → flat_map (filled_document (rows_of tariff)) (map (filled_document (rows_of tariff)) ds) ≡ flat_map (filled_document (rows_of tariff)) ds
  unfolding first_refusal flat_map full
  twice_filled [] f e = refl
  twice_filled (d ∷ ds) f e =
      let first = every_cons full d ds f in
      let none = none_both (document_refusal (rows_of tariff) d) (first_refusal (rows_of tariff) ds) e in
      λ i. filled_again tariff d good (eqb-true (length d) document_bytes first.0) none.0 i ++ twice_filled ds first.1 none.1 i

-- a filled tray is as long as it was
same_length : (rows : List Row) (ds : List (List ℕ)) → length (flat_map (filled_document rows) ds) ≡ length (flat_map (λ (d : List ℕ). d) ds)
unfolding flat_map
same_length rows [] = refl
same_length rows (d ∷ ds) =
    length-append (filled_document rows d) (flat_map (filled_document rows) ds)
    ∙ (λ i. filled_length rows d i + same_length rows ds i)
    ∙ sym (length-append d (flat_map (λ (d : List ℕ). d) ds))

-- where nothing is earned, all documents of a whole tray are counted
all_good_lem : (rows : List Row) (ds : List (List ℕ)) → first_refusal rows ds ≡ 0 → good_before rows ds ≡ length ds
unfolding first_refusal good_before
all_good_lem rows [] e = refl
all_good_lem rows (d ∷ ds) e =
    let none = none_both (document_refusal rows d) (first_refusal rows ds) e in
    rw (eq-eqb (document_refusal rows d) 0 none.0) (ap suc (all_good_lem rows ds none.1))

full_length : (ds : List (List ℕ)) → every full ds ≡ true → length (flat_map (λ (d : List ℕ). d) ds) ≡ length ds * document_bytes
unfolding flat_map full
full_length [] f = refl
full_length (d ∷ ds) f =
    let first = every_cons full d ds f in
    omega (arith, length-append d (flat_map (λ (d : List ℕ). d) ds), eqb-true (length d) document_bytes first.0, full_length ds first.1)

-- what a call leaves, by its refusal
after_refused : (tariff tray : List ℕ) (k : ℕ) → fill_refusal tariff tray ≡ suc k → tray_after tariff tray ≡ tray
unfolding tray_after
after_refused tariff tray k e = rw (e, ne_eqb (suc k) 0 (omega arith))

after_filled : (tariff tray : List ℕ) → fill_refusal tariff tray ≡ 0 → tray_after tariff tray ≡ flat_map (filled_document (rows_of tariff)) (documents_of tray)
unfolding tray_after
after_filled tariff tray e = rw e

unrefused : (tariff tray : List ℕ) → fill_refusal tariff tray ≡ 0 → (good_tariff tariff ≡ true) × (is_whole tray ≡ true) × (first_refusal (rows_of tariff) (documents_of tray) ≡ 0)
unfolding fill_refusal
unrefused tariff tray e =
    let first = held 42 (good_tariff tariff) _ (lit< tt) e in
    let second = held 25 (is_whole tray) _ (lit< tt) first.1 in
    (first.0, second.0, second.1)

Again : (tariff tray : List ℕ) → Type 0
Again tariff tray = (filled tariff (tray_after tariff tray) ≡ filled tariff tray) × (tray_after tariff (tray_after tariff tray) ≡ tray_after tariff tray)

module _ (tariff tray : List ℕ) where
  by_refusal : (k : ℕ) → fill_refusal tariff tray ≡ k → Again tariff tray
  unfolding Again filled
  by_refusal (suc k) e = let same = after_refused tariff tray k e in (ap (filled tariff) same, ap (tray_after tariff) same)
  by_refusal zero e =
      let F = filled_document (rows_of tariff) in
      let ds = documents_of tray in
      let told = unrefused tariff tray e in
      let whole = eqb-true (length tray % document_bytes) 0 told.1 in
      let each = all_full (length tray) tray (omega arith) whole in
      let after = after_filled tariff tray e in
      let long : length (flat_map F ds) ≡ length tray = same_length (rows_of tariff) ds ∙ ap length (pieces_flat document_bytes (lit< tt) tray) in
      let again : documents_of (flat_map F ds) ≡ map F ds = cut_again tariff told.0 tray whole in
      let answer : filled tariff (flat_map F ds) ≡ filled tariff tray =
      documents_decide tariff (flat_map F ds) told.0 (omega (arith, long))
      ∙ ap (judged (rows_of tariff)) again
      ∙ judged_again tariff told.0 ds each told.2
      ∙ sym (documents_decide tariff tray told.0 whole) in
      let accepted : fill_refusal tariff (flat_map F ds) ≡ 0 = ap (λ (s : FillShown). s.code) answer ∙ e in (
        ap (filled tariff) after ∙ answer,
        ap (tray_after tariff) after
            ∙ after_filled tariff (flat_map F ds) accepted
            ∙ ap (flat_map F) again
            ∙ twice_filled tariff told.0 ds each told.2
            ∙ sym after,
      )

counted : (tariff tray : List ℕ) → (filled tariff tray).code ≡ 0 → (filled tariff tray).documents ≡ count_in tray
unfolding filled
counted tariff tray e =
    let told = unrefused tariff tray e in
    let whole = eqb-true (length tray % document_bytes) 0 told.1 in
    let ds = documents_of tray in
    let long : length tray ≡ length ds * document_bytes = ap length (sym (pieces_flat document_bytes (lit< tt) tray)) ∙ full_length ds (all_full (length tray) tray (omega arith) whole) in
    let all : length ds ≡ count_in tray = omega (arith, long) in
    rw (told.0, told.1) (all_good_lem (rows_of tariff) ds told.2 ∙ all)

pub every_tray : EveryTray
unfolding Again
every_tray =
    record {
      each = λ tariff d good whole none. after_filling tariff d good whole none;
      counted = λ tariff tray e. counted tariff tray e;
      twice = λ tariff tray. by_refusal tariff tray (fill_refusal tariff tray) refl;
    }
