-- Laws of a filled document and of a tray that is filled in place, document by document.
use mathlib.Core.Path.{◌≡◌, refl, ap, sym, ◌∙◌}
use mathlib.Core.Bool.{Bool, true, false, cond}
use mathlib.Core.List.{List, ◌++◌, flat_map, append_assoc, append-nil}
use Prim.Native.Nat.{ℕ, ◌+◌, ◌-◌, ◌≤◌}
use native.Mathlib.Omega.{arith}
use lib.Dec.{eqb, lit<}
use lib.ListN.{length, take, drop, length-append}
use lib.Seq.{take_at, drop_at, take_all, drop-drop, length-take-le}
use borrow.Author.Tests.{eq-eqb, ne_eqb}
use borrow.Rule.Slice.PartMut.{mid_of, put_mid, same_len_mid}
use Rattle.packed.specs.Part.{part}
use Rattle.packed.proofs.Laws.Part.{part_length, part_all}
use Rattle.packed.proofs.Laws.Pieces.{pieces_at, pieces_end}
use Rattle.document.specs.Limits.{document_bytes}
use Rattle.document.specs.Part.{documents_of}
use Rattle.document.specs.Amounts.{nominal, commission}
use Rattle.tariff.specs.declared.row.Row.{Row}
use Rattle.tariff.specs.Commission.{rule_of, due}
use Rattle.tariff.specs.Tray.{tariff_key, with_commission, filled_document}
use Rattle.tariff.proofs.Laws.Kept.{with_length}

module _ (rows : List Row) where
  -- by the key: as it was, or with a commission
  pub kept_key : (d : List ℕ) → tariff_key d ≡ 0 → d ≡ filled_document rows d
  unfolding filled_document
  kept_key d e = rw (eq-eqb (tariff_key d) 0 e)

  pub written_key : (d : List ℕ) → (tariff_key d ≡ 0 → ⊥) → with_commission (due (rule_of rows (tariff_key d)) (nominal d) (commission d)) d ≡ filled_document rows d
  unfolding filled_document
  written_key d e = rw (ne_eqb (tariff_key d) 0 e)

  -- so what holds of a document as it is, and with any commission, holds of the filled one
  pub filled_either : (P : List ℕ → Type 0) (d : List ℕ) → P d → ((c : ℕ) → P (with_commission c d)) → P (filled_document rows d)
  unfolding filled_document
  filled_either P d z w = go (eqb (tariff_key d) 0)
    where
      go : (t : Bool) → P (cond t d (with_commission (due (rule_of rows (tariff_key d)) (nominal d) (commission d)) d))
      go true = z
      go false = w (due (rule_of rows (tariff_key d)) (nominal d) (commission d))

  -- no document becomes longer or shorter
  pub filled_length : (d : List ℕ) → length (filled_document rows d) ≡ length d
  filled_length d = filled_either (λ (e : List ℕ). length e ≡ length d) d refl (λ c. with_length c d)

  -- a tray that is filled to a place, and what the rest becomes
  pub filled_from : (at : ℕ) (tray : List ℕ) → List ℕ
  filled_from at tray = take at tray ++ flat_map (filled_document rows) (documents_of (drop at tray))

  pub from_start : (tray : List ℕ) → filled_from 0 tray ≡ flat_map (filled_document rows) (documents_of tray)
  unfolding filled_from
  from_start tray = refl

  pub to_end : (at : ℕ) (tray : List ℕ) → length tray ≤ at → filled_from at tray ≡ tray
  unfolding filled_from flat_map
  to_end at tray h =
      ap (λ (ds : List (List ℕ)). take at tray ++ flat_map (filled_document rows) ds) (pieces_end document_bytes (lit< tt) at tray h)
      ∙ append-nil (take at tray)
      ∙ take_all at tray h

  -- one document more, lent as a part of the tray and come back
  module _ (at : ℕ) (tray d : List ℕ) (e : d ≡ filled_document rows (mid_of at (at + document_bytes - at) tray)) where
    abbrev after : List ℕ
    after = put_mid at (at + document_bytes - at) tray d

    pub same_tray_length : length after ≡ length tray
    same_tray_length =
        same_len_mid at (at + document_bytes - at) tray d (ap length e ∙ filled_length (mid_of at (at + document_bytes - at) tray))

    pub one_filled : at + document_bytes ≤ length tray → filled_from (at + document_bytes) after ≡ filled_from at tray
    unfolding filled_from flat_map
    one_filled h =
        let F = filled_document rows in
        let x = part at document_bytes tray in
        let next = at + document_bytes in
        let front = take at tray ++ d in
        let rest = drop document_bytes (drop at tray) in
        let made : d ≡ F x = e ∙ ap F (part_all at document_bytes tray) in
        let long : length d ≡ document_bytes = ap length made ∙ filled_length x ∙ part_length at document_bytes tray h in
        let size : length front ≡ next = length-append (take at tray) d ∙ (λ i. length-take-le at tray (omega arith) i + long i) in
        let wide : next - at ≡ document_bytes = omega arith in
        let joined : after ≡ front ++ rest = ap (λ (k : ℕ). put_mid at k tray d) wide ∙ sym (append_assoc (take at tray) d rest) in
        let behind : rest ≡ drop next tray = drop-drop document_bytes at tray in
        (λ i. take next (joined i) ++ flat_map F (documents_of (drop next (joined i))))
        ∙ (λ i. take_at front rest next size i ++ flat_map F (documents_of (drop_at front rest next size i)))
        ∙ append_assoc (take at tray) d (flat_map F (documents_of rest))
        ∙ (λ i. take at tray ++ (made i ++ flat_map F (documents_of (behind i))))
        ∙ ap (λ (ds : List (List ℕ)). take at tray ++ flat_map F ds) (sym (pieces_at document_bytes (lit< tt) at tray (omega arith)))
