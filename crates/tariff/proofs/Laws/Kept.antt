-- What a commission written into a document leaves alone: the bytes before its field, and so all that is read of them; and what it changes:
-- the commission that is read.
use mathlib.Core.Path.{◌≡◌, refl, ap, sym, ◌∙◌}
use mathlib.Core.Bool.{true, ◌&&◌, ◌||◌, not}
use mathlib.Core.List.{List, [], ◌∷◌, ◌++◌, append_assoc}
use Prim.Native.Nat.{ℕ, suc, ◌+◌, ◌-◌, ◌^◌, ◌≤◌, ◌<◌}
use native.Mathlib.Omega.{arith}
use lib.Dec.{eqb, leb}
use lib.ListN.{length, take, drop, set, take-append-drop}
use lib.Seq.{sets, sets-eq, length-sets, drop-drop, take-set-le, drop-set-add}
use borrow.Author.Tests.{leb-true}
use Rattle.packed.specs.Part.{part}
use Rattle.packed.specs.Every.{every, member}
use Rattle.packed.specs.Digits.{are_digits}
use Rattle.packed.specs.Number.{number}
use Rattle.packed.specs.Writing.{packed_bytes}
use Rattle.packed.proofs.Laws.Every.{every_cons}
use Rattle.packed.proofs.Laws.Writing.{packed_length, packed_digits, part_sets, put_then_read}
use Rattle.codes.specs.Field.{Field, field_good, earning}
use Rattle.document.specs.Limits.{document_bytes}
use Rattle.document.specs.Operation.{presented}
use Rattle.document.specs.Fields.{document_position, commission_field, document_fields, fields_good, amounts_good}
use Rattle.document.specs.Drawee.{drawee, drawee_served}
use Rattle.document.specs.Amounts.{nominal, commission}
use Rattle.document.proofs.Laws.Fields.{amounts_split}
use Rattle.tariff.specs.Tray.{tariff_key, key_digits, with_commission}

-- where a document has its commission
abbrev pub commission_place : ℕ
commission_place = commission_field.position - document_position

-- a run that ends before a place is not touched by what is written there
set_before : (at n k : ℕ) (d : List ℕ) (v : ℕ) → at + n ≤ k → part at n (set d k v) ≡ part at n d
set_before at n k d v h =
    let far : k ≡ at + (k - at) = omega arith in
    ap (λ (j : ℕ). part at n (set d j v)) far
    ∙ ap (take n) (drop-set-add at d (k - at) v)
    ∙ take-set-le n (drop at d) (k - at) v (omega arith)

sets_before : (vs d : List ℕ) (at n k : ℕ) → at + n ≤ k → part at n (sets d k vs) ≡ part at n d
sets_before [] d at n k h = refl
sets_before (v ∷ vs) d at n k h = sets_before vs (set d k v) at n (suc k) (omega arith) ∙ set_before at n k d v h

-- bytes written where they stand already
sets_there : (vs d : List ℕ) (k n : ℕ) → length vs ≡ n → k + n ≤ length d → part k n d ≡ vs → sets d k vs ≡ d
sets_there vs d k n l h e =
    sets-eq vs d k (omega arith)
    ∙ append_assoc (take k d) vs (drop (k + length vs) d)
    ∙ (λ i. take k d ++ (sym e i ++ drop (k + l i) d))
    ∙ ap (λ (r : List ℕ). take k d ++ (part k n d ++ r)) (sym (drop-drop n k d))
    ∙ ap (λ (r : List ℕ). take k d ++ r) (take-append-drop n (drop k d))
    ∙ take-append-drop k d

-- fields that end before a place are as good in documents that are the same up to it
fields_same : (s t : List ℕ) (k : ℕ) → ((at n : ℕ) → at + n ≤ k → part at n s ≡ part at n t) → (fs : List Field) → every (λ (f : Field). leb (f.position - document_position + f.width) k) fs ≡ true → every (field_good document_position s) fs ≡ every (field_good document_position t) fs
unfolding every
fields_same s t k same [] e = refl
fields_same s t k same (f ∷ fs) e =
    let first = every_cons (λ (f : Field). leb (f.position - document_position + f.width) k) f fs e in
    let bytes = same (f.position - document_position) f.width (leb-true (f.position - document_position + f.width) k first.0) in
    λ i. are_digits (bytes i) && f.rule (number (bytes i)) && fields_same s t k same fs first.1 i

module _ (c : ℕ) (d : List ℕ) where
  pub with_length : length (with_commission c d) ≡ length d
  unfolding with_commission
  with_length = length-sets d commission_place (packed_bytes 4 c)

  before : (at n : ℕ) → at + n ≤ commission_place → part at n (with_commission c d) ≡ part at n d
  unfolding with_commission
  before at n h = sets_before (packed_bytes 4 c) d at n commission_place h

  pub key_kept : tariff_key (with_commission c d) ≡ tariff_key d
  unfolding tariff_key
  key_kept = ap number (before 41 2 (omega arith))

  pub key_digits_kept : key_digits (with_commission c d) ≡ key_digits d
  key_digits_kept = ap are_digits (before 41 2 (omega arith))

  pub nominal_kept_lem : nominal (with_commission c d) ≡ nominal d
  unfolding nominal
  nominal_kept_lem = ap number (before 25 6 (omega arith))

  pub nominal_digits_kept : are_digits (part 25 6 (with_commission c d)) ≡ are_digits (part 25 6 d)
  nominal_digits_kept = ap are_digits (before 25 6 (omega arith))

  pub fields_kept : (operation receiving : ℕ) → fields_good operation receiving (with_commission c d) ≡ fields_good operation receiving d
  unfolding fields_good document_fields earning every
  fields_kept operation receiving = fields_same (with_commission c d) d commission_place before (earning 1 (document_fields operation receiving)) refl

  pub served_kept : (operation own : ℕ) (represented : List ℕ) → drawee_served operation own represented (with_commission c d) ≡ drawee_served operation own represented d
  unfolding drawee_served drawee
  served_kept operation own represented =
      ap (λ (bs : List ℕ). not (eqb operation presented) || member (number bs) (own ∷ represented)) (before 31 2 (omega arith))

  module _ (whole : length d ≡ document_bytes) where
    written : part commission_place 4 (with_commission c d) ≡ packed_bytes 4 c
    unfolding with_commission
    written = part_sets (packed_bytes 4 c) d commission_place 4 (packed_length 4 c) (omega arith)

    pub commission_written : c < 100 ^ 4 → commission (with_commission c d) ≡ c
    unfolding commission with_commission
    commission_written h = put_then_read d commission_place 4 c (omega arith) h

    pub commission_digits : are_digits (part commission_place 4 (with_commission c d)) ≡ true
    commission_digits = ap are_digits written ∙ packed_digits 4 c

    pub amounts_written : (operation receiving : ℕ) → are_digits (part 25 6 d) ≡ true → amounts_good operation receiving (with_commission c d) ≡ true
    amounts_written operation receiving n =
        amounts_split operation receiving (with_commission c d) ∙ (λ i. (nominal_digits_kept ∙ n) i && commission_digits i)

    pub written_again : with_commission c (with_commission c d) ≡ with_commission c d
    unfolding with_commission
    written_again = sets_there (packed_bytes 4 c) (with_commission c d) commission_place 4 (packed_length 4 c) (omega (arith, with_length)) written
