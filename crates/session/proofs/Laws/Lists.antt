-- Laws of the lists that ledgers and books are made of: numbers that stand once, serials that were seen, sums of lots.
use mathlib.Core.Path.{◌≡◌, refl, ap, sym, ◌∙◌}
use mathlib.Core.Bool.{Bool, true, false, ◌&&◌, ◌||◌, false≢true}
use mathlib.Core.List.{List, [], ◌∷◌, ◌++◌, map}
use Prim.Native.Nat.{ℕ, suc}
use native.Mathlib.Omega.{arith}
use lib.Dec.{eqb, leb}
use borrow.Author.Tests.{leb-true, le-leb, ne_eqb, eq-eqb, eqb-true, eqb-false}
use Rattle.packed.specs.Every.{every, any_of, member}
use Rattle.packed.proofs.Laws.Every.{every_cons, every_then}
use Rattle.session.specs.declared.counters.Lot.{Lot}
use Rattle.session.specs.Receiving.{number_used}
use Rattle.session.specs.Ledger.{LedgerLot, lot_sum, numbers, Distinct}

neither : (a b : Bool) → a || b ≡ false → (a ≡ false) × (b ≡ false)
neither true b e = absurd (false≢true (sym e))
neither false b e = (refl, e)

eqb_sym : (a b : ℕ) → eqb a b ≡ eqb b a
eqb_sym a b = go (eqb b a) refl
  where
    go : (t : Bool) → eqb b a ≡ t → eqb a b ≡ t
    go true e = eq-eqb a b (sym (eqb-true b a e))
    go false e = ne_eqb a b (λ (h : a ≡ b). eqb-false b a e (sym h))

member_last : (n m : ℕ) (ns : List ℕ) → member n ns ≡ false → eqb n m ≡ false → member n (ns ++ m ∷ []) ≡ false
unfolding member
member_last n m [] h e = rw e
member_last n m (x ∷ ns) h e = let both = neither (eqb n x) (member n ns) h in rw both.0 (member_last n m ns both.1 e)

-- a new number at the end
pub distinct_last : (ns : List ℕ) (m : ℕ) → Distinct ns → member m ns ≡ false → Distinct (ns ++ m ∷ [])
unfolding member
distinct_last [] m d h = (refl, tt)
distinct_last (n ∷ ns) m d h = let both = neither (eqb m n) (member m ns) h in (member_last n m ns d.0 (eqb_sym n m ∙ both.0), distinct_last ns m d.1 both.1)

pub numbers_last : (ls : List LedgerLot) (l : LedgerLot) → numbers (ls ++ l ∷ []) ≡ numbers ls ++ l.number ∷ []
numbers_last [] l = refl
numbers_last (x ∷ ls) l = ap (λ (ns : List ℕ). x.number ∷ ns) (numbers_last ls l)

pub sums_last : (ls : List LedgerLot) (l : LedgerLot) → map lot_sum (ls ++ l ∷ []) ≡ map lot_sum ls ++ lot_sum l ∷ []
sums_last [] l = refl
sums_last (x ∷ ls) l = ap (λ (ms : List Lot). lot_sum x ∷ ms) (sums_last ls l)

-- a number that no accepted lot has
pub number_used_lem : (n : ℕ) (ls : List LedgerLot) → number_used n (map lot_sum ls) ≡ member n (numbers ls)
unfolding any_of member
number_used_lem n [] = refl
number_used_lem n (l ∷ ls) = ap (λ (t : Bool). eqb n l.number || t) (number_used_lem n ls)

-- serials up to a last one
abbrev pub up_to : ℕ → List ℕ → Bool
up_to last serials = every (λ (n : ℕ). leb n last) serials

pub next_unseen : (last : ℕ) (serials : List ℕ) → up_to last serials ≡ true → member (suc last) serials ≡ false
unfolding member every
next_unseen last [] h = refl
next_unseen last (n ∷ serials) h =
    let both = every_cons (λ (m : ℕ). leb m last) n serials h in
    let least = leb-true n last both.0 in
    rw (ne_eqb (suc last) n (λ (e : suc last ≡ n). omega arith)) (next_unseen last serials both.1)

pub up_to_next : (last : ℕ) (serials : List ℕ) → up_to last serials ≡ true → up_to (suc last) (suc last ∷ serials) ≡ true
unfolding every
up_to_next last serials h =
    λ i. le-leb (suc last) (suc last) (omega arith) i && every_then (λ (n : ℕ). leb n last) (λ (n : ℕ). leb n (suc last)) (λ (n : ℕ) (e : leb n last ≡ true). le-leb n (suc last) (omega (arith, leb-true n last e))) serials h i
