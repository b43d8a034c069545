-- Laws of the line buffer: what is written into its lent tail stands after what was written before.
use mathlib.Core.Path.{◌≡◌, ap, sym, ◌∙◌}
use mathlib.Core.List.{List, [], ◌++◌, append-nil, append_assoc}
use Prim.Native.Nat.{ℕ, ◌+◌, ◌-◌, ◌≤◌}
use native.Mathlib.Nat.{zero-add}
use native.Mathlib.Omega.{arith}
use borrow.Rule.Slice.PartMut.{mid_of, put_mid}
use lib.ListN.{length, take, drop, length-drop}
use lib.Seq.{sets, sets-eq, length-sets, drop-length, drop-drop}
use Rattle.packed.proofs.Laws.Part.{part_tail}
use Rattle.packed.proofs.Laws.Writing.{sets_behind}

-- a run at the start of a lent tail is a run of the whole
tail_sets : (xs vs : List ℕ) (a : ℕ) → a + length vs ≤ length xs → put_mid a (length xs - a) xs (sets (mid_of a (length xs - a) xs) 0 vs) ≡ sets xs a vs
tail_sets xs vs a h =
    let tail = drop a xs in
    let count : length xs - a ≡ length tail = sym (length-drop a xs) in
    let after : drop (length xs - a) tail ≡ [] = ap (λ (k : ℕ). drop k tail) count ∙ drop-length tail in
    let written : sets tail 0 vs ≡ vs ++ drop (length vs) tail = sets-eq vs tail 0 (omega arith) ∙ rw zero-add in
    (λ i. take a xs ++ ((ap (λ (l : List ℕ). sets l 0 vs) (part_tail a xs) ∙ written) i ++ after i))
    ∙ ap (λ (l : List ℕ). take a xs ++ l) (append-nil (vs ++ drop (length vs) tail) ∙ ap (λ (l : List ℕ). vs ++ l) (drop-drop (length vs) a xs))
    ∙ sym (append_assoc (take a xs) vs (drop (a + length vs) xs))
    ∙ sym (sets-eq vs xs a h)

-- what a writer of the first bytes and a writer of the lent tail leave together
pub both_written : (line first tail head body : List ℕ) (k : ℕ) → length head ≡ k → k + length body ≤ length line → first ≡ sets line 0 head → tail ≡ sets (mid_of k (length first - k) first) 0 body → put_mid k (length first - k) first tail ≡ sets line 0 (head ++ body)
both_written line first tail head body k size fits one two =
    let same : length first ≡ length line = ap length one ∙ length-sets line 0 head in
    ap (put_mid k (length first - k) first) two
    ∙ tail_sets first body k (omega arith)
    ∙ sets_behind head body line first 0 k one (omega arith)
