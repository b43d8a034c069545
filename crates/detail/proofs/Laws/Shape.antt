-- A body of good shape is the list of groups that 01 prints, and such a list has good shape: cutting a body into pieces of a full group's length finds
-- exactly the groups that it was made of.
use mathlib.Core.Path.{◌≡◌, refl, ap, sym, subst, ◌∙◌}
use mathlib.Core.Bool.{Bool, true, false, ◌&&◌, and-eq-true_iff}
use mathlib.Core.List.{List, [], ◌∷◌, flat_map, append-nil}
use Prim.Native.Nat.{ℕ, zero, suc, ◌+◌, ◌*◌, ◌≤◌, ◌<◌}
use native.Mathlib.Omega.{arith}
use lib.Dec.{leb, lit<}
use lib.ListN.{length, take, drop, length-drop, drop_of_length-le}
use lib.Seq.{length-take-le}
use borrow.Author.Tests.{eq-eqb, leb-true, leb-false, le-leb}
use Rattle.packed.specs.Part.{byte_at}
use Rattle.packed.specs.Every.{every}
use Rattle.packed.specs.Pieces.{cut, pieces}
use Rattle.packed.proofs.Laws.Every.{every_cons}
use Rattle.packed.proofs.Laws.Pieces.{shorter, pieces_step, pieces_one, pieces_first, pieces_flat}
use Rattle.codes.specs.Field.{between}
use Rattle.codes.specs.Body.{mark}
use Rattle.document.specs.Limits.{document_bytes}
use Rattle.detail.specs.Limits.{head_bytes, full_count, most_groups, group_bytes}
use Rattle.detail.specs.Groups.{groups, count_of, group_good, shape_good}
use Rattle.detail.specs.Shape.{Group, AllGroups, OfGroups, ShapeAsPrinted}
use Rattle.detail.proofs.Laws.Groups.{Good, good}

-- a good group is one of its count
counted : (g : List ℕ) → Good g → (count : ℕ) → count_of g ≡ count → Group count g
counted g k count e = record { marked = k.marked; operation = k.operation; counted = e; whole = k.whole ∙ ap (λ (n : ℕ). head_bytes + n * document_bytes) e }

-- and one of 1 to 4 documents is good
group_good_lem : (count : ℕ) (g : List ℕ) → 1 ≤ count → count ≤ full_count → Group count g → group_good g ≡ true
unfolding group_good
group_good_lem count g least most k =
    let size : length g ≡ head_bytes + count_of g * document_bytes = k.whole ∙ ap (λ (n : ℕ). head_bytes + n * document_bytes) (sym k.counted) in
    λ i.
    eq-eqb (byte_at 2 g) mark k.marked i && k.operation i
    && (le-leb 1 (count_of g) (omega (arith, least, k.counted)) i && le-leb (count_of g) full_count (omega (arith, most, k.counted)) i)
    && eq-eqb (length g) (head_bytes + count_of g * document_bytes) size i

-- the pieces of a body, where each is a good group: the last is what is left, and every other as long as a full one
pieces_all : (n : ℕ) (s : List ℕ) → length s ≤ n → 0 < length s → every group_good (pieces group_bytes s) ≡ true → AllGroups (pieces group_bytes s)
unfolding cut
pieces_all zero s h some e = absurd (omega arith)
pieces_all (suc n) [] h some e = absurd (omega arith)
pieces_all (suc n) (x ∷ s) h some e =
    let step = pieces_step group_bytes (lit< tt) (x ∷ s) some in
    let both = every_cons group_good (take group_bytes (x ∷ s)) (pieces group_bytes (drop group_bytes (x ∷ s))) (sym (ap (every group_good) step) ∙ e) in
    subst AllGroups (sym step) (go (leb (length (x ∷ s)) group_bytes) refl (good (take group_bytes (x ∷ s)) both.0) (λ (more : 0 < length (drop group_bytes (x ∷ s))). pieces_all n (drop group_bytes (x ∷ s)) (omega (arith, shorter group_bytes (lit< tt) x s)) more both.1))
  where
    first : List ℕ
    first = take group_bytes (x ∷ s)

    rest : List ℕ
    rest = drop group_bytes (x ∷ s)

    go : (t : Bool) → leb (length (x ∷ s)) group_bytes ≡ t → Good first → (0 < length rest → AllGroups (pieces group_bytes rest)) → AllGroups (first ∷ pieces group_bytes rest)
    go true l k after =
        let none : pieces group_bytes rest ≡ [] = ap (pieces group_bytes) (drop_of_length-le (x ∷ s) {i = group_bytes} (leb-true (length (x ∷ s)) group_bytes l)) in
        subst (λ (gs : List (List ℕ)). AllGroups (first ∷ gs)) (sym none) (record { count = count_of first; least = k.least; most = k.most; group = counted first k (count_of first) refl })
    go false l k after =
        let long = leb-false (length (x ∷ s)) group_bytes l in
        let more : 0 < length rest = simp length-drop (omega arith) in
        let next = pieces_step group_bytes (lit< tt) rest more in
        let size = length-take-le group_bytes (x ∷ s) (omega arith) in
        subst (λ (gs : List (List ℕ)). AllGroups (first ∷ gs)) (sym next)
        (counted first k full_count (omega (arith, size, k.whole, k.most)), subst AllGroups next (after more))

-- such groups, one behind the other, are cut into themselves, and each is good
found_again : (gs : List (List ℕ)) → AllGroups gs → (pieces group_bytes (flat_map (λ (g : List ℕ). g) gs) ≡ gs) × (every group_good gs ≡ true) × (1 ≤ length gs)
unfolding flat_map every
found_again [] a = absurd a
found_again (g ∷ []) a =
    let k = a.group in (
      ap (pieces group_bytes) (append-nil g) ∙ pieces_one group_bytes (lit< tt) g (omega (arith, k.whole)) (omega (arith, k.whole, a.most)),
      (λ i. group_good_lem a.count g a.least a.most k i && true),
      omega arith,
    )
found_again (g ∷ h ∷ gs) a =
    let again = found_again (h ∷ gs) a.1 in (
      pieces_first group_bytes (lit< tt) g (flat_map (λ (g : List ℕ). g) (h ∷ gs)) a.0.whole ∙ ap (λ (l : List (List ℕ)). g ∷ l) again.0,
      (λ i. group_good_lem full_count g (lit< tt) (lit< tt) a.0 i && again.1 i),
      omega arith,
    )

-- The claim of specs/Shape.
pub shape_as_printed : ShapeAsPrinted
unfolding shape_good groups cut
shape_as_printed body = (there, back)
  where
    there : shape_good body ≡ true → OfGroups body
    there e =
        let n = length (groups body) in
        let told = (and-eq-true_iff (between 1 most_groups n) (every group_good (groups body))).0 e in
        let range = (and-eq-true_iff (leb 1 n) (leb n most_groups)).0 told.0 in
        record { groups = groups body; joined = pieces_flat group_bytes (lit< tt) body; all = pieces_all (length body) body (omega arith) (some body (leb-true 1 n range.0)) told.1; most = leb-true n most_groups range.1 }
      where
        some : (s : List ℕ) → 1 ≤ length (pieces group_bytes s) → 0 < length s
        some [] h = absurd (omega arith)
        some (x ∷ s) h = omega arith

    back : OfGroups body → shape_good body ≡ true
    back o =
        let again = found_again o.groups o.all in
        let same : groups body ≡ o.groups = ap (pieces group_bytes) (sym o.joined) ∙ again.0 in
        ap (λ (gs : List (List ℕ)). between 1 most_groups (length gs) && every group_good gs) same
        ∙ λ i. (le-leb 1 (length o.groups) again.2 i && le-leb (length o.groups) most_groups o.most i) && again.1 i
