-- Laws of groups: what a good one is made of, and how long a body of few groups is.
use mathlib.Core.Path.{◌≡◌, refl, ap, sym, ◌∙◌}
use mathlib.Core.Bool.{Bool, true, false, not, ◌&&◌, ◌||◌, and-eq-true_iff}
use mathlib.Core.List.{List, [], ◌∷◌, ◌++◌}
use Prim.Native.Nat.{ℕ, min, ◌+◌, ◌*◌, ◌≤◌, ◌<◌}
use native.Mathlib.Omega.{arith}
use lib.Dec.{eqb, leb, ltb, lit<}
use lib.ListN.{length}
use borrow.Author.Tests.{eqb-true, leb-true, ltb-true, ltb-false, le-leb, lt-leb}
use Rattle.packed.specs.Part.{byte_at}
use Rattle.packed.specs.Every.{every}
use Rattle.packed.specs.Pieces.{cut, pieces}
use Rattle.packed.proofs.Laws.Pieces.{pieces_step, pieces_count}
use Rattle.codes.specs.Field.{between}
use Rattle.codes.specs.Body.{mark, operation_of, longest_body}
use Rattle.document.specs.Operation.{is_operation}
use Rattle.document.specs.Limits.{document_bytes, most_detail_documents}
use Rattle.detail.specs.Limits.{head_bytes, full_count, most_groups, group_bytes}
use Rattle.packed.proofs.Laws.Every.{every_cons}
use Rattle.detail.proofs.Laws.Chunks.{chunk_first}
use Rattle.detail.specs.Groups.{groups, count_of, group_good, shape_good}

-- the most documents of a detail are the full groups of the longest body, and make the most bytes that an envelope can hold
full_body : (most_detail_documents ≡ most_groups * full_count) × (longest_body ≡ most_groups * group_bytes)
full_body = (refl, refl)

-- what is known of a good group
pub record Good (g : List ℕ) : Type 0 where
  pub marked : byte_at 2 g ≡ mark
  pub operation : is_operation (operation_of g) ≡ true
  pub least : 1 ≤ count_of g
  pub most : count_of g ≤ full_count
  pub whole : length g ≡ head_bytes + count_of g * document_bytes

pub good : (g : List ℕ) → group_good g ≡ true → Good g
unfolding group_good
good g e =
    let marked = eqb (byte_at 2 g) mark in
    let operation = is_operation (operation_of g) in
    let count = between 1 full_count (count_of g) in
    let whole = eqb (length g) (head_bytes + count_of g * document_bytes) in
    let last = (and-eq-true_iff (marked && operation && count) whole).0 e in
    let third = (and-eq-true_iff (marked && operation) count).0 last.0 in
    let first = (and-eq-true_iff marked operation).0 third.0 in
    let range = (and-eq-true_iff (leb 1 (count_of g)) (leb (count_of g) full_count)).0 third.1 in
    record {
      marked = eqb-true (byte_at 2 g) mark first.0;
      operation = first.1;
      least = leb-true 1 (count_of g) range.0;
      most = leb-true (count_of g) full_count range.1;
      whole = eqb-true (length g) (head_bytes + count_of g * document_bytes) last.1;
    }

-- the first of the groups that are left, where all are good
pub record First (old g new : List ℕ) : Type 0 where
  pub here : Good g
  pub next : pieces group_bytes old ≡ g ∷ pieces group_bytes new
  pub left : every group_good (pieces group_bytes new) ≡ true

pub first_group : (size : ℕ) (old g new : List ℕ) → size ≡ group_bytes → every group_good (pieces group_bytes old) ≡ true → old ≡ g ++ new → length g ≡ min size (length old) → 0 < length old → First old g new
first_group size old g new e all parts long some =
    let next = chunk_first group_bytes old g new (lit< tt) parts (rw e at long) some in
    let both = every_cons group_good g (pieces group_bytes new) (rw next at all) in
    record { here = good g both.0; next = next; left = both.1 }

-- a body has no group where it has no byte, and more than 50 where it is longer than 50 full ones
some_group : (s : List ℕ) → leb 1 (length (pieces group_bytes s)) ≡ leb 1 (length s)
unfolding cut
some_group [] = refl
some_group (x ∷ s) =
    le-leb 1 (length (pieces group_bytes (x ∷ s))) (omega (arith, ap length (pieces_step group_bytes (lit< tt) (x ∷ s) (omega arith))))
    ∙ sym (le-leb 1 (length (x ∷ s)) (omega arith))

turned : (a b : ℕ) → leb a b ≡ not (ltb b a)
turned a b = go (ltb b a) refl
  where
    go : (t : Bool) → ltb b a ≡ t → leb a b ≡ not t
    go true e = lt-leb a b (ltb-true b a e)
    go false e = le-leb a b (ltb-false b a e)

neither : (a b : Bool) → not a && not b ≡ not (a || b)
neither true b = refl
neither false b = refl

-- the count of groups, told by the length in bytes
pub shape_told : (body : List ℕ) → shape_good body ≡ not (ltb (length body) 1 || ltb longest_body (length body)) && every group_good (groups body)
unfolding shape_good groups
shape_told body =
    let n = length body in
    ap (λ (t : Bool). t && every group_good (groups body))
    ((λ i. some_group body i && pieces_count group_bytes (lit< tt) most_groups body i)
    ∙ (λ i. turned 1 n i && turned n longest_body i)
    ∙ neither (ltb n 1) (ltb longest_body n))
