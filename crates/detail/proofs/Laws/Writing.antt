-- Laws of a written detail: how it grows group by group, and what its receiver reads of it.
use mathlib.Core.Path.{◌≡◌, refl, ap, sym, ◌∙◌}
use mathlib.Core.Bool.{Bool, true, ◌&&◌, and-eq-true_iff}
use mathlib.Core.List.{List, [], ◌∷◌, ◌++◌, map, flat_map}
use Prim.Native.Nat.{ℕ, zero, suc, min, ◌+◌, ◌-◌, ◌*◌, ◌/◌, ◌%◌, ◌≤◌, ◌<◌}
use native.Mathlib.Omega.{arith}
use lib.Dec.{eqb, lit<}
use lib.ListN.{length, take, drop, length-append, length-take, length-drop, length-map}
use borrow.Author.Tests.{le-leb, eqb-true, eq-eqb}
use Rattle.packed.specs.Every.{every}
use Rattle.packed.specs.Pieces.{cut, pieces}
use Rattle.packed.proofs.Laws.Every.{every_map, every_then, every_always}
use Rattle.packed.proofs.Laws.FlatMap.{flat_map_map}
use Rattle.packed.proofs.Laws.Pieces.{shorter, pieces_step, pieces_within, pieces_made, few_pieces}
use Rattle.codes.specs.Field.{between}
use Rattle.codes.specs.Body.{operation_of}
use Rattle.document.specs.Operation.{is_operation}
use Rattle.document.specs.Limits.{document_bytes, most_detail_documents}
use Rattle.detail.specs.Limits.{head_bytes, full_count, most_groups, fill_bytes, group_bytes}
use Rattle.detail.specs.Groups.{groups, group_good, shape_good, one_operation, group_documents, documents}
use Rattle.detail.specs.Writing.{written_group, written_detail}
use Rattle.detail.proofs.Laws.Chunks.{none_left, chunk_first}

-- what is still to be written of the groups that are left
pub none_to_write : (operation : ℕ) (s : List ℕ) → length s ≡ 0 → written_detail operation s ≡ []
unfolding written_detail flat_map
none_to_write operation s e = ap (flat_map (written_group operation)) (none_left fill_bytes s e)

pub group_first : (operation size : ℕ) (old ds new : List ℕ) → size ≡ fill_bytes → old ≡ ds ++ new → length ds ≡ min size (length old) → 0 < length old → written_detail operation old ≡ written_group operation ds ++ written_detail operation new
unfolding written_detail flat_map
group_first operation size old ds new e parts long some =
    ap (flat_map (written_group operation)) (chunk_first fill_bytes old ds new (lit< tt) parts (rw e at long) some)

-- how long what is written is: the documents, and a head for each group that they begin
written_length : (operation n : ℕ) (p : List ℕ) → length p ≤ n → length (written_detail operation p) ≡ length p + (length p + 203) / fill_bytes * head_bytes
unfolding written_detail flat_map
written_length operation n [] h = ap length (none_to_write operation [] refl)
written_length operation zero (x ∷ s) h = absurd (omega arith)
written_length operation (suc n) (x ∷ s) h =
    let p = x ∷ s in
    let ds = take fill_bytes p in
    let left = drop fill_bytes p in
    let step = ap (flat_map (written_group operation)) (pieces_step fill_bytes (lit< tt) p (omega arith)) in
    let first : length ds ≡ min fill_bytes (length p) = length-take fill_bytes p in
    let rest : length left ≡ length p - fill_bytes = length-drop fill_bytes p in
    let tail = written_length operation n left (omega arith) in
    ap length step ∙ length-append (written_group operation ds) (written_detail operation left) ∙ omega arith

pub written_bytes_lem : (operation : ℕ) (p : List ℕ) → length (written_detail operation p) ≡ length p + (length p + 203) / fill_bytes * head_bytes
written_bytes_lem operation p = written_length operation (length p) p (omega arith)

module _ (operation : ℕ) where
  -- a written detail is cut into the groups that it was made of
  groups_written : (p : List ℕ) → groups (written_detail operation p) ≡ map (written_group operation) (pieces fill_bytes p)
  unfolding groups written_detail
  groups_written p =
      pieces_made fill_bytes group_bytes (lit< tt) (lit< tt) (written_group operation) (λ (ds : List ℕ). true) (λ (ds : List ℕ) (e : true ≡ true) (h : length ds ≡ fill_bytes). omega arith) (λ (ds : List ℕ) (e : true ≡ true) (h : length ds ≤ fill_bytes). (omega arith, omega arith)) p
      (every_always (λ (ds : List ℕ). true) (λ (ds : List ℕ). refl) (pieces fill_bytes p))

  -- the documents of a written detail are those of the part, in order and to the byte
  pub documents_written : (p : List ℕ) → documents (written_detail operation p) ≡ pieces document_bytes p
  unfolding documents
  documents_written p =
      ap (flat_map group_documents) (groups_written p)
      ∙ flat_map_map group_documents (written_group operation) (pieces fill_bytes p)
      ∙ pieces_within document_bytes full_count (lit< tt) (lit< tt) p

  pub operation_written : (p : List ℕ) → 0 < length p → operation_of (written_detail operation p) ≡ operation
  unfolding written_detail flat_map
  operation_written p h = ap (λ (l : List (List ℕ)). operation_of (flat_map (written_group operation) l)) (pieces_step fill_bytes (lit< tt) p h)

  pub one_written : (p : List ℕ) → 0 < length p → one_operation (written_detail operation p) ≡ true
  unfolding one_operation
  one_written p h =
      ap (every (λ (g : List ℕ). eqb (operation_of g) (operation_of (written_detail operation p)))) (groups_written p)
      ∙ every_map (λ (g : List ℕ). eqb (operation_of g) (operation_of (written_detail operation p))) (written_group operation) (pieces fill_bytes p)
      ∙ every_always (λ (ds : List ℕ). eqb operation (operation_of (written_detail operation p))) (λ (ds : List ℕ). eq-eqb operation (operation_of (written_detail operation p)) (sym (operation_written p h))) (pieces fill_bytes p)

-- 1 to 4 whole documents
abbrev whole_few : List ℕ → Bool
whole_few ds = between 1 full_count (length ds / document_bytes) && eqb (length ds % document_bytes) 0

-- they are so in each piece of a part of whole documents
few : (n : ℕ) (p : List ℕ) → length p ≤ n → length p % document_bytes ≡ 0 → every whole_few (pieces fill_bytes p) ≡ true
unfolding cut every
few zero [] h w = refl
few zero (x ∷ s) h w = absurd (omega arith)
few (suc n) [] h w = refl
few (suc n) (x ∷ s) h w =
    let left : length (drop fill_bytes (x ∷ s)) % document_bytes ≡ 0 = simp length-drop (omega arith) in
    ap (every whole_few) (pieces_step fill_bytes (lit< tt) (x ∷ s) (omega arith))
    ∙ λ i. piece (take fill_bytes (x ∷ s)) (simp length-take (omega arith)) (simp length-take (omega arith)) (simp length-take (omega arith)) i && few n (drop fill_bytes (x ∷ s)) (omega (arith, shorter fill_bytes (lit< tt) x s)) left i
  where
    piece : (ds : List ℕ) → 0 < length ds → length ds ≤ fill_bytes → length ds % document_bytes ≡ 0 → whole_few ds ≡ true
    piece ds a b c =
        let n = length ds / document_bytes in
        rw (le-leb 1 n (omega arith), le-leb n full_count (omega arith), eq-eqb (length ds % document_bytes) 0 c)

whole_group : (operation : ℕ) (ds : List ℕ) → is_operation operation ≡ true → whole_few ds ≡ true → group_good (written_group operation ds) ≡ true
unfolding group_good
whole_group operation ds o e =
    let n = length ds / document_bytes in
    let both = (and-eq-true_iff (between 1 full_count n) (eqb (length ds % document_bytes) 0)).0 e in
    let whole = eqb-true (length ds % document_bytes) 0 both.1 in
    rw (o, both.0) (eq-eqb (length (written_group operation ds)) (4 + n * document_bytes) (omega arith))

-- a part of 1 to 200 whole documents becomes a body of the right shape
pub shape_written : (operation : ℕ) (p : List ℕ) → is_operation operation ≡ true → 0 < length p → length p ≤ most_detail_documents * document_bytes → length p % document_bytes ≡ 0 → shape_good (written_detail operation p) ≡ true
unfolding shape_good
shape_written operation p o some most whole =
    let ps = pieces fill_bytes p in
    let count = length-map ps (written_group operation) in
    let least : 1 ≤ length ps = omega (arith, ap length (pieces_step fill_bytes (lit< tt) p some)) in
    let good = every_then whole_few (λ (ds : List ℕ). group_good (written_group operation ds)) (λ (ds : List ℕ) (e : whole_few ds ≡ true). whole_group operation ds o e) ps (few (length p) p (omega arith) whole) in
    rw (groups_written operation p, count, le-leb 1 (length ps) least, le-leb (length ps) most_groups (few_pieces fill_bytes (lit< tt) most_groups p (omega arith)))
    (every_map group_good (written_group operation) ps ∙ good)
