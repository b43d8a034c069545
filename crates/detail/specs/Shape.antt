-- 01, 'Detail', its sentences on groups as they are printed: a body has a good shape exactly where it is such a list of groups. Proved in
-- proofs/Laws/Shape.
use Rattle.std.specs.Prelude.{ℕ, ◌+◌, ◌*◌, ◌≤◌, ◌≡◌, true, length}
use mathlib.Core.List.{List, [], ◌∷◌, flat_map}
use Rattle.packed.specs.Part.{byte_at}
use Rattle.codes.specs.Body.{mark, operation_of}
use Rattle.document.specs.Limits.{document_bytes}
use Rattle.document.specs.Operation.{is_operation}
use Rattle.detail.specs.Limits.{head_bytes, full_count, most_groups}
use Rattle.detail.specs.Groups.{count_of, shape_good}

-- 'A group is free byte, 51, operation (30 presented, 40 return), count, then count documents of 51 bytes'
pub record Group (count : ℕ) (g : List ℕ) : Type 0 where
  pub marked : byte_at 2 g ≡ mark
  pub operation : is_operation (operation_of g) ≡ true
  pub counted : count_of g ≡ count
  pub whole : length g ≡ head_bytes + count * document_bytes

-- the last of them
pub record LastGroup (g : List ℕ) : Type 0 where
  pub count : ℕ
  pub least : 1 ≤ count
  pub most : count ≤ full_count
  pub group : Group count g

-- 'Each count is 4, the last may be 1 to 4'
abbrev pub AllGroups : List (List ℕ) → Type 0
AllGroups [] = ⊥
AllGroups (g ∷ []) = LastGroup g
AllGroups (g ∷ h ∷ gs) = Group full_count g × AllGroups (h ∷ gs)

-- '1 to 50 groups', one behind the other
pub record OfGroups (body : List ℕ) : Type 0 where
  pub groups : List (List ℕ)
  pub joined : flat_map (λ (g : List ℕ). g) groups ≡ body
  pub all : AllGroups groups
  pub most : length groups ≤ most_groups

-- the claim
abbrev pub ShapeAsPrinted : Type 0
ShapeAsPrinted = (body : List ℕ) → (shape_good body ≡ true → OfGroups body) × (OfGroups body → shape_good body ≡ true)
