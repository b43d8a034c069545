-- 01, 'Centres and directions': entities, and the limits of a start on those that a centre stands for.
use Rattle.std.specs.Prelude.{ℕ, Bool, ◌&&◌, List, leb, length}
use Rattle.packed.specs.Every.{every}
use Rattle.document.specs.Limits.{largest_entity, most_represented}

-- 0 to 9999
abbrev pub is_entity : ℕ → Bool
is_entity e = leb e largest_entity

-- own, and at most eight represented, each an entity
abbrev pub entities_good : (own : ℕ) (represented : List ℕ) → Bool
entities_good own represented = is_entity own && leb (length represented) most_represented && every is_entity represented
