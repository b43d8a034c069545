-- `group_good` is the definition's own test; a list too short for a head has a count of 0.
use mathlib.Core.Path.{◌≡◌, refl, ap}
use mathlib.Core.Bool.{Bool, true, false, ◌&&◌, and-false}
use Prim.Native.Nat.{ℕ, ◌+◌, ◌-◌, ◌*◌, ◌≤◌}
use native.Mathlib.Omega.{arith}
use borrow.Author.Rules.{rules}
use lib.Dec.{eqb}
use lib.ListN.{length, get_or-eq_default, length-drop}
use borrow.Author.Tests.{eqb-true, eqb-false, eq-eqb, ne_eqb}
use Rattle.packed.specs.Part.{byte_at}
use Rattle.packed.proofs.Laws.Part.{part_tail}
use Rattle.codes.specs.Field.{between}
use Rattle.codes.specs.Body.{mark, operation_of}
use Rattle.document.specs.Operation.{is_operation}
use Rattle.document.specs.Limits.{document_bytes}
use Rattle.detail.specs.Limits.{full_count}
use Rattle.detail.specs.Groups.{group_good, count_of}
use Rattle.detail.proofs.groups.group_good.Goals as goal

-- the documents are as long as the count says, or the group is
behind_head : (n m : ℕ) → 4 ≤ n → eqb (n - 4) m ≡ eqb n (4 + m)
behind_head n m h = go (eqb n (4 + m)) refl
  where
    go : (t : Bool) → eqb n (4 + m) ≡ t → eqb (n - 4) m ≡ t
    go true e = eq-eqb (n - 4) m (omega (arith, eqb-true n (4 + m) e))
    go false e = ne_eqb (n - 4) m (λ (same : n - 4 ≡ m). eqb-false n (4 + m) e (omega arith))

pub returns-in_default : goal.returns-in_default
unfolding group_good
returns-in_default c = rw (get_or-eq_default c.args.g.now 0 {n = 3} (omega arith), and-false)

pub returns-in_default-2 : goal.returns-in_default-2
unfolding group_good
returns-in_default-2 c = rw (ne_eqb (byte_at 2 c.args.g.now) mark (omega arith))

pub returns : goal.returns
unfolding group_good
returns c =
    let g = c.args.g.now in
    let marked : byte_at 2 g ≡ mark = omega arith in
    let counted : c.contains.result ≡ between 1 full_count (count_of g) = search rules in
    rw (eq-eqb (byte_at 2 g) mark marked, counted, part_tail 4 g, length-drop 4 g)
    (ap (λ (t : Bool). is_operation (operation_of g) && between 1 full_count (count_of g) && t) (behind_head (length g) (count_of g * document_bytes) (omega arith)))
