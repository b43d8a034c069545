-- `entities_good`: too many are refused by their number; else each of them is tested.
use Rattle.std.proofs.Common.{◌≡◌, ℕ, Bool, true, false, ◌&&◌, List, length, ap, sym, ◌∙◌, arith}
use mathlib.Core.Bool.{and-true, and-false}
use borrow.Author.Tests.{le-leb, lt-leb}
use lib.Dec.{leb}
use Rattle.packed.specs.Every.{every}
use Rattle.packed.proofs.Laws.Every.{all_every}
use Rattle.document.specs.Limits.{most_represented}
use Rattle.document.specs.Entities.{is_entity, entities_good}
use Rattle.document.proofs.entities.entities_good.Goals as goal

-- what the number of them decides
numbered : (own : ℕ) (represented : List ℕ) (few : Bool) → leb (length represented) most_represented ≡ few → entities_good own represented ≡ (is_entity own && few && every is_entity represented)
numbered own represented few e = ap (λ (t : Bool). is_entity own && t && every is_entity represented) e

pub returns-then-represented-gt-MOST_REPRESENTED : goal.returns-then-represented-gt-MOST_REPRESENTED
returns-then-represented-gt-MOST_REPRESENTED c =
    let r = c.args.represented.now in
    sym (numbered c.args.own r false (lt-leb (length r) most_represented (omega arith)) ∙ ap (λ (t : Bool). t && every is_entity r) (and-false (is_entity c.args.own)))

pub returns : goal.returns
returns c =
    let r = c.args.represented.now in
    let own = is_entity c.args.own in
    ap (λ (t : Bool). own && t) (c.all_entities.ensures ∙ all_every is_entity r)
    ∙ sym (numbered c.args.own r true (le-leb (length r) most_represented (omega arith)) ∙ ap (λ (t : Bool). t && every is_entity r) (and-true own))
