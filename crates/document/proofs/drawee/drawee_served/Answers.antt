-- `drawee_served`: no comparison is due, or own is the drawee, or it is searched for.
use Prim.Native.Nat.{ℕ}
use mathlib.Core.Path.{ap, sym, ◌∙◌}
use mathlib.Core.Bool.{Bool, not, ◌||◌, or_assoc}
use lib.Dec.{eqb}
use Rattle.document.specs.Operation.{presented}
use Rattle.packed.specs.Every.{member}
use Rattle.document.specs.Drawee.{drawee, drawee_served}
use Rattle.document.proofs.drawee.drawee_served.Goals as goal

pub returns-then-operation-drawee : goal.returns-then-operation-drawee
unfolding drawee_served drawee member
returns-then-operation-drawee c =
    let n = c.number2-drawee.result in
    let rest = member n c.args.represented.now in
    c.if-operation-drawee.true
    ∙ sym (sym (or_assoc (not (eqb c.args.operation presented)) (eqb n c.args.own) rest) ∙ ap (λ (t : Bool). t || rest) c.if-operation-drawee.true)
    ∙ ap (λ (m : ℕ). not (eqb c.args.operation presented) || (eqb m c.args.own || member m c.args.represented.now)) c.number2-drawee.ensures

pub returns-else-operation-drawee : goal.returns-else-operation-drawee
unfolding drawee_served drawee member
returns-else-operation-drawee c =
    let n = c.number2-drawee.result in
    let rest = member n c.args.represented.now in
    c.is_member.ensures
    ∙ sym (sym (or_assoc (not (eqb c.args.operation presented)) (eqb n c.args.own) rest) ∙ ap (λ (t : Bool). t || rest) c.if-operation-drawee.false)
    ∙ ap (λ (m : ℕ). not (eqb c.args.operation presented) || (eqb m c.args.own || member m c.args.represented.now)) c.number2-drawee.ensures
