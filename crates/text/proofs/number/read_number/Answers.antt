-- `read_number`: by the count of digits.
use Rattle.std.proofs.Common.{Bool, ap, sym, ◌∙◌}
use Rattle.text.specs.Number.{decimal, number_if}
use Rattle.text.proofs.Laws.Number.{sized, unsized}
use Rattle.text.proofs.number.read_number.Goals as goal

pub returns-then-is_sized : goal.returns-then-is_sized
returns-then-is_sized c =
    let w = c.args.word.now in
    c.read_digits.ensures ∙ ap (λ (b : Bool). number_if b (decimal w)) (sized w (sym c.is_sized.ensures ∙ c.if-is_sized.true))

pub returns : goal.returns
returns c =
    let w = c.args.word.now in
    sym (ap (λ (b : Bool). number_if b (decimal w)) (unsized w (sym c.is_sized.ensures ∙ c.if-is_sized.false)))
