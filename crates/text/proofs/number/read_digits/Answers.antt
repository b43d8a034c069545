-- `read_digits`: what a digit does to the value, and what a byte that is none, or a value too large, comes to.
use Rattle.std.proofs.Common.{ℕ, ◌+◌, ◌*◌, drop, get_or, refl, ap, sym, ◌∙◌, arith}
use borrow.Author.Tests.{lt-ltb, le-ltb}
use Rattle.text.specs.Digit.{digit_value, is_decimal}
use Rattle.text.proofs.Laws.Run.{every_on, every_not, every_end}
use Rattle.text.proofs.Laws.Number.{after, after_start, after_on, after_end, after_least, no_digits_lem, too_large, a_number}
use Rattle.text.proofs.number.read_digits.Goals as goal

pub loop-b-init : goal.loop-b-init
loop-b-init c = (omega arith, refl, after_start c.args.word.now)

pub returns-in_err-d : goal.returns-in_err-d
returns-in_err-d c =
    let w = c.args.word.now in
    let i = c.loop-b.b-index in
    c.from_residual.ensures ∙ no_digits_lem w (sym c.loop-b.invariant.1 ∙ every_not is_decimal w i (omega arith) (le-ltb (digit_value (get_or w i 0)) 10 (omega (arith, c.in_err-d.ensures.value))))

pub returns-then-d-gt9 : goal.returns-then-d-gt9
returns-then-d-gt9 c =
    let w = c.args.word.now in
    let i = c.loop-b.b-index in
    no_digits_lem w (sym c.loop-b.invariant.1 ∙ every_not is_decimal w i (omega arith) (le-ltb (digit_value (get_or w i 0)) 10 (omega (arith, c.in_ok-d.ensures.value))))

pub returns-in_err-checked_mul : goal.returns-in_err-checked_mul
returns-in_err-checked_mul c =
    let w = c.args.word.now in
    let i = c.loop-b.b-index in
    let on = after_on c.loop-b.value _ w i (omega arith) c.in_ok-d.ensures.value in
    let h = c.in_err-checked_mul.ensures in
    c.from_residual-in_err-checked_mul.ensures ∙ too_large w (omega (arith, on, c.loop-b.invariant.2, h, after_least (c.loop-b.value * 10 + c.in_ok-d.d) (drop (i + 1) w)))

pub returns-in_err-value : goal.returns-in_err-value
returns-in_err-value c =
    let w = c.args.word.now in
    let i = c.loop-b.b-index in
    let on = after_on c.loop-b.value _ w i (omega arith) c.in_ok-d.ensures.value in
    let product = c.in_ok-checked_mul.ensures in
    let h = c.in_err-value.ensures in
    c.from_residual-in_err-value.ensures ∙ too_large w (omega (arith, on, c.loop-b.invariant.2, product, h, after_least (c.loop-b.value * 10 + c.in_ok-d.d) (drop (i + 1) w)))

pub loop-b-preserved : goal.loop-b-preserved
loop-b-preserved c =
    let w = c.args.word.now in
    let i = c.loop-b.b-index in
    let d = c.in_ok-d.ensures.value in
    let product = c.in_ok-checked_mul.ensures in
    let total = c.in_ok-value.ensures in (
      omega (arith, total),
      every_on is_decimal w i (omega arith) (lt-ltb (digit_value (get_or w i 0)) 10 (omega (arith, d))) ∙ c.loop-b.invariant.1,
      ap (λ (v : ℕ). after v (drop (i + 1) w)) (total.1 ∙ ap (λ (v : ℕ). v + c.in_ok-d.d) product.1) ∙ after_on c.loop-b.value _ w i (omega arith) d ∙ c.loop-b.invariant.2,
    )

pub returns : goal.returns
returns c =
    let w = c.args.word.now in
    let i = c.loop-b.b-index in
    a_number w c.loop-b.value (sym c.loop-b.invariant.1 ∙ every_end is_decimal w i (omega arith)) (sym (after_end c.loop-b.value w i (omega arith)) ∙ c.loop-b.invariant.2) c.loop-b.invariant.0
