-- `number2` takes both bytes as one number.
use Rattle.std.proofs.Common.{◌≡◌, ℕ, ◌+◌, ◌*◌, get_or, ap, sym, ◌∙◌, arith}
use Rattle.packed.specs.Number.{byte_value}
use Rattle.packed.proofs.Laws.Number.{number_one, number_step, two_bytes}
use Rattle.packed.proofs.number.number2.Goals as goal

pub returns : goal.returns
returns c =
    let s = c.args.s.now in
    let at = c.args.at in
    let high = get_or s at 0 in
    let low = get_or s (at + 1) 0 in
    let both : c.from_be_bytes-both.result ≡ high * 256 + low = omega (arith, c.from_be_bytes-both.ensures) in
    rw both
    (two_bytes high low (c.type_inv.s (at + 1)).fits
    ∙ ap (λ (v : ℕ). v * 100 + byte_value low) (sym (number_one at s (omega arith)))
    ∙ sym (number_step at 1 s (omega arith)))
