-- `all_digits`: where the sweep finds digits, each run within it is digits.
use mathlib.Core.Path.{sym, ◌∙◌}
use native.Mathlib.Omega.{arith}
use Rattle.packed.proofs.Laws.Digits.{digits_inside}
use Rattle.document.proofs.digits.all_digits.Goals as goal

pub returns-then-sweep : goal.returns-then-sweep
returns-then-sweep c =
    let d = c.args.d.now in
    let all = sym c.sweep.ensures ∙ c.if-sweep.true in
    let inside = digits_inside 0 47 in
    record { fields = rw (inside 0 25 d (omega arith) all, inside 31 12 d (omega arith) all); amounts = rw (inside 25 6 d (omega arith) all, inside 43 4 d (omega arith) all) }
