-- `number4` reads one byte after the other, each a step further.
use native.Mathlib.Omega.{arith}
use Rattle.packed.proofs.Laws.Number.{number_one, number_step}
use Rattle.packed.proofs.number.number4.Goals as goal

pub returns : goal.returns
returns c =
    omega (
      arith,
      number_one c.args.at c.args.s.now (omega arith),
      number_step c.args.at 1 c.args.s.now (omega arith),
      number_step c.args.at 2 c.args.s.now (omega arith),
      number_step c.args.at 3 c.args.s.now (omega arith),
    )
