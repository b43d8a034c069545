-- `written_bytes`: a group is begun by each 204 bytes, and by what is left.
use mathlib.Core.Path.{sym, ◌∙◌}
use native.Mathlib.Omega.{arith}
use Rattle.detail.proofs.Laws.Writing.{written_bytes_lem}
use Rattle.detail.proofs.writing.written_bytes.Goals as goal

pub returns-clause-length : goal.returns-clause-length
returns-clause-length c = λ _ operation. omega arith ∙ sym (written_bytes_lem operation c.args.part.now)
