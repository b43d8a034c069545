-- `seen`: above the largest there is nothing to look for.
use mathlib.Core.Path.{sym, ◌∙◌}
use mathlib.Core.List.{map}
use borrow.Author.Tests.{lt-leb}
use Rattle.packed.proofs.Laws.Member.{member_above}
use Rattle.lot_file.specs.Good.{row_in, numbers_of}
use Rattle.lot_file.proofs.contents.seen.Goals as goal

pub returns-else-number-largest : goal.returns-else-number-largest
returns-else-number-largest c =
    lt-leb c.args.number c.args.largest c.if-number-largest.false
    ∙ sym (member_above c.args.largest c.args.number (numbers_of (map row_in c.args.rows.now)) c.requires c.if-number-largest.false)
