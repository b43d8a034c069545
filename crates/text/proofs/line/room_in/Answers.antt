-- `room_in`: by whether the line says it.
use Rattle.text.proofs.Laws.Line.{room_said, room_not}
use Rattle.text.proofs.line.room_in.Goals as goal

pub returns-then-shape-count : goal.returns-then-shape-count
returns-then-shape-count c = room_said c.args.shape c.args.numbers c.args.count c.requires.count_in_bounds c.if-shape-count.true

pub returns : goal.returns
returns c = room_not c.args.shape c.args.numbers c.args.count c.requires.count_in_bounds c.if-shape-count.false
