-- `has_room`: there is none behind the end of the contents.
use Rattle.text.proofs.Laws.Held.{room_none, room_left}
use native.Mathlib.Omega.{arith}
use Rattle.text.proofs.wire.has_room.Goals as goal

pub returns-then-used-gt-CONTENTS : goal.returns-then-used-gt-CONTENTS
returns-then-used-gt-CONTENTS c = room_none c.args.m c.args.size c.args.lent c.if-used-gt-CONTENTS.true

pub returns : goal.returns
returns c = room_left c.args.m c.args.size c.args.lent (omega (arith, c.if-used-gt-CONTENTS.false))
