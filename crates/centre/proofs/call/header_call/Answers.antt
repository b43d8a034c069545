-- `header_call`: what the send says, of the centre.
use mathlib.Core.Path.{◌∙◌}
use Rattle.session.specs.Sending.{Send}
use Rattle.session.specs.Parties.{Direction}
use Rattle.session.specs.Engine.{Call, meaning}
use Rattle.centre.specs.Turn.{engine_of}
use Rattle.centre.proofs.Laws.{same_running, by_meaning}
use Rattle.centre.proofs.call.header_call.Goals as goal

pub sent-requires : goal.sent-requires
sent-requires c = same_running Direction.presenting c.send_header.ensures.premise c.args.c.ready.presenting

pub returns : goal.returns
unfolding meaning
returns c = c.sent.ensures _ ∙ by_meaning (Call.send c.args.time (Send.header c.args.moment c.args.office c.args.number)) c.args.line.now (engine_of c.args.c) (c.send_header.ensures.outcome _)
