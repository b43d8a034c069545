-- `detail_call`: what the send says, of the centre.
use mathlib.Core.Path.{◌∙◌}
use Rattle.session.specs.Sending.{Send}
use Rattle.session.specs.Engine.{Call, meaning}
use Rattle.centre.specs.Turn.{engine_of}
use Rattle.centre.proofs.Laws.{by_meaning}
use Rattle.centre.proofs.call.detail_call.Goals as goal

pub returns : goal.returns
unfolding meaning
returns c = c.sent.ensures _ ∙ by_meaning (Call.send c.args.time (Send.detail c.args.operation c.args.part.now)) c.args.line.now (engine_of c.args.c) c.send_detail.ensures.outcome
