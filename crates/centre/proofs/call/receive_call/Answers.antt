-- `receive_call`: what receiving says, of the centre.
use mathlib.Core.Path.{◌∙◌, refl}
use Rattle.session.specs.Engine.{Call, meaning}
use Rattle.centre.specs.Turn.{engine_of}
use Rattle.centre.proofs.Laws.{together, by_meaning}
use Rattle.centre.proofs.call.receive_call.Goals as goal

pub returns : goal.returns
unfolding meaning
returns c = together c.answer_number.ensures refl c.with_received.ensures _ ∙ by_meaning (Call.receive c.args.time c.args.message.now) c.args.line.now (engine_of c.args.c) c.receive-outcome.ensures.outcome
