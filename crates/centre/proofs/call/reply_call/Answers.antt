-- `reply_call`: what the reply call says, of the centre.
use mathlib.Core.Path.{◌∙◌, refl}
use mathlib.Core.List.{List}
use Prim.Native.Nat.{ℕ}
use Rattle.session.specs.Engine.{Call, meaning}
use Rattle.centre.specs.Turn.{engine_of}
use Rattle.centre.proofs.Laws.{together, by_meaning}
use Rattle.centre.proofs.call.reply_call.Goals as goal

pub returns : goal.returns
unfolding meaning
returns c = λ (line : List ℕ). together c.answer_number.ensures refl c.with_presented.ensures line ∙ by_meaning (Call.reply c.args.time c.args.reply.now) line (engine_of c.args.c) (c.take_reply-outcome.ensures.outcome line)
