-- `answered`: what receiving wrote lies within the reply buffer; the rest is put together from the two calls.
use mathlib.Core.Path.{refl}
use mathlib.Core.List.{[]}
use native.Mathlib.Omega.{arith}
use lib.ListN.{length-take}
use Rattle.session.specs.Engine.{Call}
use Rattle.centre.specs.Turn.{engine_of}
use Rattle.exchange.proofs.Laws.Written.{written_within}
use Rattle.exchange.proofs.Laws.Rounds.{replied, unreplied}
use Rattle.exchange.proofs.rounds.answered.Goals as goal

pub slice_bounds-reply_call-end : goal.slice_bounds-reply_call-end
slice_bounds-reply_call-end c =
    omega (arith, written_within (Call.receive c.args.time c.args.message.now) c.args.reply.now (engine_of c.args.receiver) _ c.receive_call-heard.ensures, c.receive_call-heard.auto.line)

pub slice_bounds-reply_call-end-then-heard-eq0 : goal.slice_bounds-reply_call-end-then-heard-eq0
slice_bounds-reply_call-end-then-heard-eq0 c = simp length-take (omega (arith, slice_bounds-reply_call-end c))

pub returns-then-heard-eq0 : goal.returns-then-heard-eq0
returns-then-heard-eq0 c =
    record { outcome = replied c.args.time c.args.message.now c.args.reply.now (engine_of c.args.presenter) (engine_of c.args.receiver) _ c.receive_call-heard.ensures _ c.if-heard-eq0.true (c.reply_call-told.ensures []); unsent = refl }

pub returns : goal.returns
returns c =
    record { outcome = unreplied c.args.time c.args.message.now c.args.reply.now (engine_of c.args.presenter) (engine_of c.args.receiver) _ c.receive_call-heard.ensures c.if-heard-eq0.false; unsent = refl }
