-- `round`: what the presenter wrote lies within the message buffer; the rest is put together from its call and the answer.
use native.Mathlib.Omega.{arith}
use lib.ListN.{length-take}
use Rattle.centre.specs.Turn.{call_of, engine_of}
use Rattle.exchange.proofs.Laws.Written.{written_within}
use Rattle.exchange.proofs.Laws.Rounds.{heard, unheard}
use Rattle.exchange.proofs.rounds.round.Goals as goal

pub slice_bounds-answered-end : goal.slice_bounds-answered-end
slice_bounds-answered-end c =
    omega (arith, written_within (call_of c.args.order c.args.part.now) c.args.message.now (engine_of c.args.presenter) _ c.perform-turn.ensures, c.perform-turn.auto.line)

pub slice_bounds-answered-end-then-turn-eq0 : goal.slice_bounds-answered-end-then-turn-eq0
slice_bounds-answered-end-then-turn-eq0 c = simp length-take (omega (arith, slice_bounds-answered-end c))

pub returns-then-turn-eq0 : goal.returns-then-turn-eq0
returns-then-turn-eq0 c =
    heard (call_of c.args.order c.args.part.now) c.args.time c.args.message.now c.args.reply.now (engine_of c.args.presenter) (engine_of c.args.receiver) _ c.perform-turn.ensures _ _ c.if-turn-eq0.true c.answered.ensures.unsent c.answered.ensures.outcome

pub returns : goal.returns
returns c =
    unheard (call_of c.args.order c.args.part.now) c.args.time c.args.message.now c.args.reply.now (engine_of c.args.presenter) (engine_of c.args.receiver) _ c.perform-turn.ensures c.if-turn-eq0.false
