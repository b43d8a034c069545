-- `call_at`: by whether the end has a session.
use Rattle.std.proofs.Common.{ℕ, take, ap, ◌∙◌}
use Rattle.centre.specs.Turn.{call_of, engine_of}
use Rattle.script.specs.Player.{seat_of}
use Rattle.script.proofs.Laws.Player.{called_there, called_none, wrote_there, wrote_none}
use Rattle.script.proofs.player.call_at.Goals as goal

pub returns-in_default : goal.returns-in_default
returns-in_default c =
    let call = call_of c.args.order c.args.bytes.now in
    let none = ap seat_of c.in_default.is in
    record { outcome = ap seat_of c.untouched.ensures.0 ∙ called_none call c.args.line.now (seat_of c.args.seat) none; written = ap (λ (n : ℕ). take n c.args.line.now) c.untouched.ensures.1 ∙ wrote_none call c.args.line.now (seat_of c.args.seat) none }

pub returns : goal.returns
returns c =
    let call = call_of c.args.order c.args.bytes.now in
    let there = ap seat_of c.in-Some.is in
    let said = c.perform-turn.ensures in
    record { outcome = called_there call c.args.line.now (seat_of c.args.seat) (engine_of c.in-Some.centre) there said; written = wrote_there call c.args.line.now (seat_of c.args.seat) (engine_of c.in-Some.centre) there said }
