-- `send_lot_total`: as `send_header`, with the open lot and what it gathered.
use mathlib.Core.Path.{sym}
use Rattle.message.specs.Limits.{lot_total_bytes}
use Rattle.message.specs.Line.{Body, body_bytes}
use Rattle.message.proofs.Laws.Line.{body_length}
use Rattle.session.specs.declared.effect.Effect.{Effect}
use Rattle.session.specs.Parties.{presenting_route}
use Rattle.session.specs.Outcome.{held}
use Rattle.session.specs.Sending.{lot_total_stop, lot_total_body, Send}
use Rattle.presenting.proofs.Laws.Send.{Beginning, opened, stopped_told, posted_told}
use Rattle.presenting.proofs.sending.send_lot_total.Goals as goal
use Rattle.presenting.proofs.sending.send_lot_total.Goals.{After-is_unstopped}

known : (k : goal.After-is_unstopped) → Beginning (record { time = k.args.time; message = Send.lot_total; lent = held k.args.session k.args.running k.args.line.now }) lot_total_bytes k.begin-begun.new.line k.begin-begun.result
unfolding lot_total_stop
known k =
    record {
      code = _;
      effect = Effect.LotTotal (record { number = k.open_number-number.result; gathered = k.args.running });
      begun = k.begin-begun.ensures;
      same = k.lot_sequence-code.ensures;
      body = λ e. sym (body_length (presenting_route k.args.session.parties) (lot_total_body k.args.session.presenting.counters k.args.running));
      awaits = λ e. λ i. Effect.LotTotal (record { number = k.open_number-number.ensures i; gathered = k.args.running });
    }

pub slice_bounds-write_lot_total-count : goal.slice_bounds-write_lot_total-count
slice_bounds-write_lot_total-count c = (opened (known (goal.at.slice_bounds-write_lot_total-count c).After-is_unstopped) c.is_unstopped.ensures c.if-not-is_unstopped.false).tail

pub slice_bounds-write_lot_total-start : goal.slice_bounds-write_lot_total-start
slice_bounds-write_lot_total-start c = slice_bounds-write_lot_total-count c

pub write_lot_total-requires : goal.write_lot_total-requires
write_lot_total-requires c = (opened (known (goal.at.write_lot_total-requires c).After-is_unstopped) c.is_unstopped.ensures c.if-not-is_unstopped.false).room

pub returns : goal.returns
unfolding body_bytes
returns c =
    let number = c.open_number-number.ensures in
    let told = posted_told (known (goal.at.returns c).After-is_unstopped) c.is_unstopped.ensures c.requires.sound c.requires.carried c.if-not-is_unstopped.false (λ i. body_bytes (presenting_route c.args.session.parties) (Body.lot_ending (record { number = number i; stated = c.stated.ensures i }))) c.write_lot_total.ensures in
    record { outcome = told.0; premise = told.1 }

pub returns-then-not-is_unstopped : goal.returns-then-not-is_unstopped
returns-then-not-is_unstopped c = let told = stopped_told (known (goal.at.returns-then-not-is_unstopped c).After-is_unstopped) c.is_unstopped.ensures c.requires.sound c.requires.carried c.if-not-is_unstopped.true in record { outcome = told.0; premise = told.1 }
