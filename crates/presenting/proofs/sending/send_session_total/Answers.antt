-- `send_session_total`: as `send_header`, with the count of accepted lots and what they gathered.
use mathlib.Core.Path.{refl, ap, sym}
use Rattle.amounts.specs.declared.Totals.{Totals}
use Rattle.message.specs.Limits.{session_total_bytes}
use Rattle.message.specs.Line.{Body, body_bytes}
use Rattle.message.proofs.Laws.Line.{body_length}
use Rattle.session.specs.declared.effect.Effect.{Effect}
use Rattle.session.specs.declared.running.Running.{Running}
use Rattle.session.specs.Parties.{presenting_route}
use Rattle.session.specs.Running.{empty}
use Rattle.session.specs.Outcome.{held}
use Rattle.session.specs.Sending.{session_total_stop, session_total_body, Send}
use Rattle.presenting.proofs.Laws.Send.{Unlent, opened_unlent, stopped_unlent, posted_unlent}
use Rattle.presenting.proofs.sending.send_session_total.Goals as goal
use Rattle.presenting.proofs.sending.send_session_total.Goals.{After-is_unstopped}

known : (k : goal.After-is_unstopped) → Unlent (record { time = k.args.time; message = Send.session_total; lent = held k.args.session empty k.args.line.now }) session_total_bytes k.begin-begun.new.line k.begin-begun.result
unfolding session_total_stop
known k =
    record {
      each =
          λ u.
          record {
            code = _;
            effect = Effect.SessionTotal;
            begun = k.begin-begun.ensures;
            same = k.session_total_sequence-code.ensures;
            body = λ e. sym (body_length (presenting_route k.args.session.parties) (session_total_body k.args.session.presenting.counters));
            awaits = λ e. refl;
          };
      sound = λ e. tt;
      carried = λ u. tt;
    }

pub slice_bounds-write_session_total-count : goal.slice_bounds-write_session_total-count
slice_bounds-write_session_total-count c = (opened_unlent (known (goal.at.slice_bounds-write_session_total-count c).After-is_unstopped) c.is_unstopped.ensures c.if-not-is_unstopped.false).tail

pub slice_bounds-write_session_total-start : goal.slice_bounds-write_session_total-start
slice_bounds-write_session_total-start c = slice_bounds-write_session_total-count c

pub write_session_total-requires : goal.write_session_total-requires
write_session_total-requires c = (opened_unlent (known (goal.at.write_session_total-requires c).After-is_unstopped) c.is_unstopped.ensures c.if-not-is_unstopped.false).room

pub returns : goal.returns
unfolding body_bytes
returns c =
    let body = ap (λ (t : Totals). body_bytes (presenting_route c.args.session.parties) (Body.session_ending (record { number = c.args.session.presenting.counters.lots; stated = t }))) c.stated.ensures in
    let told = posted_unlent (known (goal.at.returns c).After-is_unstopped) c.is_unstopped.ensures c.requires c.if-not-is_unstopped.false (λ (u : Running). body) c.write_session_total.ensures in
    record { outcome = told.0; premise = told.1 }

pub returns-then-not-is_unstopped : goal.returns-then-not-is_unstopped
returns-then-not-is_unstopped c = let told = stopped_unlent (known (goal.at.returns-then-not-is_unstopped c).After-is_unstopped) c.is_unstopped.ensures c.requires c.if-not-is_unstopped.true in record { outcome = told.0; premise = told.1 }
