-- `send_header`: once the send has begun, the body goes into the tail of the line buffer.
use mathlib.Core.Path.{refl, ap, sym}
use Rattle.message.specs.declared.route.Route.{Route}
use Rattle.message.specs.Limits.{header_bytes}
use Rattle.message.specs.Line.{body_bytes}
use Rattle.message.proofs.Laws.Line.{body_length}
use Rattle.session.specs.declared.effect.Effect.{Effect}
use Rattle.session.specs.declared.running.Running.{Running}
use Rattle.session.specs.Parties.{presenting_route}
use Rattle.session.specs.Running.{empty}
use Rattle.session.specs.Outcome.{held}
use Rattle.session.specs.Sending.{header_body, Send}
use Rattle.session.proofs.Laws.Allowed.{header_sound}
use Rattle.presenting.proofs.Laws.Send.{Unlent, opened_unlent, stopped_unlent, posted_unlent}
use Rattle.presenting.proofs.sending.send_header.Goals as goal
use Rattle.presenting.proofs.sending.send_header.Goals.{After-is_unstopped}

known : (k : goal.After-is_unstopped) → Unlent (record { time = k.args.time; message = Send.header k.args.moment k.args.centre k.args.number; lent = held k.args.session empty k.args.line.now }) header_bytes k.begin-begun.new.line k.begin-begun.result
known k =
    record {
      each =
          λ u.
          record {
            code = _;
            effect = Effect.Header k.args.number;
            begun = k.begin-begun.ensures;
            same = k.header_stop-code.ensures;
            body = λ e. sym (body_length (presenting_route k.args.session.parties) (header_body k.args.moment k.args.centre k.args.number));
            awaits = λ e. refl;
          };
      sound = header_sound k.args.time k.args.moment k.args.centre k.args.number k.args.session.presenting;
      carried = λ u. tt;
    }

pub slice_bounds-write_header-count : goal.slice_bounds-write_header-count
slice_bounds-write_header-count c = (opened_unlent (known (goal.at.slice_bounds-write_header-count c).After-is_unstopped) c.is_unstopped.ensures c.if-not-is_unstopped.false).tail

pub slice_bounds-write_header-start : goal.slice_bounds-write_header-start
slice_bounds-write_header-start c = slice_bounds-write_header-count c

pub write_header-requires : goal.write_header-requires
write_header-requires c = (opened_unlent (known (goal.at.write_header-requires c).After-is_unstopped) c.is_unstopped.ensures c.if-not-is_unstopped.false).room

pub returns : goal.returns
unfolding body_bytes
returns c =
    let body = ap (λ (r : Route). body_bytes r (header_body c.args.moment c.args.centre c.args.number)) c.presenting_route-route.ensures in
    let told = posted_unlent (known (goal.at.returns c).After-is_unstopped) c.is_unstopped.ensures c.requires c.if-not-is_unstopped.false (λ (u : Running). body) c.write_header.ensures in
    record { outcome = told.0; premise = told.1 }

pub returns-then-not-is_unstopped : goal.returns-then-not-is_unstopped
returns-then-not-is_unstopped c = let told = stopped_unlent (known (goal.at.returns-then-not-is_unstopped c).After-is_unstopped) c.is_unstopped.ensures c.requires c.if-not-is_unstopped.true in record { outcome = told.0; premise = told.1 }
