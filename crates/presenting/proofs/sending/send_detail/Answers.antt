-- `send_detail`: as `send_header`, with the documents of a part.
use mathlib.Core.Path.{ap, ◌∙◌}
use Prim.Native.Nat.{ℕ}
use native.Mathlib.Omega.{arith}
use lib.ListN.{length}
use Rattle.packed.specs.Writing.{packed_byte}
use Rattle.codes.proofs.Laws.Chain.{none_both}
use Rattle.detail.specs.Codes.{presenter_code}
use Rattle.detail.specs.Writing.{written_detail}
use Rattle.detail.proofs.Laws.Codes.{sendable_part, accepted_part}
use Rattle.session.specs.declared.effect.Effect.{Effect}
use Rattle.session.specs.Outcome.{held}
use Rattle.session.specs.Sending.{detail_stop, Send}
use Rattle.presenting.proofs.Laws.Send.{Beginning, opened, stopped_told, posted_told}
use Rattle.presenting.proofs.sending.send_detail.Goals as goal
use Rattle.presenting.proofs.sending.send_detail.Goals.{After-is_unstopped}

known : (k : goal.After-is_unstopped) → Beginning (record { time = k.args.time; message = Send.detail k.args.operation k.args.part.now; lent = held k.args.session k.args.running k.args.line.now }) k.written_bytes-bytes.result k.begin-begun.new.line k.begin-begun.result
unfolding detail_stop
known k =
    let partner = k.args.session.parties.partner in
    record {
      code = _;
      effect = Effect.Detail k.detail_stop-stop.result.adds;
      begun = k.begin-begun.ensures;
      same = k.detail_stop-stop.ensures.code;
      body =
          λ e.
          let may = sendable_part k.args.operation k.args.part.now (accepted_part k.args.operation partner k.args.part.now (none_both (presenter_code k.args.operation partner k.args.part.now) _ e).0).0 in
          k.written_bytes-bytes.ensures.length (omega (arith, may.whole, may.most)) (packed_byte k.args.operation);
      awaits = λ e. ap Effect.Detail (k.detail_stop-stop.ensures.adds (k.detail_stop-stop.ensures.code ∙ e));
    }

pub slice_bounds-write_detail-count : goal.slice_bounds-write_detail-count
slice_bounds-write_detail-count c = (opened (known (goal.at.slice_bounds-write_detail-count c).After-is_unstopped) c.is_unstopped.ensures c.if-not-is_unstopped.false).tail

pub slice_bounds-write_detail-start : goal.slice_bounds-write_detail-start
slice_bounds-write_detail-start c = slice_bounds-write_detail-count c

pub write_detail-requires : goal.write_detail-requires
write_detail-requires c =
    let fits = (opened (known (goal.at.write_detail-requires c).After-is_unstopped) c.is_unstopped.ensures c.if-not-is_unstopped.false).fits in
    omega (arith, fits, ap (λ (o : ℕ). length (written_detail o c.args.part.now)) c.packed_byte.ensures)

pub returns : goal.returns
returns c =
    let body = ap (λ (o : ℕ). written_detail o c.args.part.now) c.packed_byte.ensures in
    let told = posted_told (known (goal.at.returns c).After-is_unstopped) c.is_unstopped.ensures c.requires.sound c.requires.carried c.if-not-is_unstopped.false body c.write_detail.ensures.bytes in
    record { outcome = told.0; premise = told.1 }

pub returns-then-not-is_unstopped : goal.returns-then-not-is_unstopped
returns-then-not-is_unstopped c = let told = stopped_told (known (goal.at.returns-then-not-is_unstopped c).After-is_unstopped) c.is_unstopped.ensures c.requires.sound c.requires.carried c.if-not-is_unstopped.true in record { outcome = told.0; premise = told.1 }
