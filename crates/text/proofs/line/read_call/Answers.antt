-- `read_call`: a call is what its end and its parts say, where they are whole.
use Rattle.std.proofs.Common.{Option, length, subst, ap, sym, arith}
use Rattle.text.specs.declared.kind.Shape.{Shape}
use Rattle.text.specs.declared.line.Line.{Line}
use Rattle.text.specs.Memory.{recalled}
use Rattle.text.specs.Word.{words}
use Rattle.text.specs.Inner.Line.{CallRead}
use Rattle.text.proofs.Laws.Line.{no_end, no_parts, no_room, call_said}
use Rattle.text.proofs.line.read_call.Goals as goal

pub returns-in_err-near : goal.returns-in_err-near
returns-in_err-near c =
    let held = recalled c.args.kept.memory c.args.kept.wire.now in
    let most = length c.args.bytes.now in
    let ws = words c.args.line.now in
    subst (λ (r : Option Line). CallRead held most c.args.kind ws c.args.bytes.now r) (sym c.from_residual.ensures) (no_end held most c.args.kind ws c.in_err-near.ensures)

pub returns-in_err-parts : goal.returns-in_err-parts
returns-in_err-parts c =
    let held = recalled c.args.kept.memory c.args.kept.wire.now in
    let most = length c.args.bytes.now in
    let s = c.shape_of-shape.result in
    let ws = words c.args.line.now in
    subst (λ (r : Option Line). CallRead held most c.args.kind ws c.read_parts.new.bytes r) (sym c.from_residual-in_err-parts.ensures) (no_parts held most c.args.kind ws s c.shape_of-shape.ensures.shape c.in_ok-near.field-0 c.in_ok-near.ensures c.in_err-parts.ensures)

pub returns-then-room : goal.returns-then-room
returns-then-room c =
    let held = recalled c.args.kept.memory c.args.kept.wire.now in
    let most = length c.args.bytes.now in
    let s = c.shape_of-shape.result in
    let ws = words c.args.line.now in
    no_room held most c.args.kind ws s c.shape_of-shape.ensures.shape c.in_ok-near.field-0 c.in_ok-near.ensures _ c.in_ok-parts.parts c.in_ok-parts.ensures _ c.room_in-room.ensures c.if-room.true

pub returns : goal.returns
returns c =
    let held = recalled c.args.kept.memory c.args.kept.wire.now in
    let most = length c.args.bytes.now in
    let s = c.shape_of-shape.result in
    let ws = words c.args.line.now in
    let parts = c.in_ok-parts.ensures in record {
      said = call_said held most c.args.kind ws s c.shape_of-shape.ensures.shape c.in_ok-near.field-0 c.in_ok-near.ensures _ c.in_ok-parts.parts parts _ c.room_in-room.ensures c.if-room.false;
      bounds = record { size = parts.size; asked = omega (arith, parts.asked, ap (λ (x : Shape). x.asked) c.shape_of-shape.ensures.shape); count = parts.count; bytes = parts.bytes; room = c.if-room.false };
    }
