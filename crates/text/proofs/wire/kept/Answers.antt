-- `kept`: the bytes behind those before them, and an entry of their number and their end.
use lib.ListN.{length}
use native.Mathlib.Omega.{arith}
use Rattle.text.proofs.Laws.Held.{room_told, keeps}
use mathlib.Core.Path.{refl}
use Rattle.text.proofs.wire.kept.Goals as goal

pub overflow_add-numbered : goal.overflow_add-numbered
overflow_add-numbered c = omega (arith, room_told c.args.m (length c.args.written.now) (length c.args.wire.now) c.requires)

pub overflow_add-end : goal.overflow_add-end
overflow_add-end c = omega (arith, room_told c.args.m (length c.args.written.now) (length c.args.wire.now) c.requires)

pub overflow_mul-entry : goal.overflow_mul-entry
overflow_mul-entry c = omega (arith, room_told c.args.m (length c.args.written.now) (length c.args.wire.now) c.requires)

pub overflow_add-entry : goal.overflow_add-entry
overflow_add-entry c = omega (arith, room_told c.args.m (length c.args.written.now) (length c.args.wire.now) c.requires)

pub copy-requires : goal.copy-requires
copy-requires c = omega (arith, room_told c.args.m (length c.args.written.now) (length c.args.wire.now) c.requires)

pub put-requires : goal.put-requires
put-requires c = (omega (arith, c.copy.auto.d, room_told c.args.m (length c.args.written.now) (length c.args.wire.now) c.requires))

pub overflow_add-entry-2 : goal.overflow_add-entry-2
overflow_add-entry-2 c = omega (arith, room_told c.args.m (length c.args.written.now) (length c.args.wire.now) c.requires)

pub put-requires-2 : goal.put-requires-2
put-requires-2 c = omega (arith, c.put.auto.d, c.copy.auto.d, room_told c.args.m (length c.args.written.now) (length c.args.wire.now) c.requires)

pub overflow_add-result : goal.overflow_add-result
overflow_add-result c = omega (arith, room_told c.args.m (length c.args.written.now) (length c.args.wire.now) c.requires)

pub returns : goal.returns
returns c =
    let room = room_told c.args.m (length c.args.written.now) (length c.args.wire.now) c.requires in
    λ ws so. keeps c.args.m c.args.wire.now c.args.written.now ws so _ _ _ _ c.copy.ensures c.put.ensures c.put-2.ensures room.0 room.1 room.2 (omega arith) (omega (arith, room)) _ refl refl refl
