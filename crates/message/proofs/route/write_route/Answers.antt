-- `write_route`: three runs, one behind the other.
use mathlib.Core.Path.{refl, ◌∙◌}
use mathlib.Core.List.{◌++◌}
use Prim.Native.Nat.{◌+◌}
use Rattle.packed.specs.Writing.{packed_bytes}
use Rattle.packed.proofs.Laws.Writing.{sets_behind}
use Rattle.message.proofs.route.write_route.Goals as goal

pub returns : goal.returns
unfolding packed_bytes
returns c =
    let date = packed_bytes 3 c.args.r.date in
    let presenting = packed_bytes 2 c.args.r.presenting in
    let receiving = packed_bytes 2 c.args.r.receiving in
    let two = c.put-2.ensures ∙ sets_behind date presenting c.args.out.now c.put.new.d c.args.at (c.args.at + 3) c.put.ensures refl in
    c.put-3.ensures ∙ sets_behind (date ++ presenting) receiving c.args.out.now c.put-2.new.d c.args.at (c.args.at + 5) two refl
