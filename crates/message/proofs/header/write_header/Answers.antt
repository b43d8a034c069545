-- `write_header`: head and runs, one behind the other.
use mathlib.Core.Path.{ap, ◌∙◌}
use mathlib.Core.List.{List}
use Prim.Native.Nat.{ℕ}
use lib.Seq.{sets}
use Rattle.packed.specs.Writing.{packed_bytes}
use Rattle.codes.specs.Field.{table_written}
use Rattle.message.specs.Inner.Route.{written_route}
use Rattle.message.specs.Header.{header_fields}
use Rattle.message.proofs.header.write_header.Goals as goal

pub returns : goal.returns
unfolding packed_bytes table_written header_fields
returns c =
    c.put-4.ensures
    ∙ ap (λ (d : List ℕ). sets d 18 (packed_bytes 1 0)) (c.put-3.ensures
    ∙ ap (λ (d : List ℕ). sets d 16 (packed_bytes 2 c.args.h.number)) (c.put-2.ensures
    ∙ ap (λ (d : List ℕ). sets d 14 (packed_bytes 2 c.args.h.centre)) (c.write_route.ensures
    ∙ ap (λ (d : List ℕ). sets d 7 (written_route c.args.route)) (c.put.ensures
    ∙ ap (λ (d : List ℕ). sets d 3 (packed_bytes 4 c.args.h.time)) c.write_head.ensures))))
