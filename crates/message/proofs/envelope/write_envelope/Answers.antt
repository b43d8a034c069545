-- `write_envelope`: a store and two runs, one behind the other.
use mathlib.Core.Path.{ap, ◌∙◌}
use mathlib.Core.List.{List}
use Prim.Native.Nat.{ℕ}
use lib.ListN.{set}
use lib.Seq.{sets}
use Rattle.packed.specs.Writing.{packed_bytes}
use Rattle.codes.specs.Field.{table_written}
use Rattle.message.specs.Inner.Route.{written_route}
use Rattle.message.specs.Envelope.{envelope_fields}
use Rattle.message.proofs.envelope.write_envelope.Goals as goal

pub returns : goal.returns
unfolding packed_bytes table_written envelope_fields
returns c =
    c.put.ensures
    ∙ ap (λ (d : List ℕ). sets d 8 (packed_bytes 4 c.args.e.serial)) (c.write_route.ensures ∙ ap (λ (k : ℕ). sets (set c.args.line.now 0 k) 1 (written_route c.args.e.route)) c.kind_byte.ensures)
