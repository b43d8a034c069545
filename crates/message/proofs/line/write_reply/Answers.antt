-- `write_reply` lends the tail behind the envelope.
use mathlib.Core.Path.{refl}
use native.Mathlib.Omega.{arith}
use Rattle.packed.specs.Writing.{packed_bytes}
use Rattle.codes.specs.Field.{table_written}
use Rattle.message.specs.Limits.{envelope_bytes}
use Rattle.message.specs.declared.envelope.Kind.{Kind}
use Rattle.message.specs.Envelope.{envelope_fields, written_envelope}
use Rattle.message.specs.Reply.{written_reply_body}
use Rattle.message.proofs.Laws.Buffer.{both_written}
use Rattle.message.proofs.line.write_reply.Goals as goal

pub returns : goal.returns
unfolding table_written envelope_fields packed_bytes
returns c =
    both_written c.args.line.now c.write_envelope.new.line c.write_reply_body.new.out (written_envelope Kind.Reply c.args.e) (written_reply_body c.args.r) envelope_bytes refl (omega (arith, c.requires)) c.write_envelope.ensures c.write_reply_body.ensures
