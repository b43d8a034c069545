-- `begin`: the answer is there before anything is written; where it stops nothing, a serial is left and the envelope has room.
use mathlib.Core.Path.{sym, ◌∙◌}
use native.Mathlib.Omega.{arith}
use Rattle.codes.specs.Code.{code_number}
use Rattle.session.specs.Running.{empty}
use Rattle.session.specs.Outcome.{held}
use Rattle.session.proofs.Laws.Refusals.{SendTold, send_told}
use Rattle.presenting.proofs.post.begin.Goals as goal
use Rattle.presenting.proofs.post.begin.Goals.{Else-send_number-ne0}

-- nothing stops it
told : (t : goal.Else-send_number-ne0) → SendTold (code_number t.args.code) t.args.bytes (held t.args.session empty t.args.line.now)
told t =
    send_told t.args.time (code_number t.args.code) t.args.bytes (held t.args.session empty t.args.line.now) (sym t.send_answer-answer.ensures.number ∙ (sym t.send_number.ensures ∙ t.if-send_number-ne0.false))

pub post-requires-clause-serial_lt_largest_serial : goal.post-requires-clause-serial_lt_largest_serial
post-requires-clause-serial_lt_largest_serial c = (told (goal.at.post-requires-clause-serial_lt_largest_serial c).Else-send_number-ne0).more

pub post-requires-clause-envelope_bytes_in_bounds : goal.post-requires-clause-envelope_bytes_in_bounds
post-requires-clause-envelope_bytes_in_bounds c =
    omega (arith, (told (goal.at.post-requires-clause-envelope_bytes_in_bounds c).Else-send_number-ne0).room, c.requires)
