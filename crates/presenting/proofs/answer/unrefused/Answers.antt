-- `unrefused`: the code, then the room.
use mathlib.Core.Path.{ap, sym, ◌∙◌}
use mathlib.Core.Bool.{Bool}
use native.Mathlib.Omega.{arith}
use borrow.Author.Tests.{lt-ltb, le-ltb, eqb-true, eqb-false}
use Rattle.codes.specs.Chain.{◌when◌}
use Rattle.codes.specs.Code.{code_number}
use Rattle.codes.proofs.Laws.Chain.{ends, goes_on}
use Rattle.session.specs.Outcome.{no_room}
use Rattle.presenting.proofs.answer.unrefused.Goals as goal

pub returns-then-not-is_accepted-clause-number : goal.returns-then-not-is_accepted-clause-number
returns-then-not-is_accepted-clause-number c =
    let code = code_number c.args.code in
    let stopped = eqb-false code 0 (sym c.if-not-is_accepted.ensures) in
    sym (ends code (23 when no_room c.args.bytes c.args.room) (omega (arith, stopped)))

pub returns-then-room-bytes-clause-number : goal.returns-then-room-bytes-clause-number
unfolding ◌when◌
returns-then-room-bytes-clause-number c =
    let code = code_number c.args.code in
    let none = eqb-true code 0 (sym c.if-not-is_accepted.ensures) in
    sym (goes_on code (23 when no_room c.args.bytes c.args.room) none ∙ ap (λ (b : Bool). 23 when b) (lt-ltb c.args.room c.args.bytes c.if-room-bytes.true))

pub returns-clause-number : goal.returns-clause-number
unfolding ◌when◌
returns-clause-number c =
    let code = code_number c.args.code in
    let none = eqb-true code 0 (sym c.if-not-is_accepted.ensures) in
    sym (goes_on code (23 when no_room c.args.bytes c.args.room) none ∙ ap (λ (b : Bool). 23 when b) (le-ltb c.args.room c.args.bytes (omega (arith, c.if-room-bytes.false))))
