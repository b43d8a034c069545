-- A part of a line of 'Order' that one function answers for.
use Rattle.std.specs.Prelude.{ℕ, suc, not, ◌||◌, eqb}
use Rattle.codes.specs.Chain.{◌when◌, ◌orelse◌}
use Rattle.message.specs.declared.envelope.Envelope.{Envelope}
use Rattle.message.specs.declared.route.Route.{Route}
use Rattle.message.specs.Limits.{reply_room}
use Rattle.message.specs.Route.{same_route}
use Rattle.session.specs.Outcome.{no_room}

-- receiving: what a good envelope decides
abbrev pub of_envelope : Envelope → (last room : ℕ) → Route → ℕ
of_envelope e last room route =
    33 when not (same_route e.route route)
    orelse 35 when not (eqb e.serial last || eqb e.serial (suc last))
    orelse 23 when no_room reply_room room
