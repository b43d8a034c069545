-- What handling a new message leaves: the direction, and the running totals beside it.
use Rattle.std.specs.Prelude.{ℕ, List}
use Rattle.session.specs.declared.parties.Parties.{Parties}
use Rattle.session.specs.declared.running.Running.{Running}
use Rattle.session.specs.declared.session.Receiving.{Receiving}
use Rattle.session.specs.Receiving.{earned_code, receiving_course, receiving_after}

-- its direction, by the code that it earns
abbrev pub new_receiving : (time : ℕ) (body : List ℕ) → Parties → Running → Receiving → Receiving
new_receiving time body p running r = receiving_after (earned_code time body p running r) body running r

-- and the running totals
abbrev pub new_running : (time : ℕ) (body : List ℕ) → Parties → Running → Receiving → Running
new_running time body p running r = (receiving_course (earned_code time body p running r) body running r).running
