-- What always holds of a centre: the premise of every call.
use Rattle.session.specs.declared.running.Running.{Running}
use Rattle.session.specs.declared.session.Session.{Session}
use Rattle.session.specs.Engine.{Ready}

-- of a session with the running totals of both directions
abbrev pub IsReady : (session : Session) (presenting receiving : Running) → Type 0
IsReady session presenting receiving = Ready (record { session = session; presenting = presenting; receiving = receiving })
