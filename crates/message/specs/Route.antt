-- 01, 'Envelope' and 'Header': the date and the two entities, which both carry side by side and which must be the session's.
use Rattle.std.specs.Prelude.{ℕ, Bool, ◌&&◌, List, [], ◌∷◌, eqb}
use Rattle.message.specs.declared.route.Route.{Route}

-- the numbers, in the order in which both carry them
abbrev pub route_values : Route → List ℕ
route_values r = r.date ∷ r.presenting ∷ r.receiving ∷ []

-- 33 otherwise: one date and one pair, in one direction
abbrev pub same_route : Route → Route → Bool
same_route r s = eqb r.date s.date && eqb r.presenting s.presenting && eqb r.receiving s.receiving
