-- A route is told by its three numbers.
use mathlib.Core.Path.{◌≡◌, refl}
use mathlib.Core.Bool.{true, ◌&&◌}
use lib.Dec.{eqb}
use borrow.Author.Tests.{eqb-true, eq-eqb}
use Rattle.packed.proofs.Laws.Told.{three}
use Rattle.message.specs.declared.route.Route.{Route}
use Rattle.message.specs.Route.{same_route}

pub same : (r s : Route) → same_route r s ≡ true → r ≡ s
same r s e =
    let all = three (eqb r.date s.date) (eqb r.presenting s.presenting) (eqb r.receiving s.receiving) e in
    λ i. record { date = eqb-true r.date s.date all.0 i; presenting = eqb-true r.presenting s.presenting all.1 i; receiving = eqb-true r.receiving s.receiving all.2 i }

pub same_itself : (r : Route) → same_route r r ≡ true
same_itself r = λ i. eq-eqb r.date r.date refl i && eq-eqb r.presenting r.presenting refl i && eq-eqb r.receiving r.receiving refl i
