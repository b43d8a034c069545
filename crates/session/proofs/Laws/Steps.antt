-- Laws of calls at two ends: which engine a call changes and whose ledger it enters; and of lists of calls, one behind the other, which lead where the
-- second leads from where the first did, and are possible where each is.
use mathlib.Core.Path.{◌≡◌, refl, ap, sym, subst}
use mathlib.Core.Bool.{Bool, true, ◌&&◌, cond}
use mathlib.Core.List.{List, [], ◌∷◌, ◌++◌}
use Prim.Native.Nat.{ℕ}
use borrow.Author.Tests.{eq-eqb}
use Rattle.session.specs.Engine.{Call, Engine}
use Rattle.session.specs.Ends.{End, other, Event, World, replaced, Step, act, run, Possible}
use Rattle.session.specs.Entering.{presenter_enters, same_end, presenter_ledger_at}

-- the engine of its own end, and not the other one
pub changed : (x : End) (e : Engine) (engine : End → Engine) → replaced x e engine x ≡ e
changed End.near e engine = refl
changed End.far e engine = refl

pub unchanged : (x : End) (e : Engine) (engine : End → Engine) → replaced x e engine (other x) ≡ engine (other x)
unchanged End.near e engine = refl
unchanged End.far e engine = refl

pub unchanged_here : (x : End) (e : Engine) (engine : End → Engine) → replaced (other x) e engine x ≡ engine x
unchanged_here End.near e engine = refl
unchanged_here End.far e engine = refl

-- what holds of an end and of the other one holds of every end
pub every_end : (Q : End → Engine → Type 0) (p : End) (engine : End → Engine) → Q p (engine p) → Q (other p) (engine (other p)) → (x : End) → Q x (engine x)
every_end Q End.near engine here there End.near = here
every_end Q End.near engine here there End.far = there
every_end Q End.far engine here there End.far = here
every_end Q End.far engine here there End.near = there

-- so what holds of the engine after a call, and of the other end, holds of both
pub both_ends : (Q : End → Engine → Type 0) (x : End) (e : Engine) (engine : End → Engine) → Q x e → Q (other x) (engine (other x)) → (y : End) → Q y (replaced x e engine y)
both_ends Q x e engine here there = every_end Q x (replaced x e engine) (subst (Q x) (sym (changed x e engine)) here) (subst (Q (other x)) (sym (unchanged x e engine)) there)

-- a call that is not refused enters the presenter's ledger of its end
pub at_its_end : (p : End) (call : Call) (number : ℕ) (written : List ℕ) (earlier : List Event) → number ≡ 0 → presenter_ledger_at p (record { at = p; call = call; said = record { number = number; bytes = written } } ∷ earlier) ≡ presenter_enters call written (presenter_ledger_at p earlier)
unfolding presenter_ledger_at
at_its_end p call number written earlier z =
    ap (λ (t : Bool). cond t (presenter_enters call written (presenter_ledger_at p earlier)) (presenter_ledger_at p earlier)) (λ i. itself p i && eq-eqb number 0 z i)
  where
    itself : (x : End) → same_end x x ≡ true
    itself End.near = refl
    itself End.far = refl

-- lists
pub run_append : (first second : List Step) (w : World) → run (first ++ second) w ≡ run second (run first w)
unfolding run
run_append [] second w = refl
run_append (s ∷ first) second w = run_append first second (act s w)

pub possible_append : (first second : List Step) (w : World) → Possible first w → Possible second (run first w) → Possible (first ++ second) w
unfolding run Possible
possible_append [] second w p q = q
possible_append (s ∷ first) second w p q = (p.0, possible_append first second (act s w) p.1 q)
