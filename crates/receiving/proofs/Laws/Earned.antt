-- What a body earns: an effect that stands for another moves the direction as the other does, what may be counted of it has a free place, and
-- how a reading that is accepted or wrong goes on in the chain.
use mathlib.Core.Path.{◌≡◌, refl, ap, sym, subst, ◌∙◌}
use mathlib.Core.Bool.{Bool, true, false, cond, false≢true}
use mathlib.Core.List.{List, [], ◌∷◌}
use Prim.Native.Nat.{ℕ, suc, ◌<◌}
use native.Mathlib.Omega.{arith}
use lib.Dec.{eqb}
use lib.ListN.{length}
use borrow.Author.Tests.{eqb-true}
use Rattle.std.specs.Prelude.{Option, None}
use Rattle.codes.specs.Chain.{◌orelse◌}
use Rattle.codes.specs.declared.code.Code.{Code}
use Rattle.codes.specs.Code.{code_number}
use Rattle.codes.proofs.Laws.Chain.{goes_on, ends as ends-chain}
use Rattle.message.specs.Content.{content_of}
use Rattle.message.specs.Reading.{reading}
use Rattle.message.proofs.Laws.Reading.{number_told, told}
use Rattle.session.specs.declared.counters.Course.{Course}
use Rattle.session.specs.declared.counters.Lot.{Lot}
use Rattle.session.specs.declared.effect.Effect.{Effect}
use Rattle.session.specs.declared.parties.Parties.{Parties}
use Rattle.session.specs.declared.session.Receiving.{Receiving}
use Rattle.session.specs.Limits.{most_lots}
use Rattle.session.specs.declared.running.Running.{Running}
use Rattle.session.specs.Running.{empty}
use Rattle.session.specs.Course.{course, reopened, advance, ends, kept}
use Rattle.session.specs.Receiving.{received_code, received_effect}
use Rattle.session.specs.Premise.{OpenSound}
use Rattle.session.proofs.Laws.Allowed.{Allowed, received_allowed}
use Rattle.calls.specs.Inner.Course.{Countable}
use Rattle.receiving.specs.Inner.Earned.{ends_lot, StandsFor}
use Rattle.receiving.specs.Inner.Lent.{Lent}

-- a refused message, by whether it ends a lot
refused_moves : (e : Effect) (k : Course) → advance e false k ≡ cond (ends_lot e) (course (reopened None k.counters) empty) k
unfolding advance
refused_moves (Effect.LotTotal lot) k = refl
refused_moves Effect.Nothing k = refl
refused_moves (Effect.Header number) k = refl
refused_moves (Effect.Detail more) k = refl
refused_moves Effect.SessionTotal k = refl

refused_ends : (e : Effect) → ends e false ≡ false
refused_ends (Effect.LotTotal lot) = refl
refused_ends Effect.Nothing = refl
refused_ends (Effect.Header number) = refl
refused_ends (Effect.Detail more) = refl
refused_ends Effect.SessionTotal = refl

refused_keeps : (e : Effect) (count : ℕ) (lots : List Lot) → kept e false count lots ≡ lots
unfolding kept
refused_keeps (Effect.LotTotal lot) count lots = refl
refused_keeps Effect.Nothing count lots = refl
refused_keeps (Effect.Header number) count lots = refl
refused_keeps (Effect.Detail more) count lots = refl
refused_keeps Effect.SessionTotal count lots = refl

-- one effect in the place of another
pub record Alike (accepted : Bool) (effect meant : Effect) : Type 0 where
  pub moves : (k : Course) → advance effect accepted k ≡ advance meant accepted k
  pub ends_so : ends effect accepted ≡ ends meant accepted
  pub keeps_so : (count : ℕ) (lots : List Lot) → kept effect accepted count lots ≡ kept meant accepted count lots

pub alike : (accepted : Bool) (effect meant : Effect) → StandsFor accepted effect meant → Alike accepted effect meant
alike true effect meant e =
    record {
      moves = λ (k : Course). ap (λ (x : Effect). advance x true k) e;
      ends_so = ap (λ (x : Effect). ends x true) e;
      keeps_so = λ (count : ℕ) (lots : List Lot). ap (λ (x : Effect). kept x true count lots) e;
    }
alike false effect meant e =
    record {
      moves = λ (k : Course). refused_moves effect k ∙ ap (λ (b : Bool). cond b (course (reopened None k.counters) empty) k) e ∙ sym (refused_moves meant k);
      ends_so = refused_ends effect ∙ sym (refused_ends meant);
      keeps_so = λ (count : ℕ) (lots : List Lot). refused_keeps effect count lots ∙ sym (refused_keeps meant count lots);
    }

-- what the chain lets pass may be counted, and an accepted lot has a free place
pub countable : (time : ℕ) (body : List ℕ) (p : Parties) (t : Running) (r : Receiving) (code : ℕ) (effect : Effect) → Lent p t r → code ≡ received_code (content_of body) time body p t r → StandsFor (eqb code 0) effect (received_effect (content_of body) body t) → Countable effect (eqb code 0) (course r.counters t)
countable time body p t r code effect g c s = record { counters = g.counters; running = g.running; sound = λ (e : eqb code 0 ≡ true). (allowed e).sound; carried = λ (e : eqb code 0 ≡ true). (allowed e).carried }
  where
    allowed : eqb code 0 ≡ true → Allowed effect (course r.counters t)
    allowed e =
        subst (λ (x : Effect). Allowed x (course r.counters t)) (sym (subst (λ (b : Bool). StandsFor b effect (received_effect (content_of body) body t)) e s))
        (received_allowed time body p t r g.running (content_of body) (sym c ∙ eqb-true code 0 e))

pub free_place : (effect : Effect) (accepted : Bool) (k : Course) → Countable effect accepted k → accepted ≡ true → ends_lot effect ≡ true → k.counters.lots < most_lots
free_place (Effect.LotTotal lot) accepted k g e l = (subst (λ (o : Option ℕ). OpenSound o k.counters.lots) (g.sound e) g.counters.open_lot).1
free_place Effect.Nothing accepted k g e l = absurd (false≢true l)
free_place (Effect.Header number) accepted k g e l = absurd (false≢true l)
free_place (Effect.Detail more) accepted k g e l = absurd (false≢true l)
free_place Effect.SessionTotal accepted k g e l = absurd (false≢true l)

-- when an effect stands for another: where the code accepts they are the same, and in any case both or neither end a lot
pub stands_if : (code : ℕ) (effect meant : Effect) → (code ≡ 0 → effect ≡ meant) → ends_lot effect ≡ ends_lot meant → StandsFor (eqb code 0) effect meant
stands_if code effect meant h l = go (eqb code 0) refl
  where
    go : (b : Bool) → eqb code 0 ≡ b → StandsFor b effect meant
    go true e = h (eqb-true code 0 e)
    go false e = l

-- what a body reads as is what it holds: so behind its own code the chain is the same, and the effect
pub read_earns : {A : Type 0} (late : A → ℕ) (effect : A → Effect) (read holds : A) (first code : ℕ) → read ≡ holds → first ≡ 0 → code ≡ late read → (code ≡ (first orelse late holds)) × StandsFor (eqb code 0) (effect read) (effect holds)
read_earns {A = A} late effect read holds first code same good chain =
    (chain ∙ ap late same ∙ sym (goes_on first (late holds) good), stands_if code (effect read) (effect holds) (λ (e : code ≡ 0). ap effect same) (ap (λ (x : A). ends_lot (effect x)) same))

-- a reading that comes with a code and no values was not accepted
pub wrong_read : (c : Code) (n v : ℕ) (vs : List ℕ) → reading (code_number c) [] ≡ reading n (v ∷ vs) → (n ≡ code_number c) × (code_number c ≡ 0 → ⊥)
wrong_read c n v vs e = (number_told n (code_number c) (v ∷ vs) e, λ (z : code_number c ≡ 0). let none : suc (length vs) ≡ 0 = ap length (told n (v ∷ vs) [] (ap (λ (m : ℕ). reading m []) (sym z) ∙ e)).1 in omega arith)

-- and its code ends the chain
pub wrong_ends : (a n rest : ℕ) → (a ≡ n) × (n ≡ 0 → ⊥) → n ≡ (a orelse rest)
wrong_ends a n rest h = let some = h.1 in sym (ap (λ (m : ℕ). m orelse rest) h.0 ∙ ends-chain n rest (omega (arith, some)))
