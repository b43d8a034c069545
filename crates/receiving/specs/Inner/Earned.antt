-- What a received message earns and does: its code by its own chain, and an effect. Where the code accepts, it is the one that is meant. Of a
-- refused message no more is asked than whether it ends a lot: a lot total does, whatever its bytes, and nothing else moves.
use Rattle.std.specs.Prelude.{ℕ, ◌≡◌, Bool, true, false, List, eqb}
use Rattle.codes.specs.Code.{code_number}
use Rattle.message.specs.declared.content.Content.{Content}
use Rattle.session.specs.declared.effect.Effect.{Effect}
use Rattle.session.specs.declared.parties.Parties.{Parties}
use Rattle.session.specs.declared.session.Receiving.{Receiving}
use Rattle.session.specs.declared.running.Running.{Running}
use Rattle.session.specs.Receiving.{received_code, received_effect}
use Rattle.receiving.specs.declared.earned.Found.{Found}

-- whether it ends a lot
abbrev pub ends_lot : Effect → Bool
ends_lot (Effect.LotTotal lot) = true
ends_lot Effect.Nothing = false
ends_lot (Effect.Header number) = false
ends_lot (Effect.Detail more) = false
ends_lot Effect.SessionTotal = false

-- an effect stands for another
abbrev pub StandsFor : (accepted : Bool) (effect meant : Effect) → Type 0
StandsFor true effect meant = effect ≡ meant
StandsFor false effect meant = ends_lot effect ≡ ends_lot meant

pub record Earns (content : Content) (time : ℕ) (body : List ℕ) (p : Parties) (running : Running) (r : Receiving) (e : Found) : Type 0 where
  pub code : code_number e.code ≡ received_code content time body p running r
  pub effect : StandsFor (eqb (code_number e.code) 0) e.effect (received_effect content body running)
