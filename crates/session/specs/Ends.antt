-- 01, 'Both ends together': two engines, a line that carries only what they wrote, and any list of calls.
use Rattle.std.specs.Prelude.{ℕ, ◌≡◌, List, [], ◌∷◌, ◌⊎◌}
use Rattle.session.specs.Start.{start}
use Rattle.session.specs.Engine.{Call, Engine, Said, said_by, performed, with_empty}

-- the two ends of the line
pub data End : Type 0 where
  near : End
  far : End

-- the other one
abbrev pub other : End → End
other End.near = End.far
other End.far = End.near

-- a call that was made: where, with which arguments, and what it said
pub record Event : Type 0 where
  pub at : End
  pub call : Call
  pub said : Said

-- both engines, and every call so far, the latest first
pub record World : Type 0 where
  pub engine : End → Engine
  pub trace : List Event

-- both ends with one of them replaced
abbrev pub replaced : End → Engine → (End → Engine) → End → Engine
replaced End.near e engine End.near = e
replaced End.near e engine End.far = engine End.far
replaced End.far e engine End.near = engine End.near
replaced End.far e engine End.far = e

-- a call to be made at one end, with a line buffer
pub record Step : Type 0 where
  pub at : End
  pub call : Call
  pub line : List ℕ

-- one call, on what the last one at its end left
unfoldable pub act : Step → World → World
act s w =
    let d = performed s.call s.line (w.engine s.at) in
    record { engine = replaced s.at d.engine w.engine; trace = record { at = s.at; call = s.call; said = said_by d } ∷ w.trace }

-- a list of calls, in order
unfoldable pub run : List Step → World → World
run [] w = w
run (s ∷ steps) w = run steps (act s w)

-- some bytes are what an unrefused call at either end wrote
abbrev pub WrittenBefore : (bytes : List ℕ) → List Event → Type 0
WrittenBefore bytes [] = ⊥
WrittenBefore bytes (e ∷ earlier) = ((e.said.number ≡ 0) × (e.said.bytes ≡ bytes)) ⊎ WrittenBefore bytes earlier

-- the line brings such bytes alone; all other arguments are free
abbrev pub Brought : Call → List Event → Type 0
Brought (Call.receive time bytes) trace = WrittenBefore bytes trace
Brought (Call.reply time bytes) trace = WrittenBefore bytes trace
Brought (Call.send time x) trace = Unit {0}
Brought (Call.clock time) trace = Unit {0}
Brought Call.report trace = Unit {0}

-- every call of a list is handed such bytes
unfoldable pub Possible : List Step → World → Type 0
Possible [] w = Unit {0}
Possible (s ∷ steps) w = Brought s.call w.trace × Possible steps (act s w)

-- one engine at each end
abbrev pub engines : (here there : Engine) → End → Engine
engines here there End.near = here
engines here there End.far = there

-- both ends at the beginning: two starts with the pair exchanged, and nothing gathered
unfoldable pub begun : (date near_entity far_entity : ℕ) (represented : End → List ℕ) → World
begun date near_entity far_entity represented =
    record {
      engine = engines (with_empty (start date near_entity far_entity (represented End.near)).session) (with_empty (start date far_entity near_entity (represented End.far)).session);
      trace = [];
    }

-- neither start was refused
pub record StartsAccepted (date near_entity far_entity : ℕ) (represented : End → List ℕ) : Type 0 where
  pub near : (start date near_entity far_entity (represented End.near)).number ≡ 0
  pub far : (start date far_entity near_entity (represented End.far)).number ≡ 0
