-- Two ends of a line, each with a session or none yet, and what a line of a script does to them.
use Rattle.std.specs.Prelude.{ℕ, Bool, Option, Some, None, cond, List, [], eqb}
use Rattle.session.specs.Start as Start
use Rattle.session.specs.Engine.{Call, Engine, with_empty, performed, said_by}
use Rattle.centre.specs.declared.end.Centre.{Centre}
use Rattle.centre.specs.Turn.{engine_of}
use Rattle.script.specs.declared.player.Player.{Player}
use Rattle.script.specs.Reading.{Named}

-- an end: its engine, once a start there has succeeded
abbrev pub Seated : Type 0
Seated = Option Engine

pub record Ends : Type 0 where
  pub near : Seated
  pub far : Seated

abbrev pub seat_of : Option Centre → Seated
seat_of None = None
seat_of (Some c) = Some (engine_of c)

abbrev pub ends_of : Player → Ends
ends_of p = record { near = seat_of p.near; far = seat_of p.far }

-- a call at an end; one without a session stays as it is
unfoldable pub called : Call → (line : List ℕ) → Seated → Seated
called call line None = None
called call line (Some e) = Some ((performed call line e).engine)

-- a start at an end; a refused one leaves what was there
unfoldable pub begun_at : (date own partner : ℕ) (represented : List ℕ) → Seated → Seated
begun_at date own partner represented s =
    let o = Start.start date own partner represented in
    cond (eqb o.number 0) (Some (with_empty o.session)) s

-- the bytes that a call at an end writes; none without a session
unfoldable pub wrote_at : Call → (line : List ℕ) → Seated → List ℕ
wrote_at call line None = []
wrote_at call line (Some e) = (said_by (performed call line e)).bytes

-- what a line names is done at its end
abbrev pub done : Option Named → (line : List ℕ) → Seated → Seated
done None line s = s
done (Some (Named.start date own partner represented)) line s = begun_at date own partner represented s
done (Some (Named.call call)) line s = called call line s

-- and what is written there
abbrev pub wrote : Option Named → (line : List ℕ) → Seated → List ℕ
wrote None line s = []
wrote (Some (Named.start date own partner represented)) line s = []
wrote (Some (Named.call call)) line s = wrote_at call line s

abbrev pub seat_at : (near : Bool) → Ends → Seated
seat_at near e = cond near e.near e.far

abbrev pub with_seat : (near : Bool) → Seated → Ends → Ends
with_seat near s e = cond near (record { near = s; far = e.far }) (record { near = e.near; far = s })

-- both ends after what a line names was done at one of them, with this line buffer
abbrev pub played_at : (near : Bool) → Option Named → (line : List ℕ) → Ends → Ends
played_at near named line e = with_seat near (done named line (seat_at near e)) e
