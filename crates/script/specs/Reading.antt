-- What a line of a script asks (docs/SCRIPTS.md), by its kind, its numbers and its bytes.
use Rattle.std.specs.Prelude.{ℕ, ◌-◌, ◌^◌, min, Bool, Option, Some, None, List, map, take, drop, get_or}
use Rattle.session.specs.Engine.{Call}
use Rattle.text.specs.declared.kind.Kind.{Kind}
use Rattle.text.specs.declared.kind.Kind.TheVariants.{Start, Header, Detail, LotTotal, SessionTotal, Receive, Reply, Clock, Report, Passed, Bad}
use Rattle.text.specs.Line.{Said}
use Rattle.centre.specs.declared.call.Order.{Order}
use Rattle.centre.specs.Turn.{call_of}
use Rattle.script.specs.declared.asked.Asked.{Asked}
use Rattle.script.specs.declared.asked.Reading.{Reading}

-- a number as an argument: where it is too large, the largest that the argument's type has
abbrev pub u32 : ℕ → ℕ
u32 n = min n (2 ^ 32 - 1)

abbrev pub u16 : ℕ → ℕ
u16 n = min n (2 ^ 16 - 1)

abbrev pub u8 : ℕ → ℕ
u8 n = min n (2 ^ 8 - 1)

-- the arguments of each call, in the order of the line
unfoldable pub asked_by : Kind → (numbers : List ℕ) → Option Asked
asked_by Start ns = Some (Asked.Start (u32 (get_or ns 0 0)) (u16 (get_or ns 1 0)) (u16 (get_or ns 2 0)))
asked_by Header ns = Some (Asked.Call (Order.Header (u32 (get_or ns 0 0)) (u32 (get_or ns 1 0)) (u16 (get_or ns 2 0)) (u16 (get_or ns 3 0))))
asked_by Detail ns = Some (Asked.Call (Order.Detail (u32 (get_or ns 0 0)) (u8 (get_or ns 1 0))))
asked_by LotTotal ns = Some (Asked.Call (Order.LotTotal (u32 (get_or ns 0 0))))
asked_by SessionTotal ns = Some (Asked.Call (Order.SessionTotal (u32 (get_or ns 0 0))))
asked_by Receive ns = Some (Asked.Call (Order.Receive (u32 (get_or ns 0 0))))
asked_by Reply ns = Some (Asked.Call (Order.Reply (u32 (get_or ns 0 0))))
asked_by Clock ns = Some (Asked.Call (Order.Clock (u32 (get_or ns 0 0))))
asked_by Report ns = None
asked_by Passed ns = None
asked_by Bad ns = None

-- a start, or a call of 01
pub data Named : Type 0 where
  start : (date own partner : ℕ) (represented : List ℕ) → Named
  call : Call → Named

-- what is asked, with the represented entities and the bytes that stand beside it; nothing, as by a report and a line that is no call
abbrev pub name_of : Option Asked → (represented bytes : List ℕ) → Option Named
name_of None represented bytes = None
name_of (Some (Asked.Start date own partner)) represented bytes = Some (Named.start date own partner represented)
name_of (Some (Asked.Call order)) represented bytes = Some (Named.call (call_of order bytes))

-- what a line means: which call, at which end, and the length of its line buffer
pub record Meant : Type 0 where
  pub kind : Kind
  pub near : Bool
  pub named : Option Named
  pub room : ℕ

-- by what it says; the numbers from the fourth on are the represented entities of a start
abbrev pub meant : Said → Meant
meant s = record { kind = s.kind; near = s.near; named = name_of (asked_by s.kind s.numbers) (map u16 (drop 3 s.numbers)) s.bytes; room = s.room }

abbrev pub named_by : Option Asked → Reading → (bytes : List ℕ) → Option Named
named_by asked r bytes = name_of asked (take r.more r.entities) bytes

-- by what was made of it, and the buffer that was left
abbrev pub meant_by : Reading → (buffer : List ℕ) → Meant
meant_by r buffer = record { kind = r.kind; near = r.near; named = named_by r.asked r (take r.bytes buffer); room = r.room }
