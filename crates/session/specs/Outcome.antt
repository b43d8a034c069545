-- 01, 'Given because of the input': what a call is lent and what it leaves, refused or not.
use Rattle.std.specs.Prelude.{ℕ, zero, suc, Bool, List, ltb, length}
use Rattle.std.proofs.lemmas.List.Edits.{sets}
use Rattle.session.specs.declared.session.Presenting.{Presenting}
use Rattle.session.specs.declared.session.Receiving.{Receiving}
use Rattle.session.specs.declared.session.Session.{Session}
use Rattle.session.specs.declared.running.Running.{Running}

-- what the caller holds before a call and after it: the session, the running totals of the call's direction, the line buffer
pub record Held : Type 0 where
  pub session : Session
  pub running : Running
  pub line : List ℕ

abbrev pub held : Session → Running → (line : List ℕ) → Held
held s t line = record { session = s; running = t; line = line }

-- the number of a call, 0 if it is not refused; how many bytes it wrote; and what it left
pub record Outcome : Type 0 where
  pub number : ℕ
  pub written : ℕ
  pub left : Held

-- 'A refused call gives its number and changes nothing'
abbrev pub refused : ℕ → Held → Outcome
refused number h = record { number = number; written = 0; left = h }

-- a call: refused by the number of its order, or done
unfoldable pub decided : (refusal : ℕ) (before : Held) (done : Outcome) → Outcome
decided zero before done = done
decided (suc n) before done = refused (suc n) before

-- done, with nothing written
abbrev pub silent : Held → Outcome
silent h = record { number = 0; written = 0; left = h }

-- done, with some bytes at the start of the line buffer; bytes past them keep their values
abbrev pub wrote : (bytes : List ℕ) → Held → Outcome
wrote bytes h = record { number = 0; written = length bytes; left = held h.session h.running (sets h.line 0 bytes) }

-- 23: a buffer is too short for so many bytes
abbrev pub no_room : (bytes room : ℕ) → Bool
no_room bytes room = ltb room bytes

-- 'An unrefused call makes its time the last seen'
abbrev pub seen_at : (time : ℕ) → Session → Session
seen_at time s = record { parties = s.parties; presenting = s.presenting; receiving = s.receiving; seen = time; close = s.close }

-- a session with another presenting direction, or another receiving one
abbrev pub with_presenting : Presenting → Session → Session
with_presenting p s = record { parties = s.parties; presenting = p; receiving = s.receiving; seen = s.seen; close = s.close }

abbrev pub with_receiving : Receiving → Session → Session
with_receiving r s = record { parties = s.parties; presenting = s.presenting; receiving = r; seen = s.seen; close = s.close }
