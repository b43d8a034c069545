-- Laws of a call: it is refused and leaves everything, or it is not refused and does what it does.
use mathlib.Core.Path.{◌≡◌, refl, ap, ◌∙◌}
use mathlib.Core.List.{List}
use Prim.Native.Nat.{ℕ, zero, suc, ◌+◌, ◌≤◌}
use native.Mathlib.Omega.{arith}
use lib.ListN.{length, take, drop}
use lib.Seq.{sets, sets-eq, take-append_seam}
use Rattle.session.specs.Outcome.{Held, Outcome, refused, decided}
use Rattle.session.specs.Engine.{Said}

-- what holds of every refusal, and of what is done where the number is 0, holds of the call
pub either : (P : Outcome → Type 0) (n : ℕ) (before : Held) (done : Outcome) → ((k : ℕ) → P (refused (suc k) before)) → (n ≡ 0 → P done) → P (decided n before done)
unfolding decided
either P zero before done r d = d refl
either P (suc k) before done r d = r k

pub unrefused : (before : Held) (done : Outcome) → decided 0 before done ≡ done
unfolding decided
unrefused before done = refl

-- A refused call changes nothing: the session, the running totals and the line buffer are those from before, and nothing is written.
pub refused_keeps : (n : ℕ) (before : Held) (done : Outcome) → (n ≡ 0 → ⊥) → decided n before done ≡ refused n before
unfolding decided
refused_keeps zero before done h = absurd (h refl)
refused_keeps (suc k) before done h = refl

-- what an outcome says
abbrev pub said_in : Outcome → Said
said_in o = record { number = o.number; bytes = take o.written o.left.line }

-- the bytes that were written are the first of the line buffer
pub first_bytes : (bytes line : List ℕ) → length bytes ≤ length line → take (length bytes) (sets line 0 bytes) ≡ bytes
first_bytes bytes line h = ap (take (length bytes)) (sets-eq bytes line 0 (omega arith)) ∙ take-append_seam bytes (drop (0 + length bytes) line)
