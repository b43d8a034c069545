-- What the code tells of a message or a reply that arrives: the number that refuses it, and where none does one finding more, of a message
-- whether it is new, of a reply whether it accepts.
use Rattle.std.specs.Prelude.{ℕ, ◌≡◌, Bool, Result, Ok, Err}
use Rattle.codes.specs.declared.refusal.Refusal.{Refusal}
use Rattle.codes.specs.Refusal.{refusal_number}

abbrev pub Told : (refusal : ℕ) (meant : Bool) → Result Bool Refusal → Type 0
Told refusal meant (Ok found) = (0 ≡ refusal) × (found ≡ meant)
Told refusal meant (Err r) = refusal_number r ≡ refusal
