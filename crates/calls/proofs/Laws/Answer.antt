-- How an answer ends a chain of refusals, or leads on: a refusal is the first that applies, and a call that is not refused says nothing.
use Rattle.std.proofs.Common.{◌≡◌, ℕ, sym, ◌∙◌}
use Rattle.codes.specs.declared.refusal.Refusal.{Refusal}
use Rattle.codes.specs.Chain.{◌orelse◌}
use Rattle.codes.specs.Refusal.{refusal_number}
use Rattle.codes.proofs.Laws.Chain.{ends, goes_on}
use Rattle.codes.proofs.Laws.Refusal.{never_none}
use native.Mathlib.Nat.{pos_of_ne-zero}

-- it ends with a refusal
pub refusal_ends : (r : Refusal) (first rest : ℕ) → refusal_number r ≡ first → refusal_number r ≡ (first orelse rest)
refusal_ends r first rest e = e ∙ sym (ends first rest (pos_of_ne-zero (λ (z : first ≡ 0). never_none r (e ∙ z))))

-- and goes on where there is none
pub none_leads_on : (first rest : ℕ) → 0 ≡ first → rest ≡ (first orelse rest)
none_leads_on first rest e = sym (goes_on first rest (sym e))
