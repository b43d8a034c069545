-- What is told of the rest of a chain is told of the whole, where its first part gives no refusal.
use Rattle.std.proofs.Common.{◌≡◌, ℕ, Bool, Result, Ok, Err, ◌∙◌}
use Rattle.codes.specs.declared.refusal.Refusal.{Refusal}
use Rattle.codes.specs.Chain.{◌orelse◌}
use Rattle.calls.specs.Inner.Arrival.{Told}
use Rattle.calls.proofs.Laws.Answer.{none_leads_on}

pub told_behind : (first rest : ℕ) (meant : Bool) (arrival : Result Bool Refusal) → 0 ≡ first → Told rest meant arrival → Told (first orelse rest) meant arrival
told_behind first rest meant (Ok found) e told = (told.0 ∙ none_leads_on first rest e, told.1)
told_behind first rest meant (Err r) e told = told ∙ none_leads_on first rest e
