-- What the number of an answer tells of a call: 0 that it does what it does, any other that it leaves everything; and what is said of an outcome
-- holds of the answer that is equated with it.
use mathlib.Core.Path.{◌≡◌, ap, sym, subst, ◌∙◌}
use Prim.Native.Nat.{ℕ}
use Rattle.session.specs.declared.session.Session.{Session}
use Rattle.session.specs.Parties.{Direction}
use Rattle.session.specs.Outcome.{Held, Outcome, refused, decided}
use Rattle.session.specs.Premise.{Kept, KeptBeside}
use Rattle.session.proofs.Laws.Decided.{unrefused, refused_keeps}

module _ (answer number : ℕ) (before : Held) (done : Outcome) (same : answer ≡ number) where
  pub said_done : answer ≡ 0 → done ≡ decided number before done
  said_done e = sym (ap (λ (n : ℕ). decided n before done) (sym same ∙ e) ∙ unrefused before done)

  pub said_refused : (answer ≡ 0 → ⊥) → refused answer before ≡ decided number before done
  said_refused e = sym (ap (λ (n : ℕ). decided n before done) (sym same) ∙ refused_keeps answer before done e)

module _ (s : Session) (said meant : Outcome) (same : said ≡ meant) where
  pub so_kept : Kept s meant.left.session → Kept s said.left.session
  so_kept = subst (λ (o : Outcome). Kept s o.left.session) (sym same)

  pub so_kept_beside : (d : Direction) → KeptBeside d s meant.left.session meant.left.running → KeptBeside d s said.left.session said.left.running
  so_kept_beside d = subst (λ (o : Outcome). KeptBeside d s o.left.session o.left.running) (sym same)
