-- The code of a detail asks what its documents add only where its bytes earn none, and there the reading has told it.
use mathlib.Core.Path.{◌≡◌, ap, sym, ◌∙◌}
use mathlib.Core.Bool.{cond}
use Prim.Native.Nat.{ℕ, ◌+◌}
use lib.Dec.{eqb}
use Rattle.amounts.specs.declared.Totals.{Totals}
use Rattle.amounts.specs.Totals.{zeros}
use Rattle.codes.specs.Chain.{◌when◌, ◌orelse◌}
use Rattle.codes.proofs.Laws.Chain.{none_both, rest_same}
use Rattle.session.specs.Limits.{passes_lot}
use Rattle.session.specs.declared.running.Running.{Running}
use Rattle.session.specs.Running.{adding, documents_in}

module _ (bytes place operation : ℕ) (t : Running) (adds meant : Totals) (read : adds ≡ cond (eqb bytes 0) meant zeros) where
  abbrev rest : Totals → ℕ
  rest more = place orelse 12 when passes_lot (documents_in t + documents_in (adding operation more))

  told : bytes ≡ 0 → adds ≡ meant
  told e = read ∙ ap (λ (n : ℕ). cond (eqb n 0) meant zeros) e

  pub detail_chain : (bytes orelse rest adds) ≡ (bytes orelse rest meant)
  detail_chain = rest_same bytes (rest adds) (rest meant) (λ (e : bytes ≡ 0). ap rest (told e))

  pub detail_adds_lem : (code : ℕ) → code ≡ (bytes orelse rest adds) → code ≡ 0 → adding operation adds ≡ adding operation meant
  detail_adds_lem code c e = ap (adding operation) (told (none_both bytes (rest adds) (sym c ∙ e)).0)
