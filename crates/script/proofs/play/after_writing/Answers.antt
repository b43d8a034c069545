-- `after_writing`: by whether something was written.
use borrow.Author.Tests.{eq-eqb, ne_eqb}
use mathlib.Core.Bool.{true, false}
use Rattle.text.proofs.Laws.Held.{holds_if}
use Rattle.script.proofs.play.after_writing.Goals as goal

pub returns-then-written-eq0 : goal.returns-then-written-eq0
returns-then-written-eq0 c = λ ws so. holds_if ws _ _ true (eq-eqb _ 0 c.if-written-eq0.true) so

pub returns : goal.returns
returns c = λ ws so. holds_if ws _ _ false (ne_eqb _ 0 c.if-written-eq0.false) (c.remember.ensures ws so)
