-- `rule_of`: key 0 is never looked for.
use mathlib.Core.Path.{◌≡◌, ap, sym, subst, ◌∙◌}
use mathlib.Core.List.{map}
use Prim.Native.Nat.{◌≤◌}
use borrow.Author.Tests.{eq-eqb, ne_eqb}
use Rattle.std.specs.Prelude.{Option, Some, None, MatchOption, IsSomeAnd, IfSome, option_map}
use Rattle.tariff.specs.declared.row.Row.{Row}
use Rattle.tariff.specs.declared.search.Rule.{Rule}
use Rattle.tariff.specs.Tariff.{largest_rate, row_in}
use Rattle.tariff.specs.Commission.{rule_of}
use Rattle.tariff.specs.Inner.Bounds.{rate_of}
use Rattle.tariff.proofs.Laws.Commission.{rate_most}
use Rattle.tariff.proofs.good.Tariff.rule_of.Goals as goal

mapped : (o : Option Row) (r : Option Rule) → MatchOption o (r ≡ None) (λ x. IsSomeAnd r (λ y. y ≡ Rule.ByRow x)) → r ≡ option_map Rule.ByRow o
mapped None r e = e
mapped (Some x) (Some y) e = ap Some e
mapped (Some x) None e = absurd e

pub returns-then-key-eq0-clause-rule : goal.returns-then-key-eq0-clause-rule
unfolding rule_of
returns-then-key-eq0-clause-rule c = rw (eq-eqb c.args.key 0 c.if-key-eq0.true)

pub returns-clause-rule : goal.returns-clause-rule
unfolding rule_of
returns-clause-rule c = rw (ne_eqb c.args.key 0 c.if-key-eq0.false) (mapped c.search.result c.map.result c.map.ensures.cases ∙ ap (option_map Rule.ByRow) c.search.ensures)

pub returns-clause-rate : goal.returns-clause-rate
unfolding rule_of
returns-clause-rate c =
    let rows = map row_in c.args.self.now.rows.now in
    let most = rw (ne_eqb c.args.key 0 c.if-key-eq0.false) at (rate_most rows c.args.key c.args.self.now.rows_good) in
    subst (λ (o : Option Rule). IfSome o (λ rule. rate_of rule ≤ largest_rate)) (sym (mapped c.search.result c.map.result c.map.ensures.cases ∙ ap (option_map Rule.ByRow) c.search.ensures)) most
