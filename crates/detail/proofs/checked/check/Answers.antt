-- `check`: entities outside the limits end the chain; else the reading's code and totals are handed on as numbers.
use mathlib.Core.Path.{ap, sym, ◌∙◌}
use Prim.Native.Nat.{ℕ}
use Rattle.codes.proofs.Laws.Chain.{holds}
use Rattle.document.specs.Entities.{entities_good}
use Rattle.detail.specs.Groups.{documents}
use Rattle.detail.specs.Codes.{receiver_code, accepted_totals}
use Rattle.detail.specs.Checked.{checked_code, four_numbers, checked}
use Rattle.detail.proofs.Laws.Checked.{start_refused}
use Rattle.detail.proofs.checked.check.Goals as goal

pub returns-then-not-entities_good : goal.returns-then-not-entities_good
returns-then-not-entities_good c =
    let bad = sym c.entities_good.ensures ∙ c.if-not-entities_good.true in
    c.wrong_start.ensures ∙ start_refused c.args.own c.args.represented.now c.args.body.now bad

pub returns : goal.returns
unfolding checked checked_code
returns c =
    let read = c.read_detail-code.ensures in
    let body = c.args.body.now in
    let good = sym c.entities_good.ensures ∙ c.if-not-entities_good.false in
    let code = read.code ∙ sym (holds 24 (entities_good c.args.own c.args.represented.now) (receiver_code c.args.own c.args.represented.now body) good) in
    let totals = read.totals ∙ ap (λ (n : ℕ). accepted_totals n (documents body)) code in
    λ i. four_numbers ((c.code_number.ensures ∙ code) i) (totals i)
