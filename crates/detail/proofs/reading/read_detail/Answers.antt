-- `read_detail`: a wrong length ends the chain, or a head does; else the documents are judged.
use mathlib.Core.Path.{◌≡◌, refl, ap, sym, ◌∙◌}
use mathlib.Core.Bool.{Bool, true, false, not, ◌&&◌, ◌||◌}
use mathlib.Core.List.{List}
use Prim.Native.Nat.{ℕ}
use native.Mathlib.Omega.{arith}
use Rattle.std.proofs.lemmas.Bool.Decides.{nat_tests}
use borrow.Author.Tests.{not-true, not-false}
use lib.Dec.{eqb, ltb}
use lib.ListN.{length}
use Rattle.packed.specs.Every.{every}
use Rattle.codes.specs.Code.{code_number}
use Rattle.codes.specs.Body.{longest_body}
use Rattle.document.specs.declared.found.Found.{Found}
use Rattle.document.specs.Inner.Found.{found_in}
use Rattle.detail.specs.Groups.{shape_good, groups, group_good, documents}
use Rattle.detail.specs.Inner.Verdict.{judged}
use Rattle.detail.proofs.Laws.Groups.{shape_told}
use Rattle.detail.proofs.Laws.Codes.{misshapen, mixed, shaped_judged}
use Rattle.detail.proofs.reading.read_detail.Goals as goal

empty : (n : ℕ) → eqb n 0 ≡ ltb n 1
empty n = grind (arith, nat_tests)

-- the first test, then the heads decide on the shape
shaped : (body : List ℕ) (none wrong good : Bool) → none ≡ eqb (length body) 0 → none || ltb longest_body (length body) ≡ wrong → good ≡ every group_good (groups body) → shape_good body ≡ not wrong && good
shaped body none wrong good n w g =
    shape_told body
    ∙ (λ i. not ((ap (λ (t : Bool). t || ltb longest_body (length body)) (sym (n ∙ empty (length body))) ∙ w) i) && sym g i)

pub returns-then-is_empty-body-clause-code : goal.returns-then-is_empty-body-clause-code
returns-then-is_empty-body-clause-code c =
    let body = c.args.body.now in
    let wrong = shaped body c.is_empty.result true (every group_good (groups body)) c.is_empty.ensures c.if-is_empty-body.true refl in
    ap code_number c.refused.ensures.0 ∙ sym (misshapen c.args.own c.args.represented.now body wrong)

pub returns-then-not-heads-clause-code : goal.returns-then-not-heads-clause-code
returns-then-not-heads-clause-code c =
    let body = c.args.body.now in
    let heads = c.read_heads-heads in
    let wrong = shaped body c.is_empty.result false heads.result.good c.is_empty.ensures c.if-is_empty-body.false heads.ensures.good ∙ not-true heads.result.good c.if-not-heads.true in
    ap code_number c.refused-then-not-heads.ensures.0 ∙ sym (misshapen c.args.own c.args.represented.now body wrong)

pub returns-then-not-heads-2-clause-code : goal.returns-then-not-heads-2-clause-code
returns-then-not-heads-2-clause-code c =
    let body = c.args.body.now in
    let heads = c.read_heads-heads in
    let shape = shaped body c.is_empty.result false heads.result.good c.is_empty.ensures c.if-is_empty-body.false heads.ensures.good ∙ not-false heads.result.good c.if-not-heads.false in
    let several = sym heads.ensures.one ∙ not-true heads.result.one c.if-not-heads-2.true in
    ap code_number c.refused-then-not-heads-2.ensures.0 ∙ sym (mixed c.args.own c.args.represented.now body shape several)

pub returns-clause-code : goal.returns-clause-code
returns-clause-code c =
    let body = c.args.body.now in
    let heads = c.read_heads-heads in
    let shape = shaped body c.is_empty.result false heads.result.good c.is_empty.ensures c.if-is_empty-body.false heads.ensures.good ∙ not-false heads.result.good c.if-not-heads.false in
    let one = sym heads.ensures.one ∙ not-false heads.result.one c.if-not-heads-2.false in
    c.judge.ensures.code
    ∙ ap (λ (f : Found). judged f.fields f.amounts f.served f.something) (c.read_groups.ensures ∙ ap (λ (o : ℕ). found_in o c.args.own c.args.represented.now (documents body)) c.operation_of.ensures)
    ∙ sym (shaped_judged c.args.own c.args.represented.now body shape one)
