-- `read_numbers`: no word is left, a word is no number, or all that are asked for are read.
use Rattle.std.proofs.Common.{◌-◌, Option, refl, sym, subst, arith}
use lib.ListN.{length-set}
use Rattle.text.specs.declared.line.Read.{Read}
use Rattle.text.specs.Word.{words}
use Rattle.text.specs.Number.{is_number, decimal}
use Rattle.text.specs.Inner.Line.{NumbersRead}
use Rattle.text.proofs.Laws.Number.{told_none, told_some}
use Rattle.text.proofs.Laws.Line.{rest_start, rest_not, rest_on, over_good, over_count, over_rest, over_stored, left_none, asked_none}
use Rattle.text.proofs.line.read_numbers.Goals as goal

pub loop-count-init : goal.loop-count-init
loop-count-init c = (refl, rest_start _ _ _ _)

pub returns-in_default : goal.returns-in_default
returns-in_default c =
    let none = left_none (c.args.most - c.loop-count.count) _ c.in_default.ensures.words in
    record {
      good = sym (over_good _ _ _ _ _ _ _ c.loop-count.invariant.1 none.0 none.1);
      count = over_count _ _ _ _ _ _ _ c.loop-count.invariant.1 none.0 none.1;
      rest = over_rest _ _ _ _ _ _ _ c.loop-count.invariant.1 none.0 none.1;
      numbers = over_stored _ _ _ _ _ _ _ c.loop-count.invariant.1 none.0 none.1;
      size = c.loop-count.invariant.0;
    }

pub returns-in_err-numbers : goal.returns-in_err-numbers
returns-in_err-numbers c =
    let w = c.in-Some.next.word.now in
    let no = told_none (is_number w) (decimal w) c.in_err-numbers.ensures in
    subst (λ (r : Option Read). NumbersRead (words c.args.line.now) c.args.most c.args.first c.args.numbers.now c.loop-count.numbers r) (sym c.from_residual.ensures) (sym (rest_not _ _ _ _ _ _ _ c.loop-count.invariant.1 _ _ c.in-Some.ensures.words (omega arith) no))

pub loop-count-preserved : goal.loop-count-preserved
loop-count-preserved c =
    let w = c.in-Some.next.word.now in
    let told = told_some (is_number w) (decimal w) c.in_ok-numbers.field-0 c.in_ok-numbers.ensures in
    (simp length-set c.loop-count.invariant.0, rest_on _ _ _ _ _ _ _ c.loop-count.invariant.1 _ _ c.in-Some.ensures.words (omega arith) _ told.0 told.1)

pub returns : goal.returns
returns c =
    let none = asked_none (c.args.most - c.loop-count.count) (words c.loop-count.rest.now) (omega arith) in
    record {
      good = sym (over_good _ _ _ _ _ _ _ c.loop-count.invariant.1 none.0 none.1);
      count = omega (arith, over_count _ _ _ _ _ _ _ c.loop-count.invariant.1 none.0 none.1);
      rest = over_rest _ _ _ _ _ _ _ c.loop-count.invariant.1 none.0 none.1;
      numbers = over_stored _ _ _ _ _ _ _ c.loop-count.invariant.1 none.0 none.1;
      size = c.loop-count.invariant.0;
    }
