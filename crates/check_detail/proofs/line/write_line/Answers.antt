-- `write_line` puts the pieces of the line one behind another.
use mathlib.Core.Path.{◌≡◌, refl, ap, ◌∙◌}
use mathlib.Core.List.{[], ◌∷◌, ◌++◌, append_assoc}
use native.Mathlib.Omega.{arith}
use lib.ListN.{length, set, length-set}
use lib.Seq.{sets}
use Rattle.decimal.specs.Decimal.{behind_space}
use Rattle.decimal.proofs.Laws.Text.{Put, put_behind}
use Rattle.detail.specs.declared.checked.Checked.{Checked}
use Rattle.check_detail.specs.Line.{line_feed, two_digits, line_of}
use Rattle.check_detail.proofs.line.write_line.Goals as goal

-- the pieces as they were put, from the left
pieces : (c : Checked) → (((two_digits c.code ++ behind_space c.documents) ++ behind_space c.nominal) ++ behind_space c.commission) ++ line_feed ∷ [] ≡ line_of c
unfolding line_of
pieces c = simp append_assoc

pub bounds-line-1 : goal.bounds-line-1
bounds-line-1 c = simp length-set (omega arith)

pub put_number-nominal_at-requires : goal.put_number-nominal_at-requires
put_number-nominal_at-requires c = simp length-set (omega arith)

pub put_number-commission_at-requires : goal.put_number-commission_at-requires
put_number-commission_at-requires c = omega (arith, c.put_number-nominal_at.ensures.short, simp length-set at c.put_number-nominal_at.auto.line)

pub put_number-end-requires : goal.put_number-end-requires
put_number-end-requires c =
    omega (arith, c.put_number-nominal_at.ensures.short, c.put_number-commission_at.ensures.short, simp length-set at c.put_number-nominal_at.auto.line, c.put_number-commission_at.auto.line)

pub bounds-line-end : goal.bounds-line-end
bounds-line-end c =
    omega (arith, c.put_number-nominal_at.ensures.short, c.put_number-commission_at.ensures.short, c.put_number-end.ensures.short, simp length-set at c.put_number-nominal_at.auto.line, c.put_number-commission_at.auto.line, c.put_number-end.auto.line, c.requires)

pub shape_of-line : goal.shape_of-line
shape_of-line c =
    simp length-set (c.put_number-end.auto.line ∙ c.put_number-commission_at.auto.line ∙ c.put_number-nominal_at.auto.line ∙ simp length-set)

pub returns : goal.returns
returns c =
    let k = c.args.c in
    let code : Put c.args.line.now (two_digits k.code) _ 2 = record { written = refl; place = refl } in
    let documents = put_behind code (behind_space k.documents) c.put_number-nominal_at.ensures.written c.put_number-nominal_at.ensures.next in
    let nominal = put_behind documents (behind_space k.nominal) c.put_number-commission_at.ensures.written c.put_number-commission_at.ensures.next in
    let commission = put_behind nominal (behind_space k.commission) c.put_number-end.ensures.written c.put_number-end.ensures.next in
    let all = put_behind commission (line_feed ∷ []) {after = set c.put_number-end.new.line c.put_number-end.result line_feed} refl refl in
    record {
      written = all.written ∙ ap (sets c.args.line.now 0) (pieces k);
      long = all.place ∙ ap length (pieces k);
      short = omega (arith, c.put_number-nominal_at.ensures.short, c.put_number-commission_at.ensures.short, c.put_number-end.ensures.short);
    }
