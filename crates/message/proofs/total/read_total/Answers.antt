-- `read_total`: shape, then the digits of the counters, then those of the amounts.
use mathlib.Core.Path.{ap, sym, ◌∙◌}
use native.Mathlib.Omega.{arith}
use lib.Dec.{lit<}
use Rattle.message.specs.Inner.Widths.{total_fields, total}
use Rattle.message.specs.Total.{total_values}
use Rattle.message.proofs.Laws.Layout.{shaped, misshapen, field_wrong, amount_wrong, accepted, said_code, said_fields}
use Rattle.message.proofs.Laws.Total.{counters_split, amounts_split}
use Rattle.message.proofs.total.read_total.Goals as goal

pub returns-then-not-fixed_shape : goal.returns-then-not-fixed_shape
returns-then-not-fixed_shape c =
    let layout = total c.args.w in
    said_code layout c.args.body.now 1 (lit< tt) (misshapen layout c.args.body.now (sym c.fixed_shape.ensures ∙ c.if-not-fixed_shape.true))

pub are_digits-requires : goal.are_digits-requires
are_digits-requires c = let layout = total c.args.w in omega (arith, (shaped layout.bytes layout.operation c.args.body.now (sym c.fixed_shape.ensures ∙ c.if-not-fixed_shape.false)).size)

pub returns-then-not-are_digits : goal.returns-then-not-are_digits
returns-then-not-are_digits c =
    let layout = total c.args.w in
    let body = c.args.body.now in
    let shape = sym c.fixed_shape.ensures ∙ c.if-not-fixed_shape.false in
    let counters = counters_split c.args.w body ∙ sym c.are_digits.ensures ∙ c.if-not-are_digits.true in
    said_code layout body 1 (lit< tt) (field_wrong layout body shape counters)

pub are_digits-requires-2 : goal.are_digits-requires-2
are_digits-requires-2 c = let layout = total c.args.w in omega (arith, (shaped layout.bytes layout.operation c.args.body.now (sym c.fixed_shape.ensures ∙ c.if-not-fixed_shape.false)).size)

pub returns-then-not-are_digits-2 : goal.returns-then-not-are_digits-2
returns-then-not-are_digits-2 c =
    let layout = total c.args.w in
    let body = c.args.body.now in
    let shape = sym c.fixed_shape.ensures ∙ c.if-not-fixed_shape.false in
    let counters = counters_split c.args.w body ∙ sym c.are_digits.ensures ∙ c.if-not-are_digits.false in
    let amounts = amounts_split c.args.w body ∙ sym c.are_digits-2.ensures ∙ c.if-not-are_digits-2.true in
    said_code layout body 3 (lit< tt) (amount_wrong layout body shape counters amounts)

pub fields_of-requires : goal.fields_of-requires
fields_of-requires c = let layout = total c.args.w in omega (arith, (shaped layout.bytes layout.operation c.args.body.now (sym c.fixed_shape.ensures ∙ c.if-not-fixed_shape.false)).size)

pub returns : goal.returns
unfolding total_fields
returns c =
    let layout = total c.args.w in
    let body = c.args.body.now in
    let shape = sym c.fixed_shape.ensures ∙ c.if-not-fixed_shape.false in
    let counters = counters_split c.args.w body ∙ sym c.are_digits.ensures ∙ c.if-not-are_digits.false in
    let amounts = amounts_split c.args.w body ∙ sym c.are_digits-2.ensures ∙ c.if-not-are_digits-2.false in
    said_fields layout body (total_values c.fields_of.result) (accepted layout body shape counters amounts) (ap total_values c.fields_of.ensures)
