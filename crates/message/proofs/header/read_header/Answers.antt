-- `read_header`: a body without the shape is 01; else its fields decide, and none is an amount.
use mathlib.Core.Path.{ap, sym, ◌∙◌}
use native.Mathlib.Omega.{arith}
use lib.Dec.{lit<}
use Rattle.message.specs.Limits.{header_bytes}
use Rattle.message.specs.Content.{header_operation}
use Rattle.message.specs.Header.{header, header_values}
use Rattle.message.proofs.Laws.Layout.{shaped, misshapen, field_wrong, accepted, said_code, said_fields}
use Rattle.message.proofs.Laws.Header.{no_amounts, good_numbers}
use Rattle.message.proofs.header.read_header.Goals as goal

pub returns-then-not-fixed_shape : goal.returns-then-not-fixed_shape
returns-then-not-fixed_shape c =
    let layout = header c.args.route in
    said_code layout c.args.body.now 1 (lit< tt) (misshapen layout c.args.body.now (sym c.fixed_shape.ensures ∙ c.if-not-fixed_shape.true))

pub fields_of-h-requires : goal.fields_of-h-requires
fields_of-h-requires c = omega (arith, (shaped header_bytes header_operation c.args.body.now (sym c.fixed_shape.ensures ∙ c.if-not-fixed_shape.false)).size)

pub fields_good-requires-clause-header_bytes_in_bounds : goal.fields_good-requires-clause-header_bytes_in_bounds
fields_good-requires-clause-header_bytes_in_bounds c = omega (arith, (shaped header_bytes header_operation c.args.body.now (sym c.fixed_shape.ensures ∙ c.if-not-fixed_shape.false)).size)

pub returns-then-fields_good : goal.returns-then-fields_good
returns-then-fields_good c =
    let layout = header c.args.route in
    let body = c.args.body.now in
    let shape = sym c.fixed_shape.ensures ∙ c.if-not-fixed_shape.false in
    let good = sym c.fields_good.ensures ∙ c.if-fields_good.true in
    said_fields layout body (header_values c.args.route c.fields_of-h.result) (accepted layout body shape good (no_amounts c.args.route body)) (ap (header_values c.args.route) c.fields_of-h.ensures ∙ good_numbers c.args.route body good)

pub returns-else-fields_good : goal.returns-else-fields_good
returns-else-fields_good c =
    let layout = header c.args.route in
    let body = c.args.body.now in
    let shape = sym c.fixed_shape.ensures ∙ c.if-not-fixed_shape.false in
    said_code layout body 1 (lit< tt) (field_wrong layout body shape (sym c.fields_good.ensures ∙ c.if-fields_good.false))
