-- `fields_good` tests each rule of the table in turn.
use mathlib.Core.Path.{ap, sym, ◌∙◌}
use mathlib.Core.Bool.{◌&&◌, and_assoc}
use lib.Dec.{eqb}
use Rattle.codes.specs.Field.{exactly}
use Rattle.message.specs.declared.header.Header.{Header}
use Rattle.message.specs.declared.route.Route.{Route}
use Rattle.message.specs.Route.{same_route}
use Rattle.message.specs.Header.{time_of_day, order_number}
use Rattle.message.proofs.Laws.Header.{fields_split}
use Rattle.message.proofs.header.fields_good.Goals as goal

pub returns : goal.returns
returns c =
    let read = c.requires.h_value in
    let r = c.read_route.result in
    let s = c.args.route in
    let time = c.time_of_day.ensures ∙ ap (λ (h : Header). time_of_day h.time) read in
    let route = c.eq.ensures ∙ sym (and_assoc (eqb r.date s.date) (eqb r.presenting s.presenting) (eqb r.receiving s.receiving)) ∙ ap (λ (r : Route). same_route r c.args.route) c.read_route.ensures in
    let number = c.order_number.ensures ∙ ap (λ (h : Header). order_number h.number) read in
    (λ i. c.are_digits.ensures i && time i && route i && number i && exactly 0 (c.number.ensures.value i)) ∙ sym (fields_split c.args.route c.args.body.now)
