-- `next_days` goes down the chain of its two refusals.
use mathlib.Core.Path.{sym, ◌∙◌}
use native.Mathlib.Omega.{arith}
use Rattle.calendar.proofs.Laws.Generator.{wrong_list, short_table, made}
use Rattle.calendar.proofs.generator.next_days.Goals as goal

pub returns-then-not-good_list : goal.returns-then-not-good_list
returns-then-not-good_list c = let m = wrong_list c.args.unworked.now c.args.days.now (sym c.if-not-good_list.ensures) in record { answer = m.0; after = m.1 }

pub returns-then-days-lt-PLACES : goal.returns-then-days-lt-PLACES
returns-then-days-lt-PLACES c =
    let m = short_table c.args.unworked.now c.args.days.now (sym c.if-not-good_list.ensures) (omega arith) in
    record { answer = m.0; after = m.1 }

pub returns : goal.returns
returns c =
    let m = made c.args.unworked.now c.args.days.now (sym c.if-not-good_list.ensures) (omega arith) in
    record { answer = m.0; after = c.fill.ensures ∙ m.1 }
