use mathlib.Core.Path.{◌≡◌, refl, ap, sym, subst, ◌∙◌}
use mathlib.Core.List.{List, [], ◌∷◌}
use Prim.Native.Nat.{ℕ, ◌+◌, ◌≤◌}
use native.Mathlib.Numerals.{add-one}
use native.Mathlib.Omega.{arith}
use lib.ListN.{length, take, get_or, set, length-set}
use lib.Seq.{take_all, sets}
use Rattle.packed.proofs.Laws.Writing.{part_sets}
use Rattle.decimal.specs.Decimal.{decimal}
use Rattle.decimal.proofs.Laws.Text.{Put, put_behind}
use Rattle.next_days.specs.Text.{line_feed, table_text}
use Rattle.next_days.proofs.Lines.{one_line}
use Rattle.next_days.proofs.text.write_table.Goals as goal

pub loop-entry-init : goal.loop-entry-init
unfolding table_text
loop-entry-init c = (refl, record { written = refl; place = refl }, omega arith)

pub put_decimal-end-requires : goal.put_decimal-end-requires
put_decimal-end-requires c = omega (arith, c.loop-entry.invariant.2, c.loop-entry.invariant.0, c.requires)

pub bounds-text-end : goal.bounds-text-end
bounds-text-end c =
    omega (arith, c.put_decimal-end.ensures.short, c.put_decimal-end.auto.line, c.loop-entry.invariant.2, c.loop-entry.invariant.0, c.requires)

pub loop-entry-preserved : goal.loop-entry-preserved
loop-entry-preserved c =
    let table = c.args.table.now in
    let t = c.loop-entry in
    let i = t.entry-index in
    let after = set c.put_decimal-end.new.line c.put_decimal-end.result line_feed in
    let written = c.put_decimal-end.ensures.written ∙ ap (λ (n : ℕ). sets t.text t.at (decimal n)) c.from.ensures in
    let next = c.put_decimal-end.ensures.next ∙ ap (λ (n : ℕ). t.at + length (decimal n)) c.from.ensures in
    let number = put_behind t.invariant.1 (decimal (get_or table i 0)) written next in
    let line = put_behind number (line_feed ∷ []) {after = after} refl refl in (
      length-set c.put_decimal-end.new.line c.put_decimal-end.result line_feed ∙ c.put_decimal-end.auto.line ∙ t.invariant.0,
      rw add-one (subst (λ (text : List ℕ). Put c.args.text.now text after (c.put_decimal-end.result + 1)) (one_line table i (omega arith)) line),
      omega (arith, c.put_decimal-end.ensures.short, t.invariant.2),
    )

pub returns : goal.returns
returns c =
    let table = c.args.table.now in
    let t = c.loop-entry in
    let all = take_all t.entry-index table (omega arith) in
    let put = t.invariant.1 in
    let fits : t.at ≤ length c.args.text.now = omega (arith, t.invariant.2, c.requires) in
    let text : take t.at t.text ≡ table_text table =
    ap (take t.at) put.written
    ∙ part_sets (table_text (take t.entry-index table)) c.args.text.now 0 t.at (sym put.place) (omega arith)
    ∙ ap table_text all in
    record { counts = (omega (arith, t.invariant.0), put.place ∙ ap length (ap table_text all ∙ sym text)); written = text }
