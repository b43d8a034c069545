use mathlib.Core.Path.{◌≡◌, refl, ap, sym, ◌∙◌}
use mathlib.Core.List.{List, ◌++◌, map}
use Prim.Native.Nat.{ℕ, suc, ◌-◌, ◌+◌}
use native.Mathlib.Omega.{arith}
use lib.ListN.{length, take, drop, length-set}
use Rattle.std.proofs.lemmas.List.{take_all}
use Rattle.calendar.specs.Rule.{year_days, later, next_day, table_of, entry_of}
use Rattle.calendar.proofs.Laws.Rule.{none_later}
use Rattle.calendar.proofs.Laws.Ascending.{ascends}
use Rattle.calendar.proofs.Laws.Walk.{at_last, last_left, before_length, before_last, over_listed, over_worked, entry_written}
use Rattle.calendar.proofs.generator.fill.Goals as goal

pub loop-place-init : goal.loop-place-init
loop-place-init c =
    let u = c.args.unworked.now in (
      refl,
      ap (λ (later : List ℕ). map (next_day u) later ++ drop year_days c.args.days.now) (sym (none_later year_days (omega arith))),
      sym (take_all (length u) u (omega arith)),
      at_last u c.requires.good,
    )

pub loop-place-preserved-then-last-day : goal.loop-place-preserved-then-last-day
loop-place-preserved-then-last-day c =
    let t = c.loop-place in
    let u = c.args.unworked.now in
    let left = t.left.now in
    let first = t.invariant.2 in
    let w = t.invariant.3 in
    let some = c.in-len1-up.len_at_least in
    let found : entry_of u (length left) ≡ t.place = omega (arith, last_left u left first some, c.if-last-day.true) in
    let counted : suc (length (take (length left - 1) left)) ≡ length left = omega (arith, before_length u left first some) in (
      length-set t.days (t.place - 1) t.next ∙ t.invariant.0,
      entry_written u t.days (drop year_days c.args.days.now) (t.place - 1) t.place t.next (omega arith) (omega arith) (omega arith) w.entry t.invariant.1,
      before_last u left first some,
      over_listed u (t.place - 1) t.place t.next t.next (length (take (length left - 1) left)) (length left) (omega arith) counted refl (omega arith) (ascends u c.requires.good) w found,
    )

pub loop-place-preserved-in_default : goal.loop-place-preserved-in_default
loop-place-preserved-in_default c =
    let t = c.loop-place in
    let u = c.args.unworked.now in
    let left = t.left.now in
    let w = t.invariant.3 in
    let none : length left ≡ 0 = omega arith in (
      length-set t.days (t.place - 1) t.next ∙ t.invariant.0,
      entry_written u t.days (drop year_days c.args.days.now) (t.place - 1) t.place t.next (omega arith) (omega arith) (omega arith) w.entry t.invariant.1,
      t.invariant.2,
      over_worked u (t.place - 1) t.place t.next (t.place - 1 + 1) (length left) (length left) (omega arith) refl (omega arith) (omega arith) (ascends u c.requires.good) w
          (λ found. omega (arith, found, ap (entry_of u) none)),
    )

pub loop-place-preserved : goal.loop-place-preserved
loop-place-preserved c =
    let t = c.loop-place in
    let u = c.args.unworked.now in
    let left = t.left.now in
    let w = t.invariant.3 in
    let last = last_left u left t.invariant.2 c.in-len1-up.len_at_least in (
      length-set t.days (t.place - 1) t.next ∙ t.invariant.0,
      entry_written u t.days (drop year_days c.args.days.now) (t.place - 1) t.place t.next (omega arith) (omega arith) (omega arith) w.entry t.invariant.1,
      t.invariant.2,
      over_worked u (t.place - 1) t.place t.next (t.place - 1 + 1) (length left) (length left) (omega arith) refl (omega arith) (omega arith) (ascends u c.requires.good) w
          (λ found. omega (arith, found, last, c.if-last-day.false)),
    )

pub returns : goal.returns
unfolding table_of
returns c =
    let t = c.loop-place in
    let done : t.place ≡ 0 = omega arith in
    ap (λ (k : ℕ). drop k t.days) (sym done)
    ∙ t.invariant.1
    ∙ ap (λ (k : ℕ). map (next_day c.args.unworked.now) (later k) ++ drop year_days c.args.days.now) done
