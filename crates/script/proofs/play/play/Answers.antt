-- `play`: a line more.
use Rattle.std.proofs.Common.{ℕ, List, ap, sym, ◌∙◌, length, length-drop, arith}
use Rattle.packed.proofs.Laws.Part.{part_tail}
use Rattle.script.proofs.Laws.Play.{further}
use Rattle.script.proofs.play.play.Goals as goal

pub loop-at-preserved : goal.loop-at-preserved
loop-at-preserved c =
    let inv = c.loop-at.invariant in
    let said = c.in-Some-play_behind.ensures in
    let read = c.in-Some.ensures in (
      omega (arith, read.1, ap (λ (l : List ℕ). length l) (part_tail c.loop-at.at c.args.text.now), length-drop c.loop-at.at c.args.text.now),
      omega (arith, said.written, c.play_behind.auto.output),
      c.play_behind.auto.output ∙ inv.2,
      c.play_behind.auto.wire ∙ inv.3,
      said.kept ∙ further _ _ c.loop-at.count _ inv.4,
      inv.5 ∙ sym c.play_behind.auto.bytes,
    )
