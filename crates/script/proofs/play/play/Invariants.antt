-- `play`: the lines are played one after another, each answered behind the answers so far. The measure is what is left of the text.
use Rattle.std.proofs.Common.{◌≡◌, ◌-◌, ◌≤◌, length, drop}
use Rattle.script.proofs.play.play.Given as goal

abbrev pub invariant-loop-at : goal.invariant-loop-at
invariant-loop-at l = (l.at ≤ length l.text) × (l.count ≤ length l.output) × (length l.output ≡ length l.initial.output) × (length l.wire ≡ length l.initial.wire) × (drop l.count l.output ≡ drop l.count l.initial.output) × (12000 ≡ length l.bytes)

abbrev pub decreases-loop-at : goal.decreases-loop-at
decreases-loop-at l = length l.text - l.at
