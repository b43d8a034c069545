-- `read_digits`: what is left is digits as far as the word is, and with it the value so far is the word's.
use Rattle.std.proofs.Common.{◌≡◌, ◌^◌, ◌<◌, drop}
use Rattle.packed.specs.Every.{every}
use Rattle.text.specs.Digit.{is_decimal}
use Rattle.text.specs.Number.{decimal}
use Rattle.text.proofs.Laws.Number.{after}
use Rattle.text.proofs.number.read_digits.Given as goal

abbrev pub invariant-loop-b : goal.invariant-loop-b
invariant-loop-b l = (l.value < 2 ^ 64) × (every is_decimal (drop l.b-index l.word) ≡ every is_decimal l.word) × (after l.value (drop l.b-index l.word) ≡ decimal l.word)
