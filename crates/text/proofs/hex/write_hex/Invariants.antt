-- `write_hex`: with the bytes that are still to come, the slice is what it is to be.
use Rattle.std.proofs.Common.{◌≡◌, ◌+◌, ◌*◌, length, drop}
use Rattle.std.proofs.lemmas.List.Edits.{sets}
use Rattle.text.specs.Hex.{hex_text}
use Rattle.text.proofs.hex.write_hex.Given as goal

abbrev pub invariant-loop-i : goal.invariant-loop-i
invariant-loop-i l = (length l.d ≡ length l.initial.d) × (sets l.d (l.at + l.i * 2) (hex_text (drop l.i l.bytes)) ≡ sets l.initial.d l.at (hex_text l.bytes))
