-- `read_pairs`: with the bytes that are still to come the buffer is what it is to be, and what is left is digits as far as the word is.
use Rattle.std.proofs.Common.{◌≡◌, ◌*◌, length, drop}
use Rattle.std.proofs.lemmas.List.Edits.{sets}
use Rattle.packed.specs.Every.{every}
use Rattle.text.specs.Digit.{is_hexadecimal}
use Rattle.text.specs.Hex.{hex_bytes}
use Rattle.text.proofs.hex.read_pairs.Given as goal

abbrev pub invariant-loop-i : goal.invariant-loop-i
invariant-loop-i l = (length l.bytes ≡ length l.initial.bytes) × (every is_hexadecimal (drop (l.i * 2) l.word) ≡ every is_hexadecimal l.word) × (sets l.bytes l.i (hex_bytes (drop (l.i * 2) l.word)) ≡ sets l.initial.bytes 0 (hex_bytes l.word))
