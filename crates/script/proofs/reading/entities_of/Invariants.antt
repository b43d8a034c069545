-- `entities_of`: with the entities that are still to come the array is what it is to be.
use Rattle.std.proofs.Common.{◌≡◌, ◌+◌, length, drop, map}
use Rattle.std.proofs.lemmas.List.Edits.{sets}
use Rattle.script.specs.Reading.{u16}
use Rattle.script.proofs.reading.entities_of.Given as goal

abbrev pub invariant-loop-i : goal.invariant-loop-i
invariant-loop-i l = (16 ≡ length l.all) × (sets l.all l.i (map u16 (drop (3 + l.i) l.numbers)) ≡ sets l.initial.all 0 (map u16 (drop 3 l.numbers)))
