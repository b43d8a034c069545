-- `reading_of`: what is made of a line means what the line says.
use mathlib.Core.Path.{refl, ap, ◌∙◌}
use lib.ListN.{length, drop, length-map, length-drop}
use native.Mathlib.Omega.{arith}
use Rattle.script.specs.Reading.{u16}
use Rattle.script.proofs.Laws.Reading.{reading_means}
use Rattle.script.proofs.reading.reading_of.Goals as goal

pub returns : goal.returns
returns c =
    let line = c.args.line in
    let entities = c.entities_of.ensures in
    let size = ap length entities ∙ length-map (drop 3 line.numbers) u16 ∙ length-drop 3 line.numbers in
    record { meaning = reading_means line _ _ _ (omega (arith, size, c.saturating_sub.ensures, c.requires)) c.asked_by.ensures entities c.saturating_sub.ensures c.requires.kind_bound; sizes = (refl, refl) }
