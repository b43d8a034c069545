-- `play_line`: a line is read, and what it means is played.
use mathlib.Core.Path.{◌≡◌, ap, sym, ◌∙◌}
use lib.ListN.{length, take}
use lib.Seq.{length-take-le}
use native.Mathlib.Omega.{arith}
use Rattle.script.specs.Reading.{meant}
use Rattle.script.proofs.Laws.Play.{told, remembers_told}
use Rattle.script.proofs.play.play_line.Goals as goal

pub reading_of-reading-requires : goal.reading_of-reading-requires
reading_of-reading-requires c = let said = c.read_line.ensures.bounds in record { numbers_len = said.size; kind_bound = said.asked; count_bound = said.count }

pub slice_bounds-play_reading-end-2 : goal.slice_bounds-play_reading-end-2
slice_bounds-play_reading-end-2 c = sym (length-take-le _ _ (omega (arith, c.reading_of-reading.ensures.sizes, c.read_line.ensures.bounds.bytes, c.read_line.auto.bytes)))

pub slice_bounds-play_reading-end-3 : goal.slice_bounds-play_reading-end-3
slice_bounds-play_reading-end-3 c = sym (length-take-le _ _ (omega (arith, c.reading_of-reading.ensures.sizes, c.read_line.ensures.bounds.room, c.filled-line.ensures.size)))

pub play_reading-requires : goal.play_reading-requires
play_reading-requires c =
    let size : length (take c.reading_of-reading.result.room c.filled-line.result) ≡ c.reading_of-reading.result.room = length-take-le _ _ (omega (arith, c.reading_of-reading.ensures.sizes, c.read_line.ensures.bounds.room, c.filled-line.ensures.size)) in
    omega (arith, size, c.reading_of-reading.ensures.sizes, c.read_line.ensures.bounds.room)

pub shape_of-bytes : goal.shape_of-bytes
shape_of-bytes c = c.read_line.auto.bytes

pub returns : goal.returns
returns c =
    let said = c.play_reading.ensures in
    let fill = c.filled-line.ensures.value in
    record { done = told c.args.player c.reading_of-reading.result _ _ _ _ _ _ (c.reading_of-reading.ensures.meaning _ ∙ ap meant c.read_line.ensures.said) fill said.done; memory = remembers_told c.args.player c.reading_of-reading.result _ _ _ c.args.wire.now _ (length c.args.wire.now) c.play_reading.result (c.reading_of-reading.ensures.meaning _ ∙ ap meant c.read_line.ensures.said) fill said.memory }
