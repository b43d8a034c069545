-- What the code tells of the next word of a line.
use Rattle.std.specs.Prelude.{ℕ, Option, Some, None, List, [], ◌∷◌}
use Rattle.text.specs.declared.word.Split.{Split}
use Rattle.text.specs.Word.{words}

-- the words of a line, by its next word and what follows that; none where it has no next word
abbrev pub words_from : Option Split → List (List ℕ)
words_from None = []
words_from (Some split) = split.word.now ∷ words split.rest.now
