-- 01, 'Course of a direction': the limits of a lot and of a direction.
use Rattle.std.specs.Prelude.{ℕ, Bool, leb, ltb}

-- the most documents of a lot; 001 advises it
abbrev pub most_lot_documents : ℕ
most_lot_documents = 2600

-- the most accepted lots of a direction
abbrev pub most_lots : ℕ
most_lots = 64

-- 12: so many documents are too many for a lot
abbrev pub passes_lot : ℕ → Bool
passes_lot documents = ltb most_lot_documents documents

-- 11: with so many accepted lots there may be no more
abbrev pub lots_used : ℕ → Bool
lots_used lots = leb most_lots lots
