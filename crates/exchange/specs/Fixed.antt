-- What is fixed of an evening that this driver runs.
use Rattle.std.specs.Prelude.{ℕ, suc, ◌/◌}
use Rattle.document.specs.Limits.{most_detail_documents}
use Rattle.session.specs.Limits.{most_lot_documents}

-- 14 March 2028, and the two entities
abbrev pub date : ℕ
date = 140328

abbrev pub near : ℕ
near = 81

abbrev pub far : ℕ
far = 72

-- what every header says of its moment and of the centre that sends it
abbrev pub moment : ℕ
moment = 21000000

abbrev pub office : ℕ
office = 1

-- the most parts of a lot: as many as fill it, and one more, since the last part of the presentations can be shorter
abbrev pub lot_parts : ℕ
lot_parts = suc (most_lot_documents / most_detail_documents)
