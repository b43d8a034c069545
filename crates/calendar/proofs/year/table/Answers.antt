-- `table` hands out the constant table: one test over all its entries, which antt computes, shows that it is that of the list.
use mathlib.Core.Path.{refl}
use Rattle.packed.specs.Every.{member}
use Rattle.document.specs.Rules.{month_days}
use Rattle.calendar.specs.Dates.{day_number}
use Rattle.calendar.specs.Year.{holidays}
use Rattle.calendar.proofs.Laws.Year.{table_2028}
use Rattle.calendar.proofs.year.table.Goals as goal

pub returns : goal.returns
unfolding holidays day_number month_days member
returns c = table_2028 _ refl refl
