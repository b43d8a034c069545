-- `answer`: the text of the table that was made.
use mathlib.Core.Path.{ap, ◌∙◌}
use Rattle.next_days.specs.Text.{table_text}
use Rattle.next_days.proofs.answer.Goals as goal

pub returns : goal.returns
returns c =
    record { counts = c.write_table.ensures.counts; written = c.write_table.ensures.written ∙ ap table_text c.made.ensures }
