-- `write_table` puts line behind line. The invariant: the lines so far stand at the start of the buffer, and none was longer than the longest.
use mathlib.Core.Path.{◌≡◌}
use Prim.Native.Nat.{◌*◌, ◌≤◌}
use lib.ListN.{length, take}
use Rattle.decimal.proofs.Laws.Text.{Put}
use Rattle.next_days.specs.Text.{table_text, most_line_bytes}
use Rattle.next_days.proofs.text.write_table.Given as goal

abbrev pub invariant-loop-entry : goal.invariant-loop-entry
invariant-loop-entry l =
    (length l.text ≡ length l.initial.text)
    × Put l.initial.text (table_text (take l.entry-index l.table)) l.text l.at
    × (l.at ≤ l.entry-index * most_line_bytes)
