-- `close_rows` moves one row after the other. The invariant: with the rows that are still to come, the slice is what it is to be.
use mathlib.Core.Path.{◌≡◌}
use Prim.Native.Nat.{◌+◌, ◌*◌, ◌≤◌}
use lib.Seq.{sets}
use Rattle.lot_file.specs.Layout.{table_bytes}
use Rattle.lot_file.specs.Inner.Moving.{table_closed}
use Rattle.lot_file.proofs.Laws.Moving.{to_come}
use Rattle.lot_file.proofs.moving.close_rows.Given as goal

abbrev pub invariant-loop-i : goal.invariant-loop-i
invariant-loop-i l = (l.next ≤ l.start + l.i * 219043332045) × (sets l.file (table_bytes l.i) (to_come l.file l.i l.used l.next) ≡ table_closed l.place l.used l.start l.initial.file)
