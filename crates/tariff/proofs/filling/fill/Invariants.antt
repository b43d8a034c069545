-- `fill` goes through the documents. The invariant: what is filled and what the rest becomes is the filled tray.
use mathlib.Core.Path.{◌≡◌}
use mathlib.Core.List.{flat_map, map}
use Prim.Native.Nat.{◌*◌}
use lib.ListN.{length}
use Rattle.document.specs.Limits.{document_bytes}
use Rattle.document.specs.Part.{documents_of}
use Rattle.tariff.specs.Tariff.{row_in}
use Rattle.tariff.specs.Tray.{filled_document}
use Rattle.tariff.proofs.Laws.Filled.{filled_from}
use Rattle.tariff.proofs.filling.fill.Given as goal

abbrev pub invariant-loop-place : goal.invariant-loop-place
invariant-loop-place l =
    let rows = map row_in l.tariff.rows.now in
    (length l.tray ≡ length l.initial.tray)
    × (filled_from rows (l.place * document_bytes) l.tray ≡ flat_map (filled_document rows) (documents_of l.initial.tray))
