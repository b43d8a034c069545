-- `row_in`: each number from its bytes.
use mathlib.Core.Path.{◌≡◌}
use Prim.Native.Nat.{◌≤◌}
use native.Mathlib.Omega.{arith}
use lib.ListN.{length}
use Rattle.packed.specs.Part.{part}
use Rattle.lot_file.specs.Layout.{binary}
use Rattle.lot_file.specs.Good.{row_in}
use Rattle.lot_file.proofs.Laws.Binary.{read_two, read_four}
use Rattle.lot_file.proofs.row.row_in.Goals as goal

pub returns-clause-row : goal.returns-clause-row
unfolding row_in
returns-clause-row c =
    let s = c.args.bytes.now in
    let long : 10 ≤ length s = omega arith in
    let number : c.from_be_bytes.result ≡ binary (part 0 2 s) = omega (arith, c.from_be_bytes.ensures, read_two 0 s (omega arith)) in
    let start : c.from_be_bytes-2.result ≡ binary (part 2 4 s) = omega (arith, c.from_be_bytes-2.ensures, read_four 2 s (omega arith), read_two 2 s (omega arith), read_two 4 s (omega arith)) in
    let documents : c.from_be_bytes-3.result ≡ binary (part 6 4 s) = omega (arith, c.from_be_bytes-3.ensures, read_four 6 s (omega arith), read_two 6 s (omega arith), read_two 8 s (omega arith)) in
    λ i. record { number = number i; start = start i; documents = documents i }
