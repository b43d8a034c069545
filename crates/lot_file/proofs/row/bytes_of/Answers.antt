-- `bytes_of`: the last bytes of each number.
use mathlib.Core.Path.{◌≡◌, ◌∙◌}
use mathlib.Core.List.{[], ◌∷◌}
use Prim.Native.Nat.{ℕ, ◌/◌, ◌%◌}
use native.Mathlib.Omega.{arith}
use lib.ListN.{get_or}
use Rattle.lot_file.specs.Layout.{binary_bytes, bytes_of}
use Rattle.lot_file.proofs.row.bytes_of.Goals as goal

last : (v : ℕ) → v % 256 ≡ v / 1 % 256
last v = omega arith

pub returns : goal.returns
unfolding bytes_of binary_bytes
returns c =
    let n = c.args.row.number in
    let s = c.args.row.start in
    let d = c.args.row.documents in
    (λ i. get_or (c.to_be_bytes.ensures i) 6 0 ∷ get_or (c.to_be_bytes.ensures i) 7 0
    ∷ get_or (c.to_be_bytes-2.ensures i) 4 0 ∷ get_or (c.to_be_bytes-2.ensures i) 5 0 ∷ get_or (c.to_be_bytes-2.ensures i) 6 0 ∷ get_or (c.to_be_bytes-2.ensures i) 7 0
    ∷ get_or (c.to_be_bytes-3.ensures i) 4 0 ∷ get_or (c.to_be_bytes-3.ensures i) 5 0 ∷ get_or (c.to_be_bytes-3.ensures i) 6 0 ∷ get_or (c.to_be_bytes-3.ensures i) 7 0 ∷ [])
    ∙ (λ i. n / 256 % 256 ∷ last n i
    ∷ s / 16777216 % 256 ∷ s / 65536 % 256 ∷ s / 256 % 256 ∷ last s i
    ∷ d / 16777216 % 256 ∷ d / 65536 % 256 ∷ d / 256 % 256 ∷ last d i ∷ [])
