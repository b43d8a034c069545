-- What a step over the chunks of a slice takes is the first piece of what was left.
use mathlib.Core.Path.{◌≡◌, refl, sym, ap, ◌∙◌}
use mathlib.Core.List.{List, [], ◌∷◌, ◌++◌, append-nil}
use Prim.Native.Nat.{ℕ, min, ◌<◌}
use native.Mathlib.Omega.{arith}
use lib.ListN.{length, length-append}
use Rattle.packed.specs.Pieces.{cut, pieces}
use Rattle.packed.proofs.Laws.Pieces.{pieces_first, pieces_one}

pub none_left : (k : ℕ) (s : List ℕ) → length s ≡ 0 → pieces k s ≡ []
unfolding cut
none_left k [] e = refl
none_left k (x ∷ s) e = absurd (omega arith)

pub chunk_first : (k : ℕ) (s x t : List ℕ) → 0 < k → s ≡ x ++ t → length x ≡ min k (length s) → 0 < length s → pieces k s ≡ x ∷ pieces k t
chunk_first k s x [] wide parts size some =
    let same : s ≡ x = parts ∙ append-nil x in
    let sum = ap length same in
    ap (pieces k) same ∙ pieces_one k wide x (omega arith) (omega arith) ∙ ap (λ (l : List (List ℕ)). x ∷ l) (sym (none_left k [] refl))
chunk_first k s x (y ∷ t) wide parts size some =
    let sum = ap length parts ∙ length-append x (y ∷ t) in
    ap (pieces k) parts ∙ pieces_first k wide x (y ∷ t) (omega arith)
