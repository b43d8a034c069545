-- Laws of a list cut into pieces: the step, the split after whole pieces, their count, and that they make up the list again.
use mathlib.Core.Path.{◌≡◌, refl, ap, sym, ◌∙◌}
use mathlib.Core.Bool.{Bool, true, false}
use mathlib.Core.List.{List, [], ◌∷◌, ◌++◌, map, flat_map, append-nil}
use Prim.Native.Nat.{ℕ, zero, suc, ◌+◌, ◌*◌, ◌≤◌, ◌<◌}
use native.Mathlib.Nat.{zero-mul, suc-mul}
use native.Mathlib.Omega.{arith}
use lib.Dec.{leb}
use lib.ListN.{length, take, drop, length-append, length-take, length-drop, take-append-drop, drop_of_length-le}
use lib.Seq.{take_all, length-take-le, take-append-le, drop-append-le, drop-drop, take_at, drop_at}
use borrow.Author.Tests.{leb-true, leb-false, le-leb, lt-leb}
use Rattle.std.specs.Simd.{first_chunks}
use Rattle.packed.specs.Part.{part}
use Rattle.packed.specs.Every.{every}
use Rattle.packed.specs.Pieces.{cut, pieces}
use Rattle.packed.proofs.Laws.Every.{every_cons}

module _ (k : ℕ) (wide : 0 < k) where
  -- what is left of a list once a piece is taken is shorter
  pub shorter : (x : ℕ) (s : List ℕ) → length (drop k (x ∷ s)) ≤ length s
  shorter x s = simp length-drop (omega arith)

  cut_enough : (n m : ℕ) (s : List ℕ) → length s ≤ n → length s ≤ m → cut k n s ≡ cut k m s
  unfolding cut
  cut_enough zero zero s hn hm = refl
  cut_enough zero (suc m) [] hn hm = refl
  cut_enough zero (suc m) (x ∷ s) hn hm = absurd (omega arith)
  cut_enough (suc n) zero [] hn hm = refl
  cut_enough (suc n) zero (x ∷ s) hn hm = absurd (omega arith)
  cut_enough (suc n) (suc m) [] hn hm = refl
  cut_enough (suc n) (suc m) (x ∷ s) hn hm =
      ap (λ (l : List (List ℕ)). take k (x ∷ s) ∷ l) (cut_enough n m (drop k (x ∷ s)) (omega (arith, shorter x s)) (omega (arith, shorter x s)))

  pub pieces_step : (s : List ℕ) → 0 < length s → pieces k s ≡ take k s ∷ pieces k (drop k s)
  unfolding cut
  pieces_step [] h = absurd (omega arith)
  pieces_step (x ∷ s) h =
      ap (λ (l : List (List ℕ)). take k (x ∷ s) ∷ l) (cut_enough (length s) (length (drop k (x ∷ s))) (drop k (x ∷ s)) (shorter x s) (omega arith))

  -- what a reading has left from at on: a piece and the rest, and at last nothing
  pub pieces_at : (at : ℕ) (s : List ℕ) → at < length s → pieces k (drop at s) ≡ part at k s ∷ pieces k (drop (at + k) s)
  pieces_at at s h =
      pieces_step (drop at s) (simp length-drop (omega arith)) ∙ ap (λ (l : List ℕ). part at k s ∷ pieces k l) (drop-drop k at s)

  pub pieces_end : (at : ℕ) (s : List ℕ) → length s ≤ at → pieces k (drop at s) ≡ []
  unfolding cut
  pieces_end at s h = ap (pieces k) (drop_of_length-le s {i = at} h)

  -- a list that is at most one piece
  pub pieces_one : (s : List ℕ) → 0 < length s → length s ≤ k → pieces k s ≡ s ∷ []
  unfolding cut
  pieces_one s h l = pieces_step s h ∙ rw (take_all k s l, drop_of_length-le s {i = k} l)

  -- a first piece, and more behind it
  pub pieces_first : (p s : List ℕ) → length p ≡ k → pieces k (p ++ s) ≡ p ∷ pieces k s
  pieces_first p s e =
      pieces_step (p ++ s) (simp length-append (omega arith)) ∙ rw (take_at p s k e, drop_at p s k e)

  -- n whole pieces, and more behind them
  pub pieces_append : (n : ℕ) (xs ys : List ℕ) → length xs ≡ n * k → pieces k (xs ++ ys) ≡ pieces k xs ++ pieces k ys
  unfolding cut
  pieces_append zero [] ys e = refl
  pieces_append zero (x ∷ xs) ys e = absurd (omega (arith, zero-mul k))
  pieces_append (suc n) xs ys e =
      let long : k ≤ length xs = omega (arith, suc-mul n k) in
      let rest : length (drop k xs) ≡ n * k = simp length-drop (omega (arith, suc-mul n k)) in
      pieces_step (xs ++ ys) (simp length-append (omega arith))
      ∙ rw (take-append-le k xs ys long, drop-append-le k xs ys long, pieces_append n (drop k xs) ys rest)
      (ap (λ (l : List (List ℕ)). l ++ pieces k ys) (sym (pieces_step xs (omega arith))))

  -- the pieces of a list make it up again
  flat : (n : ℕ) (s : List ℕ) → length s ≤ n → flat_map (λ (p : List ℕ). p) (pieces k s) ≡ s
  unfolding cut flat_map
  flat zero [] h = refl
  flat (suc n) [] h = refl
  flat zero (x ∷ s) h = absurd (omega arith)
  flat (suc n) (x ∷ s) h =
      ap (flat_map (λ (p : List ℕ). p)) (pieces_step (x ∷ s) (omega arith))
      ∙ ap (λ (l : List ℕ). take k (x ∷ s) ++ l) (flat n (drop k (x ∷ s)) (omega (arith, shorter x s)))
      ∙ take-append-drop k (x ∷ s)

  pub pieces_flat : (s : List ℕ) → flat_map (λ (p : List ℕ). p) (pieces k s) ≡ s
  pieces_flat s = flat (length s) s (omega arith)

  -- at most n pieces are at most n times their width
  pub few_pieces : (n : ℕ) (s : List ℕ) → length s ≤ n * k → length (pieces k s) ≤ n
  unfolding cut
  few_pieces zero [] h = omega arith
  few_pieces (suc n) [] h = omega arith
  few_pieces zero (x ∷ s) h = absurd (omega (arith, zero-mul k))
  few_pieces (suc n) (x ∷ s) h =
      let rest : length (drop k (x ∷ s)) ≤ n * k = simp length-drop (omega (arith, suc-mul n k)) in
      omega (arith, ap length (pieces_step (x ∷ s) (omega arith)), few_pieces n (drop k (x ∷ s)) rest)

  pub many_pieces : (n : ℕ) (s : List ℕ) → n * k < length s → n < length (pieces k s)
  unfolding cut
  many_pieces zero [] h = absurd (omega arith)
  many_pieces (suc n) [] h = absurd (omega arith)
  many_pieces zero (x ∷ s) h = omega (arith, ap length (pieces_step (x ∷ s) (omega arith)))
  many_pieces (suc n) (x ∷ s) h =
      let rest : n * k < length (drop k (x ∷ s)) = simp length-drop (omega (arith, suc-mul n k)) in
      omega (arith, ap length (pieces_step (x ∷ s) (omega arith)), many_pieces n (drop k (x ∷ s)) rest)

  pub pieces_count : (n : ℕ) (s : List ℕ) → leb (length (pieces k s)) n ≡ leb (length s) (n * k)
  pieces_count n s = count (leb (length s) (n * k)) refl
    where
      count : (t : Bool) → leb (length s) (n * k) ≡ t → leb (length (pieces k s)) n ≡ t
      count true e = le-leb (length (pieces k s)) n (few_pieces n s (leb-true (length s) (n * k) e))
      count false e = lt-leb (length (pieces k s)) n (many_pieces n s (leb-false (length s) (n * k) e))

-- pieces of pieces that are j times as wide are the pieces
module _ (k j : ℕ) (wide : 0 < k) (many : 0 < j * k) where
  within : (n : ℕ) (s : List ℕ) → length s ≤ n → flat_map (pieces k) (pieces (j * k) s) ≡ pieces k s
  unfolding cut flat_map
  within zero [] h = refl
  within zero (x ∷ s) h = absurd (omega arith)
  within (suc n) [] h = refl
  within (suc n) (x ∷ s) h =
      ap (flat_map (pieces k)) (pieces_step (j * k) many (x ∷ s) (omega arith))
      ∙ go (leb (j * k) (length (x ∷ s))) refl (within n (drop (j * k) (x ∷ s)) (omega (arith, shorter (j * k) many x s)))
    where
      go : (t : Bool) → leb (j * k) (length (x ∷ s)) ≡ t → flat_map (pieces k) (pieces (j * k) (drop (j * k) (x ∷ s))) ≡ pieces k (drop (j * k) (x ∷ s)) → pieces k (take (j * k) (x ∷ s)) ++ flat_map (pieces k) (pieces (j * k) (drop (j * k) (x ∷ s))) ≡ pieces k (x ∷ s)
      go true e rest =
          let fits = leb-true (j * k) (length (x ∷ s)) e in
          ap (λ (l : List (List ℕ)). pieces k (take (j * k) (x ∷ s)) ++ l) rest
          ∙ sym (pieces_append k wide j (take (j * k) (x ∷ s)) (drop (j * k) (x ∷ s)) (length-take-le (j * k) (x ∷ s) fits))
          ∙ ap (pieces k) (take-append-drop (j * k) (x ∷ s))
      go false e rest =
          let short = leb-false (j * k) (length (x ∷ s)) e in
          rw (take_all (j * k) (x ∷ s) (omega arith), drop_of_length-le (x ∷ s) {i = j * k} (omega arith)) (append-nil (pieces k (x ∷ s)))

  pub pieces_within : (s : List ℕ) → flat_map (pieces k) (pieces (j * k) s) ≡ pieces k s
  pieces_within s = within (length s) s (omega arith)

-- what is made of each piece, laid end to end, is cut into what was made: where a full piece becomes a full one of the other width, and the
-- last becomes no more than that and not nothing
module _ (k m : ℕ) (wide : 0 < k) (wide' : 0 < m) (f : List ℕ → List ℕ) (q : List ℕ → Bool) (full : (p : List ℕ) → q p ≡ true → length p ≡ k → length (f p) ≡ m) (last : (p : List ℕ) → q p ≡ true → length p ≤ k → (0 < length (f p)) × (length (f p) ≤ m)) where
  made : (n : ℕ) (s : List ℕ) → length s ≤ n → every q (pieces k s) ≡ true → pieces m (flat_map f (pieces k s)) ≡ map f (pieces k s)
  unfolding cut flat_map
  made zero [] h e = refl
  made zero (x ∷ s) h e = absurd (omega arith)
  made (suc n) [] h e = refl
  made (suc n) (x ∷ s) h e =
      let step = pieces_step k wide (x ∷ s) (omega arith) in
      let both = every_cons q (take k (x ∷ s)) (pieces k (drop k (x ∷ s))) (sym (ap (every q) step) ∙ e) in
      ap (λ (l : List (List ℕ)). pieces m (flat_map f l)) step
      ∙ go (leb k (length (x ∷ s))) refl both.0 (made n (drop k (x ∷ s)) (omega (arith, shorter k wide x s)) both.1)
      ∙ ap (map f) (sym step)
    where
      go : (t : Bool) → leb k (length (x ∷ s)) ≡ t → q (take k (x ∷ s)) ≡ true → pieces m (flat_map f (pieces k (drop k (x ∷ s)))) ≡ map f (pieces k (drop k (x ∷ s))) → pieces m (f (take k (x ∷ s)) ++ flat_map f (pieces k (drop k (x ∷ s)))) ≡ f (take k (x ∷ s)) ∷ map f (pieces k (drop k (x ∷ s)))
      go true e good rest =
          let first = take k (x ∷ s) in
          pieces_first m wide' (f first) (flat_map f (pieces k (drop k (x ∷ s)))) (full first good (length-take-le k (x ∷ s) (leb-true k (length (x ∷ s)) e)))
          ∙ ap (λ (l : List (List ℕ)). f first ∷ l) rest
      go false e good rest =
          let short = leb-false k (length (x ∷ s)) e in
          let first = take k (x ∷ s) in
          let none = drop_of_length-le (x ∷ s) {i = k} (omega arith) in
          let size = last first good (simp length-take (omega arith)) in
          (λ i. pieces m (f first ++ flat_map f (pieces k (none i))))
          ∙ ap (pieces m) (append-nil (f first))
          ∙ pieces_one m wide' (f first) size.0 size.1
          ∙ sym (λ i. f first ∷ map f (pieces k (none i)))

  pub pieces_made : (s : List ℕ) → every q (pieces k s) ≡ true → pieces m (flat_map f (pieces k s)) ≡ map f (pieces k s)
  pieces_made s e = made (length s) s (omega arith) e

-- whole pieces are what the library cuts
pub chunks_pieces : (k : ℕ) → 0 < k → (n : ℕ) (s : List ℕ) → length s ≡ n * k → first_chunks k n s ≡ pieces k s
unfolding cut
chunks_pieces k wide zero [] h = refl
chunks_pieces k wide zero (x ∷ s) h = absurd (omega (arith, zero-mul k))
chunks_pieces k wide (suc n) s h =
    let long : k ≤ length s = omega (arith, suc-mul n k) in
    let rest : length (drop k s) ≡ n * k = simp length-drop (omega (arith, suc-mul n k)) in
    ap (λ (l : List (List ℕ)). take k s ∷ l) (chunks_pieces k wide n (drop k s) rest) ∙ sym (pieces_step k wide s (omega arith))
