-- Laws of looking up a number among lots: with a lot more, with one less, and where it is not there.
use mathlib.Core.Path.{◌≡◌, refl, ap, sym, ◌∙◌}
use mathlib.Core.Bool.{Bool, true, false, not, ◌&&◌, ◌||◌, cond, false≢true}
use mathlib.Core.List.{List, [], ◌∷◌, ◌++◌, flat_map}
use Prim.Native.Nat.{ℕ, suc, ◌+◌, ◌*◌, ◌≤◌, ◌<◌}
use native.Mathlib.Nat.{suc-mul}
use native.Mathlib.Omega.{arith}
use lib.Dec.{eqb}
use lib.ListN.{length, length-append}
use borrow.Author.Tests.{eq-eqb, ne_eqb, eqb-true, not-true}
use Rattle.packed.specs.Every.{every, member, none_twice}
use Rattle.packed.proofs.Laws.Told.{both}
use Rattle.packed.proofs.Laws.Every.{every_cons}
use Rattle.packed.proofs.Laws.Member.{neither, member_append}
use Rattle.codes.specs.Numbered.{numbered}
use Rattle.document.specs.Limits.{document_bytes}
use Rattle.lot_file.specs.Layout.{Stored, bodies_of}
use Rattle.lot_file.specs.Good.{order_number}
use Rattle.lot_file.specs.Reading.{body_in}
use Rattle.lot_file.specs.Adding.{with_lot, tray_good, lot_good}
use Rattle.lot_file.specs.TakingOut.{without}
use Rattle.lot_file.proofs.Laws.Lots.{lot_numbers, told}

-- a number that no lot has
pub body_absent : (lots : List Stored) (n : ℕ) → member n (lot_numbers lots) ≡ false → body_in lots n ≡ []
unfolding body_in numbered member
body_absent [] n e = refl
body_absent (lot ∷ lots) n e = go (eqb n lot.number) e (body_absent lots n)
  where
    go : (t : Bool) → t || member n (lot_numbers lots) ≡ false → (member n (lot_numbers lots) ≡ false → body_in lots n ≡ []) → cond t lot.body (body_in lots n) ≡ []
    go true f later = absurd (false≢true (sym f))
    go false f later = later f

-- a lot more
body_last : (lots : List Stored) (x : Stored) (n : ℕ) → body_in (lots ++ x ∷ []) n ≡ cond (member n (lot_numbers lots)) (body_in lots n) (cond (eqb n x.number) x.body [])
unfolding body_in numbered member
body_last [] x n = refl
body_last (lot ∷ lots) x n = go (eqb n lot.number) (body_last lots x n)
  where
    go : (t : Bool) → body_in (lots ++ x ∷ []) n ≡ cond (member n (lot_numbers lots)) (body_in lots n) (cond (eqb n x.number) x.body []) → cond t lot.body (body_in (lots ++ x ∷ []) n) ≡ cond (t || member n (lot_numbers lots)) (cond t lot.body (body_in lots n)) (cond (eqb n x.number) x.body [])
    go true e = refl
    go false e = e

pub numbers_last : (lots : List Stored) (x : Stored) → lot_numbers (lots ++ x ∷ []) ≡ lot_numbers lots ++ x.number ∷ []
numbers_last [] x = refl
numbers_last (lot ∷ lots) x = ap (λ (l : List ℕ). lot.number ∷ l) (numbers_last lots x)

or-false : (t : Bool) → t || (false || false) ≡ t
or-false true = refl
or-false false = refl

module _ (lots : List Stored) (number : ℕ) (tray : List ℕ) where
  pub new_body : member number (lot_numbers lots) ≡ false → body_in (with_lot lots number tray) number ≡ tray
  new_body e = body_last lots (record { number = number; body = tray }) number ∙ rw (e, eq-eqb number number refl)

  pub old_body : (n : ℕ) → (n ≡ number → ⊥) → body_in (with_lot lots number tray) n ≡ body_in lots n
  old_body n other = body_last lots (record { number = number; body = tray }) n ∙ ap (λ (t : Bool). cond (member n (lot_numbers lots)) (body_in lots n) (cond t tray [])) (ne_eqb n number other) ∙ go (member n (lot_numbers lots)) refl
    where
      go : (t : Bool) → member n (lot_numbers lots) ≡ t → cond t (body_in lots n) [] ≡ body_in lots n
      go true e = refl
      go false e = sym (body_absent lots n e)

  pub new_there : (n : ℕ) → member n (lot_numbers (with_lot lots number tray)) ≡ member n (lot_numbers lots) || (eqb n number || false)
  unfolding member
  new_there n = ap (member n) (numbers_last lots (record { number = number; body = tray })) ∙ member_append n (lot_numbers lots) (number ∷ [])

  pub old_there : (n : ℕ) → (n ≡ number → ⊥) → member n (lot_numbers (with_lot lots number tray)) ≡ member n (lot_numbers lots)
  old_there n other = new_there n ∙ ap (λ (t : Bool). member n (lot_numbers lots) || (t || false)) (ne_eqb n number other) ∙ or-false (member n (lot_numbers lots))

-- a lot less
pub rest_body : (number : ℕ) (lots : List Stored) (n : ℕ) → (n ≡ number → ⊥) → body_in (without number lots) n ≡ body_in lots n
unfolding body_in numbered without
rest_body number [] n other = refl
rest_body number (lot ∷ lots) n other = go (eqb number lot.number) refl (rest_body number lots n other)
  where
    go : (t : Bool) → eqb number lot.number ≡ t → body_in (without number lots) n ≡ body_in lots n → body_in (cond t lots (lot ∷ without number lots)) n ≡ cond (eqb n lot.number) lot.body (body_in lots n)
    go true e later = let apart : n ≡ lot.number → ⊥ = λ (h : n ≡ lot.number). other (h ∙ sym (eqb-true number lot.number e)) in rw (ne_eqb n lot.number apart)
    go false e later = ap (λ (l : List ℕ). cond (eqb n lot.number) lot.body l) later

pub rest_there : (number : ℕ) (lots : List Stored) (n : ℕ) → (n ≡ number → ⊥) → member n (lot_numbers (without number lots)) ≡ member n (lot_numbers lots)
unfolding member without
rest_there number [] n other = refl
rest_there number (lot ∷ lots) n other = go (eqb number lot.number) refl (rest_there number lots n other)
  where
    go : (t : Bool) → eqb number lot.number ≡ t → member n (lot_numbers (without number lots)) ≡ member n (lot_numbers lots) → member n (lot_numbers (cond t lots (lot ∷ without number lots))) ≡ eqb n lot.number || member n (lot_numbers lots)
    go true e later = let apart : n ≡ lot.number → ⊥ = λ (h : n ≡ lot.number). other (h ∙ sym (eqb-true number lot.number e)) in rw (ne_eqb n lot.number apart)
    go false e later = ap (λ (t : Bool). eqb n lot.number || t) later

module _ (number : ℕ) where
  pub rest_few : (lots : List Stored) → length (without number lots) ≤ length lots
  unfolding without
  rest_few [] = omega arith
  rest_few (lot ∷ lots) = go (eqb number lot.number) (rest_few lots)
    where
      go : (t : Bool) → length (without number lots) ≤ length lots → length (cond t lots (lot ∷ without number lots)) ≤ suc (length lots)
      go true h = omega arith
      go false h = omega arith

  pub rest_fewer : (lots : List Stored) → member number (lot_numbers lots) ≡ true → length (without number lots) < length lots
  unfolding without member
  rest_fewer [] e = absurd (false≢true e)
  rest_fewer (lot ∷ lots) e = go (eqb number lot.number) e (rest_fewer lots)
    where
      go : (t : Bool) → t || member number (lot_numbers lots) ≡ true → (member number (lot_numbers lots) ≡ true → length (without number lots) < length lots) → length (cond t lots (lot ∷ without number lots)) < suc (length lots)
      go true f later = omega arith
      go false f later = omega (arith, later f)

  pub rest_each : (p : Stored → Bool) (lots : List Stored) → every p lots ≡ true → every p (without number lots) ≡ true
  unfolding without every
  rest_each p [] e = refl
  rest_each p (lot ∷ lots) e = let first = every_cons p lot lots e in go (eqb number lot.number) first.0 first.1 (rest_each p lots first.1)
    where
      go : (t : Bool) → p lot ≡ true → every p lots ≡ true → every p (without number lots) ≡ true → every p (cond t lots (lot ∷ without number lots)) ≡ true
      go true here all later = all
      go false here all later = λ i. here i && later i

  -- a number that was not there is not there
  rest_absent : (n : ℕ) (lots : List Stored) → member n (lot_numbers lots) ≡ false → member n (lot_numbers (without number lots)) ≡ false
  unfolding without member
  rest_absent n [] e = refl
  rest_absent n (lot ∷ lots) e = let each = neither (eqb n lot.number) (member n (lot_numbers lots)) e in go (eqb number lot.number) each.0 each.1 (rest_absent n lots each.1)
    where
      go : (t : Bool) → eqb n lot.number ≡ false → member n (lot_numbers lots) ≡ false → member n (lot_numbers (without number lots)) ≡ false → member n (lot_numbers (cond t lots (lot ∷ without number lots))) ≡ false
      go true here all later = all
      go false here all later = λ i. here i || later i

  pub rest_alike : (lots : List Stored) → none_twice (lot_numbers lots) ≡ true → (none_twice (lot_numbers (without number lots)) ≡ true) × (member number (lot_numbers (without number lots)) ≡ false)
  unfolding without none_twice member
  rest_alike [] e = (refl, refl)
  rest_alike (lot ∷ lots) e =
      let each = both (not (member lot.number (lot_numbers lots))) (none_twice (lot_numbers lots)) e in
      go (eqb number lot.number) refl (not-true (member lot.number (lot_numbers lots)) each.0) each.1 (rest_alike lots each.1) (rest_absent lot.number lots)
    where
      go : (t : Bool) → eqb number lot.number ≡ t → member lot.number (lot_numbers lots) ≡ false → none_twice (lot_numbers lots) ≡ true → (none_twice (lot_numbers (without number lots)) ≡ true) × (member number (lot_numbers (without number lots)) ≡ false) → (member lot.number (lot_numbers lots) ≡ false → member lot.number (lot_numbers (without number lots)) ≡ false) → (none_twice (lot_numbers (cond t lots (lot ∷ without number lots))) ≡ true) × (member number (lot_numbers (cond t lots (lot ∷ without number lots))) ≡ false)
      go true f once all later absent = (all, ap (λ (n : ℕ). member n (lot_numbers lots)) (eqb-true number lot.number f) ∙ once)
      go false f once all later absent = ((λ i. not (absent once i) && later.0 i), (λ i. f i || later.1 i))

  -- the last lot, taken out again
  pub rest_last : (lots : List Stored) (tray : List ℕ) → member number (lot_numbers lots) ≡ false → without number (with_lot lots number tray) ≡ lots
  unfolding without member
  rest_last [] tray e = rw (eq-eqb number number refl)
  rest_last (lot ∷ lots) tray e =
      let each = neither (eqb number lot.number) (member number (lot_numbers lots)) e in
      ap (λ (t : Bool). cond t (lots ++ record { number = number; body = tray } ∷ []) (lot ∷ without number (lots ++ record { number = number; body = tray } ∷ []))) each.0
      ∙ ap (λ (l : List Stored). lot ∷ l) (rest_last lots tray each.1)

-- so many lots of so many documents at most
pub bodies_few : (most : ℕ) (lots : List Stored) → every (lot_good most) lots ≡ true → length (bodies_of lots) ≤ length lots * (most * document_bytes)
unfolding bodies_of flat_map
bodies_few most [] e = omega arith
bodies_few most (lot ∷ lots) e =
    let first = every_cons (lot_good most) lot lots e in
    let t = told most lot first.0 in
    omega (arith, length-append lot.body (bodies_of lots), suc-mul (length lots) (most * document_bytes), bodies_few most lots first.1, t.whole, t.few)

-- the bytes of a lot and of the others are those of all
pub bodies_rest : (number : ℕ) (lots : List Stored) → length (bodies_of lots) ≡ length (bodies_of (without number lots)) + length (body_in lots number)
unfolding bodies_of flat_map without body_in numbered
bodies_rest number [] = refl
bodies_rest number (lot ∷ lots) = length-append lot.body (bodies_of lots) ∙ go (eqb number lot.number) (bodies_rest number lots)
  where
    go : (t : Bool) → length (bodies_of lots) ≡ length (bodies_of (without number lots)) + length (body_in lots number) → length lot.body + length (bodies_of lots) ≡ length (bodies_of (cond t lots (lot ∷ without number lots))) + length (cond t lot.body (body_in lots number))
    go true e = omega arith
    go false e = omega (arith, length-append lot.body (bodies_of (without number lots)))

-- the body of a lot that is there, among good ones
pub body_good : (most number : ℕ) (lots : List Stored) → every (lot_good most) lots ≡ true → member number (lot_numbers lots) ≡ true → tray_good most (body_in lots number) ≡ true
unfolding every member body_in numbered
body_good most number [] e h = absurd (false≢true h)
body_good most number (lot ∷ lots) e h =
    let first = every_cons (lot_good most) lot lots e in
    go (eqb number lot.number) h (both (order_number lot.number) (tray_good most lot.body) first.0).1 (body_good most number lots first.1)
  where
    go : (t : Bool) → t || member number (lot_numbers lots) ≡ true → tray_good most lot.body ≡ true → (member number (lot_numbers lots) ≡ true → tray_good most (body_in lots number) ≡ true) → tray_good most (cond t lot.body (body_in lots number)) ≡ true
    go true f here later = here
    go false f here later = later f
