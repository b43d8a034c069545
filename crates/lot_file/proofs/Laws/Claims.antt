-- The claims about every lot file. Each comes from the two laws that join slices and lots: a good slice holds its lots, and a written file is good and
-- holds what it was written of.
use mathlib.Core.Path.{◌≡◌, refl, ap, sym, subst, ◌∙◌}
use mathlib.Core.Bool.{Bool, true, false, not, ◌&&◌, ◌||◌, cond}
use mathlib.Core.List.{List, [], ◌∷◌, ◌++◌}
use Prim.Native.Nat.{ℕ, zero, suc, ◌+◌, ◌-◌, ◌*◌, ◌≤◌, ◌<◌}
use native.Mathlib.Nat.{mul-le-mul_right}
use native.Mathlib.Omega.{arith}
use lib.Dec.{eqb, leb, ltb, lit<}
use lib.ListN.{length, take, drop, length-append, length-drop}
use lib.Seq.{take_at, length-take-le}
use borrow.Author.Tests.{eq-eqb, eqb-true, eqb-false, le-leb, leb-true, lt-leb, leb-false, lt-ltb, le-ltb, ltb-true, ltb-false}
use Rattle.packed.specs.Every.{every, member, none_twice}
use Rattle.packed.proofs.Laws.Told.{both, three}
use Rattle.packed.proofs.Laws.Every.{every_append, every_cons}
use Rattle.packed.proofs.Laws.Member.{neither, none_twice_last}
use Rattle.codes.specs.Chain.{◌when◌, ◌orelse◌}
use Rattle.document.specs.Limits.{document_bytes}
use Rattle.session.specs.Limits.{most_lots, most_lot_documents}
use Rattle.lot_file.specs.Layout.{Stored, table_bytes, file_of, over}
use Rattle.lot_file.specs.Good.{used_rows, order_number, end_of, good}
use Rattle.lot_file.specs.Reading.{lots_in, body_in, present, absent_refusal, body_found}
use Rattle.lot_file.specs.Adding.{tray_good, lot_good, no_room, add_refusal, with_lot, added}
use Rattle.lot_file.specs.TakingOut.{without, taken_out}
use Rattle.lot_file.specs.Claims.{StartsFit, is_bytes, storable, SameReading, WhatIsGood, OfAdding, OfTakingOut, OfBoth, EveryLotFile}
use Rattle.lot_file.proofs.Laws.Binary.{Bytes}
use Rattle.lot_file.proofs.Laws.Lots.{lot_numbers, rows_count, rows_end}
use Rattle.lot_file.proofs.Laws.Held.{sound, used_rows_lem, lots_count, held_rows, held_good, held_file, held}
use Rattle.lot_file.proofs.Laws.Written.{Valid, file_length, written_rows, written_lots, written_good}
use Rattle.lot_file.proofs.Laws.Answers.{lots_numbers, refused_46, unrefused, good_unrefused, adding_25, adding_4, adding_45, adding_0, nothing_added, one_added, nothing_taken, one_taken}
use Rattle.lot_file.proofs.Laws.Lookup.{new_body, old_body, new_there, old_there, numbers_last, rest_body, rest_there, rest_few, rest_fewer, rest_each, rest_alike, rest_last, bodies_few, bodies_rest, body_good}

-- a tested list of bytes
byte_at : (s : List ℕ) → is_bytes s ≡ true → Bytes s
unfolding every
byte_at [] e i = lit< tt
byte_at (b ∷ s) e zero = ltb-true b 256 (every_cons (λ (x : ℕ). ltb x 256) b s e).0
byte_at (b ∷ s) e (suc i) = byte_at s (every_cons (λ (x : ℕ). ltb x 256) b s e).1 i

-- a difference that is less than a number
across : (l f t : ℕ) → f ≤ l → ltb (l - f) t ≡ ltb l (f + t)
across l f t h = go (ltb l (f + t)) refl
  where
    go : (b : Bool) → ltb l (f + t) ≡ b → ltb (l - f) t ≡ b
    go true e = lt-ltb (l - f) t (omega (arith, ltb-true l (f + t) e))
    go false e = le-ltb (l - f) t (omega (arith, ltb-false l (f + t) e))

-- a test by cases
by : {A : Type 0} (t : Bool) → (t ≡ true → A) → (t ≡ false → A) → A
by true f g = f refl
by false f g = g refl

module _ (rows most : ℕ) (fit : StartsFit rows most) where
  valid : (lots : List Stored) → length lots ≤ rows → every (lot_good most) lots ≡ true → none_twice (lot_numbers lots) ≡ true → Valid rows most lots
  valid lots few each alike =
      record { few = few; each = each; alike = alike; small = omega (arith, fit, bodies_few most lots each, mul-le-mul_right (most * document_bytes) few) }

  -- the lots of a good slice
  held_valid : (s : List ℕ) → good rows most s ≡ true → Valid rows most (lots_in rows s)
  unfolding lots_in
  held_valid s e =
      let clauses = sound rows most s e in
      valid (lots_in rows s) (omega (arith, lots_count rows most s clauses, used_rows_lem rows s clauses.table)) (held_good rows most s clauses) (ap none_twice (lots_numbers s (used_rows rows s)) ∙ clauses.alike)

  -- finding, by the lots of a slice
  there : (s : List ℕ) (n : ℕ) → present rows s n ≡ member n (lot_numbers (lots_in rows s))
  unfolding lots_in
  there s n = ap (member n) (sym (lots_numbers s (used_rows rows s)))

  abbrev code_by : (ok : Bool) (n : ℕ) (lots : List Stored) → ℕ
  code_by ok n lots = 25 when not (ok && order_number n) orelse 46 when not (member n (lot_numbers lots))

  code_by_lots : (s : List ℕ) (n : ℕ) → absent_refusal rows most s n ≡ code_by (good rows most s) n (lots_in rows s)
  unfolding absent_refusal
  code_by_lots s n = ap (λ (t : Bool). 25 when not (good rows most s && order_number n) orelse 46 when not t) (there s n)

  -- two good slices read alike where their lots do
  same_reading : (s e : List ℕ) (n : ℕ) → good rows most s ≡ true → good rows most e ≡ true → member n (lot_numbers (lots_in rows e)) ≡ member n (lot_numbers (lots_in rows s)) → body_in (lots_in rows e) n ≡ body_in (lots_in rows s) n → SameReading rows most s e n
  unfolding body_found
  same_reading s e n gs ge member-same Body-same =
      let code = code_by_lots e n ∙ (λ i. 25 when not ((ge ∙ sym gs) i && order_number n) orelse 46 when not (member-same i)) ∙ sym (code_by_lots s n) in
      record { code = code; body = λ i. cond (eqb (code i) 0) (Body-same i) [] }

  unchanged : (s : List ℕ) (n : ℕ) → SameReading rows most s s n
  unchanged s n = record { code = refl; body = refl }

  -- what an unrefused adding has passed
  added_good : (s : List ℕ) (n : ℕ) (tray : List ℕ) → add_refusal rows most s n tray ≡ 0 → good rows most s && order_number n && tray_good most tray ≡ true
  added_good s n tray ok =
      by (good rows most s && order_number n && tray_good most tray) (λ e. e) (λ e. absurd (omega (arith, adding_25 rows most s n tray e)))

  added_new : (s : List ℕ) (n : ℕ) (tray : List ℕ) → add_refusal rows most s n tray ≡ 0 → present rows s n ≡ false
  added_new s n tray ok =
      by (present rows s n) (λ e. absurd (omega (arith, adding_4 rows most s n tray (added_good s n tray ok) e))) (λ e. e)

  added_free : (s : List ℕ) (n : ℕ) (tray : List ℕ) → add_refusal rows most s n tray ≡ 0 → length (lots_in rows s) < rows
  added_free s n tray ok =
      let passed = added_good s n tray ok in
      let clauses = sound rows most s (three (good rows most s) (order_number n) (tray_good most tray) passed).0 in
      let room = by (no_room rows s tray) (λ e. absurd (omega (arith, adding_45 rows most s n tray passed (added_new s n tray ok) e))) (λ e. e) in
      omega (arith, lots_count rows most s clauses, leb-false rows (length (used_rows rows s)) (neither (leb rows (length (used_rows rows s))) (ltb (length s - end_of (table_bytes rows) (used_rows rows s)) (length tray)) room).0)

  abbrev after_adding : (s : List ℕ) (n : ℕ) (tray : List ℕ) → List Stored
  after_adding s n tray = with_lot (lots_in rows s) n tray

  -- the lots of a good slice and one more that is good and new
  more_valid : (lots : List Stored) (n : ℕ) (tray : List ℕ) → Valid rows most lots → length lots < rows → order_number n && tray_good most tray ≡ true → member n (lot_numbers lots) ≡ false → Valid rows most (with_lot lots n tray)
  unfolding every
  more_valid lots n tray v free new absent =
      let x : Stored = record { number = n; body = tray } in
      valid (with_lot lots n tray) (omega (arith, length-append lots (x ∷ [])))
      (every_append (lot_good most) lots (x ∷ []) ∙ (λ i. v.each i && (new i && true)))
      (ap none_twice (numbers_last lots x) ∙ none_twice_last (lot_numbers lots) n ∙ (λ i. v.alike i && not (absent i)))

  adding_valid : (s : List ℕ) (n : ℕ) (tray : List ℕ) → add_refusal rows most s n tray ≡ 0 → Valid rows most (after_adding s n tray)
  adding_valid s n tray ok =
      let passed = three (good rows most s) (order_number n) (tray_good most tray) (added_good s n tray ok) in
      more_valid (lots_in rows s) n tray (held_valid s passed.0) (added_free s n tray ok) (λ i. passed.1 i && passed.2 i) (sym (there s n) ∙ added_new s n tray ok)

  module _ (s : List ℕ) (n : ℕ) (tray : List ℕ) (ok : add_refusal rows most s n tray ≡ 0) where
    abbrev new_rest : List ℕ
    new_rest = drop (length (file_of rows (after_adding s n tray))) s

    added_lots : lots_in rows (added rows most s n tray) ≡ after_adding s n tray
    added_lots = ap (lots_in rows) (sym (one_added rows most s n tray ok)) ∙ written_lots rows most (after_adding s n tray) (adding_valid s n tray ok) new_rest

    added_stays : good rows most (added rows most s n tray) ≡ true
    added_stays = ap (good rows most) (sym (one_added rows most s n tray ok)) ∙ written_good rows most (after_adding s n tray) (adding_valid s n tray ok) new_rest

  -- a good slice answers 0 or leaves all as it was
  added_same : (s : List ℕ) (n : ℕ) (tray : List ℕ) → eqb (add_refusal rows most s n tray) 0 ≡ false → s ≡ added rows most s n tray
  added_same s n tray f = nothing_added rows most s n tray (add_refusal rows most s n tray) f refl

  taken_same : (s : List ℕ) (n : ℕ) → eqb (absent_refusal rows most s n) 0 ≡ false → s ≡ taken_out rows most s n
  taken_same s n f = nothing_taken rows most s n (absent_refusal rows most s n) f refl

  -- the new lot is found, and reads what was added
  added_found : (s : List ℕ) (n : ℕ) (tray : List ℕ) → add_refusal rows most s n tray ≡ 0 → absent_refusal rows most (added rows most s n tray) n ≡ 0
  added_found s n tray ok =
      let passed = three (good rows most s) (order_number n) (tray_good most tray) (added_good s n tray ok) in
      let e = added rows most s n tray in
      let absent = sym (there s n) ∙ added_new s n tray ok in
      let here : member n (lot_numbers (after_adding s n tray)) ≡ true = new_there (lots_in rows s) n tray n ∙ rw (absent, eq-eqb n n refl) in
      unrefused rows most e n (λ i. added_stays s n tray ok i && passed.1 i) (there e n ∙ ap (λ (l : List Stored). member n (lot_numbers l)) (added_lots s n tray ok) ∙ here)

  added_own : (s : List ℕ) (n : ℕ) (tray : List ℕ) → add_refusal rows most s n tray ≡ 0 → body_found rows most (added rows most s n tray) n ≡ tray
  unfolding body_found
  added_own s n tray ok =
      let e = added rows most s n tray in
      ap (λ (j : ℕ). cond (eqb j 0) (body_in (lots_in rows e) n) []) (added_found s n tray ok)
      ∙ ap (λ (l : List Stored). body_in l n) (added_lots s n tray ok)
      ∙ new_body (lots_in rows s) n tray (sym (there s n) ∙ added_new s n tray ok)

  added_others : (s : List ℕ) (n : ℕ) (tray : List ℕ) (m : ℕ) → (m ≡ n → ⊥) → SameReading rows most s (added rows most s n tray) m
  added_others s n tray m other =
      by (eqb (add_refusal rows most s n tray) 0)
      (λ e.
      let ok = eqb-true (add_refusal rows most s n tray) 0 e in
      same_reading s (added rows most s n tray) m (three (good rows most s) (order_number n) (tray_good most tray) (added_good s n tray ok)).0 (added_stays s n tray ok)
      (ap (λ (l : List Stored). member m (lot_numbers l)) (added_lots s n tray ok) ∙ old_there (lots_in rows s) n tray m other)
      (ap (λ (l : List Stored). body_in l m) (added_lots s n tray ok) ∙ old_body (lots_in rows s) n tray m other))
      (λ f. subst (λ (x : List ℕ). SameReading rows most s x m) (added_same s n tray f) (unchanged s m))

  of_adding : OfAdding rows most
  of_adding =
      record {
        stays_good =
            λ (s : List ℕ) (n : ℕ) (tray : List ℕ) (g : good rows most s ≡ true).
            by (eqb (add_refusal rows most s n tray) 0)
            (λ e. added_stays s n tray (eqb-true (add_refusal rows most s n tray) 0 e))
            (λ f. ap (good rows most) (sym (added_same s n tray f)) ∙ g);
        lots = added_lots;
        own = added_own;
        others = added_others;
      }

  -- taking out
  module _ (s : List ℕ) (n : ℕ) (ok : absent_refusal rows most s n ≡ 0) where
    abbrev others_left : List Stored
    others_left = without n (lots_in rows s)

    taken_passed : (good rows most s ≡ true) × (order_number n ≡ true)
    taken_passed = both (good rows most s) (order_number n) (good_unrefused rows most s n ok)

    taken_there : member n (lot_numbers (lots_in rows s)) ≡ true
    taken_there =
        sym (there s n)
        ∙ by (present rows s n) (λ e. e) (λ e. absurd (omega (arith, refused_46 rows most s n (good_unrefused rows most s n ok) e)))

    taken_valid : Valid rows most others_left
    taken_valid =
        let v = held_valid s taken_passed.0 in
        valid others_left (omega (arith, v.few, rest_few n (lots_in rows s))) (rest_each n (lot_good most) (lots_in rows s) v.each) (rest_alike n (lots_in rows s) v.alike).0

    abbrev left_rest : List ℕ
    left_rest = drop (length (file_of rows others_left)) s

    taken_lots : lots_in rows (taken_out rows most s n) ≡ others_left
    taken_lots = ap (lots_in rows) (sym (one_taken rows most s n ok)) ∙ written_lots rows most others_left taken_valid left_rest

    taken_stays : good rows most (taken_out rows most s n) ≡ true
    taken_stays = ap (good rows most) (sym (one_taken rows most s n ok)) ∙ written_good rows most others_left taken_valid left_rest

    taken_absent : present rows (taken_out rows most s n) n ≡ false
    taken_absent =
        there (taken_out rows most s n) n
        ∙ ap (λ (l : List Stored). member n (lot_numbers l)) taken_lots
        ∙ (rest_alike n (lots_in rows s) (held_valid s taken_passed.0).alike).1

    taken_gone : absent_refusal rows most (taken_out rows most s n) n ≡ 46
    taken_gone = refused_46 rows most (taken_out rows most s n) n (λ i. taken_stays i && taken_passed.1 i) taken_absent

    -- a row is free, so that the bytes alone decide
    taken_freed : (tray : List ℕ) → no_room rows (taken_out rows most s n) tray ≡ ltb (length (taken_out rows most s n)) (length (file_of rows others_left) + length tray)
    taken_freed tray =
        let e = taken_out rows most s n in
        let file = file_of rows others_left in
        let whole = sym (one_taken rows most s n ok) in
        let rs = ap (used_rows rows) whole ∙ written_rows rows most others_left taken_valid left_rest in
        let count = ap length rs ∙ rows_count (table_bytes rows) others_left in
        let ends = ap (end_of (table_bytes rows)) rs ∙ rows_end most (table_bytes rows) others_left taken_valid.each ∙ sym (file_length rows most others_left taken_valid) in
        let fewer = rest_fewer n (lots_in rows s) taken_there in
        let free : length others_left < rows = omega (arith, (held_valid s taken_passed.0).few) in
        let long : length file ≤ length e = omega (arith, ap length whole, length-append file left_rest) in
        (λ i. leb rows (count i) || ltb (length e - ends i) (length tray))
        ∙ (λ i. lt-leb rows (length others_left) free i || across (length e) (length file) (length tray) long i)

  taken_others : (s : List ℕ) (n m : ℕ) → (m ≡ n → ⊥) → SameReading rows most s (taken_out rows most s n) m
  taken_others s n m other =
      by (eqb (absent_refusal rows most s n) 0)
      (λ e.
      let ok = eqb-true (absent_refusal rows most s n) 0 e in
      same_reading s (taken_out rows most s n) m (taken_passed s n ok).0 (taken_stays s n ok)
      (ap (λ (l : List Stored). member m (lot_numbers l)) (taken_lots s n ok) ∙ rest_there n (lots_in rows s) m other)
      (ap (λ (l : List Stored). body_in l m) (taken_lots s n ok) ∙ rest_body n (lots_in rows s) m other))
      (λ f. subst (λ (x : List ℕ). SameReading rows most s x m) (taken_same s n f) (unchanged s m))

  of_taking_out : OfTakingOut rows most
  of_taking_out =
      record {
        stays_good =
            λ (s : List ℕ) (n : ℕ) (g : good rows most s ≡ true).
            by (eqb (absent_refusal rows most s n) 0)
            (λ e. taken_stays s n (eqb-true (absent_refusal rows most s n) 0 e))
            (λ f. ap (good rows most) (sym (taken_same s n f)) ∙ g);
        lots = taken_lots;
        gone = taken_gone;
        others = taken_others;
        freed = λ (s : List ℕ) (n : ℕ) (tray : List ℕ) (ok : absent_refusal rows most s n ≡ 0). taken_freed s n ok tray;
      }

  -- what good slices are
  of_good : WhatIsGood rows most
  of_good =
      record {
        held =
            λ (s : List ℕ) (bytes : is_bytes s ≡ true) (g : good rows most s ≡ true).
            let clauses = sound rows most s g in
            let end = end_of (table_bytes rows) (used_rows rows s) in
            let size = ap length (held_file rows most s clauses (byte_at s bytes)) ∙ length-take-le end s clauses.room in
            ap (λ (n : ℕ). file_of rows (lots_in rows s) ++ drop n s) size ∙ sym (held rows most s clauses (byte_at s bytes));
        may_be_held =
            λ (s : List ℕ) (g : good rows most s ≡ true).
            let v = held_valid s g in
            λ i. le-leb (length (lots_in rows s)) rows v.few i && v.each i && v.alike i;
        written =
            λ (s : List ℕ) (lots : List Stored) (e : storable rows most lots ≡ true).
            let t = three (leb (length lots) rows) (every (lot_good most) lots) (none_twice (lot_numbers lots)) e in
            let v = valid lots (leb-true (length lots) rows t.0) t.1 t.2 in
            let rest = drop (length (file_of rows lots)) s in
            (written_good rows most lots v rest, written_lots rows most lots v rest);
      }

  -- a lot added and taken out
  undone : (s : List ℕ) (n : ℕ) (tray : List ℕ) → is_bytes s ≡ true → add_refusal rows most s n tray ≡ 0 → take (length (file_of rows (lots_in rows s))) (taken_out rows most (added rows most s n tray) n) ≡ take (length (file_of rows (lots_in rows s))) s
  undone s n tray bytes ok =
      let file = file_of rows (lots_in rows s) in
      let e = added rows most s n tray in
      let absent = sym (there s n) ∙ added_new s n tray ok in
      let clauses = sound rows most s (three (good rows most s) (order_number n) (tray_good most tray) (added_good s n tray ok)).0 in
      let lots = ap (without n) (added_lots s n tray ok) ∙ rest_last n (lots_in rows s) tray absent in
      ap (take (length file)) (sym (one_taken rows most e n (added_found s n tray ok)) ∙ ap (λ (l : List Stored). over (file_of rows l) e) lots)
      ∙ take_at file (drop (length file) e) (length file) refl
      ∙ sym (ap (take (length file)) (held rows most s clauses (byte_at s bytes)) ∙ take_at file (drop (end_of (table_bytes rows) (used_rows rows s)) s) (length file) refl)

  -- a lot taken out and added again
  module _ (s : List ℕ) (n : ℕ) (ok : absent_refusal rows most s n ≡ 0) where
    abbrev gone : List ℕ
    gone = taken_out rows most s n

    abbrev body : List ℕ
    body = body_found rows most s n

    body_is : body ≡ body_in (lots_in rows s) n
    unfolding body_found
    body_is = ap (λ (j : ℕ). cond (eqb j 0) (body_in (lots_in rows s) n) []) ok

    fits_again : length (file_of rows (without n (lots_in rows s))) + length body ≤ length gone
    fits_again =
        let v = held_valid s (taken_passed s n ok).0 in
        let clauses = sound rows most s (taken_passed s n ok).0 in
        let file = file_of rows (without n (lots_in rows s)) in
        let all = ap (end_of (table_bytes rows)) (sym (held_rows rows most s clauses)) ∙ rows_end most (table_bytes rows) (lots_in rows s) v.each in
        omega (arith, clauses.room, all, file_length rows most (without n (lots_in rows s)) (taken_valid s n ok), bodies_rest n (lots_in rows s), ap length body_is, ap length (one_taken rows most s n ok), length-append file (drop (length file) s), length-drop (length file) s)

    again_0 : add_refusal rows most gone n body ≡ 0
    again_0 =
        let tray = ap (tray_good most) body_is ∙ body_good most n (lots_in rows s) (held_valid s (taken_passed s n ok).0).each (taken_there s n ok) in
        adding_0 rows most gone n body (λ i. taken_stays s n ok i && (taken_passed s n ok).1 i && tray i) (taken_absent s n ok)
        (taken_freed s n ok body ∙ le-ltb (length gone) (length (file_of rows (without n (lots_in rows s))) + length body) fits_again)

    again_lots : lots_in rows (added rows most gone n body) ≡ with_lot (without n (lots_in rows s)) n body
    again_lots = added_lots gone n body again_0 ∙ ap (λ (l : List Stored). with_lot l n body) (taken_lots s n ok)

    again_same : (m : ℕ) → SameReading rows most s (added rows most gone n body) m
    again_same m =
        by (eqb m n)
        (λ e.
        subst (λ (k : ℕ). SameReading rows most s (added rows most gone n body) k) (sym (eqb-true m n e))
        (record { code = added_found gone n body again_0 ∙ sym ok; body = added_own gone n body again_0 }))
        (λ f.
        let other = eqb-false m n f in
        let first = taken_others s n m other in
        let second = added_others gone n body m other in
        record { code = second.code ∙ first.code; body = second.body ∙ first.body })

  of_both : OfBoth rows most
  of_both =
      record {
        undone = undone;
        again = λ (s : List ℕ) (n : ℕ) (ok : absent_refusal rows most s n ≡ 0). (again_0 s n ok, again_lots s n ok, again_same s n ok);
      }

  pub every_lot_file : EveryLotFile rows most
  every_lot_file = record { what = of_good; adding = of_adding; taking_out = of_taking_out; both = of_both }

-- for the limits in force: the longest file ends at 8,487,040
pub lot_file : EveryLotFile most_lots most_lot_documents
lot_file = every_lot_file most_lots most_lot_documents (lit< tt)
