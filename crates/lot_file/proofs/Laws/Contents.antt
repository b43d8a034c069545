-- Laws of the pass over the used rows: how it starts, one row more, a row that is not good, and where it ends.
use mathlib.Core.Path.{◌≡◌, refl, ap, sym, ◌∙◌}
use mathlib.Core.Bool.{Bool, true, false, not, ◌&&◌, ◌||◌, cond, and_assoc}
use mathlib.Core.List.{List, [], ◌∷◌, ◌++◌, map, append-nil, append_assoc}
use Prim.Native.Nat.{ℕ, ◌+◌, ◌-◌, ◌*◌, ◌≤◌, ◌<◌}
use native.Mathlib.Omega.{arith}
use lib.Dec.{eqb, leb}
use lib.ListN.{length, take, drop, get_or, length-map}
use borrow.Author.Tests.{le-leb, lt-leb}
use Rattle.std.specs.Prelude.{Option, Some, None}
use Rattle.std.proofs.lemmas.List.{map-append, take_more, drop_more, drop_all, length-take-le}
use Rattle.packed.specs.Part.{part}
use Rattle.packed.specs.Pieces.{cut}
use Rattle.packed.specs.Every.{every, member, none_twice, none_above}
use Rattle.packed.proofs.Laws.Every.{every_append}
use Rattle.packed.proofs.Laws.Member.{member_append, above_more, none_twice_last}
use Rattle.packed.proofs.Laws.Told.{both, three}
use Rattle.lot_file.specs.declared.row.Row.{Row}
use Rattle.lot_file.specs.declared.contents.Contents.{Contents}
use Rattle.lot_file.specs.Layout.{row_bytes, table_bytes}
use Rattle.lot_file.specs.Good.{row_in, rows_in, used, used_rows, numbers_of, body_bytes, row_good, in_order, end_of, rest_zero, good}
use Rattle.lot_file.specs.Inner.Contents.{rows_good, walked_of, ToldOf}
use Rattle.lot_file.proofs.Laws.Rows.{rows_length, used_cons, used_stop}

numbers_append : (xs ys : List Row) → numbers_of (xs ++ ys) ≡ numbers_of xs ++ numbers_of ys
numbers_append xs ys = map-append (λ (r : Row). r.number) xs ys

-- rows in order, and others behind them
pub order_append : (start : ℕ) (xs ys : List Row) → in_order start (xs ++ ys) ≡ in_order start xs && in_order (end_of start xs) ys
unfolding in_order end_of
order_append start [] ys = refl
order_append start (x ∷ xs) ys =
    ap (λ (t : Bool). eqb x.start start && t) (order_append (start + body_bytes x) xs ys)
    ∙ sym (and_assoc (eqb x.start start) (in_order (start + body_bytes x) xs) (in_order (end_of (start + body_bytes x) xs) ys))

pub end_append : (start : ℕ) (xs ys : List Row) → end_of start (xs ++ ys) ≡ end_of (end_of start xs) ys
unfolding end_of
end_append start [] ys = refl
end_append start (x ∷ xs) ys = end_append (start + body_bytes x) xs ys

-- one row more
regroup : (e g n m o s : Bool) → e && (g && true) && (n && m) && (o && (s && true)) ≡ e && n && o && (g && s && m)
regroup false g n m o s = refl
regroup true true true true o s = refl
regroup true true true false true true = refl
regroup true true true false true false = refl
regroup true true true false false s = refl
regroup true true false m o s = refl
regroup true false true m true s = refl
regroup true false true m false s = refl
regroup true false false m o s = refl

rows_good_last : (most start : ℕ) (rs : List Row) (r : Row) → rows_good most start (rs ++ r ∷ []) ≡ rows_good most start rs && (row_good most r && eqb r.start (end_of start rs) && not (member r.number (numbers_of rs)))
unfolding every in_order
rows_good_last most start rs r =
    (λ i. every_append (row_good most) rs (r ∷ []) i && none_twice (numbers_append rs (r ∷ []) i) && order_append start rs (r ∷ []) i)
    ∙ ap (λ (t : Bool). every (row_good most) rs && (row_good most r && true) && t && (in_order start rs && (eqb r.start (end_of start rs) && true))) (none_twice_last (numbers_of rs) r.number)
    ∙ regroup (every (row_good most) rs) (row_good most r) (none_twice (numbers_of rs)) (not (member r.number (numbers_of rs))) (in_order start rs) (eqb r.start (end_of start rs))

-- the first of some good rows are good
left_out : (a b : Bool) → not (a || b) ≡ true → not a ≡ true
left_out true b e = e
left_out false b e = refl

none_front : (ns ms : List ℕ) → none_twice (ns ++ ms) ≡ true → none_twice ns ≡ true
unfolding none_twice
none_front [] ms e = refl
none_front (n ∷ ns) ms e =
    let each = both (not (member n (ns ++ ms))) (none_twice (ns ++ ms)) e in
    let alone = left_out (member n ns) (member n ms) (ap not (sym (member_append n ns ms)) ∙ each.0) in
    λ i. alone i && none_front ns ms each.1 i

good_front : (most start : ℕ) (xs ys : List Row) → rows_good most start (xs ++ ys) ≡ true → rows_good most start xs ≡ true
good_front most start xs ys e =
    let each = three (every (row_good most) (xs ++ ys)) (none_twice (numbers_of (xs ++ ys))) (in_order start (xs ++ ys)) e in
    let first = both (every (row_good most) xs) (every (row_good most) ys) (sym (every_append (row_good most) xs ys) ∙ each.0) in
    let second = none_front (numbers_of xs) (numbers_of ys) (ap none_twice (sym (numbers_append xs ys)) ∙ each.1) in
    let third = both (in_order start xs) (in_order (end_of start xs) ys) (sym (order_append start xs ys) ∙ each.2) in
    λ i. first.0 i && second i && third.0 i

not_true : (t : Bool) → (t ≡ true → ⊥) → t ≡ false
not_true true h = absurd (h refl)
not_true false h = refl

-- what the pass has found before a row
abbrev pub read : List (List ℕ) → List Row
read ts = map row_in ts

pub record Sofar (most : ℕ) (ts : List (List ℕ)) (taken end largest : ℕ) : Type 0 where
  pub rest : used (read ts) ≡ read (take taken ts) ++ used (read (drop taken ts))
  pub found : rows_good most (table_bytes (length ts)) (read (take taken ts)) ≡ true
  pub ends : end ≡ end_of (table_bytes (length ts)) (read (take taken ts))
  pub above : none_above largest (numbers_of (read (take taken ts))) ≡ true
  pub bound : end ≤ table_bytes (length ts) + taken * 219043332045

module _ (most : ℕ) (ts : List (List ℕ)) where
  abbrev start : ℕ
  start = table_bytes (length ts)

  pub at_first : Sofar most ts 0 start 0
  unfolding every none_twice in_order end_of
  at_first = record { rest = refl; found = refl; ends = refl; above = refl; bound = omega arith }

  module _ (taken end largest : ℕ) (f : Sofar most ts taken end largest) where
    abbrev before : List Row
    before = read (take taken ts)

    abbrev behind : List Row
    behind = read (drop (taken + 1) ts)

    abbrev ends_here : List Row → Option Contents
    ends_here rs = cond (rows_good most start rs) (Some (record { used = length rs; end = end_of start rs })) None

    walked_is : ends_here (used (read ts)) ≡ walked_of most (read ts)
    unfolding walked_of
    walked_is = ap (λ (n : ℕ). cond (rows_good most (table_bytes n) (used (read ts))) (Some (record { used = length (used (read ts)); end = end_of (table_bytes n) (used (read ts)) })) None) (sym (length-map ts row_in))

    ended : taken ≤ length ts → used (read ts) ≡ before → Some (record { used = taken; end = end }) ≡ walked_of most (read ts)
    ended few all =
        let count = length-map (take taken ts) row_in ∙ length-take-le taken ts few in
        (λ i. cond (sym f.found i) (Some (record { used = sym count i; end = f.ends i })) None) ∙ ap ends_here (sym all) ∙ walked_is

    pub at_last : taken ≡ length ts → Some (record { used = length ts; end = end }) ≡ walked_of most (read ts)
    unfolding used
    at_last all =
        (λ i. Some (record { used = sym all i; end = end }))
        ∙ ended (omega arith) (f.rest ∙ ap (λ (l : List (List ℕ)). before ++ used (read l)) (drop_all taken ts (omega arith)) ∙ append-nil before)

    module _ (r : Row) (more : taken < length ts) (e : r ≡ row_in (get_or ts taken [])) where
      next : read (drop taken ts) ≡ r ∷ behind
      next = ap read (drop_more ts taken [] more) ∙ ap (λ (x : Row). x ∷ behind) (sym e)

      -- a row that is not used
      pub at_unused : r.number ≡ 0 → Some (record { used = taken; end = end }) ≡ walked_of most (read ts)
      at_unused none =
          ended (omega arith) (f.rest ∙ ap (λ (rs : List Row). before ++ used rs) next ∙ ap (λ (rs : List Row). before ++ rs) (used_stop r behind none) ∙ append-nil before)

      module _ (some : r.number ≡ 0 → ⊥) where
        there : used (read ts) ≡ before ++ r ∷ [] ++ used behind
        there =
            f.rest
            ∙ ap (λ (rs : List Row). before ++ used rs) next
            ∙ ap (λ (rs : List Row). before ++ rs) (used_cons r behind some)
            ∙ sym (append_assoc before (r ∷ []) (used behind))

        -- one that may not stand there
        pub at_bad : row_good most r && eqb r.start end && not (member r.number (numbers_of before)) ≡ false → None ≡ walked_of most (read ts)
        at_bad bad =
            let wrong = not_true (rows_good most start (used (read ts))) (λ (h : rows_good most start (used (read ts)) ≡ true).
            let front = good_front most start (before ++ r ∷ []) (used behind) (ap (rows_good most start) (sym there) ∙ h) in
            let last = both (rows_good most start before) (row_good most r && eqb r.start (end_of start before) && not (member r.number (numbers_of before))) (sym (rows_good_last most start before r) ∙ front) in
            let other : false ≡ true = sym bad ∙ ap (λ (n : ℕ). row_good most r && eqb r.start n && not (member r.number (numbers_of before))) f.ends ∙ last.1 in
            cc) in
            (λ i. cond (sym wrong i) (Some (record { used = length (used (read ts)); end = end_of start (used (read ts)) })) None) ∙ walked_is

        -- one that may
        pub one_more : (larger : ℕ) → r.documents < 4294967296 → largest ≤ larger → r.number ≤ larger → row_good most r && eqb r.start end ≡ true → member r.number (numbers_of before) ≡ false → Sofar most ts (taken + 1) (end + body_bytes r) larger
        unfolding every end_of
        one_more larger documents a b here once =
            let last = ap read (take_more ts taken [] more) ∙ map-append row_in (take taken ts) (get_or ts taken [] ∷ []) ∙ ap (λ (x : Row). before ++ x ∷ []) (sym e) in
            record {
              rest = there ∙ ap (λ (rs : List Row). rs ++ used behind) (sym last);
              found =
                  ap (rows_good most start) last
                  ∙ rows_good_last most start before r
                  ∙ ap (λ (n : ℕ). rows_good most start before && (row_good most r && eqb r.start n && not (member r.number (numbers_of before)))) (sym f.ends)
                  ∙ (λ i. f.found i && (here i && not (once i)));
              ends = ap (λ (n : ℕ). n + body_bytes r) f.ends ∙ sym (end_append start before (r ∷ [])) ∙ ap (end_of start) (sym last);
              above =
                  ap (λ (rs : List Row). none_above larger (numbers_of rs)) last
                  ∙ ap (none_above larger) (numbers_append before (r ∷ []))
                  ∙ every_append (λ (n : ℕ). leb n larger) (numbers_of before) (r.number ∷ [])
                  ∙ (λ i. above_more largest larger (numbers_of before) a f.above i && (le-leb r.number larger b i && true));
              bound = omega (arith, f.bound);
            }

-- a slice that is too short for its table
pub short_slice : (rows most : ℕ) (s : List ℕ) → length s < table_bytes rows → good rows most s ≡ false
unfolding good
short_slice rows most s h = rw (lt-leb (table_bytes rows) (length s) h)

-- else the verdict of the pass, and the rest
verdict_order : (e n o f z : Bool) → e && n && o && (f && z) ≡ true && e && n && o && f && z
verdict_order false n o f z = refl
verdict_order true false o f z = refl
verdict_order true true false f z = refl
verdict_order true true true f z = refl

module _ (rows most : ℕ) (s : List ℕ) (h : table_bytes rows ≤ length s) where
  abbrev rs : List Row
  rs = used_rows rows s

  verdict : rows_good most (table_bytes rows) rs && (leb (end_of (table_bytes rows) rs) (length s) && rest_zero rows s) ≡ good rows most s
  unfolding good
  verdict =
      verdict_order (every (row_good most) rs) (none_twice (numbers_of rs)) (in_order (table_bytes rows) rs) (leb (end_of (table_bytes rows) rs) (length s)) (rest_zero rows s)
      ∙ ap (λ (t : Bool). t && every (row_good most) rs && none_twice (numbers_of rs) && in_order (table_bytes rows) rs && leb (end_of (table_bytes rows) rs) (length s) && rest_zero rows s)
      (sym (le-leb (table_bytes rows) (length s) h))

  abbrev told_by : Bool → Option Contents
  told_by t = cond t (Some (record { used = length rs; end = end_of (table_bytes rows) rs })) None

  module _ (ts : List (List ℕ)) (e : ts ≡ cut row_bytes rows s) where
    walked_rows : walked_of most (read ts) ≡ told_by (rows_good most (table_bytes rows) rs)
    unfolding walked_of rows_in
    walked_rows =
        ap (λ (l : List (List ℕ)). walked_of most (read l)) e
        ∙ ap (λ (n : ℕ). cond (rows_good most (table_bytes n) rs) (Some (record { used = length rs; end = end_of (table_bytes n) rs })) None) (rows_length rows s h)

    pub none_told : walked_of most (read ts) ≡ None → good rows most s ≡ false
    none_told none =
        sym verdict
        ∙ ap (λ (t : Bool). t && (leb (end_of (table_bytes rows) rs) (length s) && rest_zero rows s)) (go (rows_good most (table_bytes rows) rs) (sym walked_rows ∙ none))
      where
        go : (t : Bool) → told_by t ≡ None → t ≡ false
        go true n = cc
        go false n = refl

    judged : (c : Contents) (t : Bool) → told_by t ≡ Some c → (t ≡ true) × ToldOf rows s c
    judged c true is =
        let same : c ≡ record { used = length rs; end = end_of (table_bytes rows) rs } = cc in
        (refl, record { used = ap (λ (x : Contents). x.used) same; end = ap (λ (x : Contents). x.end) same })
    judged c false is = cc

    -- what lies behind the used rows gives the verdict, by the two numbers
    pub some_told : (c : Contents) → walked_of most (read ts) ≡ Some c → ToldOf rows s c × (leb c.end (length s) && every (λ (b : ℕ). eqb b 0) (part (table_bytes c.used) (table_bytes rows - table_bytes c.used) s) ≡ good rows most s)
    some_told c some =
        let (fine, told) = judged c (rows_good most (table_bytes rows) rs) (sym walked_rows ∙ some) in (
          told,
          (λ i. sym fine i && (leb (told.end i) (length s) && every (λ (b : ℕ). eqb b 0) (part (table_bytes (told.used i)) (table_bytes rows - table_bytes (told.used i)) s))) ∙ verdict,
        )
