-- Laws of what is held: where bytes and entries stand, that rising numbers are found, and that the memory gives what it holds.
use mathlib.Core.Path.{◌≡◌, refl, ap, sym, subst, ◌∙◌}
use mathlib.Core.Bool.{Bool, true, false, ◌&&◌, cond, and-false}
use mathlib.Core.List.{List, [], ◌∷◌, ◌++◌, append_assoc, append-nil}
use Prim.Native.Nat.{ℕ, zero, suc, ◌+◌, ◌*◌, ◌-◌, ◌^◌, ◌≤◌, ◌<◌, min}
use native.Mathlib.Nat.{add-zero, zero-add}
use native.Mathlib.Numerals.{add-one}
use native.Mathlib.Omega.{arith}
use lib.Dec.{eqb, leb, ltb}
use lib.ListN.{length, take, drop, get_or, set, length-append, drop_of_length-le}
use lib.Seq.{sets, length-sets, take-set-le, drop-set-lt, drop-set-add, take_at, drop_at, drop-append-add, drop-drop, drop-cons}
use borrow.Author.Tests.{eqb-true, eqb-false, ne_eqb, leb-true, leb-false, ltb-true, ltb-false, le-ltb, le-leb, lt-leb}
use Rattle.packed.specs.Part.{part}
use Rattle.packed.specs.Number.{number}
use Rattle.packed.specs.Writing.{packed_bytes}
use Rattle.packed.proofs.Laws.Told.{both, three}
use Rattle.packed.proofs.Laws.Part.{part_part, part_split}
use Rattle.packed.proofs.Laws.Writing.{packed_length, written_then_read, part_sets}
use Rattle.text.specs.declared.wire.Memory.{Memory}
use Rattle.std.specs.Prelude.{Some, None}
use Rattle.text.specs.Got.{Got}
use Rattle.text.specs.Memory.{contents_bytes, most_entries, wire_bytes, entry_number, end_of, place_below, last_place, between_places, entry_bytes, recalled}
use Rattle.text.specs.Held.{Written, held_under, contents, entries, Rising, Holds, next_number, has_room}
use Rattle.text.proofs.Laws.Memory.{place_here, place_none, place_on, last_within, recall_short}

-- the one at a place
abbrev nobody : Written
nobody = record { number = 0; bytes = [] }

abbrev pub at : List Written → ℕ → Written
at ws i = get_or ws i nobody

-- where the bytes of the first i end
abbrev pub end_at : List Written → ℕ → ℕ
end_at ws i = length (contents (take i ws))

-- bytes: from the end of the first i on, and one more
contents_drop : (ws : List Written) (i : ℕ) → drop (end_at ws i) (contents ws) ≡ contents (drop i ws)
unfolding contents
contents_drop ws zero = refl
contents_drop [] (suc i) = refl
contents_drop (w ∷ ws) (suc i) =
    ap (λ (n : ℕ). drop n (w.bytes ++ contents ws)) (length-append w.bytes (contents (take i ws)))
    ∙ drop-append-add w.bytes (contents ws) (end_at ws i)
    ∙ contents_drop ws i

end_next : (ws : List Written) (i : ℕ) → i < length ws → end_at ws (i + 1) ≡ end_at ws i + length (at ws i).bytes
unfolding contents
end_next [] i h = absurd (omega arith)
end_next (w ∷ ws) zero h = length-append w.bytes [] ∙ omega arith
end_next (w ∷ ws) (suc i) h =
    let more : suc i + 1 ≡ suc (i + 1) = omega arith in
    ap (end_at (w ∷ ws)) more
    ∙ length-append w.bytes (contents (take (i + 1) ws))
    ∙ omega (arith, length-append w.bytes (contents (take i ws)), end_next ws i (omega arith))

end_most : (ws : List Written) (i : ℕ) → end_at ws i ≤ length (contents ws)
unfolding contents
end_most ws zero = omega arith
end_most [] (suc i) = omega arith
end_most (w ∷ ws) (suc i) = omega (arith, length-append w.bytes (contents (take i ws)), length-append w.bytes (contents ws), end_most ws i)

-- entries: sixteen bytes each
entries_drop : (ws : List Written) (end i : ℕ) → drop (i * 16) (entries end ws) ≡ entries (end + end_at ws i) (drop i ws)
unfolding contents entries
entries_drop ws end zero = ap (λ (n : ℕ). entries n ws) (sym (add-zero end))
entries_drop [] end (suc i) = go (suc i * 16)
  where
    go : (n : ℕ) → ◌≡◌ {A = List ℕ} (drop n []) []
    go zero = refl
    go (suc n) = refl
entries_drop (w ∷ ws) end (suc i) =
    let next = end + length w.bytes in
    let first = packed_bytes 8 w.number ++ packed_bytes 8 next in
    let size : length first ≡ 16 = length-append (packed_bytes 8 w.number) (packed_bytes 8 next) ∙ (λ t. packed_length 8 w.number t + packed_length 8 next t) in
    let ends : next + end_at ws i ≡ end + end_at (w ∷ ws) (suc i) = omega (arith, length-append w.bytes (contents (take i ws))) in
    let all : suc i * 16 ≡ length first + i * 16 = omega arith in
    ap (λ (n : ℕ). drop n (entries end (w ∷ ws))) all
    ∙ ap (drop (length first + i * 16)) (sym (append_assoc (packed_bytes 8 w.number) (packed_bytes 8 next) (entries next ws)))
    ∙ drop-append-add first (entries next ws) (i * 16)
    ∙ entries_drop ws next i
    ∙ ap (λ (n : ℕ). entries n (drop i ws)) ends

-- the halves of an entry
module _ (ws : List Written) (i : ℕ) (h : i < length ws) where
  first_half : part (i * 16) 8 (entries 0 ws) ≡ packed_bytes 8 (at ws i).number
  unfolding entries
  first_half =
      ap (take 8) (entries_drop ws 0 i ∙ ap (entries (0 + end_at ws i)) (drop-cons ws i nobody h))
      ∙ take_at (packed_bytes 8 (at ws i).number) _ 8 (packed_length 8 (at ws i).number)

  second_half : part (i * 16 + 8) 8 (entries 0 ws) ≡ packed_bytes 8 (end_at ws (i + 1))
  unfolding entries
  second_half =
      let ends : 0 + end_at ws i + length (at ws i).bytes ≡ end_at ws (i + 1) = omega (arith, end_next ws i h) in
      ap (take 8) (sym (drop-drop 8 (i * 16) (entries 0 ws)))
      ∙ ap (λ (l : List ℕ). take 8 (drop 8 l)) (entries_drop ws 0 i ∙ ap (entries (0 + end_at ws i)) (drop-cons ws i nobody h))
      ∙ ap (take 8) (drop_at (packed_bytes 8 (at ws i).number) _ 8 (packed_length 8 (at ws i).number))
      ∙ take_at (packed_bytes 8 (0 + end_at ws i + length (at ws i).bytes)) _ 8 (packed_length 8 (0 + end_at ws i + length (at ws i).bytes))
      ∙ ap (packed_bytes 8) ends

-- rising numbers
rising_small : (above most : ℕ) (ws : List Written) (i : ℕ) → i < length ws → Rising above most ws → (above < (at ws i).number) × ((at ws i).number < 100 ^ 8)
unfolding Rising
rising_small above most [] i h r = absurd (omega arith)
rising_small above most (w ∷ ws) zero h r = (r.0, r.1)
rising_small above most (w ∷ ws) (suc i) h r = let on = rising_small w.number most ws i (omega arith) r.2 in (omega arith, on.1)

-- none of those before one has its number, or a larger one
rising_before : (above most : ℕ) (ws : List Written) (i wanted : ℕ) → i < length ws → Rising above most ws → (at ws i).number ≤ wanted → held_under (take i ws) wanted ≡ None
unfolding Rising held_under
rising_before above most ws zero wanted h r k = refl
rising_before above most [] (suc i) wanted h r k = absurd (omega arith)
rising_before above most (w ∷ ws) (suc i) wanted h r k =
    let on = rising_small w.number most ws i (omega arith) r.2 in
    ap (λ (b : Bool). cond b (Some w.bytes) (held_under (take i ws) wanted)) (ne_eqb w.number wanted (omega arith))
    ∙ rising_before w.number most ws i wanted (omega arith) r.2 k

-- none of those from a place on has a number that is not above it
rising_behind : (above most : ℕ) (ws : List Written) (i wanted : ℕ) → Rising above most ws → wanted ≤ above + i → held_under (drop i ws) wanted ≡ None
unfolding Rising held_under
rising_behind above most [] zero wanted r h = refl
rising_behind above most [] (suc i) wanted r h = refl
rising_behind above most (w ∷ ws) zero wanted r h =
    ap (λ (b : Bool). cond b (Some w.bytes) (held_under ws wanted)) (ne_eqb w.number wanted (omega (arith, r.0)))
    ∙ rising_behind w.number most ws zero wanted r.2 (omega (arith, r.0))
rising_behind above most (w ∷ ws) (suc i) wanted r h = rising_behind w.number most ws i wanted r.2 (omega (arith, r.0))

-- what is held, by those before a place and those from it on
abbrev or_else : Got → Got → Got
or_else None other = other
or_else (Some bytes) other = Some bytes

held_split : (ws : List Written) (i wanted : ℕ) → held_under ws wanted ≡ or_else (held_under (take i ws) wanted) (held_under (drop i ws) wanted)
unfolding held_under
held_split ws zero wanted = refl
held_split [] (suc i) wanted = refl
held_split (w ∷ ws) (suc i) wanted = go (eqb w.number wanted) (held_split ws i wanted)
  where
    go : (b : Bool) → held_under ws wanted ≡ or_else (held_under (take i ws) wanted) (held_under (drop i ws) wanted) → cond b (Some w.bytes) (held_under ws wanted) ≡ or_else (cond b (Some w.bytes) (held_under (take i ws) wanted)) (held_under (drop i ws) wanted)
    go true e = refl
    go false e = e

module _ (m : Memory) (wire : List ℕ) (ws : List Written) (so : Holds m wire ws) (wanted : ℕ) where
  number_at : (i : ℕ) → i < length ws → entry_number wire i ≡ (at ws i).number
  unfolding entry_number
  number_at i h =
      ap number (sym (part_part contents_bytes (length ws * 16) (i * 16) 8 wire (omega arith)) ∙ ap (part (i * 16) 8) so.listed ∙ first_half ws i h)
      ∙ written_then_read 8 (at ws i).number (rising_small 0 m.numbered ws i h so.numbers).1

  end_at_lem : (i : ℕ) → i ≤ length ws → end_of wire i ≡ end_at ws i
  unfolding end_of contents
  end_at_lem zero h = refl
  end_at_lem (suc i) h =
      let place : contents_bytes + i * 16 + 8 ≡ contents_bytes + (i * 16 + 8) = omega arith in
      let fits : end_at ws (i + 1) < 100 ^ 8 = omega (arith, end_most ws (i + 1), so.fit) in
      ap (λ (k : ℕ). number (part k 8 wire)) place
      ∙ ap number (sym (part_part contents_bytes (length ws * 16) (i * 16 + 8) 8 wire (omega arith)) ∙ ap (part (i * 16 + 8) 8) so.listed ∙ second_half ws i h)
      ∙ written_then_read 8 (end_at ws (i + 1)) fits
      ∙ ap (end_at ws) (add-one i)

  bytes_at : (i : ℕ) → i < length ws → between_places wire (end_of wire i) (end_of wire (i + 1)) ≡ Some (at ws i).bytes
  unfolding between_places contents
  bytes_at i h =
      let from = end_at ws i in
      let to = end_at ws (i + 1) in
      let size : to - from ≡ length (at ws i).bytes = omega (arith, end_next ws i h) in
      let inside : from + length (at ws i).bytes ≤ length (contents ws) = omega (arith, end_next ws i h, end_most ws (i + 1)) in
      let bytes : part from (to - from) wire ≡ (at ws i).bytes =
      ap (λ (n : ℕ). part from n wire) size
      ∙ ap (λ (k : ℕ). part k (length (at ws i).bytes) wire) (sym (zero-add from))
      ∙ sym (part_part 0 (length (contents ws)) from (length (at ws i).bytes) wire inside)
      ∙ ap (part from (length (at ws i).bytes)) so.stand
      ∙ ap (take (length (at ws i).bytes)) (contents_drop ws i ∙ ap contents (drop-cons ws i nobody h))
      ∙ take_at (at ws i).bytes _ (length (at ws i).bytes) refl in
      (λ t. between_places wire (end_at_lem i (omega arith) t) (end_at_lem (i + 1) (omega arith) t))
      ∙ (λ t. cond (le-ltb contents_bytes to (omega (arith, end_most ws (i + 1), so.fit)) t) None (cond (le-ltb to from (omega (arith, size, end_next ws i h)) t) None (Some (bytes t))))

  -- those from a place on, by the first of them
  behind : (i : ℕ) → i < length ws → held_under (drop i ws) wanted ≡ cond (eqb (at ws i).number wanted) (Some (at ws i).bytes) (held_under (drop (suc i) ws) wanted)
  unfolding held_under
  behind i h = ap (λ (l : List Written). held_under l wanted) (drop-cons ws i nobody h)

  from_there : (i : ℕ) → i < length ws → (at ws i).number ≤ wanted → held_under ws wanted ≡ held_under (drop i ws) wanted
  from_there i h k = held_split ws i wanted ∙ ap (λ (g : Got). or_else g (held_under (drop i ws) wanted)) (rising_before 0 m.numbered ws i wanted h so.numbers k)

  abbrev Found : ℕ → Type 0
  Found i = entry_bytes wire (place_below wire wanted i) ≡ held_under ws wanted

  -- one place further down, where none has the number behind it
  found_step : (i : ℕ) → i < length ws → held_under (drop (suc i) ws) wanted ≡ None → (held_under (drop i ws) wanted ≡ None → Found i) → Found (suc i)
  found_step i h e on = go (eqb (at ws i).number wanted) refl (ltb (at ws i).number wanted) refl
    where
      go : (b : Bool) → eqb (at ws i).number wanted ≡ b → (s : Bool) → ltb (at ws i).number wanted ≡ s → Found (suc i)
      go true is s f =
          let same = eqb-true (at ws i).number wanted is in
          ap (entry_bytes wire) (sym (place_here wire wanted (suc i) i (at ws i).number refl (sym (number_at i h)) same))
          ∙ ap (λ (b : Bool). cond b None (between_places wire (end_of wire i) (end_of wire (i + 1)))) (ne_eqb i most_entries (omega (arith, so.few)))
          ∙ bytes_at i h
          ∙ sym (from_there i h (omega arith) ∙ behind i h ∙ ap (λ (b : Bool). cond b (Some (at ws i).bytes) (held_under (drop (suc i) ws) wanted)) is)
      go false is true f =
          let less = ltb-true (at ws i).number wanted f in
          ap (entry_bytes wire) (sym (place_none wire wanted (suc i) i (at ws i).number refl (sym (number_at i h)) (eqb-false (at ws i).number wanted is) less))
          ∙ sym (from_there i h (omega arith) ∙ behind i h ∙ ap (λ (b : Bool). cond b (Some (at ws i).bytes) (held_under (drop (suc i) ws) wanted)) is ∙ e)
      go false is false f =
          ap (entry_bytes wire) (sym (place_on wire wanted (suc i) i (at ws i).number refl (sym (number_at i h)) (eqb-false (at ws i).number wanted is) (ltb-false (at ws i).number wanted f)))
          ∙ on (behind i h ∙ ap (λ (b : Bool). cond b (Some (at ws i).bytes) (held_under (drop (suc i) ws) wanted)) is ∙ e)

  found_below : (i : ℕ) → i ≤ length ws → held_under (drop i ws) wanted ≡ None → Found i
  unfolding place_below
  found_below zero h e = sym e
  found_below (suc i) h e = found_step i h e (found_below i (omega arith))

  -- where a search begins, none has the number any more
  none_behind : (b : Bool) → leb m.kept wanted ≡ b → held_under (drop (min m.kept wanted) ws) wanted ≡ None
  unfolding held_under
  none_behind true e =
      let all : length ws ≤ min m.kept wanted = omega (arith, so.kept, leb-true m.kept wanted e) in
      ap (λ (l : List Written). held_under l wanted) (drop_of_length-le ws {i = min m.kept wanted} all)
  none_behind false e =
      let more : wanted ≤ 0 + min m.kept wanted = omega (arith, leb-false m.kept wanted e) in
      rising_behind 0 m.numbered ws (min m.kept wanted) wanted so.numbers more

  -- the memory gives what it holds
  pub recalls : recalled m wire wanted ≡ held_under ws wanted
  unfolding recalled held_under
  recalls = go (ltb (length wire) wire_bytes) refl
    where
      go : (b : Bool) → ltb (length wire) wire_bytes ≡ b → recalled m wire wanted ≡ held_under ws wanted
      go true e =
          let short = ltb-true (length wire) wire_bytes e in
          recall_short m wire wanted short ∙ sym (ap (λ (l : List Written). held_under l wanted) (so.short short))
      go false e =
          let few : m.kept ≤ most_entries = omega (arith, so.few, so.kept) in
          let place : min m.kept wanted ≡ last_place m.kept wanted = last_within m.kept wanted few (min m.kept wanted) refl in
          let from : min m.kept wanted ≤ length ws = omega (arith, so.kept) in
          ap (λ (b : Bool). cond b None (entry_bytes wire (place_below wire wanted (last_place m.kept wanted)))) e
          ∙ ap (λ (k : ℕ). entry_bytes wire (place_below wire wanted k)) (sym place)
          ∙ found_below (min m.kept wanted) from (none_behind (leb m.kept wanted) refl)

-- one more
contents_append : (ws : List Written) (w : Written) → contents (ws ++ w ∷ []) ≡ contents ws ++ w.bytes
unfolding contents
contents_append [] w = append-nil w.bytes
contents_append (x ∷ ws) w = ap (λ (l : List ℕ). x.bytes ++ l) (contents_append ws w) ∙ sym (append_assoc x.bytes (contents ws) w.bytes)

entries_append : (ws : List Written) (w : Written) (end : ℕ) → entries end (ws ++ w ∷ []) ≡ entries end ws ++ (packed_bytes 8 w.number ++ packed_bytes 8 (end + length (contents ws) + length w.bytes))
unfolding contents entries
entries_append [] w end =
    ap (λ (l : List ℕ). packed_bytes 8 w.number ++ l) (append-nil (packed_bytes 8 (end + length w.bytes)))
    ∙ ap (λ (n : ℕ). packed_bytes 8 w.number ++ packed_bytes 8 (n + length w.bytes)) (sym (add-zero end))
entries_append (x ∷ ws) w end =
    let next = end + length x.bytes in
    let first = packed_bytes 8 x.number in
    let second = packed_bytes 8 next in
    let last = packed_bytes 8 w.number ++ packed_bytes 8 (next + length (contents ws) + length w.bytes) in
    let ends : next + length (contents ws) ≡ end + length (x.bytes ++ contents ws) = omega (arith, length-append x.bytes (contents ws)) in
    ap (λ (l : List ℕ). first ++ (second ++ l)) (entries_append ws w next)
    ∙ ap (λ (l : List ℕ). first ++ l) (sym (append_assoc second (entries next ws) last))
    ∙ sym (append_assoc first (second ++ entries next ws) last)
    ∙ ap (λ (n : ℕ). (first ++ (second ++ entries next ws)) ++ (packed_bytes 8 w.number ++ packed_bytes 8 (n + length w.bytes))) ends

rising_append : (above most : ℕ) (ws : List Written) (w : Written) → Rising above most ws → most < w.number → w.number < 100 ^ 8 → Rising above w.number (ws ++ w ∷ [])
unfolding Rising
rising_append above most [] w r h small = (omega arith, small, omega arith)
rising_append above most (x ∷ ws) w r h small = (r.0, r.1, rising_append x.number most ws w r.2 h small)

rising_more : (above most more : ℕ) (ws : List Written) → Rising above most ws → most ≤ more → Rising above more ws
unfolding Rising
rising_more above most more [] r h = omega arith
rising_more above most more (x ∷ ws) r h = (r.0, r.1, rising_more x.number most more ws r.2 h)

-- what is written elsewhere leaves a part
part_before : (vs d : List ℕ) (k at n : ℕ) → at + n ≤ k → part at n (sets d k vs) ≡ part at n d
part_before [] d k at n h = refl
part_before (v ∷ vs) d k at n h =
    let place : k ≡ at + (k - at) = omega arith in
    part_before vs (set d k v) (suc k) at n (omega arith)
    ∙ ap (λ (j : ℕ). part at n (set d j v)) place
    ∙ ap (take n) (drop-set-add at d (k - at) v)
    ∙ take-set-le n (drop at d) (k - at) v (omega arith)

part_behind : (vs d : List ℕ) (k at n : ℕ) → k + length vs ≤ at → part at n (sets d k vs) ≡ part at n d
part_behind [] d k at n h = refl
part_behind (v ∷ vs) d k at n h = part_behind vs (set d k v) (suc k) at n (omega arith) ∙ ap (take n) (drop-set-lt at d k v (omega arith))

-- with one more number, and with one more written where it has room
pub forgets : (m r : Memory) (wire : List ℕ) (ws : List Written) → r.kept ≡ m.kept → r.used ≡ m.used → m.numbered ≤ r.numbered → Holds m wire ws → Holds r wire ws
forgets m r wire ws k u n so =
    record {
      kept = k ∙ so.kept;
      used = u ∙ so.used;
      numbers = rising_more 0 m.numbered r.numbered ws so.numbers n;
      few = so.few;
      fit = so.fit;
      stand = so.stand;
      listed = so.listed;
      short = so.short;
    }

module _ (m : Memory) (wire written : List ℕ) (ws : List Written) (so : Holds m wire ws) (number : ℕ) (w₁ w₂ w₃ : List ℕ) (one : w₁ ≡ sets wire m.used written) (two : w₂ ≡ sets w₁ (contents_bytes + m.kept * 16) (packed_bytes 8 number)) (three : w₃ ≡ sets w₂ (contents_bytes + m.kept * 16 + 8) (packed_bytes 8 (m.used + length written))) (whole : wire_bytes ≤ length wire) (few : m.kept < most_entries) (fit : m.used + length written ≤ contents_bytes) (above : m.numbered < number) (small : number < 100 ^ 8) where
  abbrev new : Written
  new = record { number = number; bytes = written }

  abbrev entry : ℕ
  entry = contents_bytes + m.kept * 16

  abbrev end : ℕ
  end = m.used + length written

  size₁ : length w₁ ≡ length wire
  size₁ = ap length one ∙ length-sets wire m.used written

  size₂ : length w₂ ≡ length wire
  size₂ = ap length two ∙ length-sets w₁ entry (packed_bytes 8 number) ∙ size₁

  size₃ : length w₃ ≡ length wire
  size₃ = ap length three ∙ length-sets w₂ (entry + 8) (packed_bytes 8 end) ∙ size₂

  count : length (ws ++ new ∷ []) ≡ m.kept + 1
  count = length-append ws (new ∷ []) ∙ ap (λ (n : ℕ). n + 1) (sym so.kept)

  total : length (contents (ws ++ new ∷ [])) ≡ end
  total = ap length (contents_append ws new) ∙ length-append (contents ws) written ∙ ap (λ (n : ℕ). n + length written) (sym so.used)

  -- a part in front of both entries' halves
  front : (at n : ℕ) → at + n ≤ entry → part at n w₃ ≡ part at n w₁
  front at n h =
      ap (part at n) three
      ∙ part_before (packed_bytes 8 end) w₂ (entry + 8) at n (omega arith)
      ∙ ap (part at n) two
      ∙ part_before (packed_bytes 8 number) w₁ entry at n h

  all_stand : part 0 end w₃ ≡ contents ws ++ written
  all_stand =
      let used : part 0 m.used w₁ ≡ contents ws = ap (part 0 m.used) one ∙ part_before written wire m.used 0 m.used (omega arith) ∙ ap (λ (n : ℕ). part 0 n wire) so.used ∙ so.stand in
      let last : part m.used (length written) w₁ ≡ written = ap (part m.used (length written)) one ∙ part_sets written wire m.used (length written) refl (omega arith) in
      front 0 end (omega arith)
      ∙ part_split 0 m.used (length written) w₁
      ∙ ap (λ (k : ℕ). part 0 m.used w₁ ++ part k (length written) w₁) (zero-add m.used)
      ∙ (λ t. used t ++ last t)

  all_listed : part contents_bytes (m.kept * 16 + (8 + 8)) w₃ ≡ entries 0 ws ++ (packed_bytes 8 number ++ packed_bytes 8 end)
  all_listed =
      let old : part contents_bytes (m.kept * 16) w₃ ≡ entries 0 ws = front contents_bytes (m.kept * 16) (omega arith) ∙ ap (part contents_bytes (m.kept * 16)) one ∙ part_behind written wire m.used contents_bytes (m.kept * 16) fit ∙ ap (λ (n : ℕ). part contents_bytes (n * 16) wire) so.kept ∙ so.listed in
      let first : part entry 8 w₃ ≡ packed_bytes 8 number = ap (part entry 8) three ∙ part_before (packed_bytes 8 end) w₂ (entry + 8) entry 8 (omega arith) ∙ ap (part entry 8) two ∙ part_sets (packed_bytes 8 number) w₁ entry 8 (packed_length 8 number) (omega (arith, size₁)) in
      let second : part (entry + 8) 8 w₃ ≡ packed_bytes 8 end = ap (part (entry + 8) 8) three ∙ part_sets (packed_bytes 8 end) w₂ (entry + 8) 8 (packed_length 8 end) (omega (arith, size₂)) in
      part_split contents_bytes (m.kept * 16) (8 + 8) w₃
      ∙ ap (λ (l : List ℕ). part contents_bytes (m.kept * 16) w₃ ++ l) (part_split entry 8 8 w₃)
      ∙ (λ t. old t ++ (first t ++ second t))

  pub keeps : (r : Memory) → r.numbered ≡ number → r.kept ≡ m.kept + 1 → r.used ≡ end → Holds r w₃ (ws ++ new ∷ [])
  keeps r n k u =
      let wide : length (ws ++ new ∷ []) * 16 ≡ m.kept * 16 + (8 + 8) = omega (arith, count) in
      let ends : 0 + length (contents ws) + length written ≡ end = omega (arith, so.used) in
      record {
        kept = k ∙ sym count;
        used = u ∙ sym total;
        numbers = subst (λ (most : ℕ). Rising 0 most (ws ++ new ∷ [])) (sym n) (rising_append 0 m.numbered ws new so.numbers above small);
        few = omega (arith, count);
        fit = omega (arith, total);
        stand = ap (λ (n : ℕ). part 0 n w₃) total ∙ all_stand ∙ sym (contents_append ws new);
        listed = ap (λ (n : ℕ). part contents_bytes n w₃) wide ∙ all_listed ∙ sym (entries_append ws new 0 ∙ ap (λ (n : ℕ). entries 0 ws ++ (packed_bytes 8 number ++ packed_bytes 8 n)) ends);
        short = λ h. absurd (omega (arith, size₃));
      }

-- no number is smaller than the one before it
pub next_above : (n : ℕ) → n ≤ next_number n
next_above n = go (ltb n (2 ^ 64 - 1))
  where
    go : (b : Bool) → n ≤ cond b (n + 1) n
    go true = omega arith
    go false = omega arith

-- room: what it tells, and that there is none behind the end
module _ (m : Memory) (size lent : ℕ) where
  pub room_told : has_room m size lent ≡ true → (wire_bytes ≤ lent) × (m.kept < most_entries) × (m.used + size ≤ contents_bytes) × (m.numbered < 100 ^ 8 - 1)
  unfolding has_room
  room_told e =
      let last = both (leb wire_bytes lent && ltb m.kept most_entries && leb (m.used + size) contents_bytes) (ltb m.numbered (100 ^ 8 - 1)) e in
      let told = three (leb wire_bytes lent) (ltb m.kept most_entries) (leb (m.used + size) contents_bytes) last.0 in
      (leb-true wire_bytes lent told.0, ltb-true m.kept most_entries told.1, leb-true (m.used + size) contents_bytes told.2, ltb-true m.numbered (100 ^ 8 - 1) last.1)

  abbrev room_by : Bool → Bool
  room_by fits = leb wire_bytes lent && ltb m.kept most_entries && fits && ltb m.numbered (100 ^ 8 - 1)

  pub room_none : contents_bytes < m.used → false ≡ has_room m size lent
  unfolding has_room
  room_none h = sym (ap room_by (lt-leb (m.used + size) contents_bytes (omega arith)) ∙ ap (λ (b : Bool). b && ltb m.numbered (100 ^ 8 - 1)) (and-false (leb wire_bytes lent && ltb m.kept most_entries)))

  pub room_left : m.used ≤ contents_bytes → room_by (leb size (contents_bytes - m.used)) ≡ has_room m size lent
  unfolding has_room
  room_left h = ap room_by (go (leb size (contents_bytes - m.used)) refl)
    where
      go : (b : Bool) → leb size (contents_bytes - m.used) ≡ b → leb size (contents_bytes - m.used) ≡ leb (m.used + size) contents_bytes
      go true e = e ∙ sym (le-leb (m.used + size) contents_bytes (omega (arith, leb-true size (contents_bytes - m.used) e)))
      go false e = e ∙ sym (lt-leb (m.used + size) contents_bytes (omega (arith, leb-false size (contents_bytes - m.used) e)))

-- nothing is held at first
pub holds_nothing : (wire : List ℕ) → Holds (record { numbered = 0; kept = 0; used = 0 }) wire []
unfolding contents entries Rising
holds_nothing wire = record { kept = refl; used = refl; numbers = omega arith; few = omega arith; fit = omega arith; stand = refl; listed = refl; short = λ h. refl }

-- one of two lists is held, by a test
pub holds_if : {r : Memory} {wire : List ℕ} (xs ys : List Written) (test b : Bool) → test ≡ b → Holds r wire (cond b xs ys) → Holds r wire (cond test xs ys)
holds_if {r} {wire} xs ys test b e so = subst (λ (t : Bool). Holds r wire (cond t xs ys)) (sym e) so
