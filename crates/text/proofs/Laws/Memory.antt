-- Laws of the memory: how a search goes on, and what it comes to.
use mathlib.Core.Path.{◌≡◌, refl, ap, sym, ◌∙◌}
use mathlib.Core.Bool.{Bool, true, false, cond}
use mathlib.Core.List.{List}
use Prim.Native.Nat.{ℕ, suc, ◌+◌, ◌*◌, ◌-◌, ◌≤◌, ◌<◌, min}
use native.Mathlib.Omega.{arith}
use lib.Dec.{ltb, eqb}
use lib.ListN.{length, take}
use lib.Seq.{sets}
use borrow.Author.Tests.{eqb-true, eqb-false, lt-ltb, le-ltb, eq-eqb, ne_eqb}
use Rattle.packed.specs.Part.{part}
use Rattle.packed.specs.Number.{number}
use Rattle.packed.proofs.Laws.Part.{part_length}
use Rattle.packed.proofs.Laws.Writing.{part_sets}
use Rattle.text.specs.declared.wire.Memory.{Memory}
use Rattle.std.specs.Prelude.{Option, Some, None, unwrap_or}
use Rattle.std.specs.Bool.{then_some}
use Rattle.text.specs.Got.{Got, fitting}
use Rattle.text.specs.Memory.{contents_bytes, most_entries, wire_bytes, entry_number, end_of, place_below, last_place, between_places, entry_bytes, recalled}
use Rattle.text.proofs.Laws.Got.{fitting_fits, fitting_over}

pub end_at_lem : (wire : List ℕ) (i last v : ℕ) → i ≡ suc last → v ≡ number (part (contents_bytes + last * 16 + 8) 8 wire) → v ≡ end_of wire i
unfolding end_of
end_at_lem wire i last v e h = h ∙ sym (ap (end_of wire) e)

pub end_none : (wire : List ℕ) (i : ℕ) → i ≡ 0 → 0 ≡ end_of wire i
unfolding end_of
end_none wire i e = sym (ap (end_of wire) e)

-- a search below i
module _ (wire : List ℕ) (wanted i j found : ℕ) (next : i ≡ suc j) (read : found ≡ entry_number wire j) where
  abbrev place_by : Bool → Bool → ℕ
  place_by here smaller = cond here j (cond smaller most_entries (place_below wire wanted j))

  step : place_below wire wanted i ≡ place_by (eqb found wanted) (ltb found wanted)
  unfolding place_below
  step = ap (place_below wire wanted) next ∙ sym (λ t. place_by (eqb (read t) wanted) (ltb (read t) wanted))

  pub place_here : found ≡ wanted → j ≡ place_below wire wanted i
  place_here e = sym (step ∙ ap (λ (b : Bool). place_by b (ltb found wanted)) (eq-eqb found wanted e))

  pub place_none : (found ≡ wanted → ⊥) → found < wanted → most_entries ≡ place_below wire wanted i
  place_none e h = sym (step ∙ (λ t. place_by (ne_eqb found wanted e t) (lt-ltb found wanted h t)))

  pub place_on : (found ≡ wanted → ⊥) → wanted ≤ found → place_below wire wanted j ≡ place_below wire wanted i
  place_on e h = sym (step ∙ (λ t. place_by (ne_eqb found wanted e t) (le-ltb found wanted h t)))

  -- the place where a search ends, if there
  pub place_there : found ≤ wanted → (r : Option ℕ) → r ≡ then_some (eqb found wanted) j → unwrap_or r most_entries ≡ place_below wire wanted i
  place_there h r e = ap (λ (o : Option ℕ). unwrap_or o most_entries) e ∙ go (eqb found wanted) refl
    where
      go : (b : Bool) → eqb found wanted ≡ b → unwrap_or (then_some b j) most_entries ≡ place_below wire wanted i
      go true f = place_here (eqb-true found wanted f)
      go false f = place_none (eqb-false found wanted f) (omega (arith, eqb-false found wanted f))

pub place_end : (wire : List ℕ) (wanted i : ℕ) → i ≡ 0 → most_entries ≡ place_below wire wanted i
unfolding place_below
place_end wire wanted i e = sym (ap (place_below wire wanted) e)

-- where a search begins
module _ (kept wanted : ℕ) where
  pub last_over : most_entries < kept → 0 ≡ last_place kept wanted
  last_over h = sym (ap (λ (b : Bool). cond b 0 (min kept wanted)) (lt-ltb most_entries kept h))

  pub last_within : kept ≤ most_entries → (r : ℕ) → r ≡ min kept wanted → r ≡ last_place kept wanted
  last_within h r e = e ∙ sym (ap (λ (b : Bool). cond b 0 (min kept wanted)) (le-ltb most_entries kept h))

-- what a copy comes to
module _ (most : ℕ) (wire : List ℕ) (from to : ℕ) where
  abbrev places_by : Bool → Bool → Got
  places_by over turned = cond over None (cond turned None (Some (part from (to - from) wire)))

  pub copy_outside : contents_bytes < to → None ≡ fitting most (between_places wire from to)
  unfolding between_places fitting
  copy_outside h = sym (ap (λ (b : Bool). fitting most (places_by b (ltb to from))) (lt-ltb contents_bytes to h))

  pub copy_turned : to ≤ contents_bytes → to < from → None ≡ fitting most (between_places wire from to)
  unfolding between_places fitting
  copy_turned h k = sym ((λ t. fitting most (places_by (le-ltb contents_bytes to h t) (lt-ltb to from k t))))

  module _ (inside : to ≤ contents_bytes) (order : from ≤ to) (whole : wire_bytes ≤ length wire) where
    size : length (part from (to - from) wire) ≡ to - from
    size = part_length from (to - from) wire (omega arith)

    between : fitting most (between_places wire from to) ≡ fitting most (Some (part from (to - from) wire))
    unfolding between_places
    between = λ t. fitting most (places_by (le-ltb contents_bytes to inside t) (le-ltb to from order t))

    pub copy_over : most < to - from → None ≡ fitting most (between_places wire from to)
    copy_over h = sym (between ∙ fitting_over most (part from (to - from) wire) (omega (arith, size)))

    pub copy_all : (d₀ d : List ℕ) → length d₀ ≡ most → to - from ≤ most → d ≡ sets d₀ 0 (part from (to - from) wire) → Some (take (to - from) d) ≡ fitting most (between_places wire from to)
    copy_all d₀ d e h written =
        ap (λ (l : List ℕ). Some (take (to - from) l)) written
        ∙ ap (λ (l : List ℕ). Some l) (part_sets (part from (to - from) wire) d₀ 0 (to - from) size (omega arith))
        ∙ sym (between ∙ fitting_fits most (part from (to - from) wire) (omega (arith, size)))

-- what is found
module _ (m : Memory) (wire : List ℕ) (wanted : ℕ) where
  abbrev recalled_by : Bool → Got
  recalled_by short = cond short None (entry_bytes wire (place_below wire wanted (last_place m.kept wanted)))

  pub recall_short : length wire < wire_bytes → recalled m wire wanted ≡ None
  unfolding recalled
  recall_short h = ap recalled_by (lt-ltb (length wire) wire_bytes h)

  module _ (whole : wire_bytes ≤ length wire) (i : ℕ) (place : i ≡ place_below wire wanted (last_place m.kept wanted)) where
    here : recalled m wire wanted ≡ entry_bytes wire i
    unfolding recalled
    here = ap recalled_by (le-ltb (length wire) wire_bytes whole) ∙ ap (entry_bytes wire) (sym place)

    pub recall_none : i ≡ most_entries → recalled m wire wanted ≡ None
    recall_none e = here ∙ ap (λ (b : Bool). cond b None (between_places wire (end_of wire i) (end_of wire (i + 1)))) (eq-eqb i most_entries e)

    pub recall_found : (i ≡ most_entries → ⊥) → recalled m wire wanted ≡ between_places wire (end_of wire i) (end_of wire (i + 1))
    recall_found e = here ∙ ap (λ (b : Bool). cond b None (between_places wire (end_of wire i) (end_of wire (i + 1)))) (ne_eqb i most_entries e)
