-- Laws of a direction's course: each step of the driver, from what its calls gave.
use mathlib.Core.Path.{◌≡◌, ap, sym, ◌∙◌}
use mathlib.Core.Bool.{Bool, true, false, ◌||◌, cond}
use mathlib.Core.List.{List}
use Prim.Native.Nat.{ℕ, suc, ◌+◌}
use lib.Dec.{eqb}
use lib.ListN.{length}
use Rattle.session.specs.Hours.{opening}
use Rattle.session.specs.Limits.{passes_lot}
use Rattle.session.specs.Sending.{Send}
use Rattle.session.specs.Engine.{Call}
use Rattle.outgoing.specs.declared.Cursors.{Cursors}
use Rattle.exchange.specs.declared.progress.Progress.{Progress}
use Rattle.exchange.specs.Cursors.{within, part_at, next_operation, same}
use Rattle.document.specs.Part.{count_in}
use Rattle.exchange.specs.Course.{Ends, Standing, round_made, in_open_lot, past_part, part_sent, if_room, detail_sent, while_moving, whole_lot, lot_made, standing_of}

-- a part goes
pub part_sent_lem : (presentations bytes : List ℕ) (s : Standing) (operation before after : ℕ) (ends : Ends) (c : Cursors) → operation ≡ next_operation presentations s.cursors → before ≡ in_open_lot s.ends → ends ≡ round_made (Call.send opening (Send.detail operation bytes)) s.ends → after ≡ in_open_lot ends → c ≡ past_part presentations (count_in bytes) before after s.cursors → record { ends = ends; cursors = c } ≡ part_sent presentations bytes s
unfolding part_sent
part_sent_lem presentations bytes s operation before after ends c op b e a so =
    let made = e ∙ ap (λ (o : ℕ). round_made (Call.send opening (Send.detail o bytes)) s.ends) op in
    let past = so ∙ (λ i. past_part presentations (count_in bytes) (b i) ((a ∙ ap in_open_lot made) i) s.cursors) in
    λ i. record { ends = made i; cursors = past i }

-- the next one, or none: `full` is what the code asked of the lot
module _ (presentations returns bytes : List ℕ) (s : Standing) (so : bytes ≡ part_at presentations returns s.cursors) (gathered : ℕ) (full : Bool) (g : gathered ≡ in_open_lot s.ends) (f : full ≡ passes_lot (gathered + count_in bytes)) where
  by_part : cond (eqb (count_in bytes) 0 || full) s (part_sent presentations bytes s) ≡ detail_sent presentations returns s
  unfolding detail_sent
  by_part =
      ap (λ (b : Bool). cond (eqb (count_in bytes) 0 || b) s (part_sent presentations bytes s)) (f ∙ ap (λ (n : ℕ). passes_lot (n + count_in bytes)) g)
      ∙ ap (λ (b : List ℕ). if_room presentations b s) so

  pub no_room : eqb (count_in bytes) 0 || full ≡ true → s ≡ detail_sent presentations returns s
  no_room e = (rw e) ∙ by_part

  pub room : eqb (count_in bytes) 0 || full ≡ false → part_sent presentations bytes s ≡ detail_sent presentations returns s
  room e = (rw e) ∙ by_part

-- a lot, or none
module _ (presentations returns bytes : List ℕ) (number : ℕ) (s : Standing) (so : bytes ≡ part_at presentations returns s.cursors) where
  by_rest : cond (eqb (length bytes) 0) s (whole_lot number presentations returns s) ≡ lot_made presentations returns number s
  unfolding lot_made
  by_rest = ap (λ (b : List ℕ). cond (eqb (length b) 0) s (whole_lot number presentations returns s)) so

  pub lot_none : eqb (length bytes) 0 ≡ true → s ≡ lot_made presentations returns number s
  lot_none e = (rw e) ∙ by_rest

  pub lot_some : eqb (length bytes) 0 ≡ false → whole_lot number presentations returns s ≡ lot_made presentations returns number s
  lot_some e = (rw e) ∙ by_rest

-- steps: the last one, or one and the rest
module _ (step : ℕ → Standing → Standing) (n most number : ℕ) (s t : Standing) (left : most ≡ suc n) (so : t ≡ step number s) where
  pub stays : same s.cursors t.cursors ≡ true → t ≡ while_moving most step number s
  unfolding while_moving
  stays e = so ∙ sym (ap (λ (b : Bool). cond b (step number s) (while_moving n step (suc number) (step number s))) (ap (λ (x : Standing). same s.cursors x.cursors) (sym so) ∙ e)) ∙ ap (λ (m : ℕ). while_moving m step number s) (sym left)

  pub moves : (number' : ℕ) → number' ≡ suc number → same s.cursors t.cursors ≡ false → while_moving n step number' t ≡ while_moving most step number s
  unfolding while_moving
  moves number' more e =
      (λ i. while_moving n step (more i) (so i))
      ∙ sym (ap (λ (b : Bool). cond b (step number s) (while_moving n step (suc number) (step number s))) (ap (λ (x : Standing). same s.cursors x.cursors) (sym so) ∙ e))
      ∙ ap (λ (m : ℕ). while_moving m step number s) (sym left)

pub over : (step : ℕ → Standing → Standing) (left number : ℕ) (s : Standing) → left ≡ 0 → s ≡ while_moving left step number s
unfolding while_moving
over step left number s none = sym (ap (λ (m : ℕ). while_moving m step number s) none)

-- what holds between two steps: the cursors are within their trays, and the steps that are left lead to the whole
pub record Going (presentations returns : List ℕ) (step : ℕ → Standing → Standing) (left number : ℕ) (end : Standing) (message reply : List ℕ) (at : Progress) : Type 0 where
  pub within : within presentations returns at.cursors ≡ true
  pub whole : while_moving left step number (standing_of at message reply) ≡ end
