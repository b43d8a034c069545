-- Laws of the totals: their rows fill them, their tests in short and which numbers they carry in any widths, and what an answer tells of the body.
use Rattle.std.specs.Prelude.{Ok}
use mathlib.Core.Path.{◌≡◌, refl, ap, sym, ◌∙◌}
use mathlib.Core.Bool.{Bool, true, ◌&&◌, and-true}
use mathlib.Core.List.{List}
use Prim.Native.Nat.{ℕ, ◌+◌, ◌-◌, ◌^◌, ◌<◌}
use native.Mathlib.Omega.{arith}
use lib.ListN.{get_or}
use borrow.Author.Tests.{lt-ltb}
use Rattle.packed.specs.Part.{part}
use Rattle.packed.specs.Every.{every}
use Rattle.packed.specs.Digits.{are_digits}
use Rattle.packed.proofs.Laws.Digits.{digits_split}
use Rattle.codes.specs.Field.{earning, table_good, table_numbers, table_takes}
use Rattle.codes.proofs.Laws.Field.{adjoining}
use Rattle.amounts.specs.Totals.{totals}
use Rattle.message.specs.declared.total.Total.{Total}
use Rattle.message.specs.declared.widths.Widths.{Widths}
use Rattle.message.specs.Layout.{Layout, body_code, read_body}
use Rattle.message.specs.Total.{lot_total, lot_total_fields, session_total, session_total_fields, total_values, total_of, total_said}
use Rattle.message.specs.Inner.Widths.{total_fields}
use Rattle.message.proofs.Laws.Reading.{told}
use Rattle.message.proofs.Laws.Layout.{Whole}

pub lot_whole : Whole lot_total
unfolding lot_total_fields adjoining every
lot_whole = record { covers = refl; faults = refl }

pub session_whole : Whole session_total
unfolding session_total_fields adjoining every
session_whole = record { covers = refl; faults = refl }

any_two : (a b : Bool) → a && true && (b && true && true) ≡ a && b
any_two a b = simp and-true

module _ (w : Widths) where
  -- the printed positions of the amounts as places
  pub nominal_at : 6 + w.documents - 1 ≡ 5 + w.documents
  nominal_at = omega arith

  pub commission_at : 6 + w.documents + w.nominal - 1 ≡ 5 + w.documents + w.nominal
  commission_at = omega arith

  -- digits of the two counters, and of the two amounts
  pub counters_split : (s : List ℕ) → table_good 1 1 (total_fields w) s ≡ are_digits (part 3 (2 + w.documents) s)
  unfolding total_fields earning every
  counters_split s = any_two (are_digits (part 3 2 s)) (are_digits (part 5 w.documents s)) ∙ sym (digits_split 3 2 w.documents s)

  pub amounts_split : (s : List ℕ) → table_good 1 3 (total_fields w) s ≡ are_digits (part (5 + w.documents) (w.nominal + w.commission) s)
  unfolding total_fields earning every
  amounts_split s =
      any_two (are_digits (part (6 + w.documents - 1) w.nominal s)) (are_digits (part (6 + w.documents + w.nominal - 1) w.commission s))
      ∙ (λ i. are_digits (part (nominal_at i) w.nominal s) && are_digits (part (commission_at i) w.commission s))
      ∙ sym (digits_split (5 + w.documents) w.nominal w.commission s)

-- numbers that a lot total can carry, and a session total
pub lot_in_range : (t : Total) → t.number < 100 ^ 2 → t.stated.documents.0 < 100 ^ 3 → t.stated.nominal.0 < 100 ^ 8 → t.stated.commission.0 < 100 ^ 6 → table_takes lot_total_fields (total_values t) ≡ true
unfolding lot_total_fields table_takes
lot_in_range t number documents nominal commission =
    rw (lt-ltb t.number (100 ^ 2) number, lt-ltb t.stated.documents.0 (100 ^ 3) documents, lt-ltb t.stated.nominal.0 (100 ^ 8) nominal, lt-ltb t.stated.commission.0 (100 ^ 6) commission)

pub session_in_range : (t : Total) → t.number < 100 ^ 2 → t.stated.documents.0 < 100 ^ 4 → t.stated.nominal.0 < 100 ^ 9 → t.stated.commission.0 < 100 ^ 7 → table_takes session_total_fields (total_values t) ≡ true
unfolding session_total_fields table_takes
session_in_range t number documents nominal commission =
    rw (lt-ltb t.number (100 ^ 2) number, lt-ltb t.stated.documents.0 (100 ^ 4) documents, lt-ltb t.stated.nominal.0 (100 ^ 9) nominal, lt-ltb t.stated.commission.0 (100 ^ 7) commission)

-- what an answer tells of the body
pub read_told : (layout : Layout) (t : Total) (body : List ℕ) → total_said (Ok t) ≡ read_body layout body → t ≡ total_of layout.fields body
read_told layout t body e =
    let read = (told (body_code layout body) (table_numbers 1 layout.fields body) (total_values t) e).1 in
    let at : (k : ℕ) → get_or (total_values t) k 0 ≡ get_or (table_numbers 1 layout.fields body) k 0 = λ (k : ℕ). ap (λ (vs : List ℕ). get_or vs k 0) (sym read) in
    λ i. record { number = at 0 i; stated = totals (at 1 i) (at 2 i) (at 3 i) }
