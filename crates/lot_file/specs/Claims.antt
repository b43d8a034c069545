-- What 02, card 7, says of every lot file, claimed of the definitions for any number of rows and any lot limit under which starts fit their four bytes.
-- Proved in proofs/Laws/Claims, and there for the limits in force.
use Rattle.std.specs.Prelude.{ℕ, ◌+◌, ◌*◌, ◌^◌, ◌<◌, ◌≡◌, Bool, true, ◌&&◌, List, map, leb, ltb, length, take}
use Rattle.packed.specs.Every.{every, none_twice}
use Rattle.document.specs.Limits.{document_bytes}
use Rattle.lot_file.specs.Layout.{Stored, table_bytes, file_of, over}
use Rattle.lot_file.specs.Good.{good}
use Rattle.lot_file.specs.Reading.{lots_in, body_found, absent_refusal}
use Rattle.lot_file.specs.Adding.{lot_good, no_room, add_refusal, with_lot, added}
use Rattle.lot_file.specs.TakingOut.{without, taken_out}

-- the end of the longest file fits four bytes, so every start does
abbrev pub StartsFit : (rows most : ℕ) → Type 0
StartsFit rows most = table_bytes rows + rows * (most * document_bytes) < 256 ^ 4

-- a slice of bytes
abbrev pub is_bytes : List ℕ → Bool
is_bytes slice = every (λ (b : ℕ). ltb b 256) slice

-- lots that a file may hold together
abbrev pub storable : (rows most : ℕ) → List Stored → Bool
storable rows most lots = leb (length lots) rows && every (lot_good most) lots && none_twice (map (λ (lot : Stored). lot.number) lots)

-- a lot reads the same in two slices: the code of finding it, and every byte of its documents
pub record SameReading (rows most : ℕ) (before after : List ℕ) (number : ℕ) : Type 0 where
  pub code : absent_refusal rows most after number ≡ absent_refusal rows most before number
  pub body : body_found rows most after number ≡ body_found rows most before number

-- what good slices are: the files of lots that may be held together, and bytes behind them
pub record WhatIsGood (rows most : ℕ) : Type 0 where
  pub held : (slice : List ℕ) → is_bytes slice ≡ true → good rows most slice ≡ true → over (file_of rows (lots_in rows slice)) slice ≡ slice
  pub may_be_held : (slice : List ℕ) → good rows most slice ≡ true → storable rows most (lots_in rows slice) ≡ true
  pub written : (slice : List ℕ) (lots : List Stored) → storable rows most lots ≡ true → (good rows most (over (file_of rows lots) slice) ≡ true) × (lots_in rows (over (file_of rows lots) slice) ≡ lots)

-- adding: a good slice stays good; the new lot is last and reads what was added; 'every other lot reads the same bytes as before', refused or not
pub record OfAdding (rows most : ℕ) : Type 0 where
  pub stays_good : (slice : List ℕ) (number : ℕ) (tray : List ℕ) → good rows most slice ≡ true → good rows most (added rows most slice number tray) ≡ true
  pub lots : (slice : List ℕ) (number : ℕ) (tray : List ℕ) → add_refusal rows most slice number tray ≡ 0 → lots_in rows (added rows most slice number tray) ≡ with_lot (lots_in rows slice) number tray
  pub own : (slice : List ℕ) (number : ℕ) (tray : List ℕ) → add_refusal rows most slice number tray ≡ 0 → body_found rows most (added rows most slice number tray) number ≡ tray
  pub others : (slice : List ℕ) (number : ℕ) (tray : List ℕ) (other : ℕ) → (other ≡ number → ⊥) → SameReading rows most slice (added rows most slice number tray) other

-- taking out: a good slice stays good; the lot is gone and every other one reads the same; and 'what is freed serves the next lot': a row is free, so
-- that there is no room exactly if the bytes that are kept and the new ones together do not fit
pub record OfTakingOut (rows most : ℕ) : Type 0 where
  pub stays_good : (slice : List ℕ) (number : ℕ) → good rows most slice ≡ true → good rows most (taken_out rows most slice number) ≡ true
  pub lots : (slice : List ℕ) (number : ℕ) → absent_refusal rows most slice number ≡ 0 → lots_in rows (taken_out rows most slice number) ≡ without number (lots_in rows slice)
  pub gone : (slice : List ℕ) (number : ℕ) → absent_refusal rows most slice number ≡ 0 → absent_refusal rows most (taken_out rows most slice number) number ≡ 46
  pub others : (slice : List ℕ) (number other : ℕ) → (other ≡ number → ⊥) → SameReading rows most slice (taken_out rows most slice number) other
  pub freed : (slice : List ℕ) (number : ℕ) (tray : List ℕ) → absent_refusal rows most slice number ≡ 0 → no_room rows (taken_out rows most slice number) tray ≡ ltb (length (taken_out rows most slice number)) (length (file_of rows (without number (lots_in rows slice))) + length tray)

-- one after the other: a lot added and taken out leaves the table and the bodies of before; a lot taken out and added again is last, and all lots read as
-- they did
pub record OfBoth (rows most : ℕ) : Type 0 where
  pub undone : (slice : List ℕ) (number : ℕ) (tray : List ℕ) → is_bytes slice ≡ true → add_refusal rows most slice number tray ≡ 0 → let file = file_of rows (lots_in rows slice) in take (length file) (taken_out rows most (added rows most slice number tray) number) ≡ take (length file) slice
  pub again : (slice : List ℕ) (number : ℕ) → absent_refusal rows most slice number ≡ 0 → let gone = taken_out rows most slice number in let back = added rows most gone number (body_found rows most slice number) in (add_refusal rows most gone number (body_found rows most slice number) ≡ 0) × (lots_in rows back ≡ with_lot (without number (lots_in rows slice)) number (body_found rows most slice number)) × ((other : ℕ) → SameReading rows most slice back other)

pub record EveryLotFile (rows most : ℕ) : Type 0 where
  pub what : WhatIsGood rows most
  pub adding : OfAdding rows most
  pub taking_out : OfTakingOut rows most
  pub both : OfBoth rows most
