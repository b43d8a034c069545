-- What one pass over the table of a slice finds.
use Rattle.std.specs.Prelude.{ℕ, ◌≡◌, ◌+◌, ◌<◌, ◌≤◌, Bool, true, ◌&&◌, cond, List, Option, Some, None, length}
use Rattle.packed.specs.Every.{every, none_twice}
use Rattle.lot_file.specs.declared.row.Row.{Row}
use Rattle.lot_file.specs.declared.contents.Contents.{Contents}
use Rattle.lot_file.specs.declared.asked.Lot.{Lot}
use Rattle.lot_file.specs.Layout.{table_bytes}
use Rattle.lot_file.specs.Good.{used, used_rows, numbers_of, order_number, row_good, in_order, end_of, good}
use Rattle.lot_file.specs.Inner.Search.{place_of}

-- so many rows that no sum of bodies passes 64 bits, whatever the bytes of the table are
abbrev pub most_rows : ℕ
most_rows = 9999

-- the clauses of a good slice that ask the used rows alone
abbrev pub rows_good : (most start : ℕ) → List Row → Bool
rows_good most start rs = every (row_good most) rs && none_twice (numbers_of rs) && in_order start rs

-- of all rows of a table: nothing where a used one is not good
unfoldable pub walked_of : (most : ℕ) → List Row → Option Contents
walked_of most rows =
    let rs = used rows in
    let start = table_bytes (length rows) in
    cond (rows_good most start rs) (Some (record { used = length rs; end = end_of start rs })) None

-- the two numbers of a good slice
pub record ToldOf (rows : ℕ) (slice : List ℕ) (c : Contents) : Type 0 where
  pub used : c.used ≡ length (used_rows rows slice)
  pub end : c.end ≡ end_of (table_bytes rows) (used_rows rows slice)

-- one in which an order number is looked for
pub record AskedIn (rows most : ℕ) (slice : List ℕ) (number : ℕ) (c : Contents) : Type 0 where
  pub passed : good rows most slice && order_number number ≡ true
  pub told : ToldOf rows slice c

-- and one with room for the lot of a tray
pub record RoomIn (rows most : ℕ) (slice : List ℕ) (number : ℕ) (tray : List ℕ) (c : Contents) : Type 0 where
  pub asked : AskedIn rows most slice number c
  pub free : c.used < rows
  pub fits : c.end + length tray ≤ length slice

-- the place of a number in it
pub record PlacedIn (rows : ℕ) (slice : List ℕ) (number : ℕ) (lot : Lot) : Type 0 where
  pub used : lot.used ≡ length (used_rows rows slice)
  pub end : lot.end ≡ end_of (table_bytes rows) (used_rows rows slice)
  pub place : lot.place ≡ place_of number (numbers_of (used_rows rows slice))
