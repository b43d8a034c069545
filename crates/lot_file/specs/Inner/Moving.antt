-- What adding and taking out write, place by place.
use Rattle.std.specs.Prelude.{ℕ, ◌+◌, ◌-◌, ◌≤◌, ◌<◌, length, drop, replicate}
use mathlib.Core.List.{List, [], ◌∷◌, ◌++◌, flat_map}
use Rattle.std.proofs.lemmas.List.Edits.{sets}
use Rattle.packed.specs.Part.{part}
use Rattle.document.specs.Part.{count_in}
use Rattle.lot_file.specs.declared.row.Row.{Row}
use Rattle.lot_file.specs.Layout.{row_bytes, table_bytes, bytes_of}
use Rattle.lot_file.specs.Good.{row_in, rows_in, body_bytes}
use Rattle.lot_file.specs.Inner.Contents.{most_rows}

-- a row behind the used ones, and a body behind the last
unfoldable pub appended : (used end number : ℕ) (tray slice : List ℕ) → List ℕ
appended used end number tray slice =
    sets (sets slice (table_bytes used) (bytes_of (record { number = number; start = end; documents = count_in tray }))) end tray

-- rows whose bodies stand one behind the other from another place on
unfoldable pub restarted : (start : ℕ) → List Row → List Row
restarted start [] = []
restarted start (r ∷ rs) = record { number = r.number; start = start; documents = r.documents } ∷ restarted (start + body_bytes r) rs

-- the rows behind a place, of so many used, moved down by one, and the last cleared
unfoldable pub table_closed : (place used start : ℕ) (slice : List ℕ) → List ℕ
table_closed place used start slice =
    let behind = rows_in (used - (place + 1)) (drop (table_bytes (place + 1)) slice) in
    sets slice (table_bytes place) (flat_map bytes_of (restarted start behind) ++ replicate row_bytes 0)

-- the row at a place
abbrev pub row_at : (place : ℕ) (slice : List ℕ) → Row
row_at place slice = row_in (part (table_bytes place) row_bytes slice)

-- and the bodies behind that row's own, moved down to where its own started
unfoldable pub closed : (place used end : ℕ) (slice : List ℕ) → List ℕ
closed place used end slice =
    let r = row_at place slice in
    let behind = r.start + body_bytes r in
    sets (table_closed place used r.start slice) r.start (part behind (end - behind) slice)

-- what holds of a used row of a good slice
pub record Closable (place used end : ℕ) (slice : List ℕ) : Type 0 where
  pub inside : place < used
  pub few : used ≤ most_rows
  pub table : table_bytes used ≤ (row_at place slice).start
  pub body : (row_at place slice).start + body_bytes (row_at place slice) ≤ end
  pub room : end ≤ length slice
