-- The memory of what was written: where the lent bytes keep it, and what is found there under a number, whatever stands in them. Held.antt
-- says when that is what was written.
use Rattle.std.specs.Prelude.{ℕ, zero, suc, ◌+◌, ◌*◌, ◌-◌, min, Some, None, cond, List, ltb, eqb, length}
use Rattle.packed.specs.Part.{part}
use Rattle.packed.specs.Number.{number}
use Rattle.text.specs.declared.wire.Memory.{Memory}
use Rattle.text.specs.Got.{Got}

-- the first MiB holds what was written, one after another
abbrev pub contents_bytes : ℕ
contents_bytes = 1048576

abbrev pub most_entries : ℕ
most_entries = 65536

-- with fewer lent bytes nothing is remembered
abbrev pub wire_bytes : ℕ
wire_bytes = 2097152

-- behind it stand the entries, each a number and where its bytes end
unfoldable pub entry_number : (wire : List ℕ) (i : ℕ) → ℕ
entry_number wire i = number (part (contents_bytes + i * 16) 8 wire)

-- where the bytes of the first i entries end
unfoldable pub end_of : (wire : List ℕ) (i : ℕ) → ℕ
end_of wire zero = 0
end_of wire (suc i) = number (part (contents_bytes + i * 16 + 8) 8 wire)

-- the entry of a number among the first i; entries stand in the order of their numbers, so that none is looked for before a smaller one
unfoldable pub place_below : (wire : List ℕ) (wanted i : ℕ) → ℕ
place_below wire wanted zero = most_entries
place_below wire wanted (suc i) =
    cond (eqb (entry_number wire i) wanted) i (cond (ltb (entry_number wire i) wanted) most_entries (place_below wire wanted i))

-- none stands behind the place that its number has
abbrev pub last_place : (kept wanted : ℕ) → ℕ
last_place kept wanted = cond (ltb most_entries kept) 0 (min kept wanted)

-- what stands between two places of the memory
unfoldable pub between_places : (wire : List ℕ) (from to : ℕ) → Got
between_places wire from to = cond (ltb contents_bytes to) None (cond (ltb to from) None (Some (part from (to - from) wire)))

abbrev pub entry_bytes : (wire : List ℕ) (i : ℕ) → Got
entry_bytes wire i = cond (eqb i most_entries) None (between_places wire (end_of wire i) (end_of wire (i + 1)))

-- what was written under a number, if it is found
unfoldable pub recalled : Memory → (wire : List ℕ) (wanted : ℕ) → Got
recalled m wire wanted = cond (ltb (length wire) wire_bytes) None (entry_bytes wire (place_below wire wanted (last_place m.kept wanted)))
