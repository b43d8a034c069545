-- 02, card 3: a tariff, lent as numbers one behind the other, and when it is good.
use Rattle.std.specs.Prelude.{ℕ, ◌%◌, Bool, ◌&&◌, List, map, eqb, leb, length, get_or}
use Rattle.packed.specs.Every.{every, none_twice}
use Rattle.packed.specs.Pieces.{pieces}
use Rattle.codes.specs.Field.{between}
use Rattle.document.specs.Limits.{largest_commission}
use Rattle.tariff.specs.declared.row.Row.{Row}

-- 'a tariff has up to 20 keys'
abbrev pub most_keys : ℕ
most_keys = 20

-- '1 to 9999'
abbrev pub largest_key : ℕ
largest_key = 9999

-- 'a rate per ten thousand (0 to 10,000)': at the largest the whole nominal
abbrev pub largest_rate : ℕ
largest_rate = 10000

-- how many numbers a row has, and which: the key, its rate, 'a least and a greatest commission'
abbrev pub row_numbers : ℕ
row_numbers = 4

abbrev pub row_in : List ℕ → Row
row_in ns = record { key = get_or ns 0 0; rate = get_or ns 1 0; least = get_or ns 2 0; greatest = get_or ns 3 0 }

-- the rows of a tariff, in their order
unfoldable pub rows_of : (tariff : List ℕ) → List Row
rows_of tariff = map row_in (pieces row_numbers tariff)

-- no row is cut
abbrev pub whole_rows : (tariff : List ℕ) → Bool
whole_rows tariff = eqb (length tariff % row_numbers) 0

-- no row has a key that is '0 or above 9999, a rate above 10,000, a least above its greatest, or a greatest above 99,999,999'
abbrev pub row_good : Row → Bool
row_good r =
    between 1 largest_key r.key && leb r.rate largest_rate && leb r.least r.greatest && leb r.greatest largest_commission

-- the keys of some rows
abbrev pub keys_of : List Row → List ℕ
keys_of rows = map (λ (r : Row). r.key) rows

-- 42 otherwise: whole rows, at most 20 of them, no key 'twice', and each row good
unfoldable pub good_tariff : (tariff : List ℕ) → Bool
good_tariff tariff =
    whole_rows tariff && leb (length (rows_of tariff)) most_keys && none_twice (keys_of (rows_of tariff)) && every row_good (rows_of tariff)
