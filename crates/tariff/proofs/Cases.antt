-- 02, card 3: tariffs, commissions and trays at the edges, computed from the definitions.
use mathlib.Core.Path.{◌≡◌, refl}
use mathlib.Core.Bool.{true, false}
use mathlib.Core.List.{List, [], ◌∷◌, ◌++◌, flat_map}
use Prim.Native.Nat.{ℕ, zero, suc}
use lib.ListN.{take, drop, set}
use Rattle.packed.specs.Every.{every, member, none_twice}
use Rattle.packed.specs.Digits.{is_digits}
use Rattle.packed.specs.Number.{byte_value, number}
use Rattle.packed.specs.Writing.{packed_byte, packed_bytes}
use Rattle.packed.specs.Pieces.{cut}
use Rattle.codes.specs.Chain.{◌when◌, ◌orelse◌}
use Rattle.codes.proofs.Cases.{◌is◌, AllDue}
use Rattle.document.specs.Operation.{presented}
use Rattle.document.specs.Fields.{document_fields}
use Rattle.document.specs.Amounts.{nominal, commission}
use Rattle.tariff.specs.Tariff.{rows_of, good_tariff}
use Rattle.tariff.specs.Rounding.{rounded}
use Rattle.tariff.specs.Commission.{by_row, rule_of, due, commission_refusal, commissioned}
use Rattle.tariff.specs.Tray.{tariff_key_field, tariff_key, document_refusal, first_refusal, good_before, fill_refusal, filled, with_commission, filled_document, tray_after}

-- so many keys with a rate of 0, from the largest down
keys : (count : ℕ) → List ℕ
keys zero = []
keys (suc n) = suc n ∷ 0 ∷ 0 ∷ 0 ∷ keys n

good_tariffs : AllDue
    (good_tariff [] is true
    -- 20 keys and 21, and lengths that are no multiple of four
    ∷ good_tariff (keys 20) is true
    ∷ good_tariff (keys 21) is false
    ∷ good_tariff (5 ∷ []) is false
    ∷ good_tariff (5 ∷ 0 ∷ 0 ∷ []) is false
    ∷ good_tariff (5 ∷ 0 ∷ 0 ∷ 0 ∷ 6 ∷ []) is false
    -- a key twice, beside itself and apart
    ∷ good_tariff (5 ∷ 0 ∷ 0 ∷ 0 ∷ 5 ∷ 0 ∷ 0 ∷ 0 ∷ []) is false
    ∷ good_tariff (20 ∷ 0 ∷ 0 ∷ 0 ∷ keys 19) is true
    ∷ good_tariff (1 ∷ 0 ∷ 0 ∷ 0 ∷ keys 19) is false
    -- keys 0, 9999 and 10,000
    ∷ good_tariff (0 ∷ 0 ∷ 0 ∷ 0 ∷ []) is false
    ∷ good_tariff (9999 ∷ 0 ∷ 0 ∷ 0 ∷ []) is true
    ∷ good_tariff (10000 ∷ 0 ∷ 0 ∷ 0 ∷ []) is false
    -- rates of 10,000 and 10,001
    ∷ good_tariff (5 ∷ 10000 ∷ 0 ∷ 0 ∷ []) is true
    ∷ good_tariff (5 ∷ 10001 ∷ 0 ∷ 0 ∷ []) is false
    -- a least that is its greatest, and one above it; the largest greatest, and one more
    ∷ good_tariff (5 ∷ 0 ∷ 7 ∷ 7 ∷ []) is true
    ∷ good_tariff (5 ∷ 0 ∷ 8 ∷ 7 ∷ []) is false
    ∷ good_tariff (5 ∷ 0 ∷ 0 ∷ 99999999 ∷ []) is true
    ∷ good_tariff (5 ∷ 0 ∷ 0 ∷ 100000000 ∷ []) is false
    -- a row that is not the first
    ∷ good_tariff (5 ∷ 0 ∷ 0 ∷ 0 ∷ 6 ∷ 10001 ∷ 0 ∷ 0 ∷ []) is false
    ∷ [])
unfolding good_tariff rows_of none_twice every member cut keys
good_tariffs = refl

-- a tenth, with bounds that no case reaches and with 10 and 20; the smallest rate; the whole nominal; two keys with nothing but bounds
tenth : List ℕ
tenth = 7 ∷ 1000 ∷ 0 ∷ 99999999 ∷ []

bounded : List ℕ
bounded = 7 ∷ 1000 ∷ 10 ∷ 20 ∷ []

smallest : List ℕ
smallest = 7 ∷ 1 ∷ 0 ∷ 99999999 ∷ []

whole : List ℕ
whole = 7 ∷ 10000 ∷ 0 ∷ 99999999 ∷ []

two : List ℕ
two = 5 ∷ 0 ∷ 1 ∷ 1 ∷ 7 ∷ 0 ∷ 2 ∷ 2 ∷ []

-- a tariff with a bad key
bad : List ℕ
bad = 0 ∷ 0 ∷ 0 ∷ 0 ∷ []

abbrev code : (tariff : List ℕ) (key nominal typed : ℕ) → ℕ
code tariff key nominal typed = (commissioned tariff key nominal typed).code

abbrev gives : (tariff : List ℕ) (key nominal typed : ℕ) → ℕ
gives tariff key nominal typed = (commissioned tariff key nominal typed).commission

-- 'an exact half going up', and what is off the half
halves : AllDue
    (gives tenth 7 24 0 is 2
    ∷ gives tenth 7 25 0 is 3
    ∷ gives tenth 7 26 0 is 3
    ∷ gives tenth 7 34 0 is 3
    ∷ gives tenth 7 35 0 is 4
    ∷ gives smallest 7 4999 0 is 0
    ∷ gives smallest 7 5000 0 is 1
    ∷ gives smallest 7 5001 0 is 1
    ∷ [])
unfolding commissioned commission_refusal good_tariff rows_of none_twice every member cut rule_of due by_row rounded ◌when◌ ◌orelse◌ tenth smallest
halves = refl

commissions : AllDue
    -- raised, cut, and between
    (gives bounded 7 0 0 is 10
    ∷ gives bounded 7 94 0 is 10
    ∷ gives bounded 7 150 0 is 15
    ∷ gives bounded 7 210 0 is 20
    -- the largest nominal at the largest rate, and the largest commission
    ∷ gives whole 7 999999999999 0 is 99999999
    ∷ gives whole 7 99999998 0 is 99999998
    -- each key by its own row
    ∷ gives two 5 30 0 is 1
    ∷ gives two 7 30 0 is 2
    ∷ code two 6 30 0 is 41
    -- key 0 keeps what was typed, by any good tariff
    ∷ gives tenth 0 30 5 is 5
    ∷ gives [] 0 30 99999999 is 99999999
    ∷ gives tenth 7 30 99999999 is 3
    -- 42, 01, 41, each before what follows it
    ∷ code bad 6 1000000000000 100000000 is 42
    ∷ code bad 0 0 5 is 42
    ∷ code tenth 6 1000000000000 0 is 1
    ∷ code tenth 6 0 100000000 is 1
    ∷ code tenth 7 0 100000000 is 1
    ∷ code tenth 0 1000000000000 5 is 1
    ∷ code tenth 0 0 100000000 is 1
    ∷ code tenth 0 999999999999 99999999 is 0
    ∷ code tenth 6 999999999999 99999999 is 41
    ∷ code [] 10000 0 0 is 41
    -- nothing beside a code
    ∷ gives bad 0 0 5 is 0
    ∷ gives tenth 7 0 100000000 is 0
    ∷ gives tenth 6 0 5 is 0
    ∷ [])
unfolding commissioned commission_refusal good_tariff rows_of none_twice every member cut rule_of due by_row rounded ◌when◌ ◌orelse◌ tenth bounded whole two bad
commissions = refl

-- a document of this key, nominal and commission
document : (key nominal commission : ℕ) → List ℕ
document key nominal commission =
    packed_bytes 25 0 ++ packed_bytes 6 nominal ++ packed_bytes 10 0 ++ packed_bytes 2 key ++ packed_bytes 4 commission ++ packed_bytes 4 1234

-- one with a byte that is no digits, at a place from 0
broken : (place : ℕ) → List ℕ → List ℕ
broken place d = set d place 0x0A

abbrev answer : (tariff tray : List ℕ) → List ℕ
answer tariff tray = (filled tariff tray).code ∷ (filled tariff tray).documents ∷ []

trays : AllDue
    -- no document, two, one with key 0 among them
    (answer tenth [] is (0 ∷ 0 ∷ [])
    ∷ answer tenth (document 7 30 0 ++ document 0 30 9) is (0 ∷ 2 ∷ [])
    ∷ tray_after tenth (document 7 30 0 ++ document 0 30 9) is (document 7 30 3 ++ document 0 30 9)
    ∷ tray_after whole (document 7 999999999999 5) is document 7 999999999999 99999999
    ∷ tray_after (1 ∷ 0 ∷ 4 ∷ 4 ∷ []) (document 1 30 0) is document 1 30 4
    -- 42, then 25, then a document's, and none counted
    ∷ answer bad (drop 1 (document 7 30 0)) is (42 ∷ 0 ∷ [])
    ∷ answer tenth (drop 1 (document 7 30 0)) is (25 ∷ 0 ∷ [])
    ∷ answer tenth (document 7 30 0 ++ 0 ∷ []) is (25 ∷ 0 ∷ [])
    ∷ answer tenth (document 6 30 0 ++ 0 ∷ []) is (25 ∷ 0 ∷ [])
    -- a bad document in the middle: its key, its nominal and its commission, also beside key 0, and an unknown key
    ∷ answer tenth (document 7 30 0 ++ broken 41 (broken 25 (document 7 30 0)) ++ document 7 30 0) is (1 ∷ 1 ∷ [])
    ∷ answer tenth (document 7 30 0 ++ broken 25 (document 6 30 0) ++ document 7 30 0) is (3 ∷ 1 ∷ [])
    ∷ answer tenth (document 7 30 0 ++ broken 46 (document 7 30 0) ++ document 6 30 0) is (3 ∷ 1 ∷ [])
    ∷ answer tenth (document 7 30 0 ++ broken 30 (document 0 30 0) ++ document 6 30 0) is (3 ∷ 1 ∷ [])
    ∷ answer tenth (document 7 30 0 ++ broken 43 (document 0 30 0) ++ document 6 30 0) is (3 ∷ 1 ∷ [])
    ∷ answer tenth (document 7 30 0 ++ document 6 30 0 ++ broken 41 (document 7 30 0)) is (41 ∷ 1 ∷ [])
    -- a refusal leaves every byte
    ∷ tray_after bad (document 7 30 0) is document 7 30 0
    ∷ tray_after tenth (document 7 30 0 ++ 0 ∷ []) is (document 7 30 0 ++ 0 ∷ [])
    ∷ tray_after tenth (document 7 30 0 ++ broken 42 (document 7 30 0)) is (document 7 30 0 ++ broken 42 (document 7 30 0))
    ∷ tray_after tenth (document 7 30 0 ++ broken 46 (document 7 30 0)) is (document 7 30 0 ++ broken 46 (document 7 30 0))
    ∷ tray_after tenth (document 7 30 0 ++ document 6 30 0) is (document 7 30 0 ++ document 6 30 0)
    -- the other bytes are not looked at
    ∷ answer tenth (broken 0 (broken 24 (broken 40 (broken 47 (document 7 30 0))))) is (0 ∷ 1 ∷ [])
    ∷ [])
unfolding filled fill_refusal first_refusal good_before document_refusal tray_after filled_document with_commission tariff_key nominal commission good_tariff rows_of none_twice every member cut rule_of due by_row rounded ◌when◌ ◌orelse◌ is_digits number byte_value packed_bytes packed_byte flat_map tenth whole bad document broken
trays = refl

-- the tariff key's field is the row of 01's table, which takes any digits of a presented document
key_field : (receiving : ℕ) → take 1 (drop 15 (document_fields presented receiving)) ≡ tariff_key_field ∷ []
unfolding document_fields
key_field receiving = refl
