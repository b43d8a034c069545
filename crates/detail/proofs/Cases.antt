-- 01, 'Detail' and 'Order, first that applies', and 02, card 6: every rule of a document where it begins and where it ends, and the codes that bytes decide, each two
-- neighbours where both apply: tables over the check program's body, computed.
use mathlib.Core.Path.{◌≡◌, refl}
use mathlib.Core.Bool.{Bool, true, not, ◌&&◌}
use mathlib.Core.List.{List, [], ◌∷◌, ◌++◌, flat_map}
use Prim.Native.Nat.{ℕ, ◌*◌}
use lib.Dec.{eqb}
use lib.ListN.{take, drop, replicate}
use lib.Seq.{sets}
use Rattle.packed.specs.Every.{every, any_of, member}
use Rattle.packed.specs.Digits.{is_digits}
use Rattle.packed.specs.Number.{byte_value, number}
use Rattle.packed.specs.Pieces.{cut}
use Rattle.packed.specs.Writing.{packed_byte, packed_bytes}
use Rattle.codes.specs.Chain.{◌when◌, ◌orelse◌}
use Rattle.codes.specs.Field.{Field, earning}
use Rattle.codes.proofs.Cases.{Case, ◌is◌, AllDue, with_byte}
use Rattle.document.specs.Amounts.{nominal, commission, for_something, totals_of}
use Rattle.document.specs.Drawee.{drawee, drawee_served}
use Rattle.document.specs.Fields.{document_fields, fields_good, amounts_good}
use Rattle.document.specs.Operation.{presented, presented_number, returned, returned_number}
use Rattle.document.specs.Rules.{month_days}
use Rattle.detail.specs.Limits.{head_bytes}
use Rattle.detail.specs.Groups.{groups, group_good, shape_good, one_operation, documents}
use Rattle.detail.specs.Codes.{receiver_code, part_sendable, presenter_code}
use Rattle.detail.specs.Checked.{checked_code, checked}

-- whoever unfolds this unfolds all that a case computes with
unfoldable pub computing : Unit {0}
unfolding checked totals_of nominal commission for_something checked_code receiver_code presenter_code part_sendable shape_good one_operation documents groups group_good fields_good amounts_good document_fields month_days drawee_served drawee member every any_of is_digits byte_value number cut packed_byte packed_bytes ◌when◌ ◌orelse◌ earning flat_map
computing = tt

-- 01, 'The check program': a detail of one document
abbrev pub printed : List ℕ
printed =
    0x00 ∷ 0x51 ∷ 0x30 ∷ 0x01
    ∷ 0x00 ∷ 0x00 ∷ 0x00 ∷ 0x00 ∷ 0x01
    ∷ 0x00 ∷ 0x00
    ∷ 0x02 ∷ 0x43 ∷ 0x41 ∷ 0x57
    ∷ 0x14 ∷ 0x03
    ∷ 0x00 ∷ 0x81
    ∷ 0x01 ∷ 0x10
    ∷ 0x28
    ∷ 0x00 ∷ 0x72
    ∷ 0x08
    ∷ 0x00 ∷ 0x81 ∷ 0x01 ∷ 0x10
    ∷ 0x00 ∷ 0x00 ∷ 0x00 ∷ 0x01 ∷ 0x50 ∷ 0x00
    ∷ 0x00 ∷ 0x72
    ∷ 0x01 ∷ 0x10
    ∷ 0x00 ∷ 0x00 ∷ 0x12 ∷ 0x34 ∷ 0x56
    ∷ 0x01
    ∷ 0x00 ∷ 0x01
    ∷ 0x00 ∷ 0x00 ∷ 0x00 ∷ 0x30
    ∷ 0x00 ∷ 0x00 ∷ 0x00 ∷ 0x00
    ∷ []

-- the same as a return, whose reason is 0001
abbrev pub as_return : List ℕ
as_return = with_byte 3 returned printed

-- a detail whose first document is for nothing
abbrev pub for_nothing : List ℕ → List ℕ
for_nothing body = sets body 29 (replicate 6 0x00)

-- the code of a body at entity 0072, which represents nobody
abbrev code : List ℕ → ℕ
code body = checked_code 72 [] body

-- a row of the paper's table by its printed position and width, with values that it takes and values that it does not
record Edges : Type 0 where
  operation : ℕ
  position : ℕ
  width : ℕ
  good : List ℕ
  bad : List ℕ

abbrev takes : Edges → ℕ → Bool
takes e v = any_of (λ (f : Field). eqb f.position e.position && eqb f.width e.width && f.rule v) (document_fields e.operation 72)

abbrev hold : Edges → Bool
hold e = every (takes e) e.good && not (any_of (takes e) e.bad)

abbrev edges : (operation position width : ℕ) (good bad : List ℕ) → Edges
edges operation position width good bad = record { operation = operation; position = position; width = width; good = good; bad = bad }

rules :
    let rows : List Edges =
    -- identification, 0000 or 80NN
    edges presented 10 2 (0 ∷ 8000 ∷ 8099 ∷ []) (1 ∷ 7999 ∷ 8100 ∷ [])
    -- DDMM: the last day of each month, 29 February among them, and the day after it; day 00, months 00 and 13
    ∷ edges presented 16 2 (101 ∷ 3101 ∷ 102 ∷ 2902 ∷ 3103 ∷ 3004 ∷ 3105 ∷ 3006 ∷ 3107 ∷ 3108 ∷ 3009 ∷ 3110 ∷ 3011 ∷ 112 ∷ 3112 ∷ []) (1 ∷ 12 ∷ 100 ∷ 113 ∷ 3201 ∷ 3002 ∷ 3203 ∷ 3104 ∷ 3205 ∷ 3106 ∷ 3207 ∷ 3208 ∷ 3109 ∷ 3210 ∷ 3111 ∷ 3212 ∷ [])
    -- both provinces
    ∷ edges presented 22 1 (1 ∷ 52 ∷ []) (0 ∷ 53 ∷ [])
    ∷ edges presented 25 1 (1 ∷ 52 ∷ []) (0 ∷ 53 ∷ [])
    -- the receiving entity
    ∷ edges presented 23 2 (72 ∷ []) (71 ∷ 73 ∷ [])
    -- truncation
    ∷ edges presented 45 1 (1 ∷ 2 ∷ []) (0 ∷ 3 ∷ [])
    -- a tariff key, and a return's reason
    ∷ edges presented 46 2 (0 ∷ 50 ∷ 9999 ∷ []) []
    ∷ edges returned 46 2 (1 ∷ 49 ∷ 51 ∷ 99 ∷ []) (0 ∷ 50 ∷ 100 ∷ [])
    -- reference, number, taker and branch, claims, nominal, drawee and branch, account, commission: any digits
    ∷ edges presented 5 5 (0 ∷ 9999999999 ∷ []) []
    ∷ edges presented 12 4 (0 ∷ 99999999 ∷ []) []
    ∷ edges presented 18 2 (0 ∷ 9999 ∷ []) []
    ∷ edges presented 20 2 (0 ∷ 9999 ∷ []) []
    ∷ edges presented 26 4 (0 ∷ 99999999 ∷ []) []
    ∷ edges presented 30 6 (0 ∷ 999999999999 ∷ []) []
    ∷ edges presented 36 2 (0 ∷ 9999 ∷ []) []
    ∷ edges presented 38 2 (0 ∷ 9999 ∷ []) []
    ∷ edges presented 40 5 (0 ∷ 9999999999 ∷ []) []
    ∷ edges presented 48 4 (0 ∷ 99999999 ∷ []) []
    ∷ []
    in
    every hold rows ≡ true
unfolding computing
rules = refl

-- a group of two documents, and a full one with another behind it
abbrev two : (first second : List ℕ) → List ℕ
two first second = with_byte 4 0x02 first ++ drop head_bytes second

abbrev pub two_groups : (second : List ℕ) → List ℕ
two_groups second = with_byte 4 0x04 (printed ++ drop head_bytes printed ++ drop head_bytes printed ++ drop head_bytes printed) ++ second

codes_due :
    let cases : List (Case ℕ) =
    -- free bytes and keys are not read, digits are
    code (with_byte 1 0xFF (sets printed 51 (replicate 4 0xFF))) is 0
    ∷ code (with_byte 47 0x0A printed) is 1
    ∷ code (with_byte 51 0x0A printed) is 3
    -- shape: mark, operation, count, to the byte, one group at least, and none after a short one
    ∷ code (with_byte 2 0x50 printed) is 1
    ∷ code (with_byte 3 0x50 printed) is 1
    ∷ code (with_byte 4 0x00 printed) is 1
    ∷ code (with_byte 4 0x02 printed) is 1
    ∷ code (printed ++ 0x00 ∷ []) is 1
    ∷ code [] is 1
    ∷ code (printed ++ printed) is 1
    -- 09: a later group has the other operation
    ∷ code (two_groups as_return) is 9
    -- a drawee is not compared in a return, and may be a represented entity
    ∷ code (with_byte 37 0x73 as_return) is 0
    ∷ checked_code 72 (71 ∷ 73 ∷ []) (with_byte 37 0x73 printed) is 0
    -- 44: a nominal of zero, of either operation, in any document, whatever the commission; any one digit is enough, and no commission is needed
    ∷ code (for_nothing printed) is 44
    ∷ code (for_nothing as_return) is 44
    ∷ code (two printed (for_nothing printed)) is 44
    ∷ code (two (with_byte 51 0x00 (for_nothing printed)) printed) is 44
    ∷ code (with_byte 30 0x10 (for_nothing printed)) is 0
    ∷ code (with_byte 35 0x01 (for_nothing printed)) is 0
    ∷ code (with_byte 51 0x00 printed) is 0
    -- 24, 01 for shape, 09, 01 for fields, 03, 06, 44: the first of two that apply, in another document of the body or in the same
    ∷ checked_code 10000 [] [] is 24
    ∷ code (two_groups (with_byte 4 0x00 as_return)) is 1
    ∷ code (two_groups (with_byte 22 0x53 as_return)) is 9
    ∷ code (two (with_byte 35 0x0A printed) (with_byte 22 0x53 printed)) is 1
    ∷ code (two (with_byte 37 0x73 printed) (with_byte 35 0x0A printed)) is 3
    ∷ code (two (for_nothing printed) (with_byte 37 0x73 printed)) is 6
    -- 24: entities to 9999, and eight of them
    ∷ checked_code 9999 (replicate 8 9999) [] is 1
    ∷ checked_code 72 (10000 ∷ []) printed is 24
    ∷ checked_code 72 (replicate 9 0) printed is 24
    ∷ []
    in
    AllDue cases
unfolding computing
codes_due = refl

-- a presenter's own, of a part for entity 0072: an operation, 1 to 200 whole documents; then 01 for fields, 03 and 44, and never 06
own_due :
    let part = drop head_bytes printed in
    let cases : List (Case ℕ) =
    presenter_code presented_number 72 part is 0
    ∷ presenter_code returned_number 72 part is 0
    ∷ presenter_code 31 72 part is 1
    ∷ presenter_code presented 72 part is 1
    ∷ presenter_code presented_number 72 [] is 1
    ∷ presenter_code presented_number 72 (take 50 part) is 1
    ∷ presenter_code presented_number 72 (part ++ 0x00 ∷ []) is 1
    ∷ (1 when not (part_sendable presented_number (replicate (200 * 51) 0x00))) is 0
    ∷ (1 when not (part_sendable presented_number (replicate (201 * 51) 0x00))) is 1
    ∷ presenter_code presented_number 73 part is 1
    ∷ presenter_code presented_number 72 (drop head_bytes (with_byte 35 0x0A printed) ++ drop head_bytes (with_byte 22 0x53 printed)) is 1
    ∷ presenter_code presented_number 72 (drop head_bytes (for_nothing printed) ++ drop head_bytes (with_byte 35 0x0A printed)) is 3
    ∷ presenter_code presented_number 72 (drop head_bytes (with_byte 37 0x73 (for_nothing printed)) ++ part) is 44
    ∷ presenter_code returned_number 72 (part ++ drop head_bytes (for_nothing printed)) is 44
    ∷ presenter_code presented_number 72 (drop head_bytes (with_byte 37 0x73 printed)) is 0
    ∷ []
    in
    AllDue cases
unfolding computing
own_due = refl
