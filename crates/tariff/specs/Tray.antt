-- Beyond 02's card 3, because a tray has many documents: the code that each document of a tray of presented documents earns, and the
-- commissions written in place.
use Rattle.std.specs.Prelude.{ℕ, suc, ◌-◌, ◌≡◌, Bool, true, not, ◌&&◌, cond, eqb, length, Result, Ok, Err}
use mathlib.Core.List.{List, [], ◌∷◌, flat_map}
use Rattle.std.proofs.lemmas.List.Edits.{sets}
use Rattle.packed.specs.Writing.{packed_bytes}
use Rattle.codes.specs.Chain.{◌when◌, ◌orelse◌}
use Rattle.codes.specs.Field.{Field, field, any, field_number, field_digits}
use Rattle.document.specs.Limits.{document_bytes}
use Rattle.document.specs.Fields.{document_position, nominal_field, commission_field, fields_good, amounts_good}
use Rattle.document.specs.Drawee.{drawee_served}
use Rattle.document.specs.Amounts.{nominal, commission}
use Rattle.document.specs.Part.{is_whole, count_in, documents_of}
use Rattle.tariff.specs.declared.row.Row.{Row}
use Rattle.tariff.specs.declared.filled.Earned.{Earned}
use Rattle.tariff.specs.declared.filled.FillRefusal.{FillRefusal}
use Rattle.tariff.specs.declared.filled.FillShown.{FillShown}
use Rattle.tariff.specs.Tariff.{rows_of, good_tariff}
use Rattle.tariff.specs.Commission.{rule_of, key_known, due, commissioned}

-- 01, 'Detail', positions 46-47 of a presented document
abbrev pub tariff_key_field : Field
tariff_key_field = field 46 2 any

unfoldable pub tariff_key : List ℕ → ℕ
tariff_key d = field_number document_position d tariff_key_field

-- digits of the tariff key, and of both amounts
abbrev pub key_digits : List ℕ → Bool
key_digits d = field_digits document_position d tariff_key_field

abbrev pub amount_digits : List ℕ → Bool
amount_digits d = field_digits document_position d nominal_field && field_digits document_position d commission_field

-- what a document earns, 0 where nothing: 01 for the digits of its key, 03 for those of an amount, whatever the key, 41
unfoldable pub document_refusal : List Row → List ℕ → ℕ
document_refusal rows d =
    1 when not (key_digits d)
    orelse 3 when not (amount_digits d)
    orelse 41 when not (key_known rows (tariff_key d))

-- the code of the first document, in order, that earns one
unfoldable pub first_refusal : List Row → List (List ℕ) → ℕ
first_refusal rows [] = 0
first_refusal rows (d ∷ ds) = document_refusal rows d orelse first_refusal rows ds

-- how many stand before it, which is its place from 0; all of them where none earns a code
unfoldable pub good_before : List Row → List (List ℕ) → ℕ
good_before rows [] = 0
good_before rows (d ∷ ds) = cond (eqb (document_refusal rows d) 0) (suc (good_before rows ds)) 0

-- the tariff, then the tray, then its documents
unfoldable pub fill_refusal : (tariff tray : List ℕ) → ℕ
fill_refusal tariff tray =
    42 when not (good_tariff tariff)
    orelse 25 when not (is_whole tray)
    orelse first_refusal (rows_of tariff) (documents_of tray)

-- the number of each answer, and beside it how many documents there are or the place of one
abbrev pub fill_shown : Result ℕ FillRefusal → FillShown
fill_shown (Ok documents) = record { code = 0; documents = documents }
fill_shown (Err FillRefusal.WrongTariff) = record { code = 42; documents = 0 }
fill_shown (Err FillRefusal.WrongTray) = record { code = 25; documents = 0 }
fill_shown (Err (FillRefusal.Document place Earned.WrongKey)) = record { code = 1; documents = place }
fill_shown (Err (FillRefusal.Document place Earned.WrongAmount)) = record { code = 3; documents = place }
fill_shown (Err (FillRefusal.Document place Earned.UnknownKey)) = record { code = 41; documents = place }

-- the answer to a call; documents is 0 beside 42 and 25, else how many come before the first that earns a code
unfoldable pub filled : (tariff tray : List ℕ) → FillShown
filled tariff tray =
    record {
      code = fill_refusal tariff tray;
      documents = cond (good_tariff tariff && is_whole tray) (good_before (rows_of tariff) (documents_of tray)) 0;
    }

-- a document with a commission written into its field, all else kept
unfoldable pub with_commission : (c : ℕ) → List ℕ → List ℕ
with_commission c d = sets d (commission_field.position - document_position) (packed_bytes commission_field.width c)

-- the commission is written into a document whose key is not 0
unfoldable pub filled_document : List Row → List ℕ → List ℕ
filled_document rows d =
    cond (eqb (tariff_key d) 0) d (with_commission (due (rule_of rows (tariff_key d)) (nominal d) (commission d)) d)

-- every byte of the tray: document by document, or as it was where the call is refused
unfoldable pub tray_after : (tariff tray : List ℕ) → List ℕ
tray_after tariff tray =
    cond (eqb (fill_refusal tariff tray) 0) (flat_map (filled_document (rows_of tariff)) (documents_of tray)) tray

-- what is so of a document that earned no code, once it is filled: its commission is the one that the call for one document gives; and all
-- that a send or a receiver asks of it is as it was, with digits in both amounts
pub record AfterFilling (tariff d : List ℕ) : Type 0 where
  pub asked : commissioned tariff (tariff_key d) (nominal d) (commission d) ≡ record { code = 0; commission = commission (filled_document (rows_of tariff) d) }
  pub fields : (operation receiving : ℕ) → fields_good operation receiving (filled_document (rows_of tariff) d) ≡ fields_good operation receiving d
  pub amounts : (operation receiving : ℕ) → amounts_good operation receiving (filled_document (rows_of tariff) d) ≡ true
  pub served : (operation own : ℕ) (represented : List ℕ) → drawee_served operation own represented (filled_document (rows_of tariff) d) ≡ drawee_served operation own represented d
  pub nominal_kept : nominal (filled_document (rows_of tariff) d) ≡ nominal d

-- claimed, and proved in proofs/Laws/Twice: so it is of every such document; without a code all documents of the tray are counted; and filling
-- a tray twice gives what filling it once gave, in the answer and in every byte
pub record EveryTray : Type 0 where
  pub each : (tariff d : List ℕ) → good_tariff tariff ≡ true → length d ≡ document_bytes → document_refusal (rows_of tariff) d ≡ 0 → AfterFilling tariff d
  pub counted : (tariff tray : List ℕ) → (filled tariff tray).code ≡ 0 → (filled tariff tray).documents ≡ count_in tray
  pub twice : (tariff tray : List ℕ) → (filled tariff (tray_after tariff tray) ≡ filled tariff tray) × (tray_after tariff (tray_after tariff tray) ≡ tray_after tariff tray)
