-- 02, card 3: the commission of a tariff key, a nominal and a typed commission. It is worked out before a send, for presented documents, which
-- the caller sees to; no definition of a session uses it, since 'the receiver still books what the message states'.
use Rattle.std.specs.Prelude.{ℕ, ◌*◌, ◌≤◌, ◌≡◌, Bool, not, ◌&&◌, cond, List, eqb, leb, min, max, find, Option, Some, None, option_map, is_some, Result, Ok, Err}
use Rattle.codes.specs.Chain.{◌when◌, ◌orelse◌}
use Rattle.document.specs.Limits.{largest_nominal, largest_commission}
use Rattle.tariff.specs.declared.row.Row.{Row}
use Rattle.tariff.specs.declared.search.Rule.{Rule}
use Rattle.tariff.specs.declared.commission.CommissionRefusal.{CommissionRefusal}
use Rattle.tariff.specs.declared.commission.CommissionShown.{CommissionShown}
use Rattle.tariff.specs.Tariff.{rows_of, good_tariff}
use Rattle.tariff.specs.Rounding.{rounded}

-- 'raised to the least'
abbrev pub raised_to : (least n : ℕ) → ℕ
raised_to least n = max n least

-- 'or cut to the greatest'
abbrev pub cut_to : (greatest n : ℕ) → ℕ
cut_to greatest n = min n greatest

-- by a row: 'nominal times rate divided by 10,000', then the two bounds
unfoldable pub by_row : Row → (nominal : ℕ) → ℕ
by_row r nominal = cut_to r.greatest (raised_to r.least (rounded (nominal * r.rate)))

-- the first row that has a key
abbrev pub searched : List Row → (key : ℕ) → Option Row
searched rows key = find (λ (r : Row). eqb r.key key) rows

-- what a key says: 'Key 0 keeps the typed commission', another has a row or is unknown
unfoldable pub rule_of : List Row → (key : ℕ) → Option Rule
rule_of rows key = cond (eqb key 0) (Some Rule.Typed) (option_map Rule.ByRow (searched rows key))

-- either of these
abbrev pub is_known : Option Rule → Bool
is_known rule = is_some rule

-- the commission that a rule gives; none that matters where there is no rule
unfoldable pub due : Option Rule → (nominal typed : ℕ) → ℕ
due (Some Rule.Typed) nominal typed = typed
due (Some (Rule.ByRow r)) nominal typed = by_row r nominal
due None nominal typed = 0

-- neither 'a nominal above 999,999,999,999' nor 'a typed commission above 99,999,999', whatever the key
abbrev pub within_limits : (nominal typed : ℕ) → Bool
within_limits nominal typed = leb nominal largest_nominal && leb typed largest_commission

-- no 'unknown key'
abbrev pub key_known : List Row → (key : ℕ) → Bool
key_known rows key = is_known (rule_of rows key)

-- '42 comes first, then 01, then 41'
unfoldable pub commission_refusal : (tariff : List ℕ) (key nominal typed : ℕ) → ℕ
commission_refusal tariff key nominal typed =
    42 when not (good_tariff tariff)
    orelse 1 when not (within_limits nominal typed)
    orelse 41 when not (key_known (rows_of tariff) key)

-- the number of each answer, and the commission, 0 beside a code
abbrev pub commission_shown : Result ℕ CommissionRefusal → CommissionShown
commission_shown (Ok c) = record { code = 0; commission = c }
commission_shown (Err CommissionRefusal.WrongTariff) = record { code = 42; commission = 0 }
commission_shown (Err CommissionRefusal.OverLimits) = record { code = 1; commission = 0 }
commission_shown (Err CommissionRefusal.UnknownKey) = record { code = 41; commission = 0 }

-- the answer to a call
unfoldable pub commissioned : (tariff : List ℕ) (key nominal typed : ℕ) → CommissionShown
commissioned tariff key nominal typed =
    let code = commission_refusal tariff key nominal typed in
    record { code = code; commission = cond (eqb code 0) (due (rule_of (rows_of tariff) key) nominal typed) 0 }

-- a row that has a key, and a commission between its least and its greatest
pub record Bounded (tariff : List ℕ) (key n : ℕ) : Type 0 where
  pub row : Row
  pub keyed : rule_of (rows_of tariff) key ≡ Some (Rule.ByRow row)
  pub at_least : row.least ≤ n
  pub at_most : n ≤ row.greatest

-- claimed, and proved in proofs/Laws/Commission: whatever is asked, the commission fits the digits that a document has for it, and that of a
-- known key other than 0 keeps the bounds of its row
pub record EveryCommission : Type 0 where
  pub fits : (tariff : List ℕ) (key nominal typed : ℕ) → (commissioned tariff key nominal typed).commission ≤ largest_commission
  pub bounded : (tariff : List ℕ) (key nominal typed : ℕ) → (key ≡ 0 → ⊥) → (commissioned tariff key nominal typed).code ≡ 0 → Bounded tariff key (commissioned tariff key nominal typed).commission
