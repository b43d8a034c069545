-- 01, 'Trays' and 'The check program': the detail check as the line driver calls it, with bytes and numbers.
use Rattle.std.specs.Prelude.{ℕ, not, List, []}
use Rattle.amounts.specs.declared.Totals.{Totals}
use Rattle.codes.specs.Chain.{◌when◌, ◌orelse◌}
use Rattle.document.specs.Entities.{entities_good}
use Rattle.detail.specs.declared.checked.Checked.{Checked}
use Rattle.detail.specs.Groups.{documents}
use Rattle.detail.specs.Codes.{receiver_code, accepted_totals}

-- 24 before the codes
unfoldable pub checked_code : (own : ℕ) (represented body : List ℕ) → ℕ
checked_code own represented body =
    24 when not (entities_good own represented)
    orelse receiver_code own represented body

-- a code and totals, in the order of the printed line
abbrev pub four_numbers : ℕ → Totals → Checked
four_numbers code t = record { code = code; documents = t.documents.0; nominal = t.nominal.0; commission = t.commission.0 }

-- the code, and the totals where it is 00
unfoldable pub checked : (own : ℕ) (represented body : List ℕ) → Checked
checked own represented body = four_numbers (checked_code own represented body) (accepted_totals (checked_code own represented body) (documents body))

-- 'The check program': for receiving entity 0072, with none represented
abbrev pub program_checked : (body : List ℕ) → Checked
program_checked body = checked 72 [] body
