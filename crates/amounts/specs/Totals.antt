-- 01, 'Centres and directions': documents, nominal and commission together.
use Rattle.std.specs.Prelude.{ℕ, ◌+◌, Bool, ◌&&◌, eqb}
use Rattle.amounts.specs.declared.Totals.{Totals}

-- three numbers as totals, in the paper's order
abbrev pub totals : (documents nominal commission : ℕ) → Totals
totals d n c = record { documents = record { 0 = d }; nominal = record { 0 = n }; commission = record { 0 = c } }

-- the totals of no documents
abbrev pub zeros : Totals
zeros = totals 0 0 0

-- the sum, counter by counter
abbrev pub plus : Totals → Totals → Totals
plus a b = totals (a.documents.0 + b.documents.0) (a.nominal.0 + b.nominal.0) (a.commission.0 + b.commission.0)

-- whether all three are equal, as 01's 04 and 08 compare them
abbrev pub same : Totals → Totals → Bool
same a b = eqb a.documents.0 b.documents.0 && eqb a.nominal.0 b.nominal.0 && eqb a.commission.0 b.commission.0
