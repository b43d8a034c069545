-- 01, 'Trays': the running totals of a lot, which grow by what is accepted; what a message states of them is three totals.
use Rattle.std.specs.Prelude.{ℕ, List}
use Rattle.amounts.specs.declared.Totals.{Totals}
use Rattle.amounts.specs.Totals.{zeros, plus}
use Rattle.document.specs.Amounts.{totals_of}
use Rattle.session.specs.declared.running.Running.{Running}

-- of a lot that has no documents yet
abbrev pub empty : Running
empty = record { totals = zeros }

-- what a detail of an operation adds, whose documents have these totals: they are counted together whatever the operation
abbrev pub adding : (operation : ℕ) → Totals → Running
adding operation t = record { totals = t }

-- the three totals that a lot total or a session total states
abbrev pub stated : Running → Totals
stated r = r.totals

-- with more that was gathered
abbrev pub gather : Running → Running → Running
gather a b = record { totals = plus (stated a) (stated b) }

-- what an accepted detail adds
abbrev pub detail_adds : (operation : ℕ) (documents : List (List ℕ)) → Running
detail_adds operation documents = adding operation (totals_of documents)

-- how many documents there are
abbrev pub documents_in : Running → ℕ
documents_in r = (stated r).documents.0
