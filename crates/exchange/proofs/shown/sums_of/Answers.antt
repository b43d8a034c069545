-- `sums_of`: what is stated, in plain numbers.
use Rattle.exchange.proofs.shown.sums_of.Goals as goal

pub returns : goal.returns
returns c = let t = c.stated-totals.ensures in λ i. record { lots = c.args.lots; documents = (t i).documents.0; nominal = (t i).nominal.0; commission = (t i).commission.0 }
