-- `no_lot`: number 0, with the running totals of no documents.
use Rattle.exchange.proofs.shown.no_lot.Goals as goal

pub returns : goal.returns
returns c = λ i. record { number = 0; gathered = c.empty.ensures i }
