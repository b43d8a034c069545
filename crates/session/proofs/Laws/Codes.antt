-- A reply carries the very code that the chain of its message gave: every number of every chain is a listed code's.
use mathlib.Core.List.{List}
use Prim.Native.Nat.{ℕ}
use Rattle.codes.specs.declared.code.Code.{Code}
use Rattle.codes.proofs.Laws.Listed.{Listed, listed, one, then, row}
use Rattle.detail.specs.Codes.{receiver_code}
use Rattle.message.specs.declared.content.Content.{Content}
use Rattle.message.specs.Layout.{Layout, body_code}
use Rattle.session.specs.declared.parties.Parties.{Parties}
use Rattle.session.specs.declared.session.Receiving.{Receiving}
use Rattle.session.specs.declared.running.Running.{Running}
use Rattle.session.specs.Receiving.{header_code, detail_code, lot_total_code, session_total_code, received_code}
use Rattle.session.proofs.Laws.Sequence.{header_listed, lot_listed, lot_total_listed, session_total_listed}

body_listed : (layout : Layout) (body : List ℕ) → Listed (body_code layout body)
unfolding body_code
body_listed layout body = row Code.WrongField _ _ (row Code.WrongField _ _ (one Code.WrongAmount _))

detail_listed : (own : ℕ) (represented body : List ℕ) → Listed (receiver_code own represented body)
unfolding receiver_code
detail_listed own represented body = row Code.WrongField _ _ (row Code.MixedOperations _ _ (row Code.WrongField _ _ (row Code.WrongAmount _ _ (row Code.WrongDrawee _ _ (one Code.ForNothing _)))))

module _ (time : ℕ) (body : List ℕ) (p : Parties) (running : Running) (r : Receiving) where
  pub code_carried : (c : Content) → Listed (received_code c time body p running r)
  unfolding received_code header_code detail_code lot_total_code session_total_code
  code_carried Content.Header = then _ _ (body_listed _ body) (then _ _ (header_listed _ _) (row Code.TooLate _ _ (row Code.Duplicate _ _ (one Code.TooManyLots _))))
  code_carried Content.Detail = then _ _ (detail_listed _ _ body) (then _ _ (lot_listed _ _) (one Code.TooManyDocuments _))
  code_carried Content.LotTotal = then _ _ (body_listed _ body) (then _ _ (lot_total_listed _ _ _ _) (row Code.Duplicate _ _ (one Code.WrongTotals _)))
  code_carried Content.SessionTotal = then _ _ (body_listed _ body) (then _ _ (session_total_listed _ _) (one Code.WrongTotals _))
  code_carried Content.Unknown = listed Code.WrongField
