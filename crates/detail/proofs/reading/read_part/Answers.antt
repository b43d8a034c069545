-- `read_part`: a part that may not be sent ends the chain; else its documents are judged, and nothing is asked about drawees.
use mathlib.Core.Path.{ap, sym, ◌∙◌}
use mathlib.Core.Bool.{true}
use Prim.Native.Nat.{ℕ}
use native.Mathlib.Omega.{arith}
use Rattle.packed.specs.Pieces.{pieces}
use Rattle.codes.specs.Code.{code_number}
use Rattle.document.specs.Limits.{document_bytes}
use Rattle.document.specs.declared.found.Found.{Found}
use Rattle.document.specs.Inner.Found.{found_in}
use Rattle.detail.specs.Inner.Verdict.{judged}
use Rattle.detail.proofs.Laws.Codes.{sendable_part, unsendable, sendable_judged}
use Rattle.detail.proofs.reading.read_part.Goals as goal

pub read_documents-found-requires : goal.read_documents-found-requires
read_documents-found-requires c =
    let fit = sendable_part c.args.operation c.args.part.now (sym c.part_sendable.ensures ∙ c.if-not-part_sendable.false) in
    record { document_bytes_len = fit.whole; part_len_bound = omega arith }

pub returns-then-not-part_sendable-clause-code : goal.returns-then-not-part_sendable-clause-code
returns-then-not-part_sendable-clause-code c =
    let may-not = sym c.part_sendable.ensures ∙ c.if-not-part_sendable.true in
    ap code_number c.refused.ensures.0 ∙ sym (unsendable c.args.operation c.args.partner c.args.part.now may-not)

pub returns-clause-code : goal.returns-clause-code
returns-clause-code c =
    let may = sym c.part_sendable.ensures ∙ c.if-not-part_sendable.false in
    let read = c.read_documents-found.ensures.found in
    let operation = c.packed_byte.ensures in
    c.judge.ensures.code
    ∙ ap (λ (f : Found). judged f.fields f.amounts true f.something) (read ∙ ap (λ (o : ℕ). found_in o c.args.partner _ (pieces document_bytes c.args.part.now)) operation)
    ∙ sym (sendable_judged c.args.operation c.args.partner c.args.part.now may)
