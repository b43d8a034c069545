-- `body`: what `find` has found lies inside the slice; where it refuses, its zeros are no documents.
use mathlib.Core.Path.{ap, ◌∙◌}
use Prim.Native.Nat.{◌*◌}
use native.Mathlib.Omega.{arith}
use Rattle.packed.specs.Part.{part}
use Rattle.document.specs.Limits.{document_bytes}
use Rattle.session.specs.Limits.{most_lots, most_lot_documents}
use Rattle.lot_file.specs.declared.answers.FindShown.{FindShown}
use Rattle.lot_file.proofs.Laws.Answers.{body_handed, body_inside}
use Rattle.lot_file.proofs.find.body.Goals as goal

pub overflow_mul-lot : goal.overflow_mul-lot
overflow_mul-lot c =
    let documents = ap (λ (x : FindShown). x.documents) c.in-Ok.ensures in
    omega (arith, body_inside most_lots most_lot_documents c.args.file.now c.args.number)

pub returns-in-Ok : goal.returns-in-Ok
returns-in-Ok c =
    let s = c.args.file.now in
    c.piece_at.ensures ∙ ap (λ (x : FindShown). part x.start (x.documents * document_bytes) s) c.in-Ok.ensures ∙ body_handed most_lots most_lot_documents s c.args.number

pub returns-in-Err : goal.returns-in-Err
returns-in-Err c =
    let s = c.args.file.now in
    ap (λ (x : FindShown). part x.start (x.documents * document_bytes) s) c.in-Err.ensures ∙ body_handed most_lots most_lot_documents s c.args.number
