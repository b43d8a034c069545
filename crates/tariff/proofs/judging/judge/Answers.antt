use mathlib.Core.Path.{◌≡◌, ◌∙◌}
use mathlib.Core.List.{map}
use native.Mathlib.Omega.{arith}
use lib.ListN.{length}
use Rattle.tariff.specs.Tariff.{row_in}
use Rattle.tariff.proofs.Laws.Judged.{stops_at, passes_at, done_at}
use Rattle.tariff.proofs.judging.judge.Goals as goal

pub returns-in-Err : goal.returns-in-Err
returns-in-Err c =
    let t = c.loop-place in
    stops_at (map row_in c.args.tariff.now.rows.now) c.args.documents.now t.place t.invariant (omega arith) c.in-Err.earned c.in-Err.ensures

pub loop-place-preserved : goal.loop-place-preserved
loop-place-preserved c =
    let t = c.loop-place in
    passes_at (map row_in c.args.tariff.now.rows.now) c.args.documents.now t.place t.invariant (omega arith) c.in_default.ensures

pub returns : goal.returns
returns c =
    let t = c.loop-place in
    let all : length c.args.documents.now ≡ t.place = omega arith in
    (λ i. record { code = 0; documents = all i }) ∙ done_at (map row_in c.args.tariff.now.rows.now) c.args.documents.now t.place t.invariant (omega arith)
