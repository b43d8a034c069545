-- `read_documents`: each document is one more of the part, which the library cuts as the definition does.
use Rattle.std.proofs.Common.{◌≡◌, ℕ, ◌+◌, ◌*◌, ◌/◌, List, length, drop, ap, sym, ◌∙◌, arith, lit<}
use Rattle.std.proofs.lemmas.List.{drop_more}
use Rattle.std.proofs.Math.ListN.{drop_of_length-le}
use Rattle.packed.proofs.Laws.Pieces.{chunks_pieces}
use Rattle.document.specs.Limits.{document_bytes}
use Rattle.document.specs.Inner.Found.{found_in, join}
use Rattle.document.proofs.Laws.Found.{nothing_join, found_end, found_step, within_zeros, within_plus, within_fits}
use Rattle.detail.proofs.documents.read_documents.Goals as goal

pub loop-d-init : goal.loop-d-init
loop-d-init c = (
  rw c.nothing-found.ensures within_zeros,
  rw c.nothing-found.ensures (nothing_join (found_in c.args.operation c.args.receiving c.args.represented.now c.as_chunks.result.0.now)),
)

pub join-found-requires : goal.join-found-requires
join-found-requires c = within_fits c.loop-d.d-index 1 c.loop-d.found.totals c.read_document.result.totals (omega arith) c.loop-d.invariant.0 c.read_document.ensures.bound

pub loop-d-preserved : goal.loop-d-preserved
loop-d-preserved c =
    let so = c.loop-d.found in
    let i = c.loop-d.d-index in
    let ds = c.as_chunks.result.0.now in (
      rw c.join-found.ensures (within_plus i 1 so.totals c.read_document.result.totals c.loop-d.invariant.0 c.read_document.ensures.bound),
      rw (c.join-found.ensures, c.read_document.ensures.found)
          (found_step c.args.operation c.args.receiving c.args.represented.now so _ (drop (i + 1) ds)
          ∙ ap (λ (l : List (List ℕ)). join so (found_in c.args.operation c.args.receiving c.args.represented.now l)) (sym (drop_more ds i _ (omega arith)))
          ∙ c.loop-d.invariant.1),
    )

pub returns-clause-found : goal.returns-clause-found
returns-clause-found c =
    let so = c.loop-d.found in
    let part = c.args.part.now in
    let n = length part / document_bytes in
    let whole : length part ≡ n * document_bytes = omega arith in
    let cut = c.as_chunks.ensures.front ∙ chunks_pieces document_bytes (lit< tt) n part whole in
    sym (found_end c.args.operation c.args.receiving c.args.represented.now so)
    ∙ ap (λ (l : List (List ℕ)). join so (found_in c.args.operation c.args.receiving c.args.represented.now l)) (sym (drop_of_length-le c.as_chunks.result.0.now {i = c.loop-d.d-index} (omega arith)))
    ∙ c.loop-d.invariant.1
    ∙ ap (found_in c.args.operation c.args.receiving c.args.represented.now) cut
