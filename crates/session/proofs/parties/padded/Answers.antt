-- `padded`: the entities stand at the front, and the places behind them keep their 0.
use Rattle.std.proofs.Common.{◌≡◌, ℕ, ◌+◌, ◌≤◌, List, ◌++◌, replicate, length, drop, ap, sym, ◌∙◌, arith, zero-add}
use Rattle.std.proofs.lemmas.List.{length-replicate}
use Rattle.std.proofs.lemmas.List.Edits.{sets-eq}
use Rattle.document.specs.Limits.{most_represented}
use Rattle.session.specs.Parties.{padded}
use Rattle.session.proofs.parties.padded.Goals as goal

in_front : (r : List ℕ) → length r ≤ most_represented → r ++ drop (length r) (replicate most_represented 0) ≡ padded r
unfolding padded
in_front r h =
    let places : List ℕ = replicate most_represented 0 in
    sym (sets-eq r places 0 (omega (arith, length-replicate {A = ℕ} most_represented 0)) ∙ ap (λ (n : ℕ). r ++ drop n places) (zero-add (length r)))

pub returns : goal.returns
returns c = rw c.copy_from_slice.ensures.after (in_front c.args.represented.now c.requires)
