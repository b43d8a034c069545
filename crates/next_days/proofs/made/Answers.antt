-- `made`: the generator on the list, which is good, fills the whole table.
use mathlib.Core.Path.{◌≡◌, refl, ap, ◌∙◌}
use mathlib.Core.List.{List}
use Prim.Native.Nat.{ℕ}
use native.Mathlib.Omega.{arith}
use lib.ListN.{length, replicate}
use Rattle.calendar.specs.Rule.{year_days}
use Rattle.calendar.specs.Generator.{table_refusal, places_after}
use Rattle.calendar.specs.Year.{unworked2028}
use Rattle.calendar.proofs.Laws.Generator.{is_made, whole_table}
use Rattle.calendar.proofs.Laws.Year.{good_2028}
use Rattle.next_days.proofs.made.Goals as goal

pub unwrap-requires : goal.unwrap-requires
unwrap-requires c =
    let days = replicate year_days 0 in
    let full : length days ≡ year_days = refl in
    is_made unworked2028 days good_2028 (omega arith) c.next_days.result
    (c.next_days.ensures.answer ∙ ap (λ (list : List ℕ). table_refusal list year_days) c.unworked_days-unworked.ensures)

pub returns : goal.returns
returns c =
    c.next_days.ensures.after ∙ ap (λ (list : List ℕ). places_after list (replicate year_days 0)) c.unworked_days-unworked.ensures ∙ whole_table unworked2028 (replicate year_days 0) good_2028 refl
