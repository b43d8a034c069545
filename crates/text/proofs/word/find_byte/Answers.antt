-- `find_byte`: the place that std's search gives, or the end.
use Rattle.std.proofs.Common.{◌∙◌, ◌+◌, ◌-◌, ap, sym, length, drop, length-drop, rules, tests, arith}
use Rattle.std.specs.List.{position}
use Rattle.packed.specs.Part.{part}
use Rattle.packed.proofs.Laws.Part.{part_tail}
use Rattle.std.proofs.lemmas.Iterator.{YieldsList-from_slice}
use Rattle.std.proofs.lemmas.Iterator.Search.{position_from_yields_List}
use Rattle.text.specs.Word.{is}
use Rattle.text.proofs.Laws.Word.{found_at, found_none}
use Rattle.text.proofs.word.find_byte.Goals as goal

pub returns-in-Some-clause-place : goal.returns-in-Some-clause-place
returns-in-Some-clause-place c =
    let at = c.args.at in
    let text = c.args.text.now in
    let place = position_from_yields_List (is c.args.byte) _ _ c.position.result c.position.ensures.ran (YieldsList-from_slice (part at (length text - at) text) c.iter.ensures.rest) (λ x b q k. search (rules, tests)) ∙ ap (position (is c.args.byte)) (part_tail at text) in
    ap (λ n. c.args.at + n) (found_at (is c.args.byte) (drop c.args.at c.args.text.now) c.in-Some.n (sym place ∙ c.in-Some.is))

pub returns-in-None-clause-place : goal.returns-in-None-clause-place
returns-in-None-clause-place c =
    let at = c.args.at in
    let text = c.args.text.now in
    let place = position_from_yields_List (is c.args.byte) _ _ c.position.result c.position.ensures.ran (YieldsList-from_slice (part at (length text - at) text) c.iter.ensures.rest) (λ x b q k. search (rules, tests)) ∙ ap (position (is c.args.byte)) (part_tail at text) in
    let none = found_none (is c.args.byte) (drop c.args.at c.args.text.now) (sym place ∙ c.in-None.is) in
    omega (arith, none, length-drop at text)
