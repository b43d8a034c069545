-- `next_word`: a word begins behind the spaces, and ends before the next.
use Rattle.std.proofs.Common.{◌≡◌, ◌∙◌, ◌∷◌, ◌+◌, ◌-◌, ◌<◌, Option, List, ℕ, length, drop, subst, ap, sym, rules, tests, arith}
use Rattle.std.proofs.lemmas.Iterator.{YieldsList-from_slice}
use Rattle.std.proofs.lemmas.Iterator.Search.{position_from_yields_List}
use Rattle.packed.proofs.Laws.Part.{part_tail}
use Rattle.packed.specs.Part.{part}
use Rattle.text.specs.declared.word.Split.{Split}
use Rattle.text.specs.Word.{before, is_space, is_other, words, word_ends, NextWord}
use Rattle.text.proofs.Laws.Word.{found_at, found_none, next_word, no_word}
use Rattle.text.specs.Inner.Word.{words_from}
use Rattle.text.proofs.word.next_word.Goals as goal

pub returns-in_err-from : goal.returns-in_err-from
returns-in_err-from c =
    let line = c.args.line.now in
    let place = position_from_yields_List is_other _ _ c.position.result c.position.ensures.ran (YieldsList-from_slice line c.iter.ensures.rest) (λ x b q k. search (rules, tests)) in
    let none = found_none is_other line (sym place ∙ c.in_err-from.was) in
    let is = sym c.from_residual.ensures in
    record { place = subst (λ (r : Option Split). NextWord line r) is none; words = no_word line (omega (arith, none)) ∙ ap words_from is }

pub returns : goal.returns
returns c =
    let line = c.args.line.now in
    let place = position_from_yields_List is_other _ _ c.position.result c.position.ensures.ran (YieldsList-from_slice line c.iter.ensures.rest) (λ x b q k. search (rules, tests)) in
    let from = c.in_ok-from.from in
    let to = c.find_byte-to.result in
    let begins = found_at is_other line from (sym place ∙ c.in_ok-from.was) in
    let ends : to ≡ word_ends line = c.find_byte-to.ensures.place ∙ ap (λ (k : ℕ). k + before is_space (drop k line)) begins in
    let more : from < length line = omega (arith, c.in_ok-from.ensures.bound, ap (λ (l : List ℕ). length l) c.iter.ensures.rest) in record {
      place = record { begins = omega (arith, begins, more); word = λ t. part (begins t) (ends t - begins t) line; rest = part_tail to line ∙ ap (λ (k : ℕ). drop k line) ends };
      words = next_word line from to begins more c.find_byte-to.ensures.place ∙ ap (λ (l : List ℕ). part from (to - from) line ∷ words l) (sym (part_tail to line));
    }
