-- `read_word`: by whether it begins with `@`.
use Rattle.std.proofs.Common.{ℕ, List, ◌≡◌, ◌<◌, false, true, length, get_or, ap, sym, ◌∙◌, arith, rules}
use borrow.Author.Tests.{eq-eqb, ne_eqb}
use Rattle.packed.proofs.Laws.Part.{part_tail}
use Rattle.text.specs.Got.{fitting}
use Rattle.text.specs.Memory.{recalled}
use Rattle.text.specs.Line.{written_under, is_at}
use Rattle.text.proofs.Laws.Line.{at_none, written_is, hex_is}
use Rattle.text.proofs.line.read_word.Goals.{in_default-via-then-word-lt1, in_default-via-else-word-lt1+in_default-1}
use Rattle.text.proofs.line.read_word.Goals as goal

pub returns-in-64-clause-read : goal.returns-in-64-clause-read
returns-in-64-clause-read c =
    let w = c.args.word.now in
    let held = recalled c.args.kept.memory c.args.kept.wire.now in
    let most = length c.args.bytes.now in
    let here : is_at w ≡ true = eq-eqb (get_or w 0 0) 64 (search rules) in
    c.read_written.ensures.read ∙ ap (λ (l : List ℕ). fitting most (written_under held l)) (part_tail 1 w) ∙ sym (ap (fitting most) (written_is held w here))

pub returns-in_default-clause-read : goal.returns-in_default-clause-read
returns-in_default-clause-read c =
    let word = c.args.word.now in
    let other : is_at word ≡ false = elim c.in_default.branch [ in_default-via-then-word-lt1 w ↦ at_none word (let h : length word < 1 = search rules in omega (arith, h)) | in_default-via-else-word-lt1+in_default-1 w ↦ ne_eqb (get_or word 0 0) 64 (search rules) ] in
    c.read_hex.ensures.read ∙ sym (ap (fitting (length c.args.bytes.now)) (hex_is (recalled c.args.kept.memory c.args.kept.wire.now) word other))
