-- `read_parts`: the numbers that are asked for, the bytes, the numbers that follow, and nothing else.
use Rattle.std.proofs.Common.{Option, true, false, length, refl, subst, ap, sym, ◌∙◌, arith}
use lib.ListN.{length-take}
use Rattle.text.specs.declared.line.Parts.{Parts}
use Rattle.text.specs.Memory.{recalled}
use Rattle.text.specs.Word.{words}
use Rattle.text.specs.Line.{is_none}
use Rattle.text.specs.Inner.Line.{PartsRead}
use Rattle.text.proofs.Laws.Line.{is_word, no_asked, too_few, no_data, data_got, no_more_asked, parts_end, parts_numbers}
use Rattle.text.proofs.line.read_parts.Goals as goal

pub returns-in_err-asked : goal.returns-in_err-asked
returns-in_err-asked c =
    let held = recalled c.args.kept.memory c.args.kept.wire.now in
    let most = length c.args.bytes.now in
    let s = c.args.shape in
    let ws = words c.args.line.now in
    subst (λ (r : Option Parts). PartsRead held most s ws c.args.bytes.now r) (sym c.from_residual.ensures) (no_asked held most s ws c.in_err-asked.ensures)

pub returns-then-asked-shape : goal.returns-then-asked-shape
returns-then-asked-shape c =
    let held = recalled c.args.kept.memory c.args.kept.wire.now in
    let most = length c.args.bytes.now in
    let s = c.args.shape in
    let ws = words c.args.line.now in
    too_few held most s ws _ _ c.in_ok-asked.asked c.in_ok-asked.ensures c.if-asked-shape.true

pub returns-in_err-data : goal.returns-in_err-data
returns-in_err-data c =
    let held = recalled c.args.kept.memory c.args.kept.wire.now in
    let most = length c.args.bytes.now in
    let s = c.args.shape in
    let ws = words c.args.line.now in
    subst (λ (r : Option Parts). PartsRead held most s ws c.read_bytes.new.bytes r) (sym c.from_residual-in_err-data.ensures) (no_data held most s ws _ _ c.in_ok-asked.asked c.in_ok-asked.ensures c.if-asked-shape.false c.in_err-data.ensures)

pub returns-in_err-more : goal.returns-in_err-more
returns-in_err-more c =
    let held = recalled c.args.kept.memory c.args.kept.wire.now in
    let most = length c.args.bytes.now in
    let s = c.args.shape in
    let ws = words c.args.line.now in
    subst (λ (r : Option Parts). PartsRead held most s ws c.read_bytes.new.bytes r) (sym c.from_residual-in_err-more.ensures) (no_more_asked held most s ws _ _ c.in_ok-asked.asked c.in_ok-asked.ensures c.if-asked-shape.false _ c.in_ok-data.data c.in_ok-data.ensures c.in_err-more.ensures)

pub returns-then-is_some : goal.returns-then-is_some
returns-then-is_some c =
    let held = recalled c.args.kept.memory c.args.kept.wire.now in
    let most = length c.args.bytes.now in
    let s = c.args.shape in
    let ws = words c.args.line.now in
    let over = ap is_none c.next_word.ensures.words ∙ is_word c.next_word.result true (sym c.is_some.ensures ∙ c.if-is_some.true) in
    parts_end held most s ws _ _ c.in_ok-asked.asked c.in_ok-asked.ensures c.if-asked-shape.false _ c.in_ok-data.data c.in_ok-data.ensures _ c.in_ok-more.more c.in_ok-more.ensures false over

pub returns : goal.returns
returns c =
    let held = recalled c.args.kept.memory c.args.kept.wire.now in
    let most = length c.args.bytes.now in
    let s = c.args.shape in
    let ws = words c.args.line.now in
    let over = ap is_none c.next_word.ensures.words ∙ is_word c.next_word.result false (sym c.is_some.ensures ∙ c.if-is_some.false) in
    let more = c.in_ok-more.ensures in
    let asked = c.in_ok-asked.ensures in record {
      good = parts_end held most s ws _ _ c.in_ok-asked.asked asked c.if-asked-shape.false _ c.in_ok-data.data c.in_ok-data.ensures _ c.in_ok-more.more more true over;
      numbers = parts_numbers held most s ws _ _ c.in_ok-asked.asked asked c.if-asked-shape.false _ c.in_ok-data.data c.in_ok-data.ensures _ c.in_ok-more.more more refl c.requires.all over;
      got = data_got held most s ws _ _ c.in_ok-asked.asked asked c.if-asked-shape.false _ c.in_ok-data.data c.in_ok-data.ensures;
      size = more.size ∙ asked.size;
      asked = omega arith;
      count = omega (arith, c.requires.all, more.count, length-take s.more (words c.in_ok-data.data.rest.now));
      bytes = c.in_ok-data.ensures.bytes;
    }
