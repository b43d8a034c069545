-- `read_line`: a line is too long, empty, a comment, of no kind, or a call.
use Rattle.std.proofs.Common.{length, ap, sym, ◌∙◌}
use Rattle.text.specs.declared.kind.Kind.{Kind}
use Rattle.text.specs.Memory.{recalled}
use Rattle.text.specs.Kind.{is_bad}
use Rattle.text.specs.Word.{words}
use Rattle.text.specs.Line.{read_call}
use Rattle.text.proofs.Laws.Line.{worded, line_long, line_empty, line_comment, line_unknown, line_call}
use Rattle.text.proofs.line.read_line.Goals as goal

pub returns-then-line-gt-LONGEST_LINE : goal.returns-then-line-gt-LONGEST_LINE
returns-then-line-gt-LONGEST_LINE c =
    let held = recalled c.args.memory c.args.wire.now in
    let most = length c.args.bytes.now in
    let line = c.args.line.now in
    record { said = c.no_call.ensures.said _ ∙ line_long held most line c.if-line-gt-LONGEST_LINE.true; bounds = c.no_call.ensures.bounds _ }

pub returns-in_default : goal.returns-in_default
returns-in_default c =
    let held = recalled c.args.memory c.args.wire.now in
    let most = length c.args.bytes.now in
    let line = c.args.line.now in
    record { said = c.no_call-in_default.ensures.said _ ∙ line_empty held most line c.if-line-gt-LONGEST_LINE.false c.in_default.ensures.words; bounds = c.no_call-in_default.ensures.bounds _ }

pub bounds-line-0 : goal.bounds-line-0
bounds-line-0 c = worded c.args.line.now _ _ c.in-Some.ensures.words

pub returns-then-line-eq35 : goal.returns-then-line-eq35
returns-then-line-eq35 c =
    let held = recalled c.args.memory c.args.wire.now in
    let most = length c.args.bytes.now in
    let line = c.args.line.now in
    record { said = c.no_call-then-line-eq35.ensures.said _ ∙ line_comment held most line c.if-line-gt-LONGEST_LINE.false _ _ c.in-Some.ensures.words c.if-line-eq35.true; bounds = c.no_call-then-line-eq35.ensures.bounds _ }

pub returns-then-is_bad : goal.returns-then-is_bad
returns-then-is_bad c =
    let held = recalled c.args.memory c.args.wire.now in
    let most = length c.args.bytes.now in
    let line = c.args.line.now in
    let bad = ap is_bad (sym c.kind_of-kind.ensures) ∙ sym c.is_bad.ensures ∙ c.if-is_bad.true in
    record { said = c.no_call-then-is_bad.ensures.said _ ∙ line_unknown held most line c.if-line-gt-LONGEST_LINE.false _ _ c.in-Some.ensures.words c.if-line-eq35.false bad; bounds = c.no_call-then-is_bad.ensures.bounds _ }

pub returns-in-Some-read_call : goal.returns-in-Some-read_call
returns-in-Some-read_call c =
    let held = recalled c.args.memory c.args.wire.now in
    let most = length c.args.bytes.now in
    let line = c.args.line.now in
    let kind = c.kind_of-kind.ensures in
    let good = ap is_bad (sym kind) ∙ sym c.is_bad.ensures ∙ c.if-is_bad.false in
    let call = c.in-Some-read_call.ensures in
    record { said = call.said ∙ ap (λ (k : Kind). read_call held most k (words c.in-Some.field-0.rest.now)) kind ∙ line_call held most line c.if-line-gt-LONGEST_LINE.false _ _ c.in-Some.ensures.words c.if-line-eq35.false good; bounds = call.bounds }

pub returns-in-None : goal.returns-in-None
returns-in-None c =
    let held = recalled c.args.memory c.args.wire.now in
    let most = length c.args.bytes.now in
    let line = c.args.line.now in
    let kind = c.kind_of-kind.ensures in
    let good = ap is_bad (sym kind) ∙ sym c.is_bad.ensures ∙ c.if-is_bad.false in
    record { said = c.no_call-in-None.ensures.said _ ∙ sym c.in-None.ensures ∙ ap (λ (k : Kind). read_call held most k (words c.in-Some.field-0.rest.now)) kind ∙ line_call held most line c.if-line-gt-LONGEST_LINE.false _ _ c.in-Some.ensures.words c.if-line-eq35.false good; bounds = c.no_call-in-None.ensures.bounds _ }
