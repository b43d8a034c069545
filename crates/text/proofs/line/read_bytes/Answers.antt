-- `read_bytes`: none, where the kind has none; else by the next word.
use Rattle.std.proofs.Common.{[], Option, Some, length, take, drop, subst, ap, sym, ◌∙◌, arith}
use Rattle.text.specs.declared.kind.Source.{Source}
use Rattle.text.specs.declared.line.Read.{Read}
use Rattle.text.specs.Got.{fitting}
use Rattle.text.specs.Memory.{recalled}
use Rattle.text.specs.Word.{words}
use Rattle.text.specs.Line.{bytes_from, words_of}
use Rattle.text.specs.Inner.Line.{DataRead}
use Rattle.text.proofs.Laws.Got.{fitting_fits}
use Rattle.text.proofs.Laws.Line.{no_bytes, hex_in, written_in, words_behind}
use Rattle.text.proofs.line.read_bytes.Goals.{in-Hex+in_ok-count-in-Hex, in-HexOrWritten+in_ok-count-in-HexOrWritten}
use Rattle.text.proofs.line.read_bytes.Goals as goal

pub returns-in_default : goal.returns-in_default
unfolding bytes_from
returns-in_default c =
    let most = length c.args.bytes.now in
    let held = recalled c.args.kept.memory c.args.kept.wire.now in
    let ws = words c.args.line.now in record {
      got = ap (λ (s : Option Source). fitting most (bytes_from held s ws)) c.in_default.is ∙ fitting_fits most [] (omega arith);
      rest = sym (ap (λ (s : Option Source). drop (words_of s) ws) c.in_default.is);
      bytes = omega arith;
    }

pub returns-in_err-word : goal.returns-in_err-word
unfolding fitting
returns-in_err-word c =
    let most = length c.args.bytes.now in
    let held = recalled c.args.kept.memory c.args.kept.wire.now in
    let none = (λ t. fitting most (bytes_from held (c.in-Some.is t) (c.in_err-word.ensures.words t))) ∙ ap (fitting most) (no_bytes held c.in-Some.source) in
    subst (λ (r : Option Read). DataRead held most c.args.source (words c.args.line.now) c.args.bytes.now r) (sym c.from_residual.ensures) none

pub returns-in_err-count-in-Hex : goal.returns-in_err-count-in-Hex
returns-in_err-count-in-Hex c =
    let most = length c.args.bytes.now in
    let held = recalled c.args.kept.memory c.args.kept.wire.now in
    let bytes = hex_in held (words c.args.line.now) _ _ c.args.source c.in_ok-word.ensures.words (c.in-Some.is ∙ ap (λ (s : Source). Some s) c.in-Hex.is) in
    subst (λ (r : Option Read). DataRead held most c.args.source (words c.args.line.now) c.read_hex.new.bytes r) (sym c.from_residual-in_err-count-in-Hex.ensures) (ap (fitting most) bytes ∙ sym c.in_err-count-in-Hex.ensures.read)

pub returns-in_err-count-in-HexOrWritten : goal.returns-in_err-count-in-HexOrWritten
returns-in_err-count-in-HexOrWritten c =
    let most = length c.args.bytes.now in
    let held = recalled c.args.kept.memory c.args.kept.wire.now in
    let bytes = written_in held (words c.args.line.now) _ _ c.args.source c.in_ok-word.ensures.words (c.in-Some.is ∙ ap (λ (s : Source). Some s) c.in-HexOrWritten.is) in
    subst (λ (r : Option Read). DataRead held most c.args.source (words c.args.line.now) c.read_word.new.bytes r) (sym c.from_residual-in_err-count-in-HexOrWritten.ensures) (ap (fitting most) bytes ∙ sym c.in_err-count-in-HexOrWritten.ensures.read)

pub returns : goal.returns
returns c =
    let most = length c.args.bytes.now in
    let held = recalled c.args.kept.memory c.args.kept.wire.now in
    let ws = words c.args.line.now in
    let rest = words_behind held ws _ _ c.args.source c.in_ok-word.ensures.words c.in-Some.source c.in-Some.is in
    elim c.match-source-2.branch [
      | in-Hex+in_ok-count-in-Hex w ↦
          let said = w.in_ok-count-in-Hex.ensures in
          let bytes = hex_in held ws _ _ c.args.source c.in_ok-word.ensures.words (c.in-Some.is ∙ ap (λ (s : Source). Some s) w.in-Hex.is) in
          record { got = ap (fitting most) bytes ∙ sym said.read ∙ sym (λ t. Some (take (w.count-is t) (w.bytes-is t))); rest = rest; bytes = omega (arith, said.bound, w.count-is) }
      | in-HexOrWritten+in_ok-count-in-HexOrWritten w ↦
          let said = w.in_ok-count-in-HexOrWritten.ensures in
          let bytes = written_in held ws _ _ c.args.source c.in_ok-word.ensures.words (c.in-Some.is ∙ ap (λ (s : Source). Some s) w.in-HexOrWritten.is) in
          record { got = ap (fitting most) bytes ∙ sym said.read ∙ sym (λ t. Some (take (w.count-is t) (w.bytes-is t))); rest = rest; bytes = omega (arith, said.bound, w.count-is) }
    ]
