-- `read_hex`: no bytes, pairs of digits, or neither.
use Rattle.std.proofs.Common.{◌%◌, length, eqb, ltb, ap, sym, ◌∙◌, arith}
use borrow.Author.Tests.{eqb-true}
use Rattle.packed.proofs.Laws.Told.{both}
use Rattle.text.specs.Got.{fitting}
use Rattle.text.proofs.Laws.Got.{fitting_fits}
use Rattle.text.proofs.Laws.Hex.{hex_dash, hex_pairs, hex_none}
use Rattle.text.proofs.hex.read_hex.Goals as goal

pub returns-then-same-clause-read : goal.returns-then-same-clause-read
returns-then-same-clause-read c =
    let most = length c.args.bytes.now in
    sym (ap (fitting most) (hex_dash c.args.word.now (sym c.same.ensures ∙ c.if-same.true)) ∙ fitting_fits most _ (omega arith))

pub read_pairs-requires : goal.read_pairs-requires
read_pairs-requires c =
    let n = length c.args.word.now in
    eqb-true (n % 2) 0 (both (ltb 0 n) (eqb (n % 2) 0) (sym c.is_paired.ensures ∙ c.if-is_paired.true)).1

pub returns-then-is_paired-clause-read : goal.returns-then-is_paired-clause-read
returns-then-is_paired-clause-read c =
    let other = sym c.same.ensures ∙ c.if-same.false in
    let paired = sym c.is_paired.ensures ∙ c.if-is_paired.true in
    c.read_pairs.ensures.read ∙ ap (fitting _) (sym (hex_pairs c.args.word.now other paired))

pub returns-clause-read : goal.returns-clause-read
unfolding fitting
returns-clause-read c =
    let other = sym c.same.ensures ∙ c.if-same.false in
    let unpaired = sym c.is_paired.ensures ∙ c.if-is_paired.false in
    sym (ap (fitting (length c.args.bytes.now)) (hex_none c.args.word.now other unpaired))
