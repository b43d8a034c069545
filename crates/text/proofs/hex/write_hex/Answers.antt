-- `write_hex`: two digits a byte, and then the rest.
use Rattle.std.proofs.Common.{List, ℕ, ◌+◌, ◌*◌, ap, sym, ◌∙◌, arith}
use lib.ListN.{length-set, drop_of_length-le}
use Rattle.std.proofs.lemmas.List.Edits.{sets}
use Rattle.text.specs.Hex.{hex_text}
use Rattle.text.proofs.Laws.Hex.{hex_step}
use Rattle.text.proofs.hex.write_hex.Goals as goal

pub loop-i-preserved : goal.loop-i-preserved
loop-i-preserved c =
    let i = c.loop-i.i in
    (simp length-set c.loop-i.invariant.0, hex_step c.loop-i.d c.args.bytes.now i (c.args.at + i * 2) _ _ _ _ (omega arith) (omega arith) (omega arith) c.hex_digit.ensures c.hex_digit-in-loop-i.ensures ∙ c.loop-i.invariant.1)

pub returns : goal.returns
unfolding hex_text
returns c =
    ap (λ (l : List ℕ). sets c.loop-i.d (c.args.at + c.loop-i.i * 2) (hex_text l)) (sym (drop_of_length-le c.args.bytes.now {i = c.loop-i.i} (omega arith))) ∙ c.loop-i.invariant.1
