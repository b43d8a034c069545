-- `read_pairs`: the bytes do not fit, a byte is no digit, or all are read.
use Rattle.std.proofs.Common.{ℕ, ◌+◌, ◌*◌, ◌<◌, ◌≤◌, Option, List, length, ap, sym, refl, ◌∙◌, arith}
use lib.ListN.{length-set, drop_of_length-le}
use Rattle.std.proofs.lemmas.List.Edits.{sets}
use Rattle.text.specs.Digit.{is_hexadecimal}
use Rattle.text.specs.Hex.{hex_bytes}
use Rattle.text.specs.Got.{got_of}
use Rattle.text.proofs.Laws.Run.{every_end}
use Rattle.text.proofs.Laws.Hex.{high_not, low_not, digits_on, bytes_on, pairs_over, pairs_not, pairs_all}
use Rattle.text.proofs.hex.read_pairs.Goals as goal

pub returns-then-bytes-count-clause-read : goal.returns-then-bytes-count-clause-read
returns-then-bytes-count-clause-read c = pairs_over _ c.args.word.now c.if-bytes-count.true

pub returns-in_err-high-clause-read : goal.returns-in_err-high-clause-read
returns-in_err-high-clause-read c =
    let w = c.args.word.now in
    let no = high_not w c.loop-i.i 16 _ (omega arith) c.in_err-high.ensures.value refl (omega arith) in
    ap (λ (r : Option ℕ). got_of r c.loop-i.bytes) c.from_residual.ensures ∙ pairs_not _ w (sym c.loop-i.invariant.1 ∙ no)

pub returns-in_err-low-clause-read : goal.returns-in_err-low-clause-read
returns-in_err-low-clause-read c =
    let w = c.args.word.now in
    let no = low_not w c.loop-i.i _ 16 (omega arith) c.in_ok-high.ensures.value c.in_err-low.ensures.value (omega arith) in
    ap (λ (r : Option ℕ). got_of r c.loop-i.bytes) c.from_residual-in_err-low.ensures ∙ pairs_not _ w (sym c.loop-i.invariant.1 ∙ no)

pub loop-i-preserved : goal.loop-i-preserved
loop-i-preserved c =
    let w = c.args.word.now in
    let i = c.loop-i.i in
    let h : i * 2 + 1 < length w = omega arith in
    let high = c.in_ok-high.ensures in
    let low = c.in_ok-low.ensures in (
      simp length-set c.loop-i.invariant.0,
      digits_on w i _ _ h high.value low.value high.bound low.bound ∙ c.loop-i.invariant.1,
      bytes_on c.loop-i.bytes w i _ h (λ t. high.value t * 16 + low.value t) ∙ c.loop-i.invariant.2,
    )

pub returns-clause-read : goal.returns-clause-read
unfolding hex_bytes
returns-clause-read c =
    let w = c.args.word.now in
    let over : length w ≤ c.loop-i.i * 2 = omega arith in
    let digits = sym c.loop-i.invariant.1 ∙ every_end is_hexadecimal w (c.loop-i.i * 2) over in
    let bytes = ap (λ (l : List ℕ). sets c.loop-i.bytes c.loop-i.i (hex_bytes l)) (sym (drop_of_length-le w {i = c.loop-i.i * 2} over)) ∙ c.loop-i.invariant.2 in
    pairs_all _ w c.args.bytes.now c.loop-i.bytes refl (omega arith) digits bytes
