use mathlib.Core.Path.{◌≡◌, refl, ap, sym, ◌∙◌}
use mathlib.Core.Bool.{Bool, true, false, ◌&&◌}
use mathlib.Core.List.{List}
use Prim.Native.Nat.{ℕ, ◌+◌, ◌-◌}
use native.Mathlib.Nat.{zero-add}
use native.Mathlib.Omega.{arith}
use lib.ListN.{get_or}
use Rattle.packed.specs.Part.{part}
use Rattle.packed.specs.Digits.{is_digits, are_digits}
use Rattle.packed.proofs.Laws.Digits.{digits_split, digits_step, digits_none}
use Rattle.document.proofs.digits.sweep.Goals as goal

-- the two runs that share a byte
shared : (p q r s : Bool) → p && (q && r) && (r && s) ≡ p && (q && r) && s
shared true true true s = refl
shared true true false s = refl
shared true false r s = refl
shared false q r s = refl

joined : (d : List ℕ) → are_digits (part 0 16 d) && are_digits (part 16 16 d) && are_digits (part 31 16 d) ≡ are_digits (part 0 47 d)
joined d =
    (λ i. are_digits (part 0 16 d) && digits_split 16 15 1 d i && digits_split 31 1 15 d i)
    ∙ shared (are_digits (part 0 16 d)) (are_digits (part 16 15 d)) (are_digits (part 31 1 d)) (are_digits (part 32 15 d))
    ∙ sym (λ i. are_digits (part 0 16 d) && digits_split 16 15 1 d i && are_digits (part 32 15 d))
    ∙ sym (digits_split 0 32 15 d ∙ ap (λ (t : Bool). t && are_digits (part 32 15 d)) (digits_split 0 16 16 d))

pub loop-i-preserved : goal.loop-i-preserved
loop-i-preserved c =
    let d = c.args.d.now in
    let i = c.loop-i.i in (
      rw c.is_digits-first.ensures
          (ap (λ (j : ℕ). c.loop-i.first && is_digits (get_or d j 0) && are_digits (part (0 + (i + 1)) (16 - (i + 1)) d)) (sym (zero-add i))
          ∙ digits_step 0 16 i c.loop-i.first d (omega arith) (omega arith)
          ∙ c.loop-i.invariant.0),
      rw c.is_digits-second.ensures (digits_step 16 16 i c.loop-i.second d (omega arith) (omega arith) ∙ c.loop-i.invariant.1),
      rw c.is_digits-third.ensures (digits_step 31 16 i c.loop-i.third d (omega arith) (omega arith) ∙ c.loop-i.invariant.2),
    )

pub returns : goal.returns
returns c =
    let d = c.args.d.now in
    let all : c.loop-i.i ≡ 16 = omega arith in
    let first = sym (digits_none (0 + 16) 16 c.loop-i.first d) ∙ rw all at c.loop-i.invariant.0 in
    let second = sym (digits_none (16 + 16) 16 c.loop-i.second d) ∙ rw all at c.loop-i.invariant.1 in
    let third = sym (digits_none (31 + 16) 16 c.loop-i.third d) ∙ rw all at c.loop-i.invariant.2 in
    (λ i. first i && second i && third i) ∙ joined d
