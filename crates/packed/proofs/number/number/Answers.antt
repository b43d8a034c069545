-- `number`: each byte is one step more, and nine fit 64 bits.
use Rattle.std.proofs.Common.{◌≡◌, ℕ, ◌+◌, ◌-◌, ◌≤◌, ◌<◌, length, take, drop, refl, arith, length-take, length-drop, List}
use Rattle.std.proofs.lemmas.List.Edits.{get_or-between}
use Rattle.packed.specs.Part.{part}
use Rattle.packed.specs.Number.{number}
use Rattle.packed.proofs.Laws.Number.{number_step, number_grown, grown_eight}
use Rattle.packed.proofs.number.number.Goals as goal
use Rattle.packed.proofs.number.number.Goals.{In-loop-b}

-- the loop goes over as many bytes as it is asked to
all : (at n : ℕ) (s : List ℕ) → at + n ≤ length s → length (take (at + n - at) (drop at s)) ≡ n
all at n s h = simp (length-take, length-drop) (omega arith)

-- before the last byte the value is that of eight bytes at most
eight : (c : goal.In-loop-b) → c.loop-b.value ≤ 16666666666666665
eight c =
    let a = c.args in
    let k = c.loop-b.b-index in
    let few : k < a.n = omega (arith, all a.at a.n a.s.now (omega arith)) in
    let grown = number_grown a.at k a.s.now (λ (i : ℕ). (c.type_inv.s i).fits) (omega arith) in
    omega (arith, c.loop-b.invariant, grown_eight k (number (part a.at k a.s.now)) (omega arith) grown)

pub loop-b-init : goal.loop-b-init
unfolding number
loop-b-init c = refl

pub overflow_mul-value : goal.overflow_mul-value
overflow_mul-value c = omega (arith, eight c)

pub overflow_add-value : goal.overflow_add-value
overflow_add-value c = omega (arith, eight (goal.at.overflow_add-value c).In-loop-b)

pub loop-b-preserved : goal.loop-b-preserved
loop-b-preserved c =
    let a = c.args in
    let k = c.loop-b.b-index in
    let few : k < a.n = omega (arith, all a.at a.n a.s.now (omega arith)) in
    let here = get_or-between a.s.now a.at (a.at + a.n) k 0 (omega arith) in
    rw (number_step a.at k a.s.now (omega arith), ← here, ← c.byte_value.ensures.value, ← c.loop-b.invariant)

pub returns : goal.returns
returns c =
    let a = c.args in
    let last : c.loop-b.b-index ≡ a.n = omega (arith, all a.at a.n a.s.now (omega arith)) in
    let grown = number_grown a.at a.n a.s.now (λ (i : ℕ). (c.type_inv.s i).fits) (omega arith) in
    record { value = rw last at c.loop-b.invariant; bound = omega (arith, rw last at c.loop-b.invariant, grown) }
