-- `forgotten`: the same is held, up to a larger number.
use mathlib.Core.Path.{refl, sym, subst}
use Prim.Native.Nat.{ℕ, ◌≤◌}
use Rattle.text.proofs.Laws.Held.{forgets, next_above}
use Rattle.text.proofs.wire.forgotten.Goals as goal

pub returns : goal.returns
returns c = λ wire ws so. forgets c.args.m _ wire ws refl refl (subst (λ (n : ℕ). c.args.m.numbered ≤ n) (sym c.next_number.ensures) (next_above c.args.m.numbered)) so
