-- A text that is put into a buffer piece by piece, each behind the one before: what stands there, and where the next one goes.
use mathlib.Core.Path.{◌≡◌, ap, sym, ◌∙◌}
use mathlib.Core.List.{List, ◌++◌}
use Prim.Native.Nat.{ℕ, ◌+◌}
use native.Mathlib.Omega.{arith}
use lib.ListN.{length, length-append}
use lib.Seq.{sets}
use Rattle.packed.proofs.Laws.Writing.{sets_behind}

-- a buffer with a text at its start, and the place behind it
pub record Put (buffer text now : List ℕ) (next : ℕ) : Type 0 where
  pub written : now ≡ sets buffer 0 text
  pub place : next ≡ length text

-- one piece more
pub put_behind : {buffer text now : List ℕ} {next : ℕ} → Put buffer text now next → (more : List ℕ) {after : List ℕ} {then : ℕ} → after ≡ sets now next more → then ≡ next + length more → Put buffer (text ++ more) after then
put_behind {buffer} {text} {now} {next} p more w n =
    record {
      written = w ∙ sets_behind text more buffer now 0 next p.written (omega (arith, p.place));
      place = n ∙ ap (λ (k : ℕ). k + length more) p.place ∙ sym (length-append text more);
    }
