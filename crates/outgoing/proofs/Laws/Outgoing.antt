-- Laws of the ready documents: where a cursor stands, and what each answer of the tests leaves.
use mathlib.Core.Path.{◌≡◌}
use mathlib.Core.Bool.{true, and-eq-true_iff}
use mathlib.Core.List.{List}
use Prim.Native.Nat.{ℕ, ◌*◌, ◌%◌, ◌≤◌, ◌<◌}
use native.Mathlib.Omega.{arith}
use lib.Dec.{eqb, leb}
use lib.ListN.{length}
use borrow.Author.Tests.{leb-true, lt-ltb, le-ltb}
use Rattle.document.specs.Limits.{document_bytes}
use Rattle.outgoing.specs.Outgoing.{ready_good, both_good, next_of, next}
use Rattle.document.specs.Part.{count_in}

-- a good cursor lies within its tray, in bytes too
pub cursor_within : (ready : List ℕ) (cursor : ℕ) → ready_good ready cursor ≡ true → cursor * document_bytes ≤ length ready
cursor_within ready cursor e =
    omega (arith, leb-true cursor (count_in ready) ((and-eq-true_iff (eqb (length ready % document_bytes) 0) (leb cursor (count_in ready))).0 e).1)

module _ (presentations returns : List ℕ) (presentations_sent returns_sent : ℕ) where
  pub each_good : both_good presentations returns presentations_sent returns_sent ≡ true → (ready_good presentations presentations_sent ≡ true) × (ready_good returns returns_sent ≡ true)
  each_good e = (and-eq-true_iff (ready_good presentations presentations_sent) (ready_good returns returns_sent)).0 e

  pub next_presented : both_good presentations returns presentations_sent returns_sent ≡ true → presentations_sent < count_in presentations → next presentations returns presentations_sent returns_sent ≡ next_of presentations presentations_sent
  next_presented e h = rw (e, lt-ltb presentations_sent (count_in presentations) h)

  pub next_returned : both_good presentations returns presentations_sent returns_sent ≡ true → count_in presentations ≤ presentations_sent → next presentations returns presentations_sent returns_sent ≡ next_of returns returns_sent
  next_returned e h = rw (e, le-ltb presentations_sent (count_in presentations) h)
