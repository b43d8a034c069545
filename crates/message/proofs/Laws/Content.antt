-- A body of an operation of details is a detail.
use mathlib.Core.Path.{◌≡◌, refl}
use mathlib.Core.Bool.{Bool, true, false, ◌||◌, false≢true}
use Prim.Native.Nat.{ℕ}
use lib.Dec.{eqb}
use borrow.Author.Tests.{eqb-true}
use Rattle.document.specs.Operation.{presented, returned, is_operation}
use Rattle.message.specs.declared.content.Content.{Content}
use Rattle.message.specs.Content.{by_operation}

pub detail_told : (o : ℕ) → is_operation o ≡ true → by_operation o ≡ Content.Detail
unfolding by_operation
detail_told o = go (eqb o presented) (eqb o returned) refl refl
  where
    go : (t u : Bool) → eqb o presented ≡ t → eqb o returned ≡ u → t || u ≡ true → by_operation o ≡ Content.Detail
    go true u p r e = rw (eqb-true o presented p)
    go false true p r e = rw (eqb-true o returned r)
    go false false p r e = absurd (false≢true e)
