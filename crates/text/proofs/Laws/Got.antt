-- What is got, where it fits and where it does not.
use Rattle.std.proofs.Common.{◌≡◌, ℕ, ◌≤◌, ◌<◌, Some, None, Bool, cond, List, length, ap}
use borrow.Author.Tests.{le-leb, lt-leb}
use Rattle.text.specs.Got.{fitting}

pub fitting_fits : (most : ℕ) (bytes : List ℕ) → length bytes ≤ most → fitting most (Some bytes) ≡ Some bytes
unfolding fitting
fitting_fits most bytes h = ap (λ (b : Bool). cond b (Some bytes) None) (le-leb (length bytes) most h)

pub fitting_over : (most : ℕ) (bytes : List ℕ) → most < length bytes → fitting most (Some bytes) ≡ None
unfolding fitting
fitting_over most bytes h = ap (λ (b : Bool). cond b (Some bytes) None) (lt-leb (length bytes) most h)
