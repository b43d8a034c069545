-- What a tariff that was read, or was not, says of its numbers; and what an answer that comes by way of an option is known by.
use mathlib.Core.Path.{◌≡◌, refl, subst}
use mathlib.Core.Bool.{true, false}
use mathlib.Core.List.{List, map}
use Prim.Native.Nat.{ℕ}
use Rattle.std.specs.Prelude.{Option, Some, None, Ok, Err, MatchOption, ok_or}
use Rattle.tariff.specs.declared.good.Tariff.{Tariff}
use Rattle.tariff.specs.Tariff.{row_in, rows_of, good_tariff}

pub refused : {T E : Type 0} (o : Option T) (e d : E) → Err d ≡ ok_or o e → (o ≡ None) × (d ≡ e)
refused None e d v = (refl, cc)
refused (Some x) e d v = cc

pub taken : {T E : Type 0} (o : Option T) (e : E) (x : T) → Ok x ≡ ok_or o e → o ≡ Some x
taken None e x v = cc
taken (Some y) e x v = cc

module _ (numbers : List ℕ) where
  abbrev pub Read : Option Tariff → Type 0
  Read o = MatchOption o (good_tariff numbers ≡ false) (λ (t : Tariff). (good_tariff numbers ≡ true) × (map row_in t.rows.now ≡ rows_of numbers))

  pub not_read : (o : Option Tariff) → Read o → o ≡ None → good_tariff numbers ≡ false
  not_read o r e = subst Read e r

  pub was_read : (o : Option Tariff) (t : Tariff) → Read o → o ≡ Some t → (good_tariff numbers ≡ true) × (map row_in t.rows.now ≡ rows_of numbers)
  was_read o t r e = subst Read e r
