-- Laws of what is found: joining, and how the findings of a list grow.
use mathlib.Core.Path.{◌≡◌, refl, ap, sym, ◌∙◌}
use mathlib.Core.Bool.{and_assoc, and-true}
use mathlib.Core.List.{List, [], ◌∷◌, ◌++◌}
use Prim.Native.Nat.{ℕ, ◌+◌, ◌≤◌}
use native.Mathlib.Omega.{arith}
use Rattle.packed.specs.Every.{every}
use Rattle.packed.proofs.Laws.Every.{every_append}
use Rattle.amounts.specs.declared.Totals.{Totals}
use Rattle.amounts.specs.Totals.{zeros, plus}
use Rattle.amounts.specs.Inner.Fits.{SumFits}
use Rattle.amounts.proofs.Laws.Totals.{plus_zeros, zeros_plus, plus_assoc}
use Rattle.document.specs.declared.found.Found.{Found}
use Rattle.document.specs.Fields.{fields_good, amounts_good}
use Rattle.document.specs.Drawee.{drawee_served}
use Rattle.document.specs.Inner.Bounds.{Within}
use Rattle.document.specs.Amounts.{for_something, document_totals, totals_of}
use Rattle.document.specs.Inner.Found.{found, found_in, nothing, join}

join_nothing : (a : Found) → join a nothing ≡ a
join_nothing a =
    λ i. record { fields = and-true a.fields i; amounts = and-true a.amounts i; served = and-true a.served i; something = and-true a.something i; totals = plus_zeros a.totals i }

pub nothing_join : (a : Found) → join nothing a ≡ a
nothing_join a = λ i. record { fields = a.fields; amounts = a.amounts; served = a.served; something = a.something; totals = zeros_plus a.totals i }

join_assoc : (a b c : Found) → join (join a b) c ≡ join a (join b c)
join_assoc a b c =
    λ i.
    record {
      fields = and_assoc a.fields b.fields c.fields i;
      amounts = and_assoc a.amounts b.amounts c.amounts i;
      served = and_assoc a.served b.served c.served i;
      something = and_assoc a.something b.something c.something i;
      totals = plus_assoc a.totals b.totals c.totals i;
    }

totals_append : (xs ys : List (List ℕ)) → totals_of (xs ++ ys) ≡ plus (totals_of xs) (totals_of ys)
unfolding totals_of
totals_append [] ys = sym (zeros_plus (totals_of ys))
totals_append (x ∷ xs) ys = ap (plus (document_totals x)) (totals_append xs ys) ∙ sym (plus_assoc (document_totals x) (totals_of xs) (totals_of ys))

module _ (operation receiving : ℕ) (represented : List ℕ) where
  found_none : found_in operation receiving represented [] ≡ nothing
  unfolding every totals_of
  found_none = refl

  found_cons : (d : List ℕ) (ds : List (List ℕ)) → found_in operation receiving represented (d ∷ ds) ≡ join (found operation receiving represented d) (found_in operation receiving represented ds)
  unfolding every totals_of
  found_cons d ds = refl

  found_append : (xs ys : List (List ℕ)) → found_in operation receiving represented (xs ++ ys) ≡ join (found_in operation receiving represented xs) (found_in operation receiving represented ys)
  found_append xs ys =
      λ i.
      record {
        fields = every_append (fields_good operation receiving) xs ys i;
        amounts = every_append (amounts_good operation receiving) xs ys i;
        served = every_append (drawee_served operation receiving represented) xs ys i;
        something = every_append for_something xs ys i;
        totals = totals_append xs ys i;
      }

  -- findings so far, and nothing left
  pub found_end : (so : Found) → join so (found_in operation receiving represented []) ≡ so
  found_end so = ap (join so) found_none ∙ join_nothing so

  -- findings so far, and one document more of those left
  pub found_step : (so : Found) (d : List ℕ) (ds : List (List ℕ)) → join (join so (found operation receiving represented d)) (found_in operation receiving represented ds) ≡ join so (found_in operation receiving represented (d ∷ ds))
  found_step so d ds =
      join_assoc so (found operation receiving represented d) (found_in operation receiving represented ds)
      ∙ ap (join so) (sym (found_cons d ds))

  -- or some documents more
  pub found_more : (so : Found) (xs ys : List (List ℕ)) → join (join so (found_in operation receiving represented xs)) (found_in operation receiving represented ys) ≡ join so (found_in operation receiving represented (xs ++ ys))
  found_more so xs ys =
      join_assoc so (found_in operation receiving represented xs) (found_in operation receiving represented ys)
      ∙ ap (join so) (sym (found_append xs ys))

-- what keeps sums within 64 bits, for far more documents than a body can have
pub within_plus : (m n : ℕ) (a b : Totals) → Within m a → Within n b → Within (m + n) (plus a b)
within_plus m n a b ha hb = record { documents = omega arith; nominal = omega arith; commission = omega arith }

pub within_zeros : Within 0 zeros
within_zeros = record { documents = omega arith; nominal = omega arith; commission = omega arith }

pub within_fits : (m n : ℕ) (a b : Totals) → m + n ≤ 100000 → Within m a → Within n b → SumFits a b
within_fits m n a b h ha hb = record { documents = omega arith; nominal = omega arith; commission = omega arith }

pub within_more : (m n : ℕ) (t : Totals) → m ≤ n → Within m t → Within n t
within_more m n t h w = record { documents = omega arith; nominal = omega arith; commission = omega arith }
