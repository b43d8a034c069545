-- Laws of what a lot gathers: it is gathered in any grouping, nothing adds nothing, and a detail adds its documents one by one.
use mathlib.Core.Path.{◌≡◌, refl, ap, sym}
use mathlib.Core.List.{List, [], ◌∷◌}
use Prim.Native.Nat.{ℕ}
use Rattle.amounts.proofs.Laws.Totals.{plus_zeros, zeros_plus, plus_assoc}
use Rattle.document.specs.Amounts.{document_totals, totals_of}
use Rattle.session.specs.declared.running.Running.{Running}
use Rattle.session.specs.Running.{empty, adding, gather, stated, detail_adds}

pub gather_empty : (a : Running) → gather a empty ≡ a
gather_empty a = λ i. record { totals = plus_zeros (stated a) i }

pub empty_gather : (a : Running) → gather empty a ≡ a
empty_gather a = λ i. record { totals = zeros_plus (stated a) i }

pub gather_assoc : (a b c : Running) → gather (gather a b) c ≡ gather a (gather b c)
gather_assoc a b c = λ i. record { totals = plus_assoc (stated a) (stated b) (stated c) i }

module _ (operation : ℕ) where
  pub adds_none : detail_adds operation [] ≡ empty
  unfolding totals_of
  adds_none = refl

  pub adds_one : (d : List ℕ) (ds : List (List ℕ)) → detail_adds operation (d ∷ ds) ≡ gather (detail_adds operation (d ∷ [])) (detail_adds operation ds)
  unfolding totals_of
  adds_one d ds = ap (λ (a : Running). gather a (detail_adds operation ds)) (sym (gather_empty (adding operation (document_totals d))))
