-- What one pass over documents finds at once: the tests of 01, 03, 06 and 44, and the totals.
use Rattle.std.specs.Prelude.{ℕ, true, ◌&&◌, List}
use Rattle.packed.specs.Every.{every}
use Rattle.amounts.specs.Totals.{zeros, plus}
use Rattle.document.specs.declared.found.Found.{Found}
use Rattle.document.specs.Fields.{fields_good, amounts_good}
use Rattle.document.specs.Drawee.{drawee_served}
use Rattle.document.specs.Amounts.{for_something, document_totals, totals_of}

-- what is found in one document
abbrev pub found : (operation receiving : ℕ) (represented : List ℕ) → List ℕ → Found
found operation receiving represented d =
    record {
      fields = fields_good operation receiving d;
      amounts = amounts_good operation receiving d;
      served = drawee_served operation receiving represented d;
      something = for_something d;
      totals = document_totals d;
    }

-- what is found in some, each test over all of them
abbrev pub found_in : (operation receiving : ℕ) (represented : List ℕ) → List (List ℕ) → Found
found_in operation receiving represented ds =
    record {
      fields = every (fields_good operation receiving) ds;
      amounts = every (amounts_good operation receiving) ds;
      served = every (drawee_served operation receiving represented) ds;
      something = every for_something ds;
      totals = totals_of ds;
    }

-- what is found where there is none
abbrev pub nothing : Found
nothing = record { fields = true; amounts = true; served = true; something = true; totals = zeros }

-- what is found in some and in some more
abbrev pub join : Found → Found → Found
join a b =
    record {
      fields = a.fields && b.fields;
      amounts = a.amounts && b.amounts;
      served = a.served && b.served;
      something = a.something && b.something;
      totals = plus a.totals b.totals;
    }
