-- What keeps a nominal times a rate within 64 bits, also where it is not known yet whether the nominal's bytes are digits.
use Rattle.std.specs.Prelude.{ℕ, ◌*◌, ◌^◌}
use Rattle.tariff.specs.declared.search.Rule.{Rule}
use Rattle.tariff.specs.Tariff.{largest_rate}

-- six bytes, whatever they are, stay below
abbrev pub nominal_bound : ℕ
nominal_bound = 2 * 100 ^ 6

-- so that no product is larger
abbrev pub product_bound : ℕ
product_bound = nominal_bound * largest_rate

-- the rate by which a rule multiplies
abbrev pub rate_of : Rule → ℕ
rate_of Rule.Typed = 0
rate_of (Rule.ByRow r) = r.rate
