-- Lot total and session total as one layout in different widths, for the code that serves both.
use Rattle.std.specs.Prelude.{◌+◌, List, [], ◌∷◌}
use Rattle.codes.specs.Field.{Field, field, amount, any}
use Rattle.message.specs.declared.widths.Widths.{Widths}
use Rattle.message.specs.Layout.{Layout}

-- the fields, with these widths for documents, nominal and commission
unfoldable pub total_fields : Widths → List Field
total_fields w = field 4 2 any ∷ field 6 w.documents any ∷ amount (6 + w.documents) w.nominal ∷ amount (6 + w.documents + w.nominal) w.commission ∷ []

-- and the layout with them
abbrev pub total : Widths → Layout
total w = record { bytes = 5 + w.documents + (w.nominal + w.commission); operation = w.operation; fields = total_fields w }
