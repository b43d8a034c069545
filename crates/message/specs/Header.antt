-- 01, 'Header': what opens a lot.
use Rattle.std.specs.Prelude.{Result, Ok, Err, ℕ, ◌/◌, ◌%◌, Bool, ◌&&◌, List, [], ◌∷◌, ◌++◌, leb, ltb}
use Rattle.codes.specs.Field.{Field, field, any, between, exactly, field_number}
use Rattle.codes.specs.Code.{code_number}
use Rattle.codes.specs.declared.code.Code.{Code}
use Rattle.message.specs.declared.route.Route.{Route}
use Rattle.message.specs.declared.header.Header.{Header}
use Rattle.message.specs.Limits.{first_position, header_bytes, largest_order_number, largest_centre}
use Rattle.message.specs.Reading.{Reading, reading}
use Rattle.message.specs.Route.{route_values}
use Rattle.message.specs.Layout.{Layout}
use Rattle.message.specs.Content.{header_operation}

-- hhmmsscc: a time of day, to the hundredth of a second
abbrev pub time_of_day : ℕ → Bool
time_of_day v = ltb (v / 1000000) 24 && ltb (v / 10000 % 100) 60 && ltb (v / 100 % 100) 60

-- 0001 to 9999
abbrev pub order_number : ℕ → Bool
order_number v = between 1 largest_order_number v

-- the fields that are neither the session's nor fixed
abbrev pub time_field : Field
time_field = field 4 4 time_of_day

abbrev pub centre_field : Field
centre_field = field 15 2 any

abbrev pub order_field : Field
order_field = field 17 2 order_number

-- position, bytes, rule; date and entities are those of the direction
unfoldable pub header_fields : Route → List Field
header_fields route =
    time_field  -- 4-7
    ∷ field 8 3 (exactly route.date)
    ∷ field 11 2 (exactly route.presenting)
    ∷ field 13 2 (exactly route.receiving)
    ∷ centre_field  -- 15-16
    ∷ order_field  -- 17-18
    ∷ field 19 1 (exactly 0)
    ∷ []

-- 19 bytes, operation 01
abbrev pub header : Route → Layout
header route = record { bytes = header_bytes; operation = header_operation; fields = header_fields route }

-- the numbers of a header, in the order of the table
abbrev pub header_values : Route → Header → List ℕ
header_values route h = h.time ∷ route_values route ++ h.centre ∷ h.number ∷ 0 ∷ []

-- and a header of the numbers that a body holds
abbrev pub header_of : List ℕ → Header
header_of body = record { time = field_number first_position body time_field; centre = field_number first_position body centre_field; number = field_number first_position body order_field }

-- what the answer of a reading says
abbrev pub header_said : Route → Result Header Code → Reading
header_said route (Ok h) = reading 0 (header_values route h)
header_said route (Err c) = reading (code_number c) []

-- what a presenter may put into a header; the rest is the session's
unfoldable pub header_sendable : (time centre number : ℕ) → Bool
header_sendable time centre number = time_of_day time && leb centre largest_centre && order_number number
