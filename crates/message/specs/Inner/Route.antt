-- A route as bytes, which envelope and header share.
use Rattle.std.specs.Prelude.{ℕ, ◌+◌, List, ◌++◌}
use Rattle.packed.specs.Writing.{packed_bytes}
use Rattle.message.specs.declared.route.Route.{Route}
use Rattle.packed.specs.Part.{part}
use Rattle.packed.specs.Number.{number}

-- as it is read from a place on, places counted from 0
abbrev pub route_at : (at : ℕ) → List ℕ → Route
route_at at s = record { date = number (part at 3 s); presenting = number (part (at + 3) 2 s); receiving = number (part (at + 5) 2 s) }

-- date, presenting and receiving entity
abbrev pub route_bytes : ℕ
route_bytes = 7

-- as it is written
abbrev pub written_route : Route → List ℕ
written_route r = packed_bytes 3 r.date ++ packed_bytes 2 r.presenting ++ packed_bytes 2 r.receiving
