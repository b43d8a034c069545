-- 01, 'Centres and directions': the date and the entities of a session, the two directions of a centre, and the route of each.
use Rattle.std.specs.Prelude.{ℕ, ◌/◌, ◌%◌, Bool, not, ◌&&◌, ◌||◌, List, [], eqb, leb, length, take, replicate}
use Rattle.std.proofs.lemmas.List.Edits.{sets}
use Rattle.document.specs.Limits.{most_represented}
use Rattle.document.specs.Rules.{day_and_month}
use Rattle.document.specs.Entities.{is_entity, entities_good}
use Rattle.message.specs.declared.route.Route.{Route}
use Rattle.session.specs.declared.parties.Parties.{Parties}

-- 'Each centre presents in one direction and receives in the other'
pub data Direction : Type 0 where
  presenting : Direction
  receiving : Direction

-- the other direction
abbrev pub opposite : Direction → Direction
opposite Direction.presenting = Direction.receiving
opposite Direction.receiving = Direction.presenting

-- the largest number of six digits, as DDMMYY is
abbrev pub largest_date : ℕ
largest_date = 999999

-- 29 February as DDMM
abbrev pub leap_day : ℕ
leap_day = 2902

-- a day of the years 2000 to 2099 as DDMMYY; of these every fourth, from 2000 on, has a 29 February, and the last two digits tell which
unfoldable pub real_date : ℕ → Bool
real_date date = leb date largest_date && day_and_month (date / 100) && (not (eqb (date / 100) leap_day) || eqb (date % 4) 0)

-- 24 otherwise: a real date, entities within their limits, and two different ones
unfoldable pub parties_good : (date own partner : ℕ) (represented : List ℕ) → Bool
parties_good date own partner represented = real_date date && entities_good own represented && is_entity partner && not (eqb own partner)

-- represented entities in the places that a session has for them
unfoldable pub padded : List ℕ → List ℕ
padded represented = sets (replicate most_represented 0) 0 represented

-- the parties of a start
abbrev pub parties_of : (date own partner : ℕ) (represented : List ℕ) → Parties
parties_of date own partner represented = record { date = date; own = own; partner = partner; represented = padded represented; count = length represented }

-- parties of no session, for what stands beside 24
abbrev pub nobody : Parties
nobody = parties_of 0 0 0 []

-- the represented entities, without the places that are not used
abbrev pub represented_by : Parties → List ℕ
represented_by p = take p.count p.represented

-- the route of what the centre presents: from own to partner
abbrev pub presenting_route : Parties → Route
presenting_route p = record { date = p.date; presenting = p.own; receiving = p.partner }

-- and of what it receives: from partner to own
abbrev pub receiving_route : Parties → Route
receiving_route p = record { date = p.date; presenting = p.partner; receiving = p.own }
