-- The course that this driver takes, round by round, every call at the opening; 01 leaves it to the caller.
use Rattle.std.specs.Prelude.{ℕ, zero, suc, ◌+◌, ◌||◌, cond, List, eqb, length}
use Rattle.session.specs.Hours.{opening}
use Rattle.session.specs.Limits.{most_lots, passes_lot}
use Rattle.session.specs.Running.{documents_in}
use Rattle.session.specs.Sending.{Send}
use Rattle.session.specs.Engine.{Call, Engine}
use Rattle.centre.specs.Turn.{engine_of}
use Rattle.outgoing.specs.declared.Cursors.{Cursors}
use Rattle.exchange.specs.declared.progress.Progress.{Progress}
use Rattle.exchange.specs.declared.round.Round.{Round}
use Rattle.exchange.specs.Cursors.{unmoved, part_at, next_operation, moved, same}
use Rattle.document.specs.Part.{count_in}
use Rattle.exchange.specs.Fixed.{moment, office, lot_parts}
use Rattle.exchange.specs.Round.{Rounded, rounded}

-- both ends of a direction and the two line buffers
pub record Ends : Type 0 where
  pub presenter : Engine
  pub receiver : Engine
  pub message : List ℕ
  pub reply : List ℕ

-- and the cursors of the presenter's trays
pub record Standing : Type 0 where
  pub ends : Ends
  pub cursors : Cursors

-- what the code holds, beside the buffers
abbrev pub ends_of : Round → (message reply : List ℕ) → Ends
ends_of r message reply = record { presenter = engine_of r.presenter; receiver = engine_of r.receiver; message = message; reply = reply }

abbrev pub standing_of : Progress → (message reply : List ℕ) → Standing
standing_of p message reply = record { ends = ends_of p.last message reply; cursors = p.cursors }

-- what a round leaves
abbrev pub ends_after : Rounded → Ends
ends_after r = record { presenter = r.answer.presenter; receiver = r.answer.receiver; message = r.message; reply = r.answer.reply }

unfoldable pub round_made : Call → Ends → Ends
round_made call e = ends_after (rounded call opening e.message e.reply e.presenter e.receiver)

-- the documents that the presenter has counted in its open lot
abbrev pub in_open_lot : Ends → ℕ
in_open_lot e = documents_in e.presenter.presenting

-- the cursors go past a part where the count has changed
abbrev pub past_part : (presentations : List ℕ) (documents before after : ℕ) → Cursors → Cursors
past_part presentations documents before after c = cond (eqb after before) c (moved presentations documents c)

-- a part goes as a detail
unfoldable pub part_sent : (presentations part : List ℕ) → Standing → Standing
part_sent presentations bytes s =
    let ends = round_made (Call.send opening (Send.detail (next_operation presentations s.cursors) bytes)) s.ends in
    record { ends = ends; cursors = past_part presentations (count_in bytes) (in_open_lot s.ends) (in_open_lot ends) s.cursors }

-- it does if there is one and the open lot has room for it
abbrev pub if_room : (presentations part : List ℕ) → Standing → Standing
if_room presentations bytes s = cond (eqb (count_in bytes) 0 || passes_lot (in_open_lot s.ends + count_in bytes)) s (part_sent presentations bytes s)

unfoldable pub detail_sent : (presentations returns : List ℕ) → Standing → Standing
detail_sent presentations returns s = if_room presentations (part_at presentations returns s.cursors) s

-- numbered steps, until one moves no cursor, and at most so many
unfoldable pub while_moving : (most : ℕ) (step : ℕ → Standing → Standing) (number : ℕ) → Standing → Standing
while_moving zero step number s = s
while_moving (suc n) step number s = cond (same s.cursors (step number s).cursors) (step number s) (while_moving n step (suc number) (step number s))

-- the parts of a lot
abbrev pub next_part : (presentations returns : List ℕ) → ℕ → Standing → Standing
next_part presentations returns number s = detail_sent presentations returns s

unfoldable pub filled : (presentations returns : List ℕ) → Standing → Standing
filled presentations returns s = while_moving lot_parts (next_part presentations returns) 0 s

-- a round that moves no cursor
abbrev pub round_between : Call → Standing → Standing
round_between call s = record { ends = round_made call s.ends; cursors = s.cursors }

-- header, parts and total
abbrev pub whole_lot : (number : ℕ) (presentations returns : List ℕ) → Standing → Standing
whole_lot number presentations returns s = round_between (Call.send opening Send.lot_total) (filled presentations returns (round_between (Call.send opening (Send.header moment office number)) s))

-- a lot, if documents remain
unfoldable pub lot_made : (presentations returns : List ℕ) (number : ℕ) → Standing → Standing
lot_made presentations returns number s = cond (eqb (length (part_at presentations returns s.cursors)) 0) s (whole_lot number presentations returns s)

-- the lots of a direction, numbered from 1
unfoldable pub lots_made : (presentations returns : List ℕ) → Standing → Standing
lots_made presentations returns s = while_moving most_lots (lot_made presentations returns) 1 s

-- and the session total after them
unfoldable pub direction_made : (presentations returns : List ℕ) → Ends → Ends
direction_made presentations returns e = round_made (Call.send opening Send.session_total) (lots_made presentations returns (record { ends = e; cursors = unmoved })).ends

-- the other direction
abbrev pub across : Ends → Ends
across e = record { presenter = e.receiver; receiver = e.presenter; message = e.message; reply = e.reply }

-- the presenter's direction, and then the other
unfoldable pub both_directions : (presentations returns other_presentations other_returns : List ℕ) → Ends → Ends
both_directions presentations returns other_presentations other_returns e = direction_made other_presentations other_returns (across (direction_made presentations returns e))
