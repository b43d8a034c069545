-- An evening is a list of possible calls, since rounds are all that a direction is made of; and where it ends, nothing is awaited, so both directions are
-- level.
use mathlib.Core.Path.{◌≡◌, refl, ap, sym, ◌∙◌}
use mathlib.Core.Bool.{Bool, true, false, ◌||◌, cond}
use mathlib.Core.List.{List, []}
use Prim.Native.Nat.{ℕ, zero, suc, ◌+◌}
use native.Mathlib.Omega.{arith}
use lib.Dec.{eqb}
use lib.ListN.{length}
use Rattle.packed.specs.Every.{every}
use Rattle.codes.specs.Chain.{◌when◌, ◌orelse◌}
use Rattle.document.specs.Part.{count_in}
use Rattle.document.specs.Rules.{month_days}
use Rattle.session.specs.declared.counters.Lot.{Lot}
use Rattle.session.specs.declared.effect.Effect.{Effect}
use Rattle.session.specs.declared.report.Tally.{Tally}
use Rattle.session.specs.declared.report.Awaited.{Awaited}
use Rattle.session.specs.declared.report.Report.{Report}
use Rattle.session.specs.Hours.{opening, close}
use Rattle.session.specs.Parties.{real_date, parties_good}
use Rattle.session.specs.Limits.{most_lots, passes_lot}
use Rattle.session.specs.Time.{clock_refusal, time_refusal}
use Rattle.session.specs.Start.{fresh, start}
use Rattle.session.specs.Sending.{Send}
use Rattle.session.specs.Engine.{Call, Engine}
use Rattle.session.specs.Ends.{End, World, Step, act, run, Possible, begun}
use Rattle.session.specs.Report.{awaited, report}
use Rattle.session.specs.Claim.{report_at, presented_tally, received_tally, Agreement, Beyond, TotalsFollow}
use Rattle.session.proofs.Laws.EveryCall.{pending_in, ticked_pending}
use Rattle.session.proofs.Agreement.{totals_follow}
use Rattle.exchange.specs.declared.shown.Sums.{Sums}
use Rattle.exchange.specs.declared.shown.Evening.{Evening}
use Rattle.exchange.specs.Fixed.{moment, office, lot_parts}
use Rattle.exchange.specs.Cursors.{unmoved, part_at, same}
use Rattle.exchange.specs.Course.{Ends, Standing, in_open_lot, part_sent, detail_sent, while_moving, next_part, filled, round_between, whole_lot, lot_made, lots_made, direction_made, across, both_directions}
use Rattle.exchange.specs.Evening.{sums_of, awaited_number, side_of, no_side, closed_end, closed_side, beginning, evening, trays_code, exchanged}
use Rattle.exchange.specs.Together.{both_started, IsAList, EveningIsAList, Settled, EveningIsSettled}
use Rattle.exchange.proofs.Laws.Led.{Led, one_more, agreed, agrees, Quiet, Between, round_more}

-- all that a direction is made of leads from between two rounds to between two rounds
module _ (p : End) where
  -- one of two
  either_between : (t : Bool) (a b : Standing) → Between p a.ends → Between p b.ends → Between p (cond t a b).ends
  either_between true a b x y = x
  either_between false a b x y = y

  -- steps, until one moves no cursor
  while_between : (step : ℕ → Standing → Standing) → ((number : ℕ) (s : Standing) → Between p s.ends → Between p (step number s).ends) → (most number : ℕ) (s : Standing) → Between p s.ends → Between p (while_moving most step number s).ends
  unfolding while_moving
  while_between step keeps zero number s x = x
  while_between step keeps (suc most) number s x =
      let once = keeps number s x in
      either_between (same s.cursors (step number s).cursors) (step number s) (while_moving most step (suc number) (step number s)) once (while_between step keeps most (suc number) (step number s) once)

  module _ (presentations returns : List ℕ) where
    part_between : (number : ℕ) (s : Standing) → Between p s.ends → Between p (detail_sent presentations returns s).ends
    unfolding detail_sent part_sent
    part_between number s x =
        let part = part_at presentations returns s.cursors in
        either_between (eqb (count_in part) 0 || passes_lot (in_open_lot s.ends + count_in part)) s (part_sent presentations part s) x (round_more p s.ends x _)

    lot_between : (number : ℕ) (s : Standing) → Between p s.ends → Between p (lot_made presentations returns number s).ends
    unfolding lot_made filled
    lot_between number s x =
        let opened = round_between (Call.send opening (Send.header moment office number)) s in
        let full = filled presentations returns opened in
        either_between (eqb (length (part_at presentations returns s.cursors)) 0) s (whole_lot number presentations returns s) x
        (round_more p full.ends (while_between (next_part presentations returns) part_between lot_parts 0 opened (round_more p s.ends x _)) Send.lot_total)

    direction_between : (e : Ends) → Between p e → Between p (direction_made presentations returns e)
    unfolding direction_made lots_made
    direction_between e x = round_more p _ (while_between (lot_made presentations returns) lot_between most_lots 1 (record { ends = e; cursors = unmoved }) x) Send.session_total

-- the other end presents
across_between : (e : Ends) → Between End.near e → Between End.far (across e)
across_between e s = record { world = s.world; led = s.led; quiet = s.quiet; same = ap across s.same; room = s.room }

-- from the beginning, so an evening comes there before its clock calls
begins : Between End.near beginning
unfolding beginning begun run Possible start parties_good real_date month_days every ◌when◌ ◌orelse◌ fresh time_refusal clock_refusal
begins = record { world = both_started; led = record { steps = []; possible = tt; leads = refl }; quiet = quiet; same = refl; room = omega arith }
  where
    quiet : (x : End) → Quiet (both_started.engine x)
    quiet End.near = record { clock = refl; idle = refl }
    quiet End.far = record { clock = refl; idle = refl }

module _ (near_presentations near_returns far_presentations far_returns : List ℕ) where
  abbrev last : Ends
  last = both_directions near_presentations near_returns far_presentations far_returns beginning

  ending : Between End.far last
  unfolding both_directions
  ending = direction_between End.far far_presentations far_returns _ (across_between _ (direction_between End.near near_presentations near_returns beginning begins))

  -- both clock calls
  abbrev ticking : End → Step
  ticking x = record { at = x; call = Call.clock close; line = [] }

  abbrev before : World
  before = ending.world

  abbrev after : World
  after = act (ticking End.far) (act (ticking End.near) before)

  led : Led after
  led = one_more (act (ticking End.near) before) (one_more before ending.led (ticking End.near) tt) (ticking End.far) tt

  near_so : after.engine End.near ≡ closed_end last.receiver
  unfolding act closed_end
  near_so = ap (λ (e : Ends). closed_end e.receiver) ending.same

  far_so : after.engine End.far ≡ closed_end last.presenter
  unfolding act closed_end
  far_so = ap (λ (e : Ends). closed_end e.presenter) ending.same

  -- nothing is awaited, so the ends are level
  idle : (x : End) → pending_in (after.engine x) ≡ Effect.Nothing
  unfolding act
  idle End.near = ticked_pending close [] (before.engine End.near) ∙ (ending.quiet End.near).idle
  idle End.far = ticked_pending close [] (before.engine End.far) ∙ (ending.quiet End.far).idle

  none_awaited : (x : End) → (report_at after x).awaited ≡ Awaited.Neither
  unfolding report
  none_awaited x = ap awaited (idle x)

  level : (p : End) → received_tally after p ≡ presented_tally after p
  level p = go claim.agreed (totals_follow after p claim)
    where
      claim : Agreement after p
      claim = agrees after led p

      go : (b : Beyond after p) → TotalsFollow after p b → received_tally after p ≡ presented_tally after p
      go (Beyond.nothing l) same = same
      go (Beyond.one_lot l n more) same = absurd (not_named (sym (none_awaited p) ∙ n.shown))
        where
          not_named : {l : Lot} → Awaited.Neither ≡ Awaited.LotTotal l → ⊥
          not_named e = let z : ◌≡◌ {A = ℕ} 0 1 = ap awaited_number e in omega arith

  -- and their reports say so
  abbrev in_sums : Tally → Sums
  in_sums t = sums_of t.lots t.gathered

  near_report : report (closed_end last.receiver).session ≡ report_at after End.near
  near_report = ap (λ (e : Engine). report e.session) (sym near_so)

  far_report : report (closed_end last.presenter).session ≡ report_at after End.far
  far_report = ap (λ (e : Engine). report e.session) (sym far_so)

  settled_evening : Settled (evening near_presentations near_returns far_presentations far_returns)
  unfolding evening closed_side
  settled_evening =
      record {
        near_received = ap in_sums (ap (λ (r : Report). r.received) near_report ∙ level End.far ∙ ap (λ (r : Report). r.presented) (sym far_report));
        far_received = ap in_sums (ap (λ (r : Report). r.received) far_report ∙ level End.near ∙ ap (λ (r : Report). r.presented) (sym near_report));
        near_awaits = ap (λ (r : Report). awaited_number r.awaited) near_report ∙ ap awaited_number (none_awaited End.near);
        far_awaits = ap (λ (r : Report). awaited_number r.awaited) far_report ∙ ap awaited_number (none_awaited End.far);
      }

  list_evening : IsAList (evening near_presentations near_returns far_presentations far_returns)
  unfolding evening closed_side
  list_evening =
      record {
        steps = led.steps;
        possible = led.possible;
        near_side_shown = ap side_of (near_report ∙ sym (ap (λ (w : World). report_at w End.near) led.leads));
        far_side_shown = ap side_of (far_report ∙ sym (ap (λ (w : World). report_at w End.far) led.leads));
        agreed = agreed led.steps led.possible;
      }

  -- what holds of it and of a bad tray's code with nothing beside it holds of what C gets
  either_evening : (Q : Evening → Type 0) → Q (evening near_presentations near_returns far_presentations far_returns) → ((code : ℕ) → Q (record { code = code; near_side = no_side; far_side = no_side })) → Q (exchanged near_presentations near_returns far_presentations far_returns)
  unfolding exchanged
  either_evening Q good bad = go (eqb code 0)
    where
      code : ℕ
      code = trays_code near_presentations near_returns far_presentations far_returns

      go : (t : Bool) → Q (cond t (evening near_presentations near_returns far_presentations far_returns) (record { code = code; near_side = no_side; far_side = no_side }))
      go true = good
      go false = bad code

-- for which no call is made
no_calls : (code : ℕ) → IsAList (record { code = code; near_side = no_side; far_side = no_side })
unfolding run Possible begun start parties_good real_date month_days every ◌when◌ fresh report
no_calls code = record { steps = []; possible = tt; near_side_shown = refl; far_side_shown = refl; agreed = agreed [] tt }

-- The claims of specs/Together.
pub evening_is_a_list : EveningIsAList
evening_is_a_list near_presentations near_returns far_presentations far_returns = either_evening near_presentations near_returns far_presentations far_returns IsAList (list_evening near_presentations near_returns far_presentations far_returns) no_calls

pub evening_is_settled : EveningIsSettled
evening_is_settled near_presentations near_returns far_presentations far_returns =
    either_evening near_presentations near_returns far_presentations far_returns Settled (settled_evening near_presentations near_returns far_presentations far_returns)
    (λ (code : ℕ). record { near_received = refl; far_received = refl; near_awaits = refl; far_awaits = refl })
