-- Demand 3, 01's 'Both ends together', as one theorem about any list of calls: `agreement`. The two ends of each direction stay joined whatever
-- call is made at either, so they are joined after every list; and joined ends agree as the claim says.
use mathlib.Core.Path.{◌≡◌, refl, ap, sym, subst, ◌∙◌}
use mathlib.Core.Bool.{Bool, true, false, cond, false≢true}
use mathlib.Core.List.{List, [], ◌∷◌}
use mathlib.Core.Logic.{inl}
use Prim.Native.Nat.{ℕ}
use lib.Dec.{eqb, lit<}
use Rattle.std.specs.Prelude.{Option, Some, None}
use Rattle.std.proofs.lemmas.Option.{none-some}
use Rattle.packed.specs.Every.{every}
use Rattle.codes.proofs.Laws.Chain.{none_held}
use Rattle.message.specs.declared.route.Route.{Route}
use Rattle.session.specs.declared.counters.Course.{Course}
use Rattle.session.specs.declared.effect.Effect.{Effect}
use Rattle.session.specs.declared.parties.Parties.{Parties}
use Rattle.session.specs.declared.report.Awaited.{Awaited}
use Rattle.session.specs.declared.session.Close.{Close}
use Rattle.session.specs.Parties.{parties_good, parties_of, nobody, presenting_route, receiving_route, Direction}
use Rattle.session.specs.Running.{empty}
use Rattle.session.specs.Sequence.{is_open}
use Rattle.session.specs.Start.{fresh, started, start}
use Rattle.session.specs.Report.{tally, awaited, report}
use Rattle.session.specs.Premise.{PendingSound}
use Rattle.session.specs.Ledger.{LedgerLot, Ledger, Entry, blank, enter, moved, lots_sum, tallied, lot_sum}
use Rattle.session.specs.Engine.{Call, Engine, performed, said_by, with_empty, Ready}
use Rattle.session.specs.Ends.{End, other, Event, World, Step, replaced, act, run, Brought, Possible, engines, begun, StartsAccepted}
use Rattle.session.specs.Entering.{Waiting, named_lot, named_by, awaited_by, to_be_named, PresenterLedger, unpresented, ReceiverLedger, presenter_enters, receiver_enters, presenter_ledger_at, receiver_ledger_at}
use Rattle.session.specs.Claim.{LevelTotals, one_more, TotalsFollow, confirmed, counted, report_at, presented_tally, received_tally, Level, Beyond, JustReplied, Agreement, AfterAnyCalls, BothEndsTogether}
use Rattle.session.proofs.Laws.Parties.{Told, told}
use Rattle.session.proofs.Laws.Ledger.{open_of, lot_of, effect_of, lots_last, one_longer}
use Rattle.session.proofs.Laws.Line.{accepts}
use Rattle.session.proofs.Laws.Joined.{waiting_effect, Link, Joined, PresentingEnd, ReceivingEnd, presenting_end, receiving_end}
use Rattle.session.proofs.Laws.Steps.{every_end, both_ends, at_its_end}
use Rattle.session.proofs.Laws.Presenter.{presenter_step}
use Rattle.session.proofs.Laws.Receiver.{receiver_step}
use Rattle.session.proofs.Laws.Sound.{fresh_sound, fresh_carried}
use Rattle.session.proofs.Laws.EveryCall.{ready_kept, parties_kept}

-- an engine as the presenting end of a direction, and as the receiving end
abbrev presents_with : Engine → PresenterLedger → PresentingEnd
presents_with e b = presenting_end e.session.presenting e.presenting b

abbrev receives_with : Engine → ReceiverLedger → ReceivingEnd
receives_with e b = receiving_end e.session.receiving e.receiving b

-- the direction in which an end presents is joined
abbrev pub JoinedAt : World → End → Type 0
JoinedAt w p = Joined (presenting_route (w.engine p).session.parties) (presents_with (w.engine p) (presenter_ledger_at p w.trace)) (receives_with (w.engine (other p)) (receiver_ledger_at (other p) w.trace)) w.trace

-- both directions joined, and both ends ready
pub record Whole (w : World) : Type 0 where
  pub ready : (x : End) → Ready (w.engine x)
  pub different : (x : End) → (w.engine x).session.parties.own ≡ (w.engine x).session.parties.partner → ⊥
  pub ways : (x : End) → presenting_route (w.engine x).session.parties ≡ receiving_route (w.engine (other x)).session.parties
  pub joined : (p : End) → JoinedAt w p

-- a direction seen from a call at its presenting end, and from one at its receiving end
module _ (x : End) (call : Call) (line : List ℕ) (e f : Engine) (bp : PresenterLedger) (br : ReceiverLedger) (trace : List Event) (ready : Ready e) (different : e.session.parties.own ≡ e.session.parties.partner → ⊥) (brought : Brought call trace) where
  abbrev d : Engine
  d = (performed call line e).engine

  abbrev event : Event
  event = record { at = x; call = call; said = said_by (performed call line e) }

  at_presenter : Joined (presenting_route e.session.parties) (presents_with e bp) (receives_with f br) trace → Joined (presenting_route d.session.parties) (presents_with d (cond (eqb event.said.number 0) (presenter_enters call event.said.bytes bp) bp)) (receives_with f br) (event ∷ trace)
  at_presenter j = subst (λ (p : Parties). Joined (presenting_route p) (presents_with d (cond (eqb event.said.number 0) (presenter_enters call event.said.bytes bp) bp)) (receives_with f br) (event ∷ trace)) (sym (parties_kept call line e)) (presenter_step x e ready different (receives_with f br) bp trace j call line brought)

  at_receiver : presenting_route f.session.parties ≡ receiving_route e.session.parties → Joined (presenting_route f.session.parties) (presents_with f bp) (receives_with e br) trace → Joined (presenting_route f.session.parties) (presents_with f bp) (receives_with d (cond (eqb event.said.number 0) (receiver_enters call event.said.bytes br) br)) (event ∷ trace)
  at_receiver way j =
      subst (λ (route : Route). Joined route (presents_with f bp) (receives_with d (cond (eqb event.said.number 0) (receiver_enters call event.said.bytes br) br)) (event ∷ trace)) (sym way)
      (receiver_step x e ready different (presents_with f bp) br trace (subst (λ (route : Route). Joined route (presents_with f bp) (receives_with e br) trace) way j) call line brought)

-- every call keeps both directions
module _ (w : World) (all : Whole w) (call : Call) (line : List ℕ) (brought : Brought call w.trace) where
  abbrev after : End → End → Engine
  after x = replaced x (performed call line (w.engine x)).engine w.engine

  parties_same : (x y : End) → (after x y).session.parties ≡ (w.engine y).session.parties
  parties_same x = both_ends (λ (y : End) (e : Engine). e.session.parties ≡ (w.engine y).session.parties) x _ w.engine (parties_kept call line (w.engine x)) refl

  stay_joined : (x p : End) → JoinedAt (act (record { at = x; call = call; line = line }) w) p
  unfolding act presenter_ledger_at receiver_ledger_at
  stay_joined End.near End.near = at_presenter End.near call line _ (w.engine End.far) _ _ w.trace (all.ready End.near) (all.different End.near) brought (all.joined End.near)
  stay_joined End.far End.far = at_presenter End.far call line _ (w.engine End.near) _ _ w.trace (all.ready End.far) (all.different End.far) brought (all.joined End.far)
  stay_joined End.near End.far = at_receiver End.near call line _ (w.engine End.far) _ _ w.trace (all.ready End.near) (all.different End.near) brought (all.ways End.far) (all.joined End.far)
  stay_joined End.far End.near = at_receiver End.far call line _ (w.engine End.near) _ _ w.trace (all.ready End.far) (all.different End.far) brought (all.ways End.near) (all.joined End.near)

  pub act_keeps : (x : End) → Whole (act (record { at = x; call = call; line = line }) w)
  unfolding act
  act_keeps x =
      record {
        ready = both_ends (λ (y : End) (e : Engine). Ready e) x _ w.engine (ready_kept call line (w.engine x) (all.ready x)) (all.ready (other x));
        different = λ (y : End). subst (λ (p : Parties). p.own ≡ p.partner → ⊥) (sym (parties_same x y)) (all.different y);
        ways = λ (y : End). ap presenting_route (parties_same x y) ∙ all.ways y ∙ ap receiving_route (sym (parties_same x (other y)));
        joined = stay_joined x;
      }

-- so a whole list of calls does
run_keeps : (steps : List Step) (w : World) → Whole w → Possible steps w → Whole (run steps w)
unfolding run Possible
run_keeps [] w all possible = all
run_keeps (s ∷ steps) w all possible = run_keeps steps (act s w) (act_keeps w all s.call s.line possible.0 s.at) possible.1

-- the beginning
fresh_joined : (a b : Parties) (route : Route) → let s = fresh a Close.Open in let t = fresh b Close.Open in Joined route (presenting_end s.presenting empty unpresented) (receiving_end t.receiving empty (record { ledger = blank; serials = [] })) []
unfolding fresh lots_sum every
fresh_joined a b route =
    record {
      presenter = record { course = refl; pending = refl; once = tt };
      receiver = record { course = refl; kept = refl; once = tt; new = tt };
      seen = record { earlier = refl; last_seen = inl refl };
      link = Link.idle refl refl refl;
      waits = λ (m : Waiting) (w : None ≡ Some m). absurd (none-some m w);
      messages = λ (bytes : List ℕ) (w : ⊥). absurd w;
      replies = λ (bytes : List ℕ) (w : ⊥). absurd w;
    }

fresh_ready : (date own partner : ℕ) (represented : List ℕ) → Told date own partner represented → Ready (with_empty (started date own partner represented))
fresh_ready date own partner represented t =
    let parties = parties_of date own partner represented in
    record {
      sound = fresh_sound parties Close.Open (record { date = t.date; own = t.own; partner = t.partner; represented = t.represented });
      presenting = fresh_carried parties Close.Open Direction.presenting;
      receiving = fresh_carried parties Close.Open Direction.receiving;
    }

just_started_lem : (date own partner : ℕ) (represented : List ℕ) → (start date own partner represented).number ≡ 0 → Told date own partner represented × (started date own partner represented ≡ (start date own partner represented).session)
unfolding start
just_started_lem date own partner represented n =
    let good = none_held 24 (parties_good date own partner represented) (lit< tt) n in
    (told date own partner represented good, ap (λ (t : Bool). cond t (started date own partner represented) (fresh nobody Close.Forced)) (sym good))

begun_whole : (date one two : ℕ) (represented : End → List ℕ) → StartsAccepted date one two represented → Whole (begun date one two represented)
unfolding begun fresh presenter_ledger_at receiver_ledger_at
begun_whole date one two represented begins =
    let near = just_started_lem date one two (represented End.near) begins.near in
    let far = just_started_lem date two one (represented End.far) begins.far in
    subst Whole (λ i. record { engine = engines (with_empty (near.1 i)) (with_empty (far.1 i)); trace = [] }) (whole near.0 far.0)
  where
    world : World
    world = record { engine = engines (with_empty (started date one two (represented End.near))) (with_empty (started date two one (represented End.far))); trace = [] }

    ways : (x : End) → presenting_route (world.engine x).session.parties ≡ receiving_route (world.engine (other x)).session.parties
    ways End.near = refl
    ways End.far = refl

    joined : (p : End) → JoinedAt world p
    joined End.near = fresh_joined (parties_of date one two (represented End.near)) (parties_of date two one (represented End.far)) _
    joined End.far = fresh_joined (parties_of date two one (represented End.far)) (parties_of date one two (represented End.near)) _

    whole : Told date one two (represented End.near) → Told date two one (represented End.far) → Whole world
    whole a b =
        record {
          ready = every_end (λ (x : End) (e : Engine). Ready e) End.near world.engine (fresh_ready date one two (represented End.near) a) (fresh_ready date two one (represented End.far) b);
          different = every_end (λ (x : End) (e : Engine). e.session.parties.own ≡ e.session.parties.partner → ⊥) End.near world.engine a.different b.different;
          ways = ways;
          joined = joined;
        }

-- joined ends agree
module _ (w : World) (all : Whole w) (p : End) where
  abbrev e : Engine
  e = w.engine p

  abbrev f : Engine
  f = w.engine (other p)

  abbrev bp : PresenterLedger
  bp = presenter_ledger_at p w.trace

  abbrev br : ReceiverLedger
  br = receiver_ledger_at (other p) w.trace

  presented : presented_tally w p ≡ tallied (confirmed w p)
  unfolding report
  presented = ap (λ (k : Course). tally k.counters) (all.joined p).presenter.course

  received : received_tally w p ≡ tallied (counted w p)
  unfolding report
  received = ap (λ (k : Course). tally k.counters) (all.joined p).receiver.course

  named : (report_at w p).awaited ≡ to_be_named bp
  unfolding report
  named = ap awaited (all.joined p).presenter.pending ∙ go bp.waiting (subst (λ (x : Effect). PendingSound x e.session.presenting.counters) (all.joined p).presenter.pending (all.ready p).sound.pending)
    where
      same_open : e.session.presenting.counters.current ≡ open_of bp.ledger.current
      same_open = ap (λ (k : Course). k.counters.current) (all.joined p).presenter.course

      lot : (current : Option LedgerLot) → open_of current ≡ Some (lot_of current).number → Awaited.LotTotal (lot_of current) ≡ named_lot current
      lot None h = absurd (false≢true (ap is_open h))
      lot (Some l) h = refl

      by_entry : (d : Entry) → PendingSound (effect_of d bp.ledger) e.session.presenting.counters → awaited (effect_of d bp.ledger) ≡ named_by d bp.ledger.current
      by_entry (Entry.header number) s = refl
      by_entry (Entry.detail ds) s = refl
      by_entry Entry.lot_total s = lot bp.ledger.current (sym same_open ∙ s)
      by_entry Entry.session_total s = refl

      go : (waiting : Option Waiting) → PendingSound (waiting_effect waiting bp.ledger) e.session.presenting.counters → awaited (waiting_effect waiting bp.ledger) ≡ awaited_by waiting bp.ledger.current
      go None s = refl
      go (Some m) s = by_entry m.entry s

  agreed : Beyond w p
  unfolding enter
  agreed = go (all.joined p).link
    where
      lots_of : {a b : Ledger} → a ≡ b → a.lots ≡ b.lots
      lots_of h = ap (λ (l : Ledger). l.lots) h

      ended : (current : Option LedgerLot) → to_be_named bp ≡ named_lot bp.ledger.current → bp.ledger.current ≡ current → counted w p ≡ moved (confirmed w p) current → Beyond w p
      ended None n c h = Beyond.nothing h
      ended (Some l) n c h = Beyond.one_lot l (record { unconfirmed = c; shown = named ∙ n ∙ ap named_lot c }) h

      entered : (d : Entry) (accepted : Bool) → to_be_named bp ≡ named_by d bp.ledger.current → br.ledger ≡ enter d accepted bp.ledger → Beyond w p
      entered (Entry.header number) true w h = Beyond.nothing (lots_of h)
      entered (Entry.header number) false w h = Beyond.nothing (lots_of h)
      entered (Entry.detail ds) true w h = Beyond.nothing (lots_of h)
      entered (Entry.detail ds) false w h = Beyond.nothing (lots_of h)
      entered Entry.lot_total true w h = ended bp.ledger.current w refl (lots_of h)
      entered Entry.lot_total false w h = Beyond.nothing (lots_of h)
      entered Entry.session_total accepted w h = Beyond.nothing (lots_of h)

      go : Link e.session.presenting f.session.receiving bp.waiting bp.ledger br.ledger → Beyond w p
      go (Link.idle w s b) = Beyond.nothing (lots_of (sym b))
      go (Link.sent d w s b) = Beyond.nothing (lots_of (sym b))
      go (Link.taken m w s b o) = entered m.entry (accepts f.session.receiving.reply.code) (ap (λ (o : Option Waiting). awaited_by o bp.ledger.current) w) b

  settled : JustReplied w p → ((report_at w p).awaited ≡ Awaited.Neither) × Level w p
  settled just = (named ∙ ap (λ (o : Option Waiting). awaited_by o bp.ledger.current) waits, go (all.joined p).link)
    where
      waits : bp.waiting ≡ None
      waits = ap (λ (trace : List Event). (presenter_ledger_at p trace).waiting) just.latest ∙ ap (λ (b : PresenterLedger). b.waiting) (at_its_end p (Call.reply just.time just.bytes) 0 just.said just.earlier refl)

      go : Link e.session.presenting f.session.receiving bp.waiting bp.ledger br.ledger → Level w p
      go (Link.idle h s b) = ap (λ (l : Ledger). l.lots) (sym b)
      go (Link.sent d h s b) = absurd (none-some d (sym waits ∙ h))
      go (Link.taken d h s b o) = absurd (none-some d (sym waits ∙ h))

  pub agree : Agreement w p
  agree =
      record {
        agreed = agreed;
        counted_once = (all.joined p).receiver.once;
        confirmed_once = (all.joined p).presenter.once;
        presented = presented;
        received = received;
        named = named;
        settled = settled;
        ready = all.ready;
      }

-- so do the totals of their reports: equal where they are level, else the receiver's larger by the lot that is named
pub level_totals : (w : World) (p : End) → Agreement w p → LevelTotals w p
level_totals w p a same = a.received ∙ ap tallied same ∙ sym a.presented

pub totals_follow : (w : World) (p : End) (a : Agreement w p) → TotalsFollow w p a.agreed
totals_follow w p a = go a.agreed
  where
    go : (b : Beyond w p) → TotalsFollow w p b
    go (Beyond.nothing same) = level_totals w p a same
    go (Beyond.one_lot l named more) =
        a.received
        ∙ ap tallied more
        ∙ (λ i. record { lots = one_longer (confirmed w p) l i; gathered = lots_last (confirmed w p) l i })
        ∙ ap (one_more (lot_sum l)) (sym a.presented)

-- both directions stay joined through any list of calls
pub whole_after : AfterAnyCalls Whole
whole_after date near_entity far_entity represented begins steps possible = run_keeps steps (begun date near_entity far_entity represented) (begun_whole date near_entity far_entity represented begins) possible

pub agreement : BothEndsTogether
agreement date near_entity far_entity represented begins steps possible = agree (run steps (begun date near_entity far_entity represented)) (whole_after date near_entity far_entity represented begins steps possible)
