-- A round is a list of possible calls: one, if its send is refused, or three, of which the second and the third are those that recovery speaks of. After
-- it both clocks allow a call again, and nothing is pending.
use mathlib.Core.Path.{◌≡◌, refl, ap, sym, subst, ◌∙◌}
use mathlib.Core.List.{List, [], ◌∷◌, ◌++◌}
use Prim.Native.Nat.{ℕ, zero, suc, ◌≤◌}
use native.Mathlib.Omega.{arith}
use lib.ListN.{length}
use Rattle.std.specs.Prelude.{Some}
use Rattle.packed.specs.Every.{every}
use Rattle.codes.specs.Chain.{◌when◌}
use Rattle.document.specs.Rules.{month_days}
use Rattle.message.specs.Limits.{reply_room}
use Rattle.session.specs.declared.effect.Effect.{Effect}
use Rattle.session.specs.Hours.{opening}
use Rattle.session.specs.Parties.{real_date, parties_good}
use Rattle.session.specs.Start.{start}
use Rattle.session.specs.Ledger.{Entry}
use Rattle.session.specs.Sending.{Send}
use Rattle.session.specs.Engine.{Call, Engine, Performed, performed, said_by}
use Rattle.session.specs.Ends.{End, other, World, Step, act, run, Brought, Possible, StartsAccepted}
use Rattle.session.specs.Entering.{PresenterLedger, presenter_ledger_at}
use Rattle.session.specs.Claim.{Agreement}
use Rattle.session.specs.Recovery.{ClockAllows, said_at, Unrefused, delivery, delivery_and_reply, Settles, CanBeAnswered}
use Rattle.session.proofs.Laws.EveryCall.{refused_engine, line_kept, pending_in, none_pending, received_pending}
use Rattle.session.proofs.Laws.Clocked.{still_allowed}
use Rattle.session.proofs.Laws.Steps.{changed, unchanged, unchanged_here, every_end, both_ends, at_its_end, run_append, possible_append}
use Rattle.session.proofs.Agreement.{agreement}
use Rattle.session.proofs.Recovery.{recovery}
use Rattle.exchange.specs.Fixed.{date, near, far}
use Rattle.exchange.specs.Course.{Ends, ends_after, round_made}
use Rattle.exchange.specs.Together.{both_started}
use Rattle.exchange.proofs.Laws.Rounds.{replied, heard as answer, unheard}

-- a world that calls which the line allows lead to
pub record Led (w : World) : Type 0 where
  pub steps : List Step
  pub possible : Possible steps both_started
  pub leads : run steps both_started ≡ w

-- by one call more
pub one_more : (w : World) → Led w → (s : Step) → Brought s.call w.trace → Led (act s w)
unfolding run Possible
one_more w l s brought =
    record {
      steps = l.steps ++ s ∷ [];
      possible = possible_append l.steps (s ∷ []) both_started l.possible (subst (Possible (s ∷ [])) (sym l.leads) (brought, tt));
      leads = run_append l.steps (s ∷ []) both_started ∙ ap (act s) l.leads;
    }

-- both starts are accepted
starts : StartsAccepted date near far (λ (x : End). [])
unfolding start parties_good real_date month_days every ◌when◌
starts = record { near = refl; far = refl }

-- so what is claimed of both ends holds of it
pub agreed : (steps : List Step) → Possible steps both_started → (p : End) → Agreement (run steps both_started) p
agreed = agreement date near far (λ (x : End). []) starts

pub agrees : (w : World) → Led w → (p : End) → Agreement w p
agrees w l = subst (λ (v : World). (p : End) → Agreement v p) l.leads (agreed l.steps l.possible)

answers : (w : World) → Led w → (p : End) → CanBeAnswered w p
answers w l = subst (λ (v : World). (p : End) → CanBeAnswered v p) l.leads (recovery date near far (λ (x : End). []) starts l.steps l.possible)

-- an end between two rounds: its clock allows a call at the opening, and nothing is pending
pub record Quiet (e : Engine) : Type 0 where
  pub clock : ClockAllows opening e
  pub idle : pending_in e ≡ Effect.Nothing

-- the two ends of a world, one of them to present, with two line buffers
abbrev ends_at : World → End → (message reply : List ℕ) → Ends
ends_at w p message reply = record { presenter = w.engine p; receiver = w.engine (other p); message = message; reply = reply }

-- an evening between two rounds, with the end p to present
pub record Between (p : End) (e : Ends) : Type 0 where
  pub world : World
  pub led : Led world
  pub quiet : (x : End) → Quiet (world.engine x)
  pub same : ends_at world p e.message e.reply ≡ e
  pub room : reply_room ≤ length e.reply

-- what waits, as it was written
record Waits (b : PresenterLedger) (written : List ℕ) : Type 0 where
  entry : Entry
  waiting : b.waiting ≡ Some (record { entry = entry; message = written })

-- a round, which begins with a send at the opening
module _ (w : World) (led : Led w) (quiet : (x : End) → Quiet (w.engine x)) (p : End) (message reply : List ℕ) (room : reply_room ≤ length reply) (m : Send) where
  abbrev call : Call
  call = Call.send opening m

  abbrev here : Engine
  here = w.engine p

  abbrev there : Engine
  there = w.engine (other p)

  abbrev turn : Performed
  turn = performed call message here

  abbrev sending : Step
  sending = record { at = p; call = call; line = message }

  abbrev sent : World
  sent = act sending w

  sent_led : Led sent
  sent_led = one_more w led sending tt

  sent_here : sent.engine p ≡ turn.engine
  unfolding act
  sent_here = changed p turn.engine w.engine

  sent_there : sent.engine (other p) ≡ there
  unfolding act
  sent_there = unchanged p turn.engine w.engine

  sent_clock : ClockAllows opening turn.engine
  sent_clock = still_allowed call message here opening refl (quiet p).clock

  -- what the round leaves, as the definition has it
  abbrev left : Ends
  left = round_made call (ends_at w p message reply)

  -- the send is refused: one call, after which both ends are as they were
  refused_round : (turn.number ≡ 0 → ⊥) → Between p left
  unfolding round_made act
  refused_round stopped =
      subst (Between p) (ap ends_after (unheard call opening message reply here there turn refl stopped))
      (record {
        world = sent;
        led = sent_led;
        quiet = both_ends (λ (x : End) (e : Engine). Quiet e) p turn.engine w.engine (subst Quiet (sym (refused_engine call message here stopped)) (quiet p)) (quiet (other p));
        same = λ i. record { presenter = sent_here i; receiver = sent_there i; message = turn.line; reply = reply };
        room = room;
      })

  -- it is not: the message waits, so it can be received and its reply taken
  module _ (none : turn.number ≡ 0) where
    waits : Waits (presenter_ledger_at p sent.trace) (said_by turn).bytes
    unfolding act
    waits = subst (λ (b : PresenterLedger). Waits b (said_by turn).bytes) (sym (at_its_end p call turn.number (said_by turn).bytes w.trace none)) (record { entry = _; waiting = refl })

    through : Settles sent p (delivery_and_reply sent p (said_by turn).bytes opening opening reply)
    through =
        answers sent sent_led p (record { entry = waits.entry; message = (said_by turn).bytes }) waits.waiting opening opening reply
        (record { clock_there = subst (ClockAllows opening) (sym sent_there) (quiet (other p)).clock; clock_here = subst (ClockAllows opening) (sym sent_here) sent_clock; room = room })

    abbrev first : Step
    first = delivery p (said_by turn).bytes opening reply

    abbrev second : Step
    second = record { at = p; call = Call.reply opening (said_at first sent).bytes; line = [] }

    abbrev after : World
    after = act second (act first sent)

    -- as the driver makes them
    abbrev heard : Performed
    heard = performed (Call.receive opening (said_by turn).bytes) reply there

    abbrev told : Performed
    told = performed (Call.reply opening (said_by heard).bytes) [] turn.engine

    heard_so : performed first.call reply (sent.engine (other p)) ≡ heard
    heard_so = ap (performed first.call reply) sent_there

    told_so : performed second.call [] ((act first sent).engine p) ≡ told
    unfolding act
    told_so = λ i. performed (Call.reply opening (said_by (heard_so i)).bytes) [] ((unchanged_here p (performed first.call reply (sent.engine (other p))).engine sent.engine ∙ sent_here) i)

    after_here : after.engine p ≡ told.engine
    unfolding act
    after_here = changed p _ _ ∙ ap (λ (t : Performed). t.engine) told_so

    after_there : after.engine (other p) ≡ heard.engine
    unfolding act
    after_there = unchanged p _ _ ∙ changed (other p) _ sent.engine ∙ ap (λ (t : Performed). t.engine) heard_so

    received : heard.number ≡ 0
    unfolding Unrefused
    received = sym (ap (λ (t : Performed). t.number) heard_so) ∙ through.unrefused.0

    replied_to : told.number ≡ 0
    unfolding Unrefused
    replied_to = sym (ap (λ (t : Performed). t.number) told_so) ∙ through.unrefused.1.0

    answered_round : Between p left
    unfolding round_made Possible
    answered_round =
        subst (Between p)
        (ap ends_after (answer call opening message reply here there turn refl turn.number _ none none (replied opening (said_by turn).bytes reply turn.engine there heard refl told received refl)))
        (record {
          world = after;
          led = one_more (act first sent) (one_more sent sent_led first through.possible.0) second through.possible.1.0;
          quiet = every_end (λ (x : End) (e : Engine). Quiet e) p after.engine (subst Quiet (sym after_here) quiet_here) (subst Quiet (sym after_there) quiet_there);
          same = λ i. record { presenter = after_here i; receiver = after_there i; message = turn.line; reply = heard.line };
          room = omega (arith, room, line_kept opening (said_by turn).bytes reply there);
        })
      where
        quiet_here : Quiet told.engine
        quiet_here = record { clock = still_allowed (Call.reply opening (said_by heard).bytes) [] turn.engine opening refl sent_clock; idle = none_pending opening (said_by heard).bytes [] turn.engine replied_to }

        quiet_there : Quiet heard.engine
        quiet_there = record { clock = still_allowed (Call.receive opening (said_by turn).bytes) reply there opening refl (quiet (other p)).clock; idle = received_pending opening (said_by turn).bytes reply there ∙ (quiet (other p)).idle }

  round_between_lem : Between p left
  round_between_lem = go turn.number refl
    where
      go : (n : ℕ) → turn.number ≡ n → Between p left
      go zero z = answered_round z
      go (suc n) z = refused_round (λ (q : turn.number ≡ 0). omega (arith, z, q))

-- so any round leads from between two rounds to between two rounds
pub round_more : (p : End) (e : Ends) → Between p e → (m : Send) → Between p (round_made (Call.send opening m) e)
round_more p e s m = subst (λ (x : Ends). Between p (round_made (Call.send opening m) x)) s.same (round_between_lem s.world s.led s.quiet p e.message e.reply s.room m)
