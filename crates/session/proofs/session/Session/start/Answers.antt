-- `start`: the test of the parties decides between a session just started and the closed one.
use mathlib.Core.Path.{◌≡◌, ap, sym, subst, ◌∙◌}
use mathlib.Core.Bool.{Bool, true, false, not, cond}
use Rattle.codes.specs.Chain.{◌when◌}
use Rattle.session.specs.declared.parties.Parties.{Parties}
use Rattle.session.specs.declared.session.Close.{Close}
use Rattle.session.specs.declared.session.Session.{Session}
use Rattle.session.specs.Parties.{parties_good, nobody}
use Rattle.session.specs.Start.{StartOutcome, fresh, started, start}
use Rattle.session.specs.Engine.{with_empty, Ready}
use Rattle.session.proofs.Laws.Parties.{told}
use Rattle.session.proofs.Laws.Sound.{begun}
use Rattle.session.proofs.session.Session.start.Goals as goal

-- a number and a session, by the test
chosen : Bool → (this that : Session) → StartOutcome
chosen good this that = record { number = 24 when not good; session = cond good this that }

pub parties_of-requires : goal.parties_of-requires
parties_of-requires c = (told c.args.date c.args.own c.args.partner c.args.represented.now (sym c.parties_good.ensures ∙ c.if-parties_good.true)).represented

pub returns-then-parties_good : goal.returns-then-parties_good
unfolding start chosen ◌when◌
returns-then-parties_good c =
    let good : parties_good c.args.date c.args.own c.args.partner c.args.represented.now ≡ true = sym c.parties_good.ensures ∙ c.if-parties_good.true in
    let made : c.fresh.result ≡ started c.args.date c.args.own c.args.partner c.args.represented.now = c.fresh.ensures ∙ ap (λ (p : Parties). fresh p Close.Open) c.parties_of.ensures in
    let said : record { number = 0; session = c.fresh.result } ≡ start c.args.date c.args.own c.args.partner c.args.represented.now = ap (λ (s : Session). chosen true s (fresh nobody Close.Forced)) made ∙ ap (λ (t : Bool). chosen t (started c.args.date c.args.own c.args.partner c.args.represented.now) (fresh nobody Close.Forced)) (sym good) in
    record { outcome = said; premise = subst (λ (s : Session). Ready (with_empty s)) (sym (ap (λ (o : StartOutcome). o.session) said)) (begun c.args.date c.args.own c.args.partner c.args.represented.now) }

pub returns : goal.returns
unfolding start chosen ◌when◌
returns c =
    let wrong : parties_good c.args.date c.args.own c.args.partner c.args.represented.now ≡ false = sym c.parties_good.ensures ∙ c.if-parties_good.false in
    let made : c.fresh-2.result ≡ fresh nobody Close.Forced = c.fresh-2.ensures ∙ ap (λ (p : Parties). fresh p Close.Forced) c.nobody.ensures in
    let said : record { number = 24; session = c.fresh-2.result } ≡ start c.args.date c.args.own c.args.partner c.args.represented.now = ap (chosen false (started c.args.date c.args.own c.args.partner c.args.represented.now)) made ∙ ap (λ (t : Bool). chosen t (started c.args.date c.args.own c.args.partner c.args.represented.now) (fresh nobody Close.Forced)) (sym wrong) in
    record { outcome = said; premise = subst (λ (s : Session). Ready (with_empty s)) (sym (ap (λ (o : StartOutcome). o.session) said)) (begun c.args.date c.args.own c.args.partner c.args.represented.now) }
