-- A call and a start at an end, by whether it has a session, and whether the start is refused.
use Rattle.std.proofs.Common.{ℕ, ◌≡◌, true, false, Bool, cond, Some, None, List, [], eqb, take, ap, sym, ◌∙◌}
use Rattle.session.specs.Start.{StartOutcome, start}
use Rattle.session.specs.Engine.{Call, Engine, with_empty, Performed, performed}
use Rattle.script.specs.Player.{Seated, called, begun_at, wrote_at}

module _ (call : Call) (line : List ℕ) (s : Seated) where
  pub called_there : (e : Engine) {t : Performed} → s ≡ Some e → t ≡ performed call line e → Some (t.engine) ≡ called call line s
  unfolding called
  called_there e there h = (λ i. Some ((h i).engine)) ∙ sym (ap (called call line) there)

  pub wrote_there : (e : Engine) {t : Performed} → s ≡ Some e → t ≡ performed call line e → take t.written t.line ≡ wrote_at call line s
  unfolding wrote_at
  wrote_there e there h = (λ i. take (h i).written (h i).line) ∙ sym (ap (wrote_at call line) there)

  pub called_none : s ≡ None → s ≡ called call line s
  unfolding called
  called_none none = none ∙ sym (ap (called call line) none)

  pub wrote_none : s ≡ None → [] ≡ wrote_at call line s
  unfolding wrote_at
  wrote_none none = sym (ap (wrote_at call line) none)

module _ (date own partner : ℕ) (represented : List ℕ) (s : Seated) where
  pub begun_there : {o : StartOutcome} {e : Engine} → o ≡ start date own partner represented → eqb o.number 0 ≡ true → e ≡ with_empty o.session → Some e ≡ begun_at date own partner represented s
  unfolding begun_at
  begun_there {o} {e} same zero h =
      sym (ap (λ (b : Bool). cond b (Some e) s) zero)
      ∙ (λ i. cond (eqb (same i).number 0) (Some ((h ∙ ap (λ (p : StartOutcome). with_empty p.session) same) i)) s)

  pub begun_none : {o : StartOutcome} → o ≡ start date own partner represented → eqb o.number 0 ≡ false → s ≡ begun_at date own partner represented s
  unfolding begun_at
  begun_none {o} same some =
      sym (ap (λ (b : Bool). cond b (Some (with_empty o.session)) s) some)
      ∙ (λ i. cond (eqb (same i).number 0) (Some (with_empty (same i).session)) s)
