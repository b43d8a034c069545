-- A refusal's number tells the refusal, and is never 0.
use mathlib.Core.Path.{◌≡◌, refl, ap, sym, ◌∙◌}
use mathlib.Core.List.{List, [], ◌∷◌}
use Prim.Native.Nat.{ℕ}
use native.Mathlib.Omega.{arith}
use Rattle.codes.specs.declared.refusal.Refusal.{Refusal}
use Rattle.codes.specs.Numbered.{numbered}
use Rattle.codes.specs.Refusal.{refusal_number}

refusals : List Refusal
refusals =
    Refusal.TimePastDay
    ∷ Refusal.WrongEnvelope
    ∷ Refusal.UnknownReply
    ∷ Refusal.ShortBuffer
    ∷ Refusal.WrongStart
    ∷ Refusal.WrongOutgoing
    ∷ Refusal.EarlierTime
    ∷ Refusal.OutsideHours
    ∷ Refusal.Closed
    ∷ Refusal.OtherSession
    ∷ Refusal.ReplyAwaited
    ∷ Refusal.UnexpectedSerial
    ∷ Refusal.NoSerialLeft
    ∷ []

refusal_of : ℕ → Refusal
refusal_of n = numbered refusal_number (λ r. r) Refusal.TimePastDay refusals n

told : (r : Refusal) → refusal_of (refusal_number r) ≡ r
unfolding refusal_of numbered refusals
told Refusal.TimePastDay = refl
told Refusal.WrongEnvelope = refl
told Refusal.UnknownReply = refl
told Refusal.ShortBuffer = refl
told Refusal.WrongStart = refl
told Refusal.WrongOutgoing = refl
told Refusal.EarlierTime = refl
told Refusal.OutsideHours = refl
told Refusal.Closed = refl
told Refusal.OtherSession = refl
told Refusal.ReplyAwaited = refl
told Refusal.UnexpectedSerial = refl
told Refusal.NoSerialLeft = refl

pub same_number : (r s : Refusal) → refusal_number r ≡ refusal_number s → r ≡ s
same_number r s e = sym (told r) ∙ ap refusal_of e ∙ told s

pub never_none : (r : Refusal) → refusal_number r ≡ 0 → ⊥
unfolding refusal_of numbered refusals
never_none r e = let first : refusal_number r ≡ 20 = ap refusal_number (sym (told r) ∙ ap refusal_of e) in omega (arith, e, first)
