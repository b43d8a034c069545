-- A line that was played, and the output behind its answer.
use mathlib.Core.Path.{◌≡◌, sym, subst, ap, ◌∙◌}
use mathlib.Core.List.{List, [], ◌++◌, append-nil}
use Prim.Native.Nat.{ℕ, ◌+◌, ◌-◌, ◌≤◌, ◌<◌, ◌^◌}
use native.Mathlib.Omega.{arith}
use borrow.Rule.Slice.PartMut.{mid_of, put_mid}
use lib.ListN.{length, take, drop, length-drop}
use lib.Seq.{drop-length, drop-drop, drop-append_seam, length-take-le}
use Rattle.std.specs.Prelude.{Option, Some, None}
use Rattle.packed.proofs.Laws.Part.{part_tail}
use Rattle.text.specs.declared.wire.Memory.{Memory}
use Rattle.text.specs.Held.{Written, Holds}
use Rattle.script.specs.declared.player.Player.{Player}
use Rattle.script.specs.declared.play.LinePlayed.{LinePlayed}
use Rattle.script.specs.declared.asked.Reading.{Reading}
use Rattle.script.specs.Reading.{Meant, named_by, meant_by}
use Rattle.script.specs.Player.{Ends, ends_of, seat_at, wrote, played_at}
use Rattle.script.specs.Play.{filled, played, held_after, held_by, Remembers, Done}
use Rattle.script.specs.Inner.Play.{Behind}

-- a line that was played, by what it means
pub told : (player : Player) (reading : Reading) (m : Meant) (buffer fill before after : List ℕ) (r : Option LinePlayed) → meant_by reading buffer ≡ m → fill ≡ filled → Done (played_at reading.near (named_by reading.asked reading (take reading.bytes buffer)) (take reading.room fill) (ends_of player)) before after r → Done (played m (ends_of player)) before after r
told player reading m buffer fill before after r means full done =
    subst (λ (x : Meant). Done (played x (ends_of player)) before after r) means
    (subst (λ (l : List ℕ). Done (played_at reading.near (named_by reading.asked reading (take reading.bytes buffer)) (take reading.room l) (ends_of player)) before after r) full done)

-- what stands behind an answer in a lent tail stands behind it in the whole
pub behind_tail : (xs ys : List ℕ) (a w : ℕ) → a ≤ length xs → drop w ys ≡ drop w (mid_of a (length xs - a) xs) → drop (a + w) (put_mid a (length xs - a) xs ys) ≡ drop (a + w) xs
behind_tail xs ys a w h same =
    let count : length xs - a ≡ length (drop a xs) = sym (length-drop a xs) in
    let after : drop (length xs - a) (drop a xs) ≡ [] = ap (λ (k : ℕ). drop k (drop a xs)) count ∙ drop-length (drop a xs) in
    let whole : put_mid a (length xs - a) xs ys ≡ take a xs ++ ys = ap (λ (l : List ℕ). take a xs ++ (ys ++ l)) after ∙ ap (λ (l : List ℕ). take a xs ++ l) (append-nil ys) in
    let seam : drop a (take a xs ++ ys) ≡ ys = ap (λ (k : ℕ). drop k (take a xs ++ ys)) (sym (length-take-le a xs h)) ∙ drop-append_seam (take a xs) ys in
    sym (drop-drop w a (put_mid a (length xs - a) xs ys))
    ∙ ap (drop w) (ap (drop a) whole ∙ seam)
    ∙ same
    ∙ ap (drop w) (part_tail a xs)
    ∙ drop-drop w a xs

-- a line that was played into a lent tail
pub behind : (xs ys : List ℕ) (a : ℕ) (next : Ends) (r : Option LinePlayed) → a ≤ length xs → length xs < 2 ^ 64 → Done next (mid_of a (length xs - a) xs) ys r → Behind a xs (put_mid a (length xs - a) xs ys) r
behind xs ys a next None h fits done =
    let same : a + 0 ≡ a = omega arith in
    sym (ap (λ (k : ℕ). drop k (put_mid a (length xs - a) xs ys)) same)
    ∙ behind_tail xs ys a 0 h (ap (λ (l : List ℕ). drop 0 l) done.kept)
    ∙ ap (λ (k : ℕ). drop k xs) same
behind xs ys a next (Some r) h fits done =
    let size : length (mid_of a (length xs - a) xs) ≡ length xs - a = ap length (part_tail a xs) ∙ length-drop a xs in
    record { written = omega (arith, done.written, size); fits = omega (arith, done.written, size); kept = behind_tail xs ys a r.written h done.kept }

-- and behind more of it
pub further : (xs ys : List ℕ) (a w : ℕ) → drop a xs ≡ drop a ys → drop (a + w) xs ≡ drop (a + w) ys
further xs ys a w same = sym (drop-drop w a xs) ∙ ap (drop w) same ∙ drop-drop w a ys

-- a line that was played and what is remembered, by what it means
pub remembers_told : (player : Player) (reading : Reading) (m : Meant) (buffer fill wire wire' : List ℕ) (lent : ℕ) (r : Option LinePlayed) → meant_by reading buffer ≡ m → fill ≡ filled → Remembers player (held_after player.memory (wrote (named_by reading.asked reading (take reading.bytes buffer)) (take reading.room fill) (seat_at reading.near (ends_of player))) lent) wire wire' r → Remembers player (held_by player m lent) wire wire' r
remembers_told player reading m buffer fill wire wire' lent r means full so =
    subst (λ (x : Meant). Remembers player (held_by player x lent) wire wire' r) means
    (subst (λ (l : List ℕ). Remembers player (held_after player.memory (wrote (named_by reading.asked reading (take reading.bytes buffer)) (take reading.room l) (seat_at reading.near (ends_of player))) lent) wire wire' r) full so)

-- what a line wrote is held, by the list that it is
pub held_as : (memory kept : Memory) (a b : List ℕ) (lent : ℕ) (wire wire' : List ℕ) (r : Memory) → a ≡ b → r ≡ kept → ((ws : List Written) → Holds memory wire ws → Holds kept wire' (held_after memory a lent ws)) → (ws : List Written) → Holds memory wire ws → Holds r wire' (held_after memory b lent ws)
held_as memory kept a b lent wire wire' r e same holds ws so =
    subst (λ (l : List ℕ). Holds r wire' (held_after memory l lent ws)) e (subst (λ (k : Memory). Holds k wire' (held_after memory a lent ws)) (sym same) (holds ws so))
