-- What a line asks: by its first numbers alone, and with the entities that stand from the fourth on.
use mathlib.Core.Path.{◌≡◌, refl, ap, sym, ◌∙◌}
use mathlib.Core.List.{List, [], ◌∷◌, map}
use Prim.Native.Nat.{ℕ, zero, suc, ◌+◌, ◌-◌, ◌≤◌, ◌<◌}
use native.Mathlib.Nat.{sub-zero, zero-sub, suc-sub-suc}
use native.Mathlib.Numerals.{add-one}
use native.Mathlib.Omega.{arith}
use lib.ListN.{length, take, drop, get_or, set, length-map, length-drop, drop_of_length-le}
use lib.Seq.{sets, take_all, take-nil, drop-cons, get_or-take, length-sets}
use Rattle.packed.proofs.Laws.Writing.{part_sets}
use Rattle.text.specs.declared.kind.Kind.{Kind}
use Rattle.text.specs.declared.kind.Kind.TheVariants.{Start, Header, Detail, LotTotal, SessionTotal, Receive, Reply, Clock, Report, Passed, Bad}
use Rattle.text.specs.declared.line.Line.{Line}
use Rattle.text.specs.Kind.{shape_of}
use Rattle.text.specs.Line.{said_of}
use Rattle.std.specs.Prelude.{Option, Some}
use Rattle.centre.specs.declared.call.Order.{Order}
use Rattle.script.specs.declared.asked.Asked.{Asked}
use Rattle.script.specs.Reading.{u8, u16, u32, asked_by, name_of, meant, meant_by}

-- the entities, one behind another
pub entities_on : (all numbers : List ℕ) (i v : ℕ) → 3 + i < length numbers → v ≡ u16 (get_or numbers (3 + i) 0) → sets (set all i v) (i + 1) (map u16 (drop (3 + (i + 1)) numbers)) ≡ sets all i (map u16 (drop (3 + i) numbers))
entities_on all numbers i v h e =
    let next : 3 + (i + 1) ≡ suc (3 + i) = omega arith in
    (λ t. sets (set all i (e t)) (add-one i t) (map u16 (drop (next t) numbers))) ∙ ap (λ (l : List ℕ). sets all i (map u16 l)) (sym (drop-cons numbers (3 + i) 0 h))

pub entities_all : (all₀ all numbers : List ℕ) (i : ℕ) → length all₀ ≡ 16 → length numbers ≡ 19 → 16 ≤ i → sets all i (map u16 (drop (3 + i) numbers)) ≡ sets all₀ 0 (map u16 (drop 3 numbers)) → all ≡ map u16 (drop 3 numbers)
entities_all all₀ all numbers i e n h so =
    let vs = map u16 (drop 3 numbers) in
    let size : length vs ≡ 16 = length-map (drop 3 numbers) u16 ∙ length-drop 3 numbers ∙ omega arith in
    let done : all ≡ sets all₀ 0 vs = sym (ap (λ (l : List ℕ). sets all i (map u16 l)) (drop_of_length-le numbers {i = 3 + i} (omega arith))) ∙ so in
    done
    ∙ sym (take_all 16 (sets all₀ 0 vs) (omega (arith, length-sets all₀ 0 vs)))
    ∙ part_sets vs all₀ 0 16 size (omega arith)

take_map : (f : ℕ → ℕ) (n : ℕ) (l : List ℕ) → take n (map f l) ≡ map f (take n l)
take_map f zero l = refl
take_map f (suc n) [] = refl
take_map f (suc n) (x ∷ l) = ap (λ (r : List ℕ). f x ∷ r) (take_map f n l)

-- those that are meant of what stands from a place on
meant_behind : (f : ℕ → ℕ) (k n : ℕ) (l : List ℕ) → take (n - k) (map f (drop k l)) ≡ map f (drop k (take n l))
meant_behind f zero n l = rw sub-zero (take_map f n l)
meant_behind f (suc k) zero l = rw zero-sub
meant_behind f (suc k) (suc n) [] = take-nil (suc n - suc k)
meant_behind f (suc k) (suc n) (x ∷ l) = rw suc-sub-suc (meant_behind f k n l)

-- a call looks at no more numbers than its kind asks for
module _ (ns : List ℕ) (count : ℕ) where
  same : (i : ℕ) → i < count → get_or ns i 0 ≡ get_or (take count ns) i 0
  same i h = sym (get_or-take count ns i 0 h)

  asked_taken : (kind : Kind) → (shape_of kind).asked ≤ count → asked_by kind ns ≡ asked_by kind (take count ns)
  unfolding asked_by
  asked_taken Start h = λ t. Some (Asked.Start (u32 (same 0 (omega arith) t)) (u16 (same 1 (omega arith) t)) (u16 (same 2 (omega arith) t)))
  asked_taken Header h = λ t. Some (Asked.Call (Order.Header (u32 (same 0 (omega arith) t)) (u32 (same 1 (omega arith) t)) (u16 (same 2 (omega arith) t)) (u16 (same 3 (omega arith) t))))
  asked_taken Detail h = λ t. Some (Asked.Call (Order.Detail (u32 (same 0 (omega arith) t)) (u8 (same 1 (omega arith) t))))
  asked_taken LotTotal h = λ t. Some (Asked.Call (Order.LotTotal (u32 (same 0 h t))))
  asked_taken SessionTotal h = λ t. Some (Asked.Call (Order.SessionTotal (u32 (same 0 h t))))
  asked_taken Receive h = λ t. Some (Asked.Call (Order.Receive (u32 (same 0 h t))))
  asked_taken Reply h = λ t. Some (Asked.Call (Order.Reply (u32 (same 0 h t))))
  asked_taken Clock h = λ t. Some (Asked.Call (Order.Clock (u32 (same 0 h t))))
  asked_taken Report h = refl
  asked_taken Passed h = refl
  asked_taken Bad h = refl

pub reading_means : (line : Line) (asked : Option Asked) (entities : List ℕ) (more : ℕ) (fits : more ≤ length entities) → asked ≡ asked_by line.kind line.numbers → entities ≡ map u16 (drop 3 line.numbers) → more ≡ line.count - 3 → (shape_of line.kind).asked ≤ line.count → (buffer : List ℕ) → meant_by (record { kind = line.kind; near = line.near; asked = asked; entities = entities; more = more; bytes = line.bytes; room = line.room; more_in_bounds = fits }) buffer ≡ meant (said_of line buffer)
reading_means line asked entities more fits a e m h buffer =
    let named = a ∙ asked_taken line.numbers line.count line.kind h in
    let represented : take more entities ≡ map u16 (drop 3 (take line.count line.numbers)) = (λ t. take (m t) (e t)) ∙ meant_behind u16 3 line.count line.numbers in
    λ t. record { kind = line.kind; near = line.near; named = name_of (named t) (represented t) (take line.bytes buffer); room = line.room }
