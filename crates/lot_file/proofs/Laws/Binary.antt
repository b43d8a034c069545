-- Laws of numbers as bytes, two and four of them: what is read, and both round trips.
use mathlib.Core.Path.{◌≡◌, ap, sym, ◌∙◌}
use mathlib.Core.List.{List, [], ◌∷◌, ◌++◌}
use Prim.Native.Nat.{ℕ, suc, ◌+◌, ◌*◌, ◌/◌, ◌%◌, ◌≤◌, ◌<◌}
use native.Mathlib.Numerals.{add-one}
use native.Mathlib.Omega.{arith}
use lib.ListN.{length, get_or}
use lib.Seq.{drop-cons}
use Rattle.packed.specs.Part.{part}
use Rattle.packed.proofs.Laws.Part.{part_split}
use Rattle.lot_file.specs.Layout.{binary, binary_bytes}

-- every element is a byte
abbrev pub Bytes : List ℕ → Type 0
Bytes s = (i : ℕ) → get_or s i 0 < 256

-- two bytes of a slice, and four
abbrev pub byte : (at : ℕ) (s : List ℕ) → ℕ
byte at s = get_or s at 0

pub part_two : (at : ℕ) (s : List ℕ) → at + 2 ≤ length s → part at 2 s ≡ byte at s ∷ byte (at + 1) s ∷ []
part_two at s h =
    let first : at < length s = omega arith in
    let second : suc at < length s = omega arith in
    rw (drop-cons s at 0 first, drop-cons s (suc at) 0 second, add-one)

pub part_four : (at : ℕ) (s : List ℕ) → at + 4 ≤ length s → part at 4 s ≡ byte at s ∷ byte (at + 1) s ∷ byte (at + 2) s ∷ byte (at + 2 + 1) s ∷ []
part_four at s h = part_split at 2 2 s ∙ (λ i. part_two at s (omega arith) i ++ part_two (at + 2) s (omega arith) i)

-- what they are read as
pub read_two : (at : ℕ) (s : List ℕ) → at + 2 ≤ length s → binary (part at 2 s) ≡ byte at s * 256 + byte (at + 1) s
unfolding binary
read_two at s h = ap binary (part_two at s h) ∙ omega arith

pub read_four : (at : ℕ) (s : List ℕ) → at + 4 ≤ length s → binary (part at 4 s) ≡ binary (part at 2 s) * 65536 + binary (part (at + 2) 2 s)
unfolding binary
read_four at s h =
    ap binary (part_four at s h)
    ∙ omega (arith, read_two at s (omega arith), read_two (at + 2) s (omega arith))

-- what is written is read again
pub two_read : (v : ℕ) → v < 65536 → binary (binary_bytes 2 v) ≡ v
unfolding binary binary_bytes
two_read v h = omega arith

-- four bytes are written as two and two
pub four_split : (v : ℕ) → binary_bytes 4 v ≡ binary_bytes 2 (v / 65536) ++ binary_bytes 2 v
unfolding binary_bytes
four_split v =
    let first : v / 16777216 % 256 ≡ v / 65536 / 256 % 256 = omega arith in
    let second : v / 65536 % 256 ≡ v / 65536 / 1 % 256 = omega arith in
    λ i. first i ∷ second i ∷ v / 256 % 256 ∷ v / 1 % 256 ∷ []

pub four_read : (v : ℕ) → v < 4294967296 → binary (binary_bytes 4 v) ≡ v
unfolding binary binary_bytes
four_read v h =
    let high : v / 65536 / 256 % 256 * 256 + v / 65536 / 1 % 256 ≡ v / 65536 = omega arith in
    let low : v / 256 % 256 * 256 + v / 1 % 256 ≡ v % 65536 = omega arith in
    ap binary (four_split v) ∙ omega (arith, high, low)

-- what is read is written again
two_back : (x y : ℕ) → x < 256 → y < 256 → binary_bytes 2 (x * 256 + y) ≡ x ∷ y ∷ []
unfolding binary_bytes
two_back x y hx hy =
    let high : (x * 256 + y) / 256 % 256 ≡ x = omega arith in
    let low : (x * 256 + y) / 1 % 256 ≡ y = omega arith in
    λ i. high i ∷ low i ∷ []

pub two_written : (at : ℕ) (s : List ℕ) → Bytes s → at + 2 ≤ length s → binary_bytes 2 (binary (part at 2 s)) ≡ part at 2 s
two_written at s bytes h =
    ap (binary_bytes 2) (read_two at s h) ∙ two_back (byte at s) (byte (at + 1) s) (bytes at) (bytes (at + 1)) ∙ sym (part_two at s h)

two_small : (at : ℕ) (s : List ℕ) → Bytes s → at + 2 ≤ length s → binary (part at 2 s) < 65536
two_small at s bytes h = omega (arith, read_two at s h, bytes at, bytes (at + 1))

last_two : (x y : ℕ) → y < 65536 → binary_bytes 2 (x * 65536 + y) ≡ binary_bytes 2 y
unfolding binary_bytes
last_two x y h =
    let high : (x * 65536 + y) / 256 % 256 ≡ y / 256 % 256 = omega arith in
    let low : (x * 65536 + y) / 1 % 256 ≡ y / 1 % 256 = omega arith in
    λ i. high i ∷ low i ∷ []

pub four_written : (at : ℕ) (s : List ℕ) → Bytes s → at + 4 ≤ length s → binary_bytes 4 (binary (part at 4 s)) ≡ part at 4 s
four_written at s bytes h =
    let high = binary (part at 2 s) in
    let low = binary (part (at + 2) 2 s) in
    let small = two_small (at + 2) s bytes (omega arith) in
    let top : (high * 65536 + low) / 65536 ≡ high = omega arith in
    ap (binary_bytes 4) (read_four at s h)
    ∙ four_split (high * 65536 + low)
    ∙ (λ i. binary_bytes 2 (top i) ++ last_two high low small i)
    ∙ (λ i. two_written at s bytes (omega arith) i ++ two_written (at + 2) s bytes (omega arith) i)
    ∙ sym (part_split at 2 2 s)
