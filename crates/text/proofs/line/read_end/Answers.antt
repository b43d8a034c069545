-- `read_end`: the next word is A or B, or neither.
use Rattle.std.proofs.Common.{ℕ, List, ◌∷◌, ◌<◌, ◌≤◌, Option, length, drop, subst, ap, sym, ◌∙◌, arith, rules}
use Rattle.text.specs.declared.line.End.{End}
use Rattle.text.specs.Ascii.{ascii}
use Rattle.text.specs.Word.{equal_bytes, words}
use Rattle.text.specs.Line.{first_of, is_end}
use Rattle.text.specs.Inner.Line.{EndRead}
use Rattle.text.proofs.Laws.Line.{single, other_end}
use Rattle.text.proofs.line.read_end.Goals.{in_default-via-then-word-lt1, in_default-via-else-word-lt1+then-word-lt2+in_default-1, in_default-via-else-word-lt1+else-word-lt2}
use Rattle.text.proofs.line.read_end.Goals as goal

pub returns-in_err-word : goal.returns-in_err-word
unfolding equal_bytes
returns-in_err-word c =
    subst (λ (r : Option End). EndRead (words c.args.line.now) r) (sym c.from_residual.ensures) (ap (λ (ws : List (List ℕ)). is_end (first_of ws)) c.in_err-word.ensures.words)

pub returns-in-A : goal.returns-in-A
unfolding equal_bytes
returns-in-A c =
    let same = single c.in_ok-word.field-0.word.now 65 (omega arith) (search rules) in
    let first = c.in_ok-word.ensures.words ∙ ap (λ (w : List ℕ). w ∷ words c.in_ok-word.field-0.rest.now) same in record {
      good = ap (λ (ws : List (List ℕ)). is_end (first_of ws)) first;
      near = sym (ap (λ (ws : List (List ℕ)). equal_bytes (first_of ws) (ascii "A")) first);
      rest = sym (ap (λ (ws : List (List ℕ)). drop 1 ws) first);
    }

pub returns-in-B : goal.returns-in-B
unfolding equal_bytes
returns-in-B c =
    let same = single c.in_ok-word.field-0.word.now 66 (omega arith) (search rules) in
    let first = c.in_ok-word.ensures.words ∙ ap (λ (w : List ℕ). w ∷ words c.in_ok-word.field-0.rest.now) same in record {
      good = ap (λ (ws : List (List ℕ)). is_end (first_of ws)) first;
      near = sym (ap (λ (ws : List (List ℕ)). equal_bytes (first_of ws) (ascii "A")) first);
      rest = sym (ap (λ (ws : List (List ℕ)). drop 1 ws) first);
    }

pub returns-in_default : goal.returns-in_default
returns-in_default c =
    let word = c.in_ok-word.field-0.word.now in
    ap (λ (ws : List (List ℕ)). is_end (first_of ws)) c.in_ok-word.ensures.words
    ∙ elim c.in_default.branch [
      | in_default-via-then-word-lt1 w ↦ other_end word (λ e. absurd (let h : length word < 1 = search rules in omega (arith, h)))
      | in_default-via-else-word-lt1+then-word-lt2+in_default-1 w ↦ other_end word (λ e. (search rules, search rules))
      | in_default-via-else-word-lt1+else-word-lt2 w ↦ other_end word (λ e. absurd (let h : 2 ≤ length word = search rules in omega (arith, h)))
    ]
