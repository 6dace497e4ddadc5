-- Reply blocks, joined.
use Rattle.std.proofs.Common.{◌≡◌, ℕ, zero, suc, ◌+◌, ◌<◌, ◌≤◌, Bool, true, false, not, ◌||◌, ltb, List, [], ◌∷◌, ◌++◌, length, take, drop, sym, refl, ap, ◌∙◌, arith}
use Rattle.std.proofs.lemmas.List.{length-append, length-drop, length-take-le, take_all, drop_all, drop-drop}
use Rattle.std.proofs.lemmas.Bool.{ltb-true, ltb-false, true≢false, false≢true}
use Rattle.replies.specs.Joining.{reply_blocks, ended, all_bytes}

-- Where the block behind this one begins, and the bytes of all blocks from a place on.
abbrev next : List ℕ → ℕ → ℕ → ℕ
next whole place most = place + length (take most (drop place whole))

abbrev bytes_from : List ℕ → ℕ → List ℕ → List ℕ
bytes_from whole place lengths = all_bytes (reply_blocks whole place lengths)

abbrev ended_from : List ℕ → ℕ → List ℕ → Bool
ended_from whole place lengths = ended (reply_blocks whole place lengths)

-- Past the end every block is empty.
past_end : (whole : List ℕ) (place : ℕ) (lengths : List ℕ) → length whole ≤ place → bytes_from whole place lengths ≡ []
past_end whole place [] l = refl
past_end whole place (most ∷ later) l =
    let none : take most (drop place whole) ≡ [] = ap (take most) (drop_all place whole l) ∙ take_all most [] (omega arith) in
    ap (λ xs. xs ++ bytes_from whole (next whole place most) later) none ∙ past_end whole (next whole place most) later (omega arith)

-- A front, and what follows it.
front_rest : (most : ℕ) (rest : List ℕ) → take most rest ++ drop (length (take most rest)) rest ≡ rest
front_rest zero rest = refl
front_rest (suc most) [] = refl
front_rest (suc most) (x ∷ rest) = ap (λ xs. x ∷ xs) (front_rest most rest)

module _ (whole : List ℕ) (place most : ℕ) (later : List ℕ) where
  -- One block, where the later ones are what follows it.
  one_more : bytes_from whole (next whole place most) later ≡ drop (next whole place most) whole → bytes_from whole place (most ∷ later) ≡ drop place whole
  one_more e =
      let rest = drop place whole in
      ap (λ xs. take most rest ++ xs) (e ∙ sym (drop-drop (length (take most rest)) place whole)) ∙ front_rest most rest

  -- The later blocks are what follows: as they end, if this block has more behind it, and as nothing does, if not.
  later_follow : (more : Bool) → ltb most (length (drop place whole)) ≡ more
      → (ended_from whole (next whole place most) later ≡ true → bytes_from whole (next whole place most) later ≡ drop (next whole place most) whole)
      → (not more || ended_from whole (next whole place most) later) ≡ true
      → bytes_from whole (next whole place most) later ≡ drop (next whole place most) whole
  later_follow true t goes e = goes e
  later_follow false t goes e =
      let rest = drop place whole in
      let all : length (take most rest) ≡ length rest = ap length (take_all most rest (ltb-false most (length rest) t)) in
      let over : length whole ≤ next whole place most = omega (arith, all, length-drop place whole) in
      past_end whole (next whole place most) later over ∙ sym (drop_all (next whole place most) whole over)

  -- Before the end the later blocks stay short of the whole.
  later_short : (more : Bool) → ltb most (length (drop place whole)) ≡ more → place < length whole
      → (next whole place most < length whole → ended_from whole (next whole place most) later ≡ false → next whole place most + length (bytes_from whole (next whole place most) later) < length whole)
      → (not more || ended_from whole (next whole place most) later) ≡ false
      → next whole place most + length (bytes_from whole (next whole place most) later) < length whole
  later_short true t l goes e =
      let rest = drop place whole in
      let short : most < length rest = ltb-true most (length rest) t in
      goes (omega (arith, length-take-le most rest (omega arith), length-drop place whole)) e
  later_short false t l goes e = absurd (true≢false e)

from_place : (whole : List ℕ) (place : ℕ) (lengths : List ℕ) → ended_from whole place lengths ≡ true → bytes_from whole place lengths ≡ drop place whole
from_place whole place [] e = absurd (false≢true e)
from_place whole place (most ∷ later) e =
    one_more whole place most later
    (later_follow whole place most later (ltb most (length (drop place whole))) refl (from_place whole (next whole place most) later) e)

pub replies_join : (whole lengths : List ℕ) → ended_from whole 0 lengths ≡ true → bytes_from whole 0 lengths ≡ whole
replies_join whole lengths e = from_place whole 0 lengths e

short_from : (whole : List ℕ) (place : ℕ) (lengths : List ℕ) → place < length whole → ended_from whole place lengths ≡ false → place + length (bytes_from whole place lengths) < length whole
short_from whole place [] l e = omega arith
short_from whole place (most ∷ later) l e =
    let n = next whole place most in
    let rest = later_short whole place most later (ltb most (length (drop place whole))) refl l (short_from whole n later) e in
    omega (arith, length-append (take most (drop place whole)) (bytes_from whole n later), rest)

pub replies_begun : (whole lengths : List ℕ) → 0 < length whole → ended_from whole 0 lengths ≡ false → length (bytes_from whole 0 lengths) < length whole
replies_begun whole lengths l e = omega (arith, short_from whole 0 lengths l e)
