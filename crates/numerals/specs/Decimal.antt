-- Decimal numbers, as text.
use Rattle.std.specs.Prelude.{ℕ, ◌+◌, ◌-◌, ◌*◌, Bool, cond, not, List, [], ◌∷◌, length, Some, None, Option, ◌==◌, nat_le, nat_lt, slice_index}
use Rattle.std.specs.Str.{all_ascii_digits}

-- The number n with the digits behind it.
abbrev pub onto : ℕ → List ℕ → ℕ
onto n [] = n
onto n (c ∷ cs) = onto (n * 10 + (c - 48)) cs

-- The same, where they are digits.
abbrev pub digits : ℕ → List ℕ → Option ℕ
digits n cs = cond (all_ascii_digits cs) (Some (onto n cs)) None

-- Not empty, and no zero in front of another digit.
abbrev pub plain : List ℕ → Bool
plain cs = cond (nat_lt 1 (length cs)) (not (slice_index cs 0 == 48)) (length cs == 1)

-- At most the top.
abbrev pub upto : ℕ → Option ℕ → Option ℕ
upto top None = None
upto top (Some n) = cond (nat_le n top) (Some n) None

-- The number that a text writes, up to a top.
abbrev pub numeral : ℕ → List ℕ → Option ℕ
numeral top cs = cond (plain cs) (upto top (digits 0 cs)) None
