-- Numbers as lists of bits, the highest first, and choices of bits by a table of places, counted from 1.
use Rattle.std.specs.Prelude.{ℕ, zero, suc, ◌-◌, ◌/◌, ◌%◌, List, [], ◌∷◌, ◌++◌, map, slice_index}
use Rattle.std.specs.Int.Digits.{number_from_digits_after}

-- The lowest n bits of x.
unfoldable pub bits : ℕ → ℕ → List ℕ
bits zero x = []
bits (suc n) x = bits n (x / 2) ++ (x % 2 ∷ [])

-- The number that bits make.
abbrev pub value : List ℕ → ℕ
value xs = number_from_digits_after 2 0 xs

-- The bits of xs at the places of a table.
abbrev pub chosen : List ℕ → List ℕ → List ℕ
chosen ps xs = map (λ p. slice_index xs (p - 1)) ps
