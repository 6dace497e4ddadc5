-- A block in two halves, and the turns that a list of keys gives it.
use Rattle.std.specs.Prelude.{ℕ, List, [], ◌∷◌, ◌++◌, take, drop}
use Rattle.byte_lists.specs.Bytes.{xors}

pub record Halves : Type 0 where
  pub left : List ℕ
  pub right : List ℕ

-- The halves of 64 bits.
abbrev pub halves : List ℕ → Halves
halves xs = record { left = take 32 xs; right = drop 32 xs }

-- The right half before the left.
abbrev pub crossed : Halves → List ℕ
crossed h = h.right ++ h.left

-- One round under the key k: the right half goes to the left, and the left one is joined with f of the right half and k.
abbrev pub turn : (List ℕ → List ℕ → List ℕ) → List ℕ → Halves → Halves
turn f k h = record { left = h.right; right = xors h.left (f h.right k) }

-- A round for each key.
unfoldable pub turns : (List ℕ → List ℕ → List ℕ) → List (List ℕ) → Halves → Halves
turns f [] h = h
turns f (k ∷ ks) h = turns f ks (turn f k h)
