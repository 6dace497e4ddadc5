-- Words of 32 bits as four bytes, the highest first.
use Rattle.std.specs.Prelude.{ℕ, ◌-◌, List, [], ◌∷◌, ◌++◌, take, drop, slice_index}
use Rattle.byte_lists.specs.Bytes.{xors}
use Rattle.byte_lists.specs.Numbers.{octets}

-- The bytes of the words.
abbrev pub bytes_of : List ℕ → List ℕ
bytes_of [] = []
bytes_of (w ∷ ws) = octets 4 w ++ bytes_of ws

-- A list turned right by n places.
abbrev pub turned : ℕ → List ℕ → List ℕ
turned n xs = drop (4 - n) xs ++ take (4 - n) xs

-- A byte of each of four columns: the first of the first, the second of the second, and so on.
abbrev pub gathered : List ℕ → List ℕ
gathered cs = slice_index (octets 4 (slice_index cs 0)) 0 ∷ slice_index (octets 4 (slice_index cs 1)) 1 ∷ slice_index (octets 4 (slice_index cs 2)) 2 ∷ slice_index (octets 4 (slice_index cs 3)) 3 ∷ []

-- The sum of what f gives for each of four, each turned right by one place more than the one before.
abbrev pub looked_up : (ℕ → List ℕ) → List ℕ → List ℕ
looked_up f xs = xors (xors (f (slice_index xs 0)) (turned 1 (f (slice_index xs 1)))) (xors (turned 2 (f (slice_index xs 2))) (turned 3 (f (slice_index xs 3))))
