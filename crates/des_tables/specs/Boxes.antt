-- The selection functions of DES: each of the eight boxes turns six bits into four.
use Rattle.std.specs.Prelude.{ℕ, zero, suc, ◌-◌, ◌*◌, List, [], ◌∷◌, ◌++◌, take, drop, replicate, slice_index, slice_index_or}
use Rattle.des_tables.specs.Bits.{bits, value}
use Rattle.des_tables.specs.Tables.{sboxes}

-- The first and the last of six bits are the row.
abbrev pub row : List ℕ → ℕ
row xs = value (slice_index xs 0 ∷ slice_index xs 5 ∷ [])

-- The middle four are the column.
abbrev pub column : List ℕ → ℕ
column xs = value (take 4 (drop 1 xs))

-- The four bits that the box b, counted from 0, gives for six.
unfoldable pub selected : ℕ → List ℕ → List ℕ
selected b xs = bits 4 (slice_index (slice_index_or (slice_index_or sboxes b []) (row xs) []) (column xs))

-- n boxes from the box b on, each with the next six bits.
unfoldable pub boxes : ℕ → ℕ → List ℕ → List ℕ
boxes zero b xs = []
boxes (suc n) b xs = selected b (take 6 xs) ++ boxes n (suc b) (drop 6 xs)

-- The four bits that the box b gives for the six bits of v, in their place among 32, and zeros elsewhere.
abbrev pub placed : ℕ → ℕ → List ℕ
placed b v = replicate (4 * b) 0 ++ (selected b (bits 6 v) ++ replicate (28 - 4 * b) 0)
