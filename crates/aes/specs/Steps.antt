-- The steps of a round (FIPS 197, 5.1 and 5.3). A state is a list of 16 bytes, column by column: row r of column c is the
-- byte 4 c + r.
use Rattle.std.specs.Prelude.{ℕ, ◌+◌, ◌-◌, ◌*◌, ◌/◌, ◌%◌, List, [], ◌∷◌, map, bit_xor, slice_index}
use Rattle.std.specs.List.{range_with_len}
use Rattle.sbox.specs.Field.{mul}
use Rattle.sbox.specs.Tables.{sub, inv_sub}

-- SubBytes.
unfoldable pub sub_bytes : List ℕ → List ℕ
sub_bytes s = map sub s

-- InvSubBytes.
unfoldable pub inv_sub_bytes : List ℕ → List ℕ
inv_sub_bytes s = map inv_sub s

-- The bytes of s at the places ps.
abbrev pub picked : List ℕ → List ℕ → List ℕ
picked ps s = map (λ i. slice_index s i) ps

-- Row r of column c comes from column c + r, counted round.
abbrev pub shifted : List ℕ
shifted = map (λ i. 4 * ((i / 4 + i % 4) % 4) + i % 4) (range_with_len 0 16)

-- Row r of column c comes from column c - r, counted round.
abbrev pub unshifted : List ℕ
unshifted = map (λ i. 4 * ((i / 4 + (4 - i % 4)) % 4) + i % 4) (range_with_len 0 16)

-- ShiftRows.
unfoldable pub shift_rows : List ℕ → List ℕ
shift_rows s = picked shifted s

-- InvShiftRows.
unfoldable pub inv_shift_rows : List ℕ → List ℕ
inv_shift_rows s = picked unshifted s

-- The sum of four bytes.
abbrev pub sum : ℕ → ℕ → ℕ → ℕ → ℕ
sum a b c d = bit_xor (bit_xor a b) (bit_xor c d)

-- The row p q r s times the column a b c d.
unfoldable pub row : ℕ → ℕ → ℕ → ℕ → ℕ → ℕ → ℕ → ℕ → ℕ
row p q r s a b c d = sum (mul p a) (mul q b) (mul r c) (mul s d)

-- Each column times the matrix whose first row is p q r s; each row of it is the one above, turned by one place.
unfoldable pub columns : ℕ → ℕ → ℕ → ℕ → List ℕ → List ℕ
columns p q r s [] = []
columns p q r s (a ∷ []) = a ∷ []
columns p q r s (a ∷ b ∷ []) = a ∷ b ∷ []
columns p q r s (a ∷ b ∷ c ∷ []) = a ∷ b ∷ c ∷ []
columns p q r s (a ∷ b ∷ c ∷ d ∷ xs) = row p q r s a b c d ∷ row p q r s b c d a ∷ row p q r s c d a b ∷ row p q r s d a b c ∷ columns p q r s xs

-- MixColumns.
abbrev pub mix_columns : List ℕ → List ℕ
mix_columns s = columns 2 3 1 1 s

-- InvMixColumns.
abbrev pub inv_mix_columns : List ℕ → List ℕ
inv_mix_columns s = columns 14 11 13 9 s
