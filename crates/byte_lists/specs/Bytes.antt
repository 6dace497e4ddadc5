-- Lists of bytes, blocks, and their exclusive or.
use Rattle.std.specs.Prelude.{◌≡◌, ℕ, ◌<◌, Bool, true, false, List, [], ◌∷◌, length, bit_xor, nat_lt, slice_index}

-- Each entry is a byte (past the end `slice_index` gives 0).
abbrev pub Bytes : List ℕ → Type 0
Bytes xs = (i : ℕ) → slice_index xs i < 256

-- A block of n bytes.
abbrev pub Block : ℕ → List ℕ → Type 0
Block n b = (length b ≡ n) × Bytes b

-- Exclusive or, entry by entry, as far as the second list goes.
unfoldable pub xors : List ℕ → List ℕ → List ℕ
xors [] ks = []
xors (x ∷ xs) [] = x ∷ xs
xors (x ∷ xs) (k ∷ ks) = bit_xor x k ∷ xors xs ks

-- Both tests pass.
abbrev pub both : Bool → Bool → Bool
both true b = b
both false b = false

-- Whether each entry is below m.
abbrev pub small : ℕ → List ℕ → Bool
small m [] = true
small m (x ∷ xs) = both (nat_lt x m) (small m xs)
