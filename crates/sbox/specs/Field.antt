-- Bytes as elements of GF(2^8): polynomials over GF(2) modulo x^8 + x^4 + x^3 + x + 1 (FIPS 197, 4), and the rule of the
-- substitution table (5.1.1).
use Rattle.std.specs.Prelude.{◌≡◌, ℕ, zero, suc, ◌+◌, ◌*◌, ◌/◌, ◌%◌, ◌^◌, ◌<◌, cond, List, [], ◌∷◌, ◌==◌, bit_xor, nat_lt}

-- a times x (4.2.1).
abbrev pub xtime : ℕ → ℕ
xtime a = cond (nat_lt a 128) (2 * a) (bit_xor (2 * a) 0x11b)

-- a times the polynomial of the lowest k bits of b.
abbrev pub times : ℕ → ℕ → ℕ → ℕ
times zero a b = 0
times (suc k) a b = bit_xor (cond (b % 2 == 1) a 0) (times k (xtime a) (b / 2))

-- The product of a and b (4.2).
unfoldable pub mul : ℕ → ℕ → ℕ
mul a b = times 8 a b

-- The column p, q, r, s times x.
abbrev pub scaled : ℕ → ℕ → ℕ → ℕ → ℕ → List ℕ
scaled p q r s x = mul p x ∷ mul q x ∷ mul r x ∷ mul s x ∷ []

-- Bit i of y.
abbrev pub bit : ℕ → ℕ → ℕ
bit y i = y / 2 ^ i % 2

-- Bit i of the affine map's value at y (5.1).
abbrev pub affine_bit : ℕ → ℕ → ℕ
affine_bit y i = (bit y i + bit y ((i + 4) % 8) + bit y ((i + 5) % 8) + bit y ((i + 6) % 8) + bit y ((i + 7) % 8) + bit 0x63 i) % 2

-- The number of the bits f 0 to f (k - 1).
abbrev pub from_bits : ℕ → (ℕ → ℕ) → ℕ
from_bits zero f = 0
from_bits (suc k) f = from_bits k f + f k * 2 ^ k

-- The affine map's value at y.
abbrev pub affine : ℕ → ℕ
affine y = from_bits 8 (affine_bit y)

-- y is the inverse of x; that of 0 is 0.
abbrev pub Inverse : ℕ → ℕ → Type 0
Inverse x y = (y < 256) × (mul x y ≡ cond (x == 0) 0 1) × (x ≡ 0 → y ≡ 0)

-- s is the affine map's value at the inverse of x.
pub record Substitutes (x s : ℕ) : Type 0 where
  pub inverse : ℕ
  pub inverts : Inverse x inverse
  pub mapped : s ≡ affine inverse
