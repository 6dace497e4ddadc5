-- The rule of the constants, at each entry by one computed test.
use Rattle.std.proofs.Common.{ℕ, zero, suc, ◌+◌, ◌*◌, ◌^◌, ◌<◌, Bool, cond, T, ltb, leb, get_or, leb→le}
use Rattle.byte_lists.proofs.Tables.{both, both_left, both_right, every_at}
use Rattle.compression.specs.Constants.{undivided, primes_below, primes, Fraction, constants, beginnings}

-- The whole part of the d-th root of p, if it is at most n.
abbrev whole_part : ℕ → ℕ → ℕ → ℕ
whole_part d p zero = 0
whole_part d p (suc n) = cond (leb (suc n ^ d) p) (suc n) (whole_part d p n)

abbrev low_test : ℕ → ℕ → ℕ → ℕ → Bool
low_test d p k w = leb ((w * 2 ^ 32 + k) ^ d) (p * 2 ^ (32 * d))

abbrev high_test : ℕ → ℕ → ℕ → ℕ → Bool
high_test d p k w = ltb (p * 2 ^ (32 * d)) ((w * 2 ^ 32 + k + 1) ^ d)

abbrev passes : ℕ → ℕ → ℕ → Bool
passes d p k = both (ltb k (2 ^ 32)) (both (low_test d p k (whole_part d p 6)) (high_test d p k (whole_part d p 6)))

from_test : (d p k : ℕ) → T (passes d p k) → Fraction d p k
from_test d p k t =
    let w = whole_part d p 6 in
    let u = both_right (ltb k (2 ^ 32)) (both (low_test d p k w) (high_test d p k w)) t in
    record {
      word = leb→le _ _ (both_left (ltb k (2 ^ 32)) (both (low_test d p k w) (high_test d p k w)) t);
      whole = w;
      low = leb→le _ _ (both_left (low_test d p k w) (high_test d p k w) u);
      high = leb→le _ _ (both_right (low_test d p k w) (high_test d p k w) u);
    }

-- Each of the 64 constants, by the cube roots.
pub constants_rule : (t : ℕ) → t < 64 → Fraction 3 (get_or primes t 0) (get_or constants t 0)
unfolding constants primes primes_below undivided
constants_rule t h = from_test 3 (get_or primes t 0) (get_or constants t 0) (every_at (λ i k. passes 3 (get_or primes i 0) k) constants 0 tt t h)

-- Each of the eight first words, by the square roots.
pub beginnings_rule : (i : ℕ) → i < 8 → Fraction 2 (get_or primes i 0) (get_or beginnings i 0)
unfolding beginnings primes primes_below undivided
beginnings_rule i h = from_test 2 (get_or primes i 0) (get_or beginnings i 0) (every_at (λ i k. passes 2 (get_or primes i 0) k) beginnings 0 tt i h)
