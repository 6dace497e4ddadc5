-- Products in GF(2^8): linear in the second factor, and bytes where the first is one.
use Rattle.std.specs.Prelude.{◌≡◌, ℕ, zero, suc, ◌/◌, ◌%◌, ◌<◌, Bool, true, false, cond, ◌==◌, bit_xor, nat_lt, refl}
use Rattle.std.proofs.Common.{ap, sym, ◌∙◌, arith, lit<, leb→le}
use Rattle.std.specs.Int.Bits.{xor_self, xor_zero_r, xor_zero_l}
use Rattle.std.proofs.lemmas.Nat.{xor_shr, xor_mod, xor_lt}
use Rattle.byte_lists.proofs.Tables.{all_below_at}
use Rattle.sbox.specs.Field.{mul, times, xtime}
use Rattle.aes.specs.Steps.{sum}
use Rattle.aes.specs.Sums.{swap}

-- One bit of the second factor.
pick : (a x y : ℕ) → x < 2 → y < 2 → cond (bit_xor x y == 1) a 0 ≡ bit_xor (cond (x == 1) a 0) (cond (y == 1) a 0)
pick a zero zero h g = refl
pick a zero (suc zero) h g = sym (xor_zero_l a)
pick a (suc zero) zero h g = sym (xor_zero_r a)
pick a (suc zero) (suc zero) h g = sym (xor_self a)
pick a zero (suc (suc y)) h g = absurd (omega arith)
pick a (suc zero) (suc (suc y)) h g = absurd (omega arith)
pick a (suc (suc x)) y h g = absurd (omega arith)

times_xor : (k a x y : ℕ) → times k a (bit_xor x y) ≡ bit_xor (times k a x) (times k a y)
times_xor zero a x y = refl
times_xor (suc k) a x y =
    ap (λ z. bit_xor (cond (z == 1) a 0) (times k (xtime a) (bit_xor x y / 2))) (xor_mod x y 1)
    ∙ ap (λ z. bit_xor z (times k (xtime a) (bit_xor x y / 2))) (pick a (x % 2) (y % 2) (omega arith) (omega arith))
    ∙ ap (λ z. bit_xor (bit_xor (cond (x % 2 == 1) a 0) (cond (y % 2 == 1) a 0)) (times k (xtime a) z)) (xor_shr x y 1)
    ∙ ap (λ z. bit_xor (bit_xor (cond (x % 2 == 1) a 0) (cond (y % 2 == 1) a 0)) z) (times_xor k (xtime a) (x / 2) (y / 2))
    ∙ swap (cond (x % 2 == 1) a 0) (cond (y % 2 == 1) a 0) (times k (xtime a) (x / 2)) (times k (xtime a) (y / 2))

mul_xor : (a x y : ℕ) → mul a (bit_xor x y) ≡ bit_xor (mul a x) (mul a y)
unfolding mul
mul_xor a x y = times_xor 8 a x y

pub mul_sum : (k a b c d : ℕ) → mul k (sum a b c d) ≡ sum (mul k a) (mul k b) (mul k c) (mul k d)
mul_sum k a b c d =
    mul_xor k (bit_xor a b) (bit_xor c d) ∙ ap (λ x. bit_xor x (mul k (bit_xor c d))) (mul_xor k a b) ∙ ap (bit_xor (bit_xor (mul k a) (mul k b))) (mul_xor k c d)

pub xtime_byte : (a : ℕ) → a < 256 → xtime a < 256
xtime_byte a h = leb→le _ _ (all_below_at (λ x. nat_lt (xtime x) 256) 256 tt a h)

cond_byte : (b : Bool) (a : ℕ) → a < 256 → cond b a 0 < 256
cond_byte true a h = h
cond_byte false a h = lit< tt

times_byte : (k a b : ℕ) → a < 256 → times k a b < 256
times_byte zero a b h = lit< tt
times_byte (suc k) a b h =
    xor_lt 8 (cond (b % 2 == 1) a 0) (times k (xtime a) (b / 2)) (cond_byte (b % 2 == 1) a h) (times_byte k (xtime a) (b / 2) (xtime_byte a h))

pub mul_byte : (a b : ℕ) → a < 256 → mul a b < 256
unfolding mul
mul_byte a b h = times_byte 8 a b h
