-- Dividing bits is linear: what stands above the bits that are divided only moves down.
use Rattle.std.proofs.Common.{◌≡◌, ℕ, zero, suc, ◌+◌, ◌*◌, ◌/◌, ◌%◌, ◌^◌, ◌<◌, Bool, true, false, cond, eqb, List, [], ◌∷◌, fold, sym, refl, ap, ◌∙◌, mul_assoc, mul-one, arith}
use native.Mathlib.Nat.{pow-succ'}
use lib.Bits.{bit_and, bit_xor, and_mask, xor_mod, xor_shr, xor_assoc, xor_comm, xor_shifted}
use Rattle.crc.specs.Crc.{polynomial, divided, bits, remainder}

xor_cond : (b : Bool) (q y p : ℕ) → cond b (bit_xor (bit_xor q y) p) (bit_xor q y) ≡ bit_xor q (cond b (bit_xor y p) y)
xor_cond true q y p = xor_assoc q y p
xor_cond false q y p = refl

divided_above : (q x : ℕ) → divided (bit_xor (q * 2) x) ≡ bit_xor q (divided x)
divided_above q x =
    let even : q * 2 % 2 ≡ 0 = omega arith in
    let half : q * 2 / 2 ≡ q = omega arith in
    let lowest : bit_xor (q * 2) x % 2 ≡ x % 2 = xor_mod (q * 2) x 1 ∙ ap (λ n. bit_xor n (x % 2)) even in
    let rest : bit_xor (q * 2) x / 2 ≡ bit_xor q (x / 2) = xor_shr (q * 2) x 1 ∙ ap (λ n. bit_xor n (x / 2)) half in
    ap (λ n. cond (eqb n 1) (bit_xor (bit_xor (q * 2) x / 2) polynomial) (bit_xor (q * 2) x / 2)) lowest
    ∙ ap (λ n. cond (eqb (x % 2) 1) (bit_xor n polynomial) n) rest
    ∙ xor_cond (eqb (x % 2) 1) q (x / 2) polynomial

bits_above : (k q x : ℕ) → bits k (bit_xor (q * 2 ^ k) x) ≡ bit_xor q (bits k x)
unfolding bits
bits_above zero q x = ap (λ n. bit_xor n x) (mul-one q)
bits_above (suc k) q x =
    let moved : q * 2 ^ suc k ≡ q * 2 * 2 ^ k = ap (λ n. q * n) (pow-succ' 2 k) ∙ sym (mul_assoc q 2 (2 ^ k)) in
    ap (λ n. divided (bits k (bit_xor n x))) moved
    ∙ ap divided (bits_above k (q * 2) x)
    ∙ divided_above q (bits k x)

-- Eight bits of x are divided: those of its lowest byte, and the rest is joined in.
pub eight_bits : (x : ℕ) → bit_xor (bits 8 (bit_and x 255)) (x / 256) ≡ bits 8 x
eight_bits x =
    let byte : x % 256 < 256 = omega arith in
    let whole : x / 256 * 256 + x % 256 ≡ x = omega arith in
    ap (λ n. bit_xor (bits 8 n) (x / 256)) (and_mask x 8)
    ∙ xor_comm (bits 8 (x % 256)) (x / 256)
    ∙ sym (bits_above 8 (x / 256) (x % 256))
    ∙ ap (bits 8) (xor_shifted (x / 256) 8 (x % 256) byte ∙ whole)

-- The remainder is a fold.
pub fold_remainder : (x : ℕ) (bs : List ℕ) → fold (λ s b. bits 8 (bit_xor s b)) x bs ≡ remainder x bs
unfolding remainder
fold_remainder x [] = refl
fold_remainder x (b ∷ bs) = fold_remainder (bits 8 (bit_xor x b)) bs
