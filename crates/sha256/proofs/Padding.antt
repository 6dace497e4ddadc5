-- What stands behind a message goes by the lowest 64 bits of its length.
use Rattle.std.proofs.Common.{◌≡◌, ℕ, suc, ◌+◌, ◌*◌, ◌/◌, ◌%◌, ◌^◌, ◌≤◌, List, ◌∷◌, ◌++◌, take, replicate, sym, ap, ◌∙◌, arith}
use Rattle.std.proofs.lemmas.List.{take-replicate}
use Rattle.byte_lists.specs.Numbers.{octets}
use Rattle.byte_lists.proofs.Digits.{octets_low}
use Rattle.sha256.specs.Digest.{zeros, padding}

-- Eight bytes hold a number modulo 2 ^ 64.
pub octets_mod : (x : ℕ) → octets 8 (x % 2 ^ 64) ≡ octets 8 x
octets_mod x =
    let e : x / 2 ^ 64 * 256 ^ 8 + x % 2 ^ 64 ≡ x = omega arith in
    sym (octets_low 8 (x / 2 ^ 64) (x % 2 ^ 64)) ∙ ap (octets 8) e

-- The byte 80 with its zeros, and the length behind them.
pub padding_parts : (stop bits : List ℕ) (n z : ℕ) → stop ≡ 0x80 ∷ replicate 63 0 → z ≡ zeros n → bits ≡ octets 8 (8 * n) → take (1 + z) stop ++ bits ≡ padding n
unfolding padding
padding_parts stop bits n z es ez eb =
    let small : z ≤ 63 = omega arith in
    let e : 1 + z ≡ suc z = omega arith in
    ap (λ y. take (1 + z) y ++ bits) es
    ∙ ap (λ n. take n (0x80 ∷ replicate 63 0) ++ bits) e
    ∙ ap (λ y. 0x80 ∷ (y ++ bits)) (take-replicate z 63 0 small)
    ∙ ap (λ i. 0x80 ∷ (replicate i 0 ++ bits)) ez
    ∙ ap (λ y. 0x80 ∷ (replicate (zeros n) 0 ++ y)) eb

-- The count may be that of the lowest 64 bits.
pub padding_low : (n : ℕ) → padding (n % 2 ^ 64) ≡ padding n
unfolding padding
padding_low n =
    let m : ℕ = n % 2 ^ 64 in
    let z : zeros m ≡ zeros n = omega arith in
    let e : (8 * m) % 2 ^ 64 ≡ (8 * n) % 2 ^ 64 = omega arith in
    let o : octets 8 (8 * m) ≡ octets 8 (8 * n) = sym (octets_mod (8 * m)) ∙ ap (octets 8) e ∙ octets_mod (8 * n) in
    ap (λ i. 0x80 ∷ (replicate i 0 ++ octets 8 (8 * m))) z ∙ ap (λ y. 0x80 ∷ (replicate (zeros n) 0 ++ y)) o
