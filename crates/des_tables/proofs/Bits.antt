-- The bits of a number: how many they are, how they are joined and cut, and what exclusive or does to them.
use Rattle.std.proofs.Common.{◌≡◌, ℕ, zero, suc, ◌+◌, ◌-◌, ◌*◌, ◌/◌, ◌%◌, ◌^◌, ◌<◌, [], ◌∷◌, ◌++◌, length, get_or, take, drop, sym, refl, ap, ◌∙◌, ⊎_elim, le_of_suc-le-suc, not-suc-le-zero, add-zero, add-suc, mul_assoc, eq-or-lt_of_le, div-add-mod', div-one, add-one, arith, length-append}
use lib.Bits.{bit_xor, xor_shr, xor_mod}
use Rattle.std.proofs.lemmas.List.{append_assoc, append-nil, get_or_append_left, get_or_push, take_at, drop_at}
use Rattle.std.proofs.lemmas.Nat.{shr-shr, pow-add, shr_high}
use Rattle.std.proofs.lemmas.Int.Digits.{number_push}
use Rattle.byte_lists.specs.Bytes.{xors}
use Rattle.des_tables.specs.Bits.{bits, value}
use Rattle.des_tables.proofs.Lists.{xors_push}

pub length_bits : (n x : ℕ) → length (bits n x) ≡ n
unfolding bits
length_bits zero x = refl
length_bits (suc n) x = length-append (bits n (x / 2)) (x % 2 ∷ []) ∙ ap (λ m. m + 1) (length_bits n (x / 2)) ∙ add-one n

-- one bit more at the low end
pub bits_push : (n x b : ℕ) → b < 2 → bits (n + 1) (x * 2 + b) ≡ bits n x ++ (b ∷ [])
unfolding bits
bits_push n x b h =
    let q : (x * 2 + b) / 2 ≡ x = omega arith in
    let r : (x * 2 + b) % 2 ≡ b = omega arith in
    ap (λ m. bits m (x * 2 + b)) (add-one n) ∙ ap (λ y. bits n y ++ ((x * 2 + b) % 2 ∷ [])) q ∙ ap (λ y. bits n x ++ (y ∷ [])) r

-- the bit at the place i from the front
pub get_or_bits : (n x i : ℕ) → i < n → get_or (bits n x) i 0 ≡ x / 2 ^ (n - 1 - i) % 2
unfolding bits
get_or_bits zero x i h = absurd (not-suc-le-zero h)
get_or_bits (suc n) x i h =
    ⊎_elim
    (λ (e : i ≡ n).
    let z : suc n - 1 - i ≡ 0 = omega arith in
    get_or_push (bits n (x / 2)) (x % 2) 0 i (length_bits n (x / 2) ∙ sym e) ∙ sym (ap (λ k. x / 2 ^ k % 2) z ∙ ap (λ y. y % 2) (div-one x)))
    (λ (l : i < n).
    let g : i < length (bits n (x / 2)) = let q = length_bits n (x / 2) in omega arith in
    let z : 1 + (n - 1 - i) ≡ suc n - 1 - i = omega arith in
    get_or_append_left (bits n (x / 2)) (x % 2 ∷ []) 0 i g ∙ get_or_bits n (x / 2) i l ∙ ap (λ y. y % 2) (shr-shr x 1 (n - 1 - i) ∙ ap (λ k. x / 2 ^ k) z))
    (eq-or-lt_of_le (le_of_suc-le-suc h))

-- the high m bits and the low n
pub bits_append : (n m x : ℕ) → bits (m + n) x ≡ bits m (x / 2 ^ n) ++ bits n x
unfolding bits
bits_append zero m x = ap (λ k. bits k x) (add-zero m) ∙ ap (bits m) (sym (div-one x)) ∙ sym (append-nil (bits m (x / 2 ^ 0)))
bits_append (suc n) m x =
    let e : x / 2 / 2 ^ n ≡ x / 2 ^ suc n = shr-shr x 1 n ∙ ap (λ k. x / 2 ^ k) (omega arith) in
    ap (λ k. bits k x) (add-suc m n)
    ∙ ap (λ ys. ys ++ (x % 2 ∷ [])) (bits_append n m (x / 2))
    ∙ append_assoc (bits m (x / 2 / 2 ^ n)) (bits n (x / 2)) (x % 2 ∷ [])
    ∙ ap (λ y. bits m y ++ (bits n (x / 2) ++ (x % 2 ∷ []))) e

pub take_bits : (m n x : ℕ) → take m (bits (m + n) x) ≡ bits m (x / 2 ^ n)
take_bits m n x = ap (take m) (bits_append n m x) ∙ take_at (bits m (x / 2 ^ n)) (bits n x) m (length_bits m (x / 2 ^ n))

pub drop_bits : (m n x : ℕ) → drop m (bits (m + n) x) ≡ bits n x
drop_bits m n x = ap (drop m) (bits_append n m x) ∙ drop_at (bits m (x / 2 ^ n)) (bits n x) m (length_bits m (x / 2 ^ n))

-- what stands above the lowest n bits does not matter
pub bits_above : (n a x : ℕ) → bits n (a * 2 ^ n + x) ≡ bits n x
unfolding bits
bits_above zero a x = refl
bits_above (suc n) a x =
    let e : 2 ^ suc n ≡ 2 ^ n * 2 = ap (λ k. 2 ^ k) (sym (add-one n)) ∙ pow-add 2 n 1 in
    let m : a * 2 ^ suc n ≡ a * 2 ^ n * 2 = ap (λ y. a * y) e ∙ sym (mul_assoc a (2 ^ n) 2) in
    let q : (a * 2 ^ suc n + x) / 2 ≡ a * 2 ^ n + x / 2 = omega arith in
    let r : (a * 2 ^ suc n + x) % 2 ≡ x % 2 = omega arith in
    ap (λ y. bits n y ++ ((a * 2 ^ suc n + x) % 2 ∷ [])) q ∙ ap (λ y. bits n (a * 2 ^ n + x / 2) ++ (y ∷ [])) r ∙ ap (λ ys. ys ++ (x % 2 ∷ [])) (bits_above n a (x / 2))

pub bits_mod : (n x : ℕ) → bits n (x % 2 ^ n) ≡ bits n x
bits_mod n x = sym (bits_above n (x / 2 ^ n) (x % 2 ^ n)) ∙ ap (bits n) (div-add-mod' x (2 ^ n))

-- two numbers one behind the other
pub bits_joined : (m n a b : ℕ) → b < 2 ^ n → bits (m + n) (a * 2 ^ n + b) ≡ bits m a ++ bits n b
bits_joined m n a b h =
    bits_append n m (a * 2 ^ n + b) ∙ ap (λ y. bits m y ++ bits n (a * 2 ^ n + b)) (shr_high a n b h) ∙ ap (λ ys. bits m a ++ ys) (bits_above n a b)

pub bits_xor : (n x y : ℕ) → bits n (bit_xor x y) ≡ xors (bits n x) (bits n y)
unfolding bits xors
bits_xor zero x y = refl
bits_xor (suc n) x y =
    ap (λ z. bits n z ++ (bit_xor x y % 2 ∷ [])) (xor_shr x y 1)
    ∙ ap (λ z. bits n (bit_xor (x / 2) (y / 2)) ++ (z ∷ [])) (xor_mod x y 1)
    ∙ ap (λ zs. zs ++ (bit_xor (x % 2) (y % 2) ∷ [])) (bits_xor n (x / 2) (y / 2))
    ∙ sym (xors_push (bits n (x / 2)) (bits n (y / 2)) (x % 2) (y % 2) (length_bits n (x / 2) ∙ sym (length_bits n (y / 2))))

-- a number from its bits
pub value_bits : (n x : ℕ) → x < 2 ^ n → value (bits n x) ≡ x
unfolding bits
value_bits zero x h = omega arith
value_bits (suc n) x h =
    let e : 2 ^ suc n ≡ 2 ^ n * 2 = ap (λ k. 2 ^ k) (sym (add-one n)) ∙ pow-add 2 n 1 in
    let g : x / 2 < 2 ^ n = omega arith in
    number_push 2 (bits n (x / 2)) (x % 2) ∙ ap (λ y. y * 2 + x % 2) (value_bits n (x / 2) g) ∙ omega arith
