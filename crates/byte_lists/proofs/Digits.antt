-- Numbers and their bytes: each way undoes the other.
use Rattle.std.proofs.Common.{◌≡◌, ℕ, zero, suc, ◌+◌, ◌*◌, ◌/◌, ◌%◌, ◌^◌, ◌<◌, List, [], ◌∷◌, length, sym, refl, ap, ◌∙◌, mul_assoc, add-mul, div-one, arith, lit<}
use native.Mathlib.Nat.{mul-add-div_right, pow-succ'}
use lib.Arith.{digits_lt, digits_div, mod-mul}
use Rattle.std.specs.Int.Digits.{number_from_digits_after}
use Rattle.byte_lists.specs.Bytes.{Bytes}
use Rattle.byte_lists.specs.Numbers.{octets, number}

pub length_octets : (n x : ℕ) → length (octets n x) ≡ n
unfolding octets
length_octets zero x = refl
length_octets (suc n) x = ap suc (length_octets n x)

pub bytes_octets : (n x : ℕ) → Bytes (octets n x)
unfolding octets
bytes_octets zero x i = omega arith
bytes_octets (suc n) x zero = omega arith
bytes_octets (suc n) x (suc i) = bytes_octets n x i

-- As the library writes them.
pub octets_two : (x : ℕ) → octets 2 x ≡ x / 256 % 256 ∷ x % 256 ∷ []
unfolding octets
octets_two x = rw div-one

pub octets_four : (x : ℕ) → octets 4 x ≡ x / 16777216 % 256 ∷ x / 65536 % 256 ∷ x / 256 % 256 ∷ x % 256 ∷ []
unfolding octets
octets_four x = rw div-one

pub octets_eight : (x : ℕ)
    → octets 8 x ≡ x / 72057594037927936 % 256 ∷ x / 281474976710656 % 256 ∷ x / 1099511627776 % 256 ∷ x / 4294967296 % 256 ∷ x / 16777216 % 256 ∷ x / 65536 % 256 ∷ x / 256 % 256 ∷ x % 256 ∷ []
unfolding octets
octets_eight x = rw div-one

-- Reading goes on from what was read.
pub read_on : (n : ℕ) (bs : List ℕ) → number_from_digits_after 256 n bs ≡ n * 256 ^ length bs + number bs
read_on n [] = omega arith
read_on n (b ∷ bs) =
    let p : 256 ^ suc (length bs) ≡ 256 * 256 ^ length bs = pow-succ' 256 (length bs) in
    let front : (n * 256 + b) * 256 ^ length bs ≡ n * 256 ^ suc (length bs) + b * 256 ^ length bs =
    add-mul (n * 256) b (256 ^ length bs) ∙ ap (λ m. m + b * 256 ^ length bs) (mul_assoc n 256 (256 ^ length bs) ∙ ap (λ m. n * m) (sym p)) in
    let one : number_from_digits_after 256 (0 * 256 + b) bs ≡ b * 256 ^ length bs + number bs = ap (λ m. number_from_digits_after 256 m bs) (omega arith) ∙ read_on b bs in
    read_on (n * 256 + b) bs ∙ omega (arith, front, one)

-- The first byte is the highest.
pub number_cons : (b : ℕ) (bs : List ℕ) → number (b ∷ bs) ≡ b * 256 ^ length bs + number bs
number_cons b bs = ap (λ m. number_from_digits_after 256 m bs) (omega arith) ∙ read_on b bs

pub number_below : (bs : List ℕ) → Bytes bs → number bs < 256 ^ length bs
number_below [] h = omega arith
number_below (b ∷ bs) h =
    let r : number bs < 256 ^ length bs = number_below bs (λ i. h (suc i)) in
    let top : b * 256 ^ length bs + number bs < 256 * 256 ^ length bs = digits_lt (h 0) r in
    omega (arith, top, number_cons b bs, pow-succ' 256 (length bs))

power_above : (n : ℕ) → 0 < 256 ^ n
power_above zero = lit< tt
power_above (suc n) = omega (arith, power_above n, pow-succ' 256 n)

-- Only the lowest bytes count.
pub octets_low : (n a r : ℕ) → octets n (a * 256 ^ n + r) ≡ octets n r
unfolding octets
octets_low zero a r = refl
octets_low (suc n) a r =
    let e : a * 256 ^ suc n ≡ a * 256 * 256 ^ n = ap (λ p. a * p) (pow-succ' 256 n) ∙ sym (mul_assoc a 256 (256 ^ n)) in
    let d : (a * 256 * 256 ^ n + r) / 256 ^ n ≡ a * 256 + r / 256 ^ n = mul-add-div_right (power_above n) (a * 256) r in
    let h : (a * 256 * 256 ^ n + r) / 256 ^ n % 256 ≡ r / 256 ^ n % 256 = ap (λ q. q % 256) d ∙ omega arith in
    ap (λ m. octets (suc n) (m + r)) e ∙ ap (λ b. b ∷ octets n (a * 256 * 256 ^ n + r)) h ∙ ap (λ bs. r / 256 ^ n % 256 ∷ bs) (octets_low n (a * 256) r)

pub octets_number : (bs : List ℕ) → Bytes bs → octets (length bs) (number bs) ≡ bs
unfolding octets
octets_number [] h = refl
octets_number (b ∷ bs) h =
    let n : ℕ = length bs in
    let r : number bs < 256 ^ n = number_below bs (λ i. h (suc i)) in
    let top : (b * 256 ^ n + number bs) / 256 ^ n % 256 ≡ b = ap (λ q. q % 256) (digits_div b r) ∙ omega (arith, h 0) in
    ap (octets (suc n)) (number_cons b bs)
    ∙ ap (λ c. c ∷ octets n (b * 256 ^ n + number bs)) top
    ∙ ap (λ cs. b ∷ cs) (octets_low n b (number bs) ∙ octets_number bs (λ i. h (suc i)))

pub number_octets : (n x : ℕ) → number (octets n x) ≡ x % 256 ^ n
unfolding octets
number_octets zero x = omega arith
number_octets (suc n) x =
    number_cons (x / 256 ^ n % 256) (octets n x)
    ∙ ap (λ k. x / 256 ^ n % 256 * 256 ^ k + number (octets n x)) (length_octets n x)
    ∙ ap (λ m. x / 256 ^ n % 256 * 256 ^ n + m) (number_octets n x)
    ∙ sym (ap (λ p. x % p) (pow-succ' 256 n) ∙ mod-mul x (lit< tt) (power_above n))
