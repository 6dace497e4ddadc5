-- The word recipes go through exclusive or, and each is the step that its table prints.
use Rattle.std.proofs.Common.{◌≡◌, ℕ, zero, suc, ◌+◌, ◌-◌, ◌*◌, ◌/◌, ◌%◌, ◌^◌, ◌<◌, ◌≤◌, Bool, List, get_or, take, drop, sym, refl, ap, ◌∙◌, add-zero, arith}
use lib.Bits.{bit_and, bit_xor, and_shr, xor_shr, and_mod, xor_mod, xor_block, xor_assoc, xor_comm}
use Rattle.std.proofs.lemmas.Nat.{pow_pos}
use Rattle.std.proofs.lemmas.List.{take-map, drop-map}
use Rattle.byte_lists.proofs.Tables.{all_below_at, same, same_is}
use Rattle.des_tables.specs.Bits.{bits, chosen}
use Rattle.des_tables.specs.Tables.{ip, fp, expansion}
use Rattle.des_tables.specs.Words.{exchanged, initial_word, final_word, wrapped}
use Rattle.des_tables.proofs.Linear.{Linear, bits_additive, chosen_additive, agrees, agree}

-- one bit of each
bit_masked : (p q m : ℕ) → p < 2 → q < 2 → m < 2 → bit_and (bit_xor p q) m ≡ bit_xor (bit_and p m) (bit_and q m)
bit_masked zero zero m hp hq hm = refl
bit_masked zero (suc zero) m hp hq hm = refl
bit_masked zero (suc (suc q)) m hp hq hm = absurd (omega arith)
bit_masked (suc zero) zero zero hp hq hm = refl
bit_masked (suc zero) zero (suc zero) hp hq hm = refl
bit_masked (suc zero) zero (suc (suc m)) hp hq hm = absurd (omega arith)
bit_masked (suc zero) (suc zero) zero hp hq hm = refl
bit_masked (suc zero) (suc zero) (suc zero) hp hq hm = refl
bit_masked (suc zero) (suc zero) (suc (suc m)) hp hq hm = absurd (omega arith)
bit_masked (suc zero) (suc (suc q)) m hp hq hm = absurd (omega arith)
bit_masked (suc (suc p)) q m hp hq hm = absurd (omega arith)

same_halves : (x y : ℕ) → x / 2 ≡ y / 2 → x % 2 ≡ y % 2 → x ≡ y
same_halves x y d m = omega arith

masked_below : (n a b m : ℕ) → a ≤ n → b ≤ n → bit_and (bit_xor a b) m ≡ bit_xor (bit_and a m) (bit_and b m)
masked_below zero a b m ha hb =
    let ea : a ≡ 0 = omega arith in
    let eb : b ≡ 0 = omega arith in
    ap (λ y. bit_and (bit_xor y b) m) ea ∙ ap (λ y. bit_and y m) eb ∙ sym (ap (λ y. bit_xor (bit_and y m) (bit_and b m)) ea ∙ ap (λ y. bit_and y m) eb)
masked_below (suc n) a b m ha hb =
    let low : bit_and (bit_xor (a / 2) (b / 2)) (m / 2) ≡ bit_xor (bit_and (a / 2) (m / 2)) (bit_and (b / 2) (m / 2)) = masked_below n (a / 2) (b / 2) (m / 2) (omega arith) (omega arith) in
    let one : bit_and (bit_xor (a % 2) (b % 2)) (m % 2) ≡ bit_xor (bit_and (a % 2) (m % 2)) (bit_and (b % 2) (m % 2)) = bit_masked (a % 2) (b % 2) (m % 2) (omega arith) (omega arith) (omega arith) in
    same_halves (bit_and (bit_xor a b) m) (bit_xor (bit_and a m) (bit_and b m))
    (and_shr (bit_xor a b) m 1 ∙ ap (λ y. bit_and y (m / 2)) (xor_shr a b 1) ∙ low ∙ sym (xor_shr (bit_and a m) (bit_and b m) 1 ∙ ap (λ y. bit_xor y (bit_and b m / 2)) (and_shr a m 1) ∙ ap (bit_xor (bit_and (a / 2) (m / 2))) (and_shr b m 1)))
    (and_mod (bit_xor a b) m 1 ∙ ap (λ y. bit_and y (m % 2)) (xor_mod a b 1) ∙ one ∙ sym (xor_mod (bit_and a m) (bit_and b m) 1 ∙ ap (λ y. bit_xor y (bit_and b m % 2)) (and_mod a m 1) ∙ ap (bit_xor (bit_and (a % 2) (m % 2))) (and_mod b m 1)))

-- a mask, shifts to both sides, and exclusive or itself
masked_linear : (m : ℕ) (f : ℕ → ℕ) → Linear f → Linear (λ x. bit_and (f x) m)
masked_linear m f l x y = ap (λ z. bit_and z m) (l x y) ∙ masked_below (f x + f y) (f x) (f y) m (omega arith) (omega arith)

lower_linear : (k : ℕ) (f : ℕ → ℕ) → Linear f → Linear (λ x. f x / 2 ^ k)
lower_linear k f l x y = ap (λ z. z / 2 ^ k) (l x y) ∙ xor_shr (f x) (f y) k

within_linear : (k : ℕ) (f : ℕ → ℕ) → Linear f → Linear (λ x. f x % 2 ^ k)
within_linear k f l x y = ap (λ z. z % 2 ^ k) (l x y) ∙ xor_mod (f x) (f y) k

higher_linear : (k : ℕ) (f : ℕ → ℕ) → Linear f → Linear (λ x. f x * 2 ^ k)
higher_linear k f l x y =
    ap (λ z. z * 2 ^ k) (l x y)
    ∙ sym (add-zero (bit_xor (f x) (f y) * 2 ^ k))
    ∙ sym (xor_block k (f x) (f y) 0 0 (pow_pos k) (pow_pos k))
    ∙ ap (λ z. bit_xor z (f y * 2 ^ k + 0)) (add-zero (f x * 2 ^ k))
    ∙ ap (bit_xor (f x * 2 ^ k)) (add-zero (f y * 2 ^ k))

crossed_over : (a b c d : ℕ) → bit_xor (bit_xor a b) (bit_xor c d) ≡ bit_xor (bit_xor a c) (bit_xor b d)
crossed_over a b c d =
    xor_assoc a b (bit_xor c d) ∙ ap (bit_xor a) (sym (xor_assoc b c d) ∙ ap (λ z. bit_xor z d) (xor_comm b c) ∙ xor_assoc c b d) ∙ sym (xor_assoc a c (bit_xor b d))

joined_linear : (f g : ℕ → ℕ) → Linear f → Linear g → Linear (λ x. bit_xor (f x) (g x))
joined_linear f g lf lg x y = ap (λ z. bit_xor z (g (bit_xor x y))) (lf x y) ∙ ap (bit_xor (bit_xor (f x) (f y))) (lg x y) ∙ crossed_over (f x) (f y) (g x) (g y)

itself_linear : Linear (λ x. x)
itself_linear x y = refl

exchanged_linear : (s m : ℕ) (f : ℕ → ℕ) → Linear f → Linear (λ x. exchanged s m (f x))
unfolding exchanged
exchanged_linear s m f l =
    let t : ℕ → ℕ = λ x. bit_and (bit_xor (f x / 2 ^ s) (f x)) m in
    let lt : Linear t = masked_linear m (λ x. bit_xor (f x / 2 ^ s) (f x)) (joined_linear (λ x. f x / 2 ^ s) f (lower_linear s f l) l) in
    joined_linear (λ x. bit_xor (f x) (t x)) (λ x. t x * 2 ^ s % 2 ^ 64) (joined_linear f t l lt) (within_linear 64 (λ x. t x * 2 ^ s) (higher_linear s t lt))

initial_linear : Linear initial_word
initial_linear =
    exchanged_linear 33 0x55555555 _
    (exchanged_linear 24 0xff00ff00 _ (exchanged_linear 30 0xcccccccc _ (exchanged_linear 48 0x0000ffff _ (exchanged_linear 36 0x0f0f0f0f (λ x. x) itself_linear))))

final_linear : Linear final_word
final_linear =
    exchanged_linear 36 0x0f0f0f0f _
    (exchanged_linear 48 0x0000ffff _ (exchanged_linear 30 0xcccccccc _ (exchanged_linear 24 0xff00ff00 _ (exchanged_linear 33 0x55555555 (λ x. x) itself_linear))))

wrapped_linear : Linear wrapped
wrapped_linear =
    joined_linear (λ x. bit_xor (x % 2 * 2 ^ 33) (x * 2)) (λ x. x / 2 ^ 31)
    (joined_linear (λ x. x % 2 * 2 ^ 33) (λ x. x * 2) (higher_linear 33 (λ x. x % 2) (within_linear 1 (λ x. x) itself_linear)) (higher_linear 1 (λ x. x) itself_linear))
    (lower_linear 31 (λ x. x) itself_linear)

pub initial_is : (x : ℕ) → x < 2 ^ 64 → bits 64 (initial_word x) ≡ chosen ip (bits 64 x)
unfolding ip bits exchanged
initial_is = agree (λ x. bits 64 (initial_word x)) (λ x. chosen ip (bits 64 x)) (bits_additive 64 initial_word initial_linear) (chosen_additive ip 64) refl 64 tt

pub final_is : (x : ℕ) → x < 2 ^ 64 → bits 64 (final_word x) ≡ chosen fp (bits 64 x)
unfolding fp bits exchanged
final_is = agree (λ x. bits 64 (final_word x)) (λ x. chosen fp (bits 64 x)) (bits_additive 64 final_word final_linear) (chosen_additive fp 64) refl 64 tt

-- at the powers of two, for each of the eight windows
windows : ℕ → Bool
unfolding expansion bits
windows i = agrees (λ x. bits 6 (wrapped x / 2 ^ (28 - 4 * i))) (λ x. chosen (take 6 (drop (6 * i) expansion)) (bits 32 x)) 32

zero_window : ℕ → Bool
unfolding expansion bits
zero_window i = same (bits 6 (wrapped 0 / 2 ^ (28 - 4 * i))) (chosen (take 6 (drop (6 * i) expansion)) (bits 32 0))

-- six bits of the expansion of a half
pub window_is : (i x : ℕ) → i < 8 → x < 2 ^ 32 → bits 6 (wrapped x / 2 ^ (28 - 4 * i)) ≡ take 6 (drop (6 * i) (chosen expansion (bits 32 x)))
unfolding expansion bits windows zero_window
window_is i x h l =
    let k : ℕ = 28 - 4 * i in
    let ps : List ℕ = take 6 (drop (6 * i) expansion) in
    let f : ℕ → List ℕ = λ y. bits 6 (wrapped y / 2 ^ k) in
    let g : ℕ → List ℕ = λ y. chosen ps (bits 32 y) in
    let z : f 0 ≡ g 0 = same_is (f 0) (g 0) (all_below_at zero_window 8 tt i h) in
    agree f g (bits_additive 6 (λ y. wrapped y / 2 ^ k) (lower_linear k wrapped wrapped_linear)) (chosen_additive ps 32) z 32 (all_below_at windows 8 tt i h) x l
    ∙ sym (ap (take 6) (drop-map (λ p. get_or (bits 32 x) (p - 1) 0) (6 * i) expansion) ∙ take-map (λ p. get_or (bits 32 x) (p - 1) 0) 6 (drop (6 * i) expansion))
