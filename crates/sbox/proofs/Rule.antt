-- The rule of the substitution table at each entry, by one test of the whole table, and that the two tables undo each other.
use Rattle.std.proofs.Common.{◌≡◌, ℕ, zero, suc, ◌<◌, Bool, cond, T, eqb, ltb, List, length, get_or, sym, refl, subst, lit<, eqb→eq, leb→le}
use Rattle.byte_lists.proofs.Tables.{both, both_left, both_right, every, every_at, small_at}
use Rattle.sbox.specs.Field.{mul, affine, Substitutes}
use Rattle.sbox.specs.Tables.{sbox, sub, inv_sbox, inv_sub}

-- The power of a whose exponent is 2^(k + 1) - 2.
abbrev power : ℕ → ℕ → ℕ
power zero a = 1
power (suc k) a = let b = mul a a in mul b (power k b)

-- The inverse is the power 254.
abbrev inverse_of : ℕ → ℕ
inverse_of a = power 7 a

abbrev inverted : ℕ → Bool
inverted x = both (ltb (inverse_of x) 256) (eqb (mul x (inverse_of x)) (cond (eqb x 0) 0 1))

abbrev substitutes : ℕ → ℕ → Bool
substitutes x s = both (inverted x) (eqb s (affine (inverse_of x)))

inverse_zero : (x : ℕ) → x ≡ 0 → inverse_of x ≡ 0
unfolding mul
inverse_zero x e = let P : ℕ → Type 0 = λ y. inverse_of y ≡ 0 in subst P (sym e) refl

told : (x s : ℕ) → T (substitutes x s) → Substitutes x s
told x s t =
    let a = both_left (inverted x) (eqb s (affine (inverse_of x))) t in
    let b = eqb (mul x (inverse_of x)) (cond (eqb x 0) 0 1) in
    record {
      inverse = inverse_of x;
      inverts = (leb→le _ _ (both_left (ltb (inverse_of x) 256) b a), eqb→eq _ _ (both_right (ltb (inverse_of x) 256) b a), inverse_zero x);
      mapped = eqb→eq _ _ (both_right (inverted x) (eqb s (affine (inverse_of x))) t);
    }

entry : (xs : List ℕ) → T (every substitutes 0 xs) → (x : ℕ) → x < length xs → Substitutes x (get_or xs x 0)
entry xs t x h = told x (get_or xs x 0) (every_at substitutes xs 0 t x h)

-- Each entry of the table, by one computed test of them all.
pub sbox_rule : (x : ℕ) → x < 256 → Substitutes x (sub x)
unfolding sbox mul
sbox_rule x h = entry sbox tt x h

pub inv_sub_sub : (x : ℕ) → x < 256 → inv_sub (sub x) ≡ x
unfolding sbox inv_sbox
inv_sub_sub x h = eqb→eq _ _ (every_at (λ k s. eqb (inv_sub s) k) sbox 0 tt x h)

pub sub_inv_sub : (x : ℕ) → x < 256 → sub (inv_sub x) ≡ x
unfolding sbox inv_sbox
sub_inv_sub x h = eqb→eq _ _ (every_at (λ k s. eqb (sub s) k) inv_sbox 0 tt x h)

pub sub_byte : (x : ℕ) → sub x < 256
unfolding sbox
sub_byte = small_at 256 (lit< tt) sbox tt

pub inv_sub_byte : (x : ℕ) → inv_sub x < 256
unfolding inv_sbox
inv_sub_byte = small_at 256 (lit< tt) inv_sbox tt
