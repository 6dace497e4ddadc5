-- Lists joined into a block: zeros, a shorter list, and one with a byte and zeros behind it.
use Rattle.std.specs.Prelude.{◌≡◌, ℕ, zero, suc, ◌<◌, ◌≤◌, List, [], ◌∷◌, ◌++◌, length, take, drop, replicate, bit_xor, slice_index, slice_set, refl}
use Rattle.std.proofs.Common.{sym, ap, ◌∙◌, le_of_suc-le-suc, not-suc-le-zero}
use Rattle.std.specs.Int.Bits.{xor_zero_r}
use Rattle.byte_lists.specs.Bytes.{xors}

pub xors_zeros : (n : ℕ) (xs : List ℕ) → xors xs (replicate n 0) ≡ xs
unfolding xors
xors_zeros n [] = refl
xors_zeros zero (x ∷ xs) = refl
xors_zeros (suc n) (x ∷ xs) = ap (λ y. y ∷ xors xs (replicate n 0)) (xor_zero_r x) ∙ ap (λ ys. x ∷ ys) (xors_zeros n xs)

xors_none : (xs : List ℕ) → xors xs [] ≡ xs
unfolding xors
xors_none [] = refl
xors_none (x ∷ xs) = refl

-- Only the front of xs meets the shorter list ks.
xors_front : (xs ks : List ℕ) → length ks ≤ length xs → xors (take (length ks) xs) ks ++ drop (length ks) xs ≡ xors xs ks
unfolding xors
xors_front xs [] h = sym (xors_none xs)
xors_front [] (k ∷ ks) h = absurd (not-suc-le-zero h)
xors_front (x ∷ xs) (k ∷ ks) h = ap (λ ys. bit_xor x k ∷ ys) (xors_front xs ks (le_of_suc-le-suc h))

-- Behind ks, one byte changes the byte that it meets, and zeros change nothing.
pub xors_behind : (xs ks : List ℕ) (v n : ℕ) → length ks < length xs
    → xors xs (ks ++ v ∷ replicate n 0) ≡ slice_set (xors xs ks) (length ks) (bit_xor (slice_index (xors xs ks) (length ks)) v)
unfolding xors
xors_behind [] ks v n h = absurd (not-suc-le-zero h)
xors_behind (x ∷ xs) [] v n h = ap (λ ys. bit_xor x v ∷ ys) (xors_zeros n xs)
xors_behind (x ∷ xs) (k ∷ ks) v n h = ap (λ ys. bit_xor x k ∷ ys) (xors_behind xs ks v n (le_of_suc-le-suc h))

-- The state j ++ .. after the front of xs, k bytes as the code has it, was joined with ks.
pub joined_front : (xs ks j : List ℕ) (k : ℕ) → k ≡ length ks → length ks ≤ length xs → j ≡ xors (take k xs) ks → j ++ drop k xs ≡ xors xs ks
joined_front xs ks j k e h v =
    ap (λ n. j ++ drop n xs) e ∙ ap (λ zs. zs ++ drop (length ks) xs) (v ∙ ap (λ n. xors (take n xs) ks) e) ∙ xors_front xs ks h
