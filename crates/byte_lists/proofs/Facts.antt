-- What is known of lists of bytes and of their exclusive or.
use Rattle.std.proofs.Common.{◌≡◌, ℕ, zero, suc, ◌+◌, ◌<◌, List, [], ◌∷◌, ◌++◌, length, get_or, take, drop, replicate, refl, ap, ◌∙◌, suc-le-suc, le_of_suc-le-suc, not-suc-le-zero, arith, lit<, w8, Fits}
use Rattle.std.proofs.lemmas.List.{get_or-drop}
use lib.Bits.{bit_xor, xor_assoc, xor_self, xor_zero_r, xor_lt}
use Rattle.byte_lists.specs.Bytes.{Bytes, xors}

pub bytes_of : (xs : List ℕ) → ((i : ℕ) → Fits w8 (get_or xs i 0)) → Bytes xs
bytes_of xs h i = omega (arith, (h i).fits)

pub bytes_below : (xs : List ℕ) → ((i : ℕ) → i < length xs → get_or xs i 0 < 256) → Bytes xs
bytes_below [] h i = lit< tt
bytes_below (x ∷ xs) h zero = h 0 (omega arith)
bytes_below (x ∷ xs) h (suc i) = bytes_below xs (λ j g. h (suc j) (suc-le-suc g)) i

pub bytes_cons : (x : ℕ) (xs : List ℕ) → x < 256 → Bytes xs → Bytes (x ∷ xs)
bytes_cons x xs h hs zero = h
bytes_cons x xs h hs (suc i) = hs i

pub bytes_none : Bytes []
bytes_none i = lit< tt

pub bytes_append : (xs ys : List ℕ) → Bytes xs → Bytes ys → Bytes (xs ++ ys)
bytes_append [] ys h g i = g i
bytes_append (x ∷ xs) ys h g zero = h 0
bytes_append (x ∷ xs) ys h g (suc i) = bytes_append xs ys (λ j. h (suc j)) g i

pub bytes_drop : (n : ℕ) (xs : List ℕ) → Bytes xs → Bytes (drop n xs)
bytes_drop n xs h i = let e = get_or-drop n xs i 0 in omega (arith, h (n + i))

pub bytes_take : (n : ℕ) (xs : List ℕ) → Bytes xs → Bytes (take n xs)
bytes_take zero xs h i = lit< tt
bytes_take (suc n) [] h i = lit< tt
bytes_take (suc n) (x ∷ xs) h zero = h 0
bytes_take (suc n) (x ∷ xs) h (suc i) = bytes_take n xs (λ j. h (suc j)) i

pub bytes_zeros : (n : ℕ) → Bytes (replicate n 0)
bytes_zeros zero i = lit< tt
bytes_zeros (suc n) zero = lit< tt
bytes_zeros (suc n) (suc i) = bytes_zeros n i

pub xor_undone : (x k : ℕ) → bit_xor (bit_xor x k) k ≡ x
xor_undone x k = xor_assoc x k k ∙ ap (bit_xor x) (xor_self k) ∙ xor_zero_r x

pub xors_undone : (xs ks : List ℕ) → xors (xors xs ks) ks ≡ xs
unfolding xors
xors_undone [] ks = refl
xors_undone (x ∷ xs) [] = refl
xors_undone (x ∷ xs) (k ∷ ks) = rw (xor_undone, xors_undone xs ks)

pub length_xors : (xs ks : List ℕ) → length (xors xs ks) ≡ length xs
unfolding xors
length_xors [] ks = refl
length_xors (x ∷ xs) [] = refl
length_xors (x ∷ xs) (k ∷ ks) = ap suc (length_xors xs ks)

pub bytes_xors : (xs ks : List ℕ) → Bytes xs → Bytes ks → Bytes (xors xs ks)
unfolding xors
bytes_xors [] ks h g i = h i
bytes_xors (x ∷ xs) [] h g i = h i
bytes_xors (x ∷ xs) (k ∷ ks) h g zero = xor_lt 8 x k (h 0) (g 0)
bytes_xors (x ∷ xs) (k ∷ ks) h g (suc i) = bytes_xors xs ks (λ j. h (suc j)) (λ j. g (suc j)) i

pub get_or_xors : (xs ks : List ℕ) (i : ℕ) → i < length xs → i < length ks → get_or (xors xs ks) i 0 ≡ bit_xor (get_or xs i 0) (get_or ks i 0)
unfolding xors
get_or_xors [] ks i h g = absurd (not-suc-le-zero h)
get_or_xors (x ∷ xs) [] i h g = absurd (not-suc-le-zero g)
get_or_xors (x ∷ xs) (k ∷ ks) zero h g = refl
get_or_xors (x ∷ xs) (k ∷ ks) (suc i) h g = get_or_xors xs ks i (le_of_suc-le-suc h) (le_of_suc-le-suc g)
