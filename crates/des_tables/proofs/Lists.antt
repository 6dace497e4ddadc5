-- Exclusive or of lists, and choices of bits, as lists.
use Rattle.std.proofs.Common.{◌≡◌, ℕ, zero, suc, ◌-◌, List, [], ◌∷◌, ◌++◌, length, get_or, take, drop, replicate, sym, refl, ap, ◌∙◌, arith}
use lib.Bits.{bit_xor, xor_assoc, xor_zero_r}
use Rattle.byte_lists.specs.Bytes.{xors}
use Rattle.des_tables.specs.Bits.{chosen}

pub xors_none : (xs : List ℕ) → xors xs [] ≡ xs
unfolding xors
xors_none [] = refl
xors_none (x ∷ xs) = refl

pub take_xors : (n : ℕ) (xs ks : List ℕ) → take n (xors xs ks) ≡ xors (take n xs) (take n ks)
unfolding xors
take_xors zero xs ks = refl
take_xors (suc n) [] ks = refl
take_xors (suc n) (x ∷ xs) [] = refl
take_xors (suc n) (x ∷ xs) (k ∷ ks) = ap (λ zs. bit_xor x k ∷ zs) (take_xors n xs ks)

pub drop_xors : (n : ℕ) (xs ks : List ℕ) → drop n (xors xs ks) ≡ xors (drop n xs) (drop n ks)
unfolding xors
drop_xors zero xs ks = refl
drop_xors (suc n) [] ks = refl
drop_xors (suc n) (x ∷ xs) [] = sym (xors_none (drop n xs))
drop_xors (suc n) (x ∷ xs) (k ∷ ks) = drop_xors n xs ks

pub get_or_both : (xs ks : List ℕ) (i : ℕ) → length xs ≡ length ks → get_or (xors xs ks) i 0 ≡ bit_xor (get_or xs i 0) (get_or ks i 0)
unfolding xors
get_or_both [] [] i e = refl
get_or_both [] (k ∷ ks) i e = absurd (omega arith)
get_or_both (x ∷ xs) [] i e = absurd (omega arith)
get_or_both (x ∷ xs) (k ∷ ks) zero e = refl
get_or_both (x ∷ xs) (k ∷ ks) (suc i) e = get_or_both xs ks i (omega arith)

pub chosen_xors : (ps xs ks : List ℕ) → length xs ≡ length ks → chosen ps (xors xs ks) ≡ xors (chosen ps xs) (chosen ps ks)
unfolding xors
chosen_xors [] xs ks e = refl
chosen_xors (p ∷ ps) xs ks e =
    ap (λ z. z ∷ chosen ps (xors xs ks)) (get_or_both xs ks (p - 1) e) ∙ ap (λ zs. bit_xor (get_or xs (p - 1) 0) (get_or ks (p - 1) 0) ∷ zs) (chosen_xors ps xs ks e)

pub xors_push : (xs ys : List ℕ) (a b : ℕ) → length xs ≡ length ys → xors (xs ++ (a ∷ [])) (ys ++ (b ∷ [])) ≡ xors xs ys ++ (bit_xor a b ∷ [])
unfolding xors
xors_push [] [] a b e = refl
xors_push [] (y ∷ ys) a b e = absurd (omega arith)
xors_push (x ∷ xs) [] a b e = absurd (omega arith)
xors_push (x ∷ xs) (y ∷ ys) a b e = ap (λ zs. bit_xor x y ∷ zs) (xors_push xs ys a b (omega arith))

pub xors_assoc : (xs ys zs : List ℕ) → length xs ≡ length ys → xors (xors xs ys) zs ≡ xors xs (xors ys zs)
unfolding xors
xors_assoc [] ys zs e = refl
xors_assoc (x ∷ xs) [] zs e = absurd (omega arith)
xors_assoc (x ∷ xs) (y ∷ ys) [] e = refl
xors_assoc (x ∷ xs) (y ∷ ys) (z ∷ zs) e =
    ap (λ w. w ∷ xors (xors xs ys) zs) (xor_assoc x y z) ∙ ap (λ ws. bit_xor x (bit_xor y z) ∷ ws) (xors_assoc xs ys zs (omega arith))

-- n bits that are 0
abbrev pub zeros : ℕ → List ℕ
zeros n = replicate n 0

pub xors_zeros : (xs : List ℕ) (n : ℕ) → xors xs (zeros n) ≡ xs
unfolding xors
xors_zeros [] n = refl
xors_zeros (x ∷ xs) zero = refl
xors_zeros (x ∷ xs) (suc n) = ap (λ y. y ∷ xors xs (zeros n)) (xor_zero_r x) ∙ ap (λ ys. x ∷ ys) (xors_zeros xs n)

zeros_xors : (ys : List ℕ) → xors (zeros (length ys)) ys ≡ ys
unfolding xors
zeros_xors [] = refl
zeros_xors (y ∷ ys) = ap (λ zs. y ∷ zs) (zeros_xors ys)

-- a list is its front, with zeros behind, and its end, with zeros before, by exclusive or
pub parts : (xs ys : List ℕ) → xors (xs ++ zeros (length ys)) (zeros (length xs) ++ ys) ≡ xs ++ ys
unfolding xors
parts [] ys = zeros_xors ys
parts (x ∷ xs) ys =
    ap (λ z. z ∷ xors (xs ++ zeros (length ys)) (zeros (length xs) ++ ys)) (xor_zero_r x) ∙ ap (λ zs. x ∷ zs) (parts xs ys)

pub behind_zeros : (n : ℕ) (xs ys : List ℕ) → xors (zeros n ++ xs) (zeros n ++ ys) ≡ zeros n ++ xors xs ys
unfolding xors
behind_zeros zero xs ys = refl
behind_zeros (suc n) xs ys = ap (λ zs. 0 ∷ zs) (behind_zeros n xs ys)
