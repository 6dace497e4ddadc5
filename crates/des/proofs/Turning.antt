-- The rounds on words.
use Rattle.std.proofs.Common.{◌≡◌, ℕ, ◌+◌, ◌*◌, ◌/◌, ◌%◌, ◌^◌, ◌<◌, ◌≤◌, List, [], ◌∷◌, map, length, reverse, get_or, drop, sym, refl, ap, ◌∙◌}
use lib.Bits.{bit_xor}
use mathlib.Core.List.{reverse_aux}
use Rattle.std.proofs.lemmas.List.{drop_more, drop_all}
use Rattle.byte_lists.specs.Bytes.{xors}
use Rattle.des_tables.specs.Bits.{bits}
use Rattle.des_tables.proofs.Bits.{bits_xor, bits_mod, take_bits, drop_bits, bits_joined}
use Rattle.des.specs.Feistel.{Halves, halves, crossed, turns}
use Rattle.des.specs.Des.{mixed}

-- the round keys from the last to the first, as words and as bits
onto : (f : ℕ → List ℕ) (xs ys : List ℕ) → map f (reverse_aux xs ys) ≡ reverse_aux (map f xs) (map f ys)
onto f [] ys = refl
onto f (x ∷ xs) ys = onto f xs (x ∷ ys)

pub map_reversed : (f : ℕ → List ℕ) (xs : List ℕ) → map f (reverse xs) ≡ reverse (map f xs)
map_reversed f xs = onto f xs []

abbrev pub both : ℕ → ℕ → Halves
both l r = record { left = bits 32 l; right = bits 32 r }

pub rounds_none : (x : ℕ) (l r : ℕ) → l ≡ x / 2 ^ 32 → r ≡ x % 2 ^ 32 → both l r ≡ halves (bits 64 x)
rounds_none x l r el er =
    ap (λ y. both y r) el
    ∙ ap (both (x / 4294967296)) er
    ∙ ap (λ y. record { left = bits 32 (x / 4294967296); right = y }) (bits_mod 32 x ∙ sym (drop_bits 32 32 x))
    ∙ ap (λ y. record { left = y; right = drop 32 (bits 64 x) }) (sym (take_bits 32 32 x))

-- one round more
pub rounds_more : (ks : List (List ℕ)) (i l r m n g k : ℕ) (t : Halves) → m ≡ r → n ≡ bit_xor l g → i < length ks → get_or ks i [] ≡ bits 48 k → bits 32 g ≡ mixed (bits 32 r) (bits 48 k)
    → turns mixed (drop i ks) (both l r) ≡ t → turns mixed (drop (i + 1) ks) (both m n) ≡ t
unfolding turns
rounds_more ks i l r m n g k t em en h ek eg was =
    let e : drop i ks ≡ bits 48 k ∷ drop (i + 1) ks = drop_more ks i [] h ∙ ap (λ y. y ∷ drop (i + 1) ks) ek in
    let b : bits 32 (bit_xor l g) ≡ xors (bits 32 l) (mixed (bits 32 r) (bits 48 k)) = bits_xor 32 l g ∙ ap (xors (bits 32 l)) eg in
    ap (λ y. turns mixed (drop (i + 1) ks) (both y n)) em
    ∙ ap (λ y. turns mixed (drop (i + 1) ks) (both r y)) en
    ∙ ap (λ y. turns mixed (drop (i + 1) ks) (record { left = bits 32 r; right = y })) b
    ∙ sym (ap (λ y. turns mixed y (both l r)) e) ∙ was

pub rounds_all : (ks : List (List ℕ)) (i l r x : ℕ) (t : Halves) → length ks ≤ i → l < 2 ^ 32 → x ≡ r * 2 ^ 32 + l → turns mixed (drop i ks) (both l r) ≡ t → bits 64 x ≡ crossed t
unfolding turns
rounds_all ks i l r x t h hl ex was =
    let e : both l r ≡ t = sym (ap (λ y. turns mixed y (both l r)) (drop_all i ks h)) ∙ was in
    ap (bits 64) ex ∙ bits_joined 32 32 r l hl ∙ ap crossed e
