-- Lists whose entries are 0 or 1: what DES gives is one, and it is the bits of the number that it makes.
use Rattle.std.specs.Prelude.{◌≡◌, ℕ, zero, suc, ◌+◌, ◌-◌, ◌*◌, ◌/◌, ◌%◌, ◌<◌, List, [], ◌∷◌, ◌++◌, length, take, drop, slice_index}
use Rattle.std.proofs.Common.{ap, sym, ◌∙◌, add-zero, zero-add, arith, lit<}
use Rattle.std.proofs.lemmas.Nat.{xor_lt}
use Rattle.std.specs.Int.Digits.{number_from_digits_after}
use Rattle.std.proofs.lemmas.List.{append_assoc, append-nil, get_or-drop}
use Rattle.byte_lists.specs.Bytes.{xors}
use Rattle.des_tables.specs.Bits.{bits, value, chosen}
use Rattle.des_tables.specs.Tables.{ip, fp, straight, expansion}
use Rattle.des_tables.specs.Boxes.{selected, boxes}
use Rattle.des_tables.proofs.Bits.{bits_push}
use Rattle.des.specs.Feistel.{Halves, halves, crossed, turn, turns}
use Rattle.des.specs.Des.{mixed, crypt}

abbrev pub Binary : List ℕ → Type 0
Binary xs = (i : ℕ) → slice_index xs i < 2

binary_append : (xs ys : List ℕ) → Binary xs → Binary ys → Binary (xs ++ ys)
binary_append [] ys h g i = g i
binary_append (x ∷ xs) ys h g zero = h 0
binary_append (x ∷ xs) ys h g (suc i) = binary_append xs ys (λ j. h (suc j)) g i

binary_take : (n : ℕ) (xs : List ℕ) → Binary xs → Binary (take n xs)
binary_take zero xs h i = lit< tt
binary_take (suc n) [] h i = lit< tt
binary_take (suc n) (x ∷ xs) h zero = h 0
binary_take (suc n) (x ∷ xs) h (suc i) = binary_take n xs (λ j. h (suc j)) i

binary_drop : (n : ℕ) (xs : List ℕ) → Binary xs → Binary (drop n xs)
binary_drop n xs h i = let e = get_or-drop n xs i 0 in omega (arith, h (n + i))

binary_xors : (xs ks : List ℕ) → Binary xs → Binary ks → Binary (xors xs ks)
unfolding xors
binary_xors [] ks h g i = h i
binary_xors (x ∷ xs) [] h g i = h i
binary_xors (x ∷ xs) (k ∷ ks) h g zero = xor_lt 1 x k (h 0) (g 0)
binary_xors (x ∷ xs) (k ∷ ks) h g (suc i) = binary_xors xs ks (λ j. h (suc j)) (λ j. g (suc j)) i

binary_chosen : (ps xs : List ℕ) → Binary xs → Binary (chosen ps xs)
binary_chosen [] xs h i = lit< tt
binary_chosen (p ∷ ps) xs h zero = h (p - 1)
binary_chosen (p ∷ ps) xs h (suc i) = binary_chosen ps xs h i

one_bit : (x : ℕ) → Binary (x % 2 ∷ [])
one_bit x zero = omega arith
one_bit x (suc i) = lit< tt

pub binary_bits : (n x : ℕ) → Binary (bits n x)
unfolding bits
binary_bits zero x i = lit< tt
binary_bits (suc n) x i = binary_append (bits n (x / 2)) (x % 2 ∷ []) (binary_bits n (x / 2)) (one_bit x) i

binary_boxes : (n b : ℕ) (xs : List ℕ) → Binary (boxes n b xs)
unfolding boxes selected
binary_boxes zero b xs i = lit< tt
binary_boxes (suc n) b xs i = binary_append (selected b (take 6 xs)) (boxes n (suc b) (drop 6 xs)) (binary_bits 4 _) (binary_boxes n (suc b) (drop 6 xs)) i

binary_mixed : (r k : List ℕ) → Binary (mixed r k)
unfolding mixed
binary_mixed r k = let s = boxes 8 0 (xors (chosen expansion r) k) in binary_chosen straight s (binary_boxes 8 0 (xors (chosen expansion r) k))

binary_turns : (ks : List (List ℕ)) (h : Halves) → Binary h.left → Binary h.right → Binary (crossed (turns mixed ks h))
unfolding turns
binary_turns [] h l r = binary_append h.right h.left r l
binary_turns (k ∷ ks) h l r = binary_turns ks (turn mixed k h) r (binary_xors h.left (mixed h.right k) l (binary_mixed h.right k))

pub binary_crypt : (ks : List (List ℕ)) (xs : List ℕ) → Binary xs → Binary (crypt ks xs)
unfolding crypt
binary_crypt ks xs h =
    let p = binary_chosen ip xs h in
    binary_chosen fp (crossed (turns mixed ks (halves (chosen ip xs)))) (binary_turns ks (halves (chosen ip xs)) (binary_take 32 (chosen ip xs) p) (binary_drop 32 (chosen ip xs) p))

bits_after : (xs : List ℕ) (m acc : ℕ) → Binary xs → bits (m + length xs) (number_from_digits_after 2 acc xs) ≡ bits m acc ++ xs
bits_after [] m acc h = ap (λ k. bits k acc) (add-zero m) ∙ sym (append-nil (bits m acc))
bits_after (x ∷ xs) m acc h =
    let e : m + suc (length xs) ≡ (m + 1) + length xs = omega arith in
    ap (λ k. bits k (number_from_digits_after 2 (acc * 2 + x) xs)) e
    ∙ bits_after xs (m + 1) (acc * 2 + x) (λ i. h (suc i))
    ∙ ap (λ ys. ys ++ xs) (bits_push m acc x (h 0))
    ∙ append_assoc (bits m acc) (x ∷ []) xs

pub bits_value : (n : ℕ) (xs : List ℕ) → length xs ≡ n → Binary xs → bits n (value xs) ≡ xs
unfolding bits
bits_value n xs l h = ap (λ k. bits k (value xs)) (sym l ∙ sym (zero-add (length xs))) ∙ bits_after xs 0 0 h
