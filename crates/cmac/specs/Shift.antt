-- Shifting and doubling a block.
use Rattle.std.specs.Prelude.{◌≡◌, ℕ, zero, suc, ◌+◌, ◌-◌, ◌*◌, ◌/◌, ◌%◌, ◌<◌, ◌≤◌, Bool, true, false, cond, List, [], ◌∷◌, length, take, drop, set, replicate, bit_or, bit_xor, nat_lt, slice_index, slice_index_or, slice_set, refl}
use Rattle.std.proofs.Common.{sym, ap, ◌∙◌, ⊎_elim, le_of_suc-le-suc, not-suc-le-zero, add-one, arith, lit<}
use Rattle.std.specs.Int.Bits.{xor_zero_r}
use Rattle.std.proofs.lemmas.Nat.{or_shifted}
use Rattle.std.proofs.lemmas.List.{set-get_or, get_or-append_right, get_or-drop, length-take-le}
use Rattle.std.proofs.lemmas.Bool.{cases_lt, lt-ltb, le-ltb}
use Rattle.byte_lists.specs.Bytes.{Bytes, Block, xors}
use Rattle.byte_lists.proofs.Facts.{bytes_cons, bytes_append, bytes_zeros, bytes_none, length_xors, bytes_xors}
use Rattle.byte_lists.proofs.Written.{over, over_more}
use Rattle.cmac.specs.Joins.{xors_zeros, xors_behind}
use Rattle.cmac.specs.Cmac.{shifted, reduction, doubled}

-- What such a loop has not reached is as it was.
over_rest : (ts xs : List ℕ) (i j : ℕ) → i ≤ length ts → i ≤ j → slice_index (over ts xs i) j ≡ slice_index xs j
over_rest ts xs i j h k =
    let there : i + (j - i) ≡ j = omega arith in
    get_or-append_right (take i ts) (drop i xs) i j 0 (length-take-le i ts h) k ∙ get_or-drop i xs (j - i) 0 ∙ ap (λ n. slice_index xs n) there

-- The shifted byte has room for the bit behind it.
pub or_behind : (x y : ℕ) → y < 256 → bit_or (x * 2 % 256) (y / 128) ≡ x * 2 % 256 + y / 128
or_behind x y h =
    let even : x * 2 % 256 ≡ x % 128 * 2 = omega arith in
    let bit : y / 128 < 2 = omega arith in
    ap (λ n. bit_or n (y / 128)) even ∙ or_shifted (x % 128) 1 (y / 128) bit ∙ ap (λ n. n + y / 128) (sym even)

pub length_shifted : (xs : List ℕ) → length (shifted xs) ≡ length xs
unfolding shifted
length_shifted [] = refl
length_shifted (x ∷ xs) = ap suc (length_shifted xs)

pub get_or_shifted : (xs : List ℕ) (i : ℕ) → i < length xs → slice_index (shifted xs) i ≡ slice_index xs i * 2 % 256 + slice_index xs (suc i) / 128
unfolding shifted
get_or_shifted [] i h = absurd (not-suc-le-zero h)
get_or_shifted (x ∷ xs) zero h = refl
get_or_shifted (x ∷ xs) (suc i) h = get_or_shifted xs i (le_of_suc-le-suc h)

-- The step of a loop that shifts a block from the front.
pub shift_more : (xs b : List ℕ) (i r : ℕ) → i < length xs → b ≡ over (shifted xs) xs i → r ≡ slice_index b i * 2 % 256 + slice_index b (i + 1) / 128
    → slice_set b i r ≡ over (shifted xs) xs (i + 1)
shift_more xs b i r h e v =
    let long : length (shifted xs) ≡ length xs = length_shifted xs in
    let here : slice_index_or b i 0 ≡ slice_index_or xs i 0 = ap (λ zs. slice_index zs i) e ∙ over_rest (shifted xs) xs i i (omega arith) (omega arith) in
    let behind : slice_index_or b (i + 1) 0 ≡ slice_index_or xs (i + 1) 0 = ap (λ zs. slice_index zs (i + 1)) e ∙ over_rest (shifted xs) xs i (i + 1) (omega arith) (omega arith) in
    let value : r ≡ slice_index_or (shifted xs) i 0 =
    v ∙ ap (λ n. n * 2 % 256 + slice_index b (i + 1) / 128) here ∙ ap (λ n. slice_index xs i * 2 % 256 + n / 128) behind
    ∙ ap (λ j. slice_index xs i * 2 % 256 + slice_index xs j / 128) (add-one i) ∙ sym (get_or_shifted xs i h) in
    ap (λ zs. set zs i r) e ∙ ap (set (over (shifted xs) xs i) i) value ∙ over_more (shifted xs) xs i 0 long (omega arith)

-- The same, where the byte behind is read from the block as it was.
pub shift_on : (xs b : List ℕ) (i r : ℕ) → i < length xs → b ≡ over (shifted xs) xs i → r ≡ slice_index b i * 2 % 256 + slice_index xs (i + 1) / 128
    → slice_set b i r ≡ over (shifted xs) xs (i + 1)
shift_on xs b i r h e v =
    let long : length (shifted xs) ≡ length xs = length_shifted xs in
    let here : slice_index_or b i 0 ≡ slice_index_or xs i 0 = ap (λ zs. slice_index zs i) e ∙ over_rest (shifted xs) xs i i (omega arith) (omega arith) in
    let value : r ≡ slice_index_or (shifted xs) i 0 =
    v ∙ ap (λ n. n * 2 % 256 + slice_index xs (i + 1) / 128) here
    ∙ ap (λ j. slice_index xs i * 2 % 256 + slice_index xs j / 128) (add-one i) ∙ sym (get_or_shifted xs i h) in
    ap (λ zs. set zs i r) e ∙ ap (set (over (shifted xs) xs i) i) value ∙ over_more (shifted xs) xs i 0 long (omega arith)

bytes_shifted : (xs : List ℕ) → Bytes xs → Bytes (shifted xs)
unfolding shifted
bytes_shifted [] h i = h i
bytes_shifted (x ∷ xs) h zero = omega (arith, h 1)
bytes_shifted (x ∷ xs) h (suc i) = bytes_shifted xs (λ j. h (suc j)) i

-- The carry changes the last byte, or nothing.
joined_carry : (x : ℕ) (ys : List ℕ) → x < 256 → length ys ≡ 16 → slice_set ys 15 (bit_xor (slice_index ys 15) (x / 128 * 0x87)) ≡ cond (nat_lt x 128) ys (xors ys reduction)
joined_carry x ys h l = ⊎_elim small large (cases_lt x 128)
  where
    small : x < 128 → slice_set ys 15 (bit_xor (slice_index ys 15) (x / 128 * 0x87)) ≡ cond (nat_lt x 128) ys (xors ys reduction)
    small k =
        let none : x / 128 * 0x87 ≡ 0 = omega arith in
        ap (λ n. set ys 15 (bit_xor (slice_index ys 15) n)) none
        ∙ ap (λ y. set ys 15 y) (xor_zero_r (slice_index ys 15))
        ∙ set-get_or ys 15 0
        ∙ ap (λ t. cond t ys (xors ys reduction)) (sym (lt-ltb x 128 k))

    large : 128 ≤ x → slice_set ys 15 (bit_xor (slice_index ys 15) (x / 128 * 0x87)) ≡ cond (nat_lt x 128) ys (xors ys reduction)
    large k =
        let one : x / 128 * 0x87 ≡ 0x87 = omega arith in
        let last : 15 < length ys = omega arith in
        ap (λ n. set ys 15 (bit_xor (slice_index ys 15) n)) one
        ∙ sym (xors_behind ys (replicate 15 0) 0x87 0 last ∙ ap (λ zs. set zs 15 (bit_xor (slice_index zs 15) 0x87)) (xors_zeros 15 ys))
        ∙ ap (λ t. cond t ys (xors ys reduction)) (sym (le-ltb x 128 k))

pub doubled_by : (xs ys : List ℕ) → slice_index xs 0 < 256 → length xs ≡ 16 → ys ≡ shifted xs → slice_set ys 15 (bit_xor (slice_index ys 15) (slice_index xs 0 / 128 * 0x87)) ≡ doubled xs
unfolding doubled
doubled_by xs ys h l e =
    ap (λ zs. set zs 15 (bit_xor (slice_index zs 15) (slice_index xs 0 / 128 * 0x87))) e ∙ joined_carry (slice_index xs 0) (shifted xs) h (length_shifted xs ∙ l)

block_reduction : Block 16 reduction
block_reduction = (refl, bytes_append (replicate 15 0) (0x87 ∷ []) (bytes_zeros 15) (bytes_cons 0x87 [] (lit< tt) bytes_none))

pub block_doubled : (b : List ℕ) → Block 16 b → Block 16 (doubled b)
unfolding doubled
block_doubled b (l, h) = by_carry (nat_lt (slice_index b 0) 128)
  where
    by_carry : (t : Bool) → Block 16 (cond t (shifted b) (xors (shifted b) reduction))
    by_carry true = (length_shifted b ∙ l, bytes_shifted b h)
    by_carry false = (length_xors (shifted b) reduction ∙ length_shifted b ∙ l, bytes_xors (shifted b) reduction (bytes_shifted b h) block_reduction.1)
