-- The key schedule on words.
use Rattle.std.proofs.Common.{◌≡◌, ℕ, ◌+◌, ◌-◌, ◌*◌, ◌/◌, ◌%◌, ◌^◌, ◌<◌, ◌≤◌, List, [], ◌∷◌, ◌++◌, map, length, get_or, take, drop, set, sym, ap, ◌∙◌, subst, add_comm, arith}
use lib.ListN.{length-map}
use Rattle.std.proofs.lemmas.List.{append_assoc, append-nil, drop_more, take_all, take_more_set, map-set}
use Rattle.std.proofs.lemmas.Nat.{shl-shr, shl_whole, shr_below, mod-pow-add, mod_low, mod_below, mul-add-lt, pow-add, pow_pos}
use Rattle.des_tables.specs.Bits.{bits, chosen}
use Rattle.des_tables.specs.Tables.{pc1, pc2, shifts}
use Rattle.des_tables.proofs.Bits.{bits_mod, take_bits, drop_bits, bits_joined}
use Rattle.des.specs.Schedule.{shifted, round_keys, schedule}

-- a half of j + n bits, shifted by n
module _ (j n half : ℕ) (h : half < 2 ^ (n + j)) where
  low : (half * 2 ^ n) % 2 ^ (j + n) ≡ (half % 2 ^ j) * 2 ^ n
  low =
      let z : half * 2 ^ n % 2 ^ n ≡ 0 = ap (λ y. y % 2 ^ n) (omega arith) ∙ mod_low half n 0 (pow_pos n) in
      mod-pow-add (half * 2 ^ n) j n ∙ ap (λ y. y % 2 ^ j * 2 ^ n + half * 2 ^ n % 2 ^ n) (shl-shr half n) ∙ omega arith

  pub shifted_is : bits (j + n) (half * 2 ^ n % 2 ^ (j + n) + half / 2 ^ j) ≡ shifted n (bits (n + j) half)
  shifted_is =
      let b : half / 2 ^ j < 2 ^ n = shr_below half n j h in
      ap (λ y. bits (j + n) (y + half / 2 ^ j)) low
      ∙ bits_joined j n (half % 2 ^ j) (half / 2 ^ j) b
      ∙ ap (λ ys. ys ++ bits n (half / 2 ^ j)) (bits_mod j half ∙ sym (drop_bits n j half))
      ∙ ap (λ ys. drop n (bits (n + j) half) ++ ys) (sym (take_bits n j half))

  pub shifted_fits : half * 2 ^ n % 2 ^ (j + n) + half / 2 ^ j < 2 ^ (j + n)
  shifted_fits =
      let m : half % 2 ^ j < 2 ^ j = mod_below half (2 ^ j) (pow_pos j) in
      let e : 2 ^ (j + n) ≡ 2 ^ n * 2 ^ j = ap (λ k. 2 ^ k) (add_comm j n) ∙ pow-add 2 n j in
      omega (arith, low, mul-add-lt (half % 2 ^ j) (2 ^ n) (half / 2 ^ j) (2 ^ j) m (shr_below half n j h))

-- as the code shifts a half of 28 bits
pub record Shifted (n half r : ℕ) : Type 0 where
  pub is : bits 28 r ≡ shifted n (bits 28 half)
  pub narrow : r < 2 ^ 28

pub shift_is : (n half : ℕ) → n ≤ 28 → half < 2 ^ 28 → Shifted n half (half * 2 ^ n % 2 ^ 64 % 2 ^ 28 + half / 2 ^ (28 - n))
shift_is n half hn h =
    let j : ℕ = 28 - n in
    let e : j + n ≡ 28 = omega arith in
    let e' : n + j ≡ 28 = omega arith in
    let P : ℕ → Type 0 = λ k. half < 2 ^ k in
    let g : half < 2 ^ (n + j) = subst P (sym e') h in
    let w : half * 2 ^ n % 2 ^ 64 ≡ half * 2 ^ n = shl_whole half 28 n 64 h (omega arith) in
    let v : half * 2 ^ n % 2 ^ 64 % 2 ^ 28 + half / 2 ^ j ≡ half * 2 ^ n % 2 ^ (j + n) + half / 2 ^ j = ap (λ y. y % 2 ^ 28 + half / 2 ^ j) w ∙ ap (λ k. half * 2 ^ n % 2 ^ k + half / 2 ^ j) (sym e) in
    let Q : ℕ → Type 0 = λ k. half * 2 ^ n % 2 ^ (j + n) + half / 2 ^ j < 2 ^ k in
    let f : half * 2 ^ n % 2 ^ (j + n) + half / 2 ^ j < 2 ^ 28 = subst Q e (shifted_fits j n half g) in
    record {
      is = ap (bits 28) v ∙ ap (λ k. bits k (half * 2 ^ n % 2 ^ (j + n) + half / 2 ^ j)) (sym e) ∙ shifted_is j n half g ∙ ap (λ k. shifted n (bits k half)) e';
      narrow = omega (arith, v, f);
    }

-- the round keys from i on
abbrev pub left_over : ℕ → ℕ → ℕ → List (List ℕ)
left_over i c d = round_keys (drop i shifts) (bits 28 c) (bits 28 d)

pub keys_none : (key h : ℕ) → bits 56 h ≡ chosen pc1 (bits 64 key) → left_over 0 (h / 2 ^ 28) (h % 2 ^ 28) ≡ schedule (bits 64 key)
unfolding schedule
keys_none key h e =
    ap (λ xs. round_keys shifts xs (bits 28 (h % 2 ^ 28))) (sym (take_bits 28 28 h) ∙ ap (take 28) e)
    ∙ ap (round_keys shifts (take 28 (chosen pc1 (bits 64 key)))) (bits_mod 28 h ∙ sym (drop_bits 28 28 h) ∙ ap (drop 28) e)

pub keys_more : (keys : List ℕ) (i n c d c' d' k x : ℕ) (t : List (List ℕ)) → i < length keys → i < 16 → n ≡ get_or shifts i 0
    → bits 28 c' ≡ shifted n (bits 28 c) → bits 28 d' ≡ shifted n (bits 28 d) → d' < 2 ^ 28 → x ≡ c' * 2 ^ 28 + d' → bits 48 k ≡ chosen pc2 (bits 56 x)
    → take i (map (bits 48) keys) ++ left_over i c d ≡ t → take (i + 1) (map (bits 48) (set keys i k)) ++ left_over (i + 1) c' d' ≡ t
unfolding round_keys
keys_more keys i n c d c' d' k x t h i16 en ec ed hd ex ek was =
    let e : drop i shifts ≡ n ∷ drop (i + 1) shifts = drop_more shifts i 0 i16 ∙ ap (λ m. m ∷ drop (i + 1) shifts) (sym en) in
    let both : bits 56 x ≡ shifted n (bits 28 c) ++ shifted n (bits 28 d) = ap (bits 56) ex ∙ bits_joined 28 28 c' d' hd ∙ ap (λ ys. ys ++ bits 28 d') ec ∙ ap (λ ys. shifted n (bits 28 c) ++ ys) ed in
    let ks : List (List ℕ) = map (bits 48) keys in
    let lk : i < length ks = omega (arith, length-map keys (bits 48)) in
    let front : take (i + 1) (map (bits 48) (set keys i k)) ≡ take i ks ++ (bits 48 k ∷ []) = ap (take (i + 1)) (map-set (bits 48) keys i k) ∙ take_more_set ks i (bits 48 k) lk in
    let back : left_over i c d ≡ bits 48 k ∷ left_over (i + 1) c' d' =
    ap (λ ns. round_keys ns (bits 28 c) (bits 28 d)) e
    ∙ ap (λ ys. ys ∷ round_keys (drop (i + 1) shifts) (shifted n (bits 28 c)) (shifted n (bits 28 d))) (sym (ek ∙ ap (chosen pc2) both))
    ∙ ap (λ ys. bits 48 k ∷ round_keys (drop (i + 1) shifts) ys (shifted n (bits 28 d))) (sym ec)
    ∙ ap (λ ys. bits 48 k ∷ round_keys (drop (i + 1) shifts) (bits 28 c') ys) (sym ed) in
    ap (λ ys. ys ++ left_over (i + 1) c' d') front ∙ append_assoc (take i ks) (bits 48 k ∷ []) (left_over (i + 1) c' d') ∙ sym (ap (λ ys. take i ks ++ ys) back) ∙ was

pub keys_all : (keys : List ℕ) (i c d : ℕ) (t : List (List ℕ)) → length keys ≡ 16 → i ≡ 16 → take i (map (bits 48) keys) ++ left_over i c d ≡ t → map (bits 48) keys ≡ t
unfolding round_keys
keys_all keys i c d t l e was =
    let n = length-map keys (bits 48) in
    sym (ap (λ k. take k (map (bits 48) keys) ++ left_over k c d) e ∙ append-nil (take 16 (map (bits 48) keys)) ∙ take_all 16 (map (bits 48) keys) (omega arith)) ∙ was
