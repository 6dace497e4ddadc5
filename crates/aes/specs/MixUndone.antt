-- MixColumns and InvMixColumns undo each other, and give bytes.
use Rattle.std.specs.Prelude.{◌≡◌, ℕ, zero, suc, ◌<◌, T, List, [], ◌∷◌, length, bit_xor, nat_eq}
use Rattle.std.proofs.Math.Path.{refl, sym}
use Rattle.std.proofs.Common.{ap, ◌∙◌, eqb→eq, lit<}
use Rattle.std.specs.Int.Bits.{xor_zero_r, xor_lt}
use Rattle.byte_lists.specs.Bytes.{Bytes}
use Rattle.byte_lists.proofs.Tables.{all_below, all_below_at}
use Rattle.sbox.specs.Field.{mul}
use Rattle.aes.specs.Steps.{sum, row, columns, mix_columns, inv_mix_columns}
use Rattle.aes.specs.Sums.{across, turn, sums}
use Rattle.aes.specs.Linear.{mul_sum, mul_byte}

-- One entry of the product of two matrices, at the byte x.
abbrev test : ℕ → ℕ → ℕ → ℕ → ℕ → ℕ → ℕ → ℕ → ℕ → ℕ
test P p Q q R r S s x = sum (mul P (mul p x)) (mul Q (mul q x)) (mul R (mul r x)) (mul S (mul s x))

-- The two matrices are inverse to each other, at one byte.
record Undoes (P Q R S p q r s : ℕ) : Type 0 where
  same : (x : ℕ) → x < 256 → test P p Q s R r S q x ≡ x
  next : (x : ℕ) → x < 256 → test P q Q p R s S r x ≡ 0
  over : (x : ℕ) → x < 256 → test P r Q q R p S s x ≡ 0
  last : (x : ℕ) → x < 256 → test P s Q r R q S p x ≡ 0

module _ (P Q R S p q r s : ℕ) (u : Undoes P Q R S p q r s) where
  one : (a b c d : ℕ) → a < 256 → b < 256 → c < 256 → d < 256
      → row P Q R S (row p q r s a b c d) (row p q r s b c d a) (row p q r s c d a b) (row p q r s d a b c) ≡ a
  unfolding row
  one a b c d ha hb hc hd =
      let e0 = mul_sum P (mul p a) (mul q b) (mul r c) (mul s d) in
      let e1 = mul_sum Q (mul p b) (mul q c) (mul r d) (mul s a) ∙ turn (mul Q (mul p b)) (mul Q (mul q c)) (mul Q (mul r d)) (mul Q (mul s a)) in
      let e2 = mul_sum R (mul p c) (mul q d) (mul r a) (mul s b) ∙ turn (mul R (mul p c)) (mul R (mul q d)) (mul R (mul r a)) (mul R (mul s b))
      ∙ turn (mul R (mul s b)) (mul R (mul p c)) (mul R (mul q d)) (mul R (mul r a)) in
      let e3 = mul_sum S (mul p d) (mul q a) (mul r b) (mul s c)
      ∙ sym (turn (mul S (mul q a)) (mul S (mul r b)) (mul S (mul s c)) (mul S (mul p d))) in
      sums e0 e1 e2 e3
      ∙ across (mul P (mul p a)) (mul P (mul q b)) (mul P (mul r c)) (mul P (mul s d)) (mul Q (mul s a)) (mul Q (mul p b)) (mul Q (mul q c)) (mul Q (mul r d))
      (mul R (mul r a)) (mul R (mul s b)) (mul R (mul p c)) (mul R (mul q d)) (mul S (mul q a)) (mul S (mul r b)) (mul S (mul s c)) (mul S (mul p d))
      ∙ sums (u.same a ha) (u.next b hb) (u.over c hc) (u.last d hd)
      ∙ xor_zero_r (bit_xor a 0) ∙ xor_zero_r a

  columns_undone : (xs : List ℕ) → Bytes xs → columns P Q R S (columns p q r s xs) ≡ xs
  unfolding columns
  columns_undone [] h = refl
  columns_undone (a ∷ []) h = refl
  columns_undone (a ∷ b ∷ []) h = refl
  columns_undone (a ∷ b ∷ c ∷ []) h = refl
  columns_undone (a ∷ b ∷ c ∷ d ∷ xs) h =
      let x0 = one a b c d (h 0) (h 1) (h 2) (h 3) in
      let x1 = one b c d a (h 1) (h 2) (h 3) (h 0) in
      let x2 = one c d a b (h 2) (h 3) (h 0) (h 1) in
      let x3 = one d a b c (h 3) (h 0) (h 1) (h 2) in
      let ih = columns_undone xs (λ i. h (suc (suc (suc (suc i))))) in
      cc

is : (f g : ℕ → ℕ) → T (all_below (λ x. nat_eq (f x) (g x)) 256) → (x : ℕ) → x < 256 → f x ≡ g x
is f g t x h = eqb→eq (f x) (g x) (all_below_at (λ y. nat_eq (f y) (g y)) 256 t x h)

inv_mix_of_mix : Undoes 14 11 13 9 2 3 1 1
unfolding mul
inv_mix_of_mix = record {
  same = is (test 14 2 11 1 13 1 9 3) (λ x. x) tt;
  next = is (test 14 3 11 2 13 1 9 1) (λ x. 0) tt;
  over = is (test 14 1 11 3 13 2 9 1) (λ x. 0) tt;
  last = is (test 14 1 11 1 13 3 9 2) (λ x. 0) tt;
}

mix_of_inv_mix : Undoes 2 3 1 1 14 11 13 9
unfolding mul
mix_of_inv_mix = record {
  same = is (test 2 14 3 9 1 13 1 11) (λ x. x) tt;
  next = is (test 2 11 3 14 1 9 1 13) (λ x. 0) tt;
  over = is (test 2 13 3 11 1 14 1 9) (λ x. 0) tt;
  last = is (test 2 9 3 13 1 11 1 14) (λ x. 0) tt;
}

pub mix_undone : (xs : List ℕ) → Bytes xs → inv_mix_columns (mix_columns xs) ≡ xs
mix_undone = columns_undone 14 11 13 9 2 3 1 1 inv_mix_of_mix

pub inv_mix_undone : (xs : List ℕ) → Bytes xs → mix_columns (inv_mix_columns xs) ≡ xs
inv_mix_undone = columns_undone 2 3 1 1 14 11 13 9 mix_of_inv_mix

module _ (p q r s : ℕ) (hp : p < 256) (hq : q < 256) (hr : r < 256) (hs : s < 256) where
  row_byte : (a b c d : ℕ) → row p q r s a b c d < 256
  unfolding row
  row_byte a b c d =
      xor_lt 8 (bit_xor (mul p a) (mul q b)) (bit_xor (mul r c) (mul s d)) (xor_lt 8 (mul p a) (mul q b) (mul_byte p a hp) (mul_byte q b hq))
      (xor_lt 8 (mul r c) (mul s d) (mul_byte r c hr) (mul_byte s d hs))

  bytes_columns : (xs : List ℕ) → Bytes xs → Bytes (columns p q r s xs)
  unfolding columns
  bytes_columns [] h i = h i
  bytes_columns (a ∷ []) h i = h i
  bytes_columns (a ∷ b ∷ []) h i = h i
  bytes_columns (a ∷ b ∷ c ∷ []) h i = h i
  bytes_columns (a ∷ b ∷ c ∷ d ∷ xs) h zero = row_byte a b c d
  bytes_columns (a ∷ b ∷ c ∷ d ∷ xs) h (suc zero) = row_byte b c d a
  bytes_columns (a ∷ b ∷ c ∷ d ∷ xs) h (suc (suc zero)) = row_byte c d a b
  bytes_columns (a ∷ b ∷ c ∷ d ∷ xs) h (suc (suc (suc zero))) = row_byte d a b c
  bytes_columns (a ∷ b ∷ c ∷ d ∷ xs) h (suc (suc (suc (suc i)))) = bytes_columns xs (λ j. h (suc (suc (suc (suc j))))) i

pub length_columns : (p q r s : ℕ) (xs : List ℕ) → length (columns p q r s xs) ≡ length xs
unfolding columns
length_columns p q r s [] = refl
length_columns p q r s (a ∷ []) = refl
length_columns p q r s (a ∷ b ∷ []) = refl
length_columns p q r s (a ∷ b ∷ c ∷ []) = refl
length_columns p q r s (a ∷ b ∷ c ∷ d ∷ xs) = ap (λ n. suc (suc (suc (suc n)))) (length_columns p q r s xs)

pub bytes_mix : (xs : List ℕ) → Bytes xs → Bytes (mix_columns xs)
bytes_mix = bytes_columns 2 3 1 1 (lit< tt) (lit< tt) (lit< tt) (lit< tt)

pub bytes_inv_mix : (xs : List ℕ) → Bytes xs → Bytes (inv_mix_columns xs)
bytes_inv_mix = bytes_columns 14 11 13 9 (lit< tt) (lit< tt) (lit< tt) (lit< tt)
