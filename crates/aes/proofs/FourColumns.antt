-- The steps of a round on four words, one for each column, are the steps on their 16 bytes.
use Rattle.std.proofs.Common.{◌≡◌, ℕ, List, [], ◌∷◌, ◌++◌, length, get_or, sym, ap, ◌∙◌, ◌<◌, lit<, arith}
use Rattle.std.proofs.lemmas.List.{take_all}
use lib.Bits.{bit_xor}
use Rattle.byte_lists.specs.Bytes.{xors}
use Rattle.byte_lists.specs.Numbers.{octets}
use Rattle.aes.specs.Steps.{sub_bytes, shift_rows, mix_columns, columns, inv_sub_bytes, inv_shift_rows, inv_mix_columns}
use Rattle.aes.specs.Words.{bytes_of, gathered}
use Rattle.aes.specs.declared.state.State.{State}
use Rattle.aes.specs.Columns.{state_bytes, shifted_columns}
use Rattle.aes.specs.Parts.{taken_four}
use Rattle.aes.proofs.WordBytes.{octets_xor}

pub joined : {a b c d a' b' c' d' : List ℕ} → a ≡ a' → b ≡ b' → c ≡ c' → d ≡ d' → a ++ (b ++ (c ++ (d ++ []))) ≡ a' ++ (b' ++ (c' ++ (d' ++ [])))
joined p q r s = cc

abbrev pub four : List ℕ → List ℕ
four xs = bytes_of (get_or xs 0 0 ∷ get_or xs 1 0 ∷ get_or xs 2 0 ∷ get_or xs 3 0 ∷ [])

pub four_of : (xs : List ℕ) → length xs ≡ 4 → four xs ≡ bytes_of xs
four_of xs h = ap bytes_of (sym (taken_four xs 0 (omega arith)) ∙ take_all 4 xs (omega arith))

pub key_added : (s key : List ℕ) → length s ≡ 4 → length key ≡ 4
    → bytes_of (bit_xor (get_or s 0 0) (get_or key 0 0) ∷ bit_xor (get_or s 1 0) (get_or key 1 0) ∷ bit_xor (get_or s 2 0) (get_or key 2 0) ∷ bit_xor (get_or s 3 0) (get_or key 3 0) ∷ []) ≡ xors (bytes_of s) (bytes_of key)
unfolding octets xors
key_added s key g h =
    joined (octets_xor (get_or s 0 0) (get_or key 0 0)) (octets_xor (get_or s 1 0) (get_or key 1 0)) (octets_xor (get_or s 2 0) (get_or key 2 0)) (octets_xor (get_or s 3 0) (get_or key 3 0))
    ∙ ap (xors (four s)) (four_of key h)
    ∙ ap (λ y. xors y (bytes_of key)) (four_of s g)

pub mixed_columns : (s : State) → length s.0 ≡ 4 → shifted_columns (λ xs. mix_columns (sub_bytes xs)) s ≡ mix_columns (shift_rows (sub_bytes (state_bytes s)))
unfolding octets columns sub_bytes shift_rows
mixed_columns s h = ap (λ y. mix_columns (shift_rows (sub_bytes y))) (four_of s.0 h)

pub plain_columns : (s : State) → length s.0 ≡ 4 → shifted_columns sub_bytes s ≡ shift_rows (sub_bytes (state_bytes s))
unfolding octets sub_bytes shift_rows
plain_columns s h = ap (λ y. shift_rows (sub_bytes y)) (four_of s.0 h)

module _ (s : List ℕ) (g : length s ≡ 4) where
  pub shifted_back_made : (a b c d : ℕ)
      → octets 4 a ≡ inv_sub_bytes (gathered (get_or s 0 0 ∷ get_or s 3 0 ∷ get_or s 2 0 ∷ get_or s 1 0 ∷ []))
      → octets 4 b ≡ inv_sub_bytes (gathered (get_or s 1 0 ∷ get_or s 0 0 ∷ get_or s 3 0 ∷ get_or s 2 0 ∷ []))
      → octets 4 c ≡ inv_sub_bytes (gathered (get_or s 2 0 ∷ get_or s 1 0 ∷ get_or s 0 0 ∷ get_or s 3 0 ∷ []))
      → octets 4 d ≡ inv_sub_bytes (gathered (get_or s 3 0 ∷ get_or s 2 0 ∷ get_or s 1 0 ∷ get_or s 0 0 ∷ []))
      → bytes_of (a ∷ b ∷ c ∷ d ∷ []) ≡ inv_sub_bytes (inv_shift_rows (bytes_of s))
  unfolding octets inv_sub_bytes inv_shift_rows
  shifted_back_made a b c d p q r t = joined p q r t ∙ ap (λ y. inv_sub_bytes (inv_shift_rows y)) (four_of s g)

  pub mixed_back_made : (t : List ℕ) → length t ≡ 4 → ((i : ℕ) → i < 4 → octets 4 (get_or t i 0) ≡ inv_mix_columns (octets 4 (get_or s i 0))) → bytes_of t ≡ inv_mix_columns (bytes_of s)
  unfolding octets columns
  mixed_back_made t h e = sym (four_of t h) ∙ joined (e 0 (lit< tt)) (e 1 (lit< tt)) (e 2 (lit< tt)) (e 3 (lit< tt)) ∙ ap inv_mix_columns (four_of s g)
