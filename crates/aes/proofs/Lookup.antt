-- A column times a matrix, from the products of each of its bytes with the matrix's first column.
use Rattle.std.proofs.Common.{◌≡◌, ℕ, [], ◌∷◌, sym, ◌∙◌}
use Rattle.byte_lists.specs.Bytes.{xors}
use Rattle.sbox.specs.Field.{mul, scaled}
use Rattle.aes.specs.Steps.{row, columns}
use Rattle.aes.specs.Words.{looked_up}
use Rattle.aes.specs.Sums.{turn}

pub column_looked_up : (p q r s a b c d : ℕ) → looked_up (scaled p s r q) (a ∷ b ∷ c ∷ d ∷ []) ≡ columns p q r s (a ∷ b ∷ c ∷ d ∷ [])
unfolding xors row columns
column_looked_up p q r s a b c d =
    let second = sym (turn (mul p b) (mul q c) (mul r d) (mul s a)) in
    let third = turn (mul r a) (mul s b) (mul p c) (mul q d) ∙ turn (mul q d) (mul r a) (mul s b) (mul p c) in
    let fourth = turn (mul q a) (mul r b) (mul s c) (mul p d) in
    cc
