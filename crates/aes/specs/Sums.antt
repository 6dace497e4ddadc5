-- Sums of four bytes in another order.
use Rattle.std.specs.Prelude.{◌≡◌, ℕ, bit_xor}
use Rattle.std.proofs.Common.{ap, sym, ◌∙◌}
use Rattle.std.proofs.lemmas.Nat.{xor_comm}
use Rattle.std.specs.Int.Bits.{xor_assoc}
use Rattle.aes.specs.Steps.{sum}

-- (a + b) + (c + d) = (a + c) + (b + d)
pub swap : (a b c d : ℕ) → sum a b c d ≡ sum a c b d
swap a b c d =
    xor_assoc a b (bit_xor c d)
    ∙ ap (bit_xor a) (sym (xor_assoc b c d) ∙ ap (λ x. bit_xor x d) (xor_comm b c) ∙ xor_assoc c b d)
    ∙ sym (xor_assoc a c (bit_xor b d))

sum_sum : (a b c d a' b' c' d' : ℕ) → bit_xor (sum a b c d) (sum a' b' c' d') ≡ sum (bit_xor a a') (bit_xor b b') (bit_xor c c') (bit_xor d d')
sum_sum a b c d a' b' c' d' =
    swap (bit_xor a b) (bit_xor c d) (bit_xor a' b') (bit_xor c' d')
    ∙ ap (λ x. bit_xor x (bit_xor (bit_xor c d) (bit_xor c' d'))) (swap a b a' b')
    ∙ ap (bit_xor (bit_xor (bit_xor a a') (bit_xor b b'))) (swap c d c' d')

-- The sum of four sums of four, by columns.
pub across : (a b c d a1 b1 c1 d1 a2 b2 c2 d2 a3 b3 c3 d3 : ℕ)
    → sum (sum a b c d) (sum a1 b1 c1 d1) (sum a2 b2 c2 d2) (sum a3 b3 c3 d3) ≡ sum (sum a a1 a2 a3) (sum b b1 b2 b3) (sum c c1 c2 c3) (sum d d1 d2 d3)
across a b c d a1 b1 c1 d1 a2 b2 c2 d2 a3 b3 c3 d3 =
    ap (λ x. bit_xor x (bit_xor (sum a2 b2 c2 d2) (sum a3 b3 c3 d3))) (sum_sum a b c d a1 b1 c1 d1)
    ∙ ap (bit_xor (sum (bit_xor a a1) (bit_xor b b1) (bit_xor c c1) (bit_xor d d1))) (sum_sum a2 b2 c2 d2 a3 b3 c3 d3)
    ∙ sum_sum (bit_xor a a1) (bit_xor b b1) (bit_xor c c1) (bit_xor d d1) (bit_xor a2 a3) (bit_xor b2 b3) (bit_xor c2 c3) (bit_xor d2 d3)

-- Turned by one place.
pub turn : (a b c d : ℕ) → sum a b c d ≡ sum d a b c
turn a b c d =
    swap a b c d ∙ ap (λ x. bit_xor x (bit_xor b d)) (xor_comm a c) ∙ xor_comm (bit_xor c a) (bit_xor b d) ∙ swap b d c a
    ∙ ap (λ x. bit_xor x (bit_xor d a)) (xor_comm b c) ∙ xor_comm (bit_xor c b) (bit_xor d a) ∙ ap (bit_xor (bit_xor d a)) (xor_comm c b)

pub sums : {a b c d a' b' c' d' : ℕ} → a ≡ a' → b ≡ b' → c ≡ c' → d ≡ d' → sum a b c d ≡ sum a' b' c' d'
sums p q r s = cc
