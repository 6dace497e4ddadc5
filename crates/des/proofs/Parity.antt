-- The key schedule takes no parity bit.
use Rattle.std.proofs.Common.{◌≡◌, ℕ, suc, ◌+◌, ◌*◌, ◌/◌, List, [], ◌∷◌, ◌++◌, map, length, take, drop, sym, refl, ap, ◌∙◌, arith}
use Rattle.std.specs.Int.Digits.{number_from_digits_after}
use Rattle.std.proofs.lemmas.List.{append_assoc, append-nil}
use Rattle.byte_lists.specs.Bytes.{Bytes, Block}
use Rattle.byte_lists.specs.Numbers.{number}
use Rattle.des_tables.specs.Bits.{bits, chosen}
use Rattle.des_tables.specs.Tables.{pc1, shifts}
use Rattle.des_tables.proofs.Bits.{bits_joined}
use Rattle.des.specs.Schedule.{round_keys, schedule}
use Rattle.des.specs.Des.{SameButParity}
use Rattle.des.specs.Listed.{eight, eight_is}

-- the bits of bytes, one after the other
eights : List ℕ → List ℕ
eights [] = []
eights (b ∷ bs) = bits 8 b ++ eights bs

eights_after : (bs : List ℕ) (m acc : ℕ) → Bytes bs → bits (m + 8 * length bs) (number_from_digits_after 256 acc bs) ≡ bits m acc ++ eights bs
unfolding eights
eights_after [] m acc h = ap (λ k. bits k acc) (omega arith) ∙ sym (append-nil (bits m acc))
eights_after (b ∷ bs) m acc h =
    let e : m + 8 * suc (length bs) ≡ (m + 8) + 8 * length bs = omega arith in
    ap (λ k. bits k (number_from_digits_after 256 (acc * 256 + b) bs)) e
    ∙ eights_after bs (m + 8) (acc * 256 + b) (λ i. h (suc i))
    ∙ ap (λ ys. ys ++ eights bs) (bits_joined m 8 acc b (h 0))
    ∙ append_assoc (bits m acc) (bits 8 b) (eights bs)

eights_number : (bs : List ℕ) → Block 8 bs → bits 64 (number bs) ≡ eights bs
unfolding bits
eights_number bs h =
    let e : 64 ≡ 0 + 8 * length bs = omega (arith, h.0) in
    ap (λ k. bits k (number bs)) e ∙ eights_after bs 0 0 h.1

-- the upper seven bits of each, and 0 for the lowest
sevens : List ℕ → List ℕ
sevens [] = []
sevens (q ∷ qs) = bits 7 q ++ (0 ∷ sevens qs)

parity_out : (xs : List ℕ) → chosen pc1 (eights (eight xs)) ≡ chosen pc1 (sevens (map (λ b. b / 2) (eight xs)))
unfolding bits eights sevens
parity_out xs = refl

without_parity : (bs : List ℕ) → Block 8 bs → chosen pc1 (bits 64 (number bs)) ≡ chosen pc1 (sevens (map (λ b. b / 2) bs))
without_parity bs h =
    let e : eight bs ≡ bs = eight_is bs h.0 in
    ap (chosen pc1) (eights_number bs h) ∙ sym (ap (λ xs. chosen pc1 (eights xs)) e) ∙ parity_out bs ∙ ap (λ xs. chosen pc1 (sevens (map (λ b. b / 2) xs))) e

pub schedule_parity : (k j : List ℕ) → Block 8 k → Block 8 j → SameButParity k j → schedule (bits 64 (number k)) ≡ schedule (bits 64 (number j))
unfolding schedule
schedule_parity k j hk hj e =
    let same : chosen pc1 (bits 64 (number k)) ≡ chosen pc1 (bits 64 (number j)) = without_parity k hk ∙ ap (λ qs. chosen pc1 (sevens qs)) e ∙ sym (without_parity j hj) in
    ap (λ xs. round_keys shifts (take 28 xs) (drop 28 xs)) same
