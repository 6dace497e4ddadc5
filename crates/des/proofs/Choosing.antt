-- The loop that chooses bits of a number.
use Rattle.std.proofs.Common.{◌≡◌, ℕ, zero, suc, ◌+◌, ◌-◌, ◌*◌, ◌/◌, ◌%◌, ◌^◌, ◌<◌, ◌≤◌, T, leb, List, [], ◌∷◌, ◌++◌, length, get_or, take, sym, ap, ◌∙◌, lt_of_lt_of_le, le_of_suc-le-suc, not-suc-le-zero, arith, leb→le, pow_mono}
use Rattle.std.proofs.lemmas.List.{take_more, map-append}
use Rattle.std.proofs.lemmas.Nat.{pow-add}
use Rattle.byte_lists.specs.Bytes.{both}
use Rattle.byte_lists.proofs.Tables.{both_left, both_right}
use Rattle.des_tables.specs.Bits.{bits, chosen}
use Rattle.des_tables.proofs.Bits.{bits_push, get_or_bits}
use Rattle.des.specs.Places.{places_in}

-- one place more of the table
pub choose_more : (ps : List ℕ) (w x out i : ℕ) → i < length ps → (1 ≤ get_or ps i 0) × (get_or ps i 0 ≤ w) → bits i out ≡ chosen (take i ps) (bits w x)
    → bits (i + 1) (out * 2 + x / 2 ^ (w - get_or ps i 0) % 2) ≡ chosen (take (i + 1) ps) (bits w x)
choose_more ps w x out i h r was =
    let p = get_or ps i 0 in
    let b : ℕ = x / 2 ^ (w - p) % 2 in
    let lt : p - 1 < w = omega arith in
    let z : w - 1 - (p - 1) ≡ w - p = omega arith in
    let e : get_or (bits w x) (p - 1) 0 ≡ b = get_or_bits w x (p - 1) lt ∙ ap (λ k. x / 2 ^ k % 2) z in
    bits_push i out b (omega arith)
    ∙ ap (λ y. y ++ (b ∷ [])) was
    ∙ ap (λ y. chosen (take i ps) (bits w x) ++ (y ∷ [])) (sym e)
    ∙ sym (ap (λ qs. chosen qs (bits w x)) (take_more ps i 0 h) ∙ map-append (λ q. get_or (bits w x) (q - 1) 0) (take i ps) (p ∷ []))

-- one bit more has room
pub room : (out i b n : ℕ) → out < 2 ^ i → i < n → n ≤ 64 → b < 2 → (out * 2 + b < 2 ^ (i + 1)) × (out * 2 + b < 2 ^ 64)
room out i b n h l m g =
    let e : 2 ^ (i + 1) ≡ 2 ^ i * 2 = pow-add 2 i 1 in
    let a : out * 2 + b < 2 ^ (i + 1) = omega arith in
    let le : 2 ^ (i + 1) ≤ 2 ^ 64 = pow_mono {i = i + 1} {j = 64} (omega arith) in
    (a, lt_of_lt_of_le a le)

pub place_at : (w : ℕ) (ps : List ℕ) → T (places_in w ps) → (k : ℕ) → k < length ps → (1 ≤ get_or ps k 0) × (get_or ps k 0 ≤ w)
place_at w [] t k h = absurd (not-suc-le-zero h)
place_at w (p ∷ ps) t zero h =
    let u = both_right (leb 1 p) (both (leb p w) (places_in w ps)) t in
    (leb→le 1 p (both_left (leb 1 p) (both (leb p w) (places_in w ps)) t), leb→le p w (both_left (leb p w) (places_in w ps) u))
place_at w (p ∷ ps) t (suc k) h = place_at w ps (both_right (leb p w) (places_in w ps) (both_right (leb 1 p) (both (leb p w) (places_in w ps)) t)) k (le_of_suc-le-suc h)
