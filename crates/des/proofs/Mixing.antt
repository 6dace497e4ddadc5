-- The eight boxes one after the other: what each gives, after P, is joined to what came before.
use Rattle.std.proofs.Common.{◌≡◌, ℕ, zero, suc, ◌+◌, ◌-◌, ◌*◌, ◌/◌, ◌%◌, ◌^◌, ◌<◌, List, ◌++◌, length, take, drop, sym, refl, ap, ◌∙◌, add-one, arith, length-append}
use lib.Bits.{bit_xor}
use lib.ListN.{length-replicate, replicate-append-replicate}
use Rattle.std.proofs.lemmas.List.{append_assoc, drop-drop}
use Rattle.byte_lists.specs.Bytes.{xors}
use Rattle.des_tables.specs.Bits.{bits, chosen}
use Rattle.des_tables.specs.Tables.{expansion, straight}
use Rattle.des_tables.specs.Boxes.{selected, boxes, placed}
use Rattle.des_tables.specs.Words.{wrapped}
use Rattle.des_tables.proofs.Lists.{zeros, take_xors, drop_xors, chosen_xors, xors_assoc, xors_zeros, parts, behind_zeros}
use Rattle.des_tables.proofs.Bits.{length_bits, take_bits, drop_bits, bits_xor, bits_mod}
use Rattle.des_tables.proofs.Words.{window_is}
use Rattle.des.specs.Des.{mixed}

length_zeros : (n : ℕ) → length (zeros n) ≡ n
length_zeros n = length-replicate n 0

length_selected : (b : ℕ) (xs : List ℕ) → length (selected b xs) ≡ 4
unfolding selected
length_selected b xs = length_bits 4 _

length_boxes : (n b : ℕ) (xs : List ℕ) → length (boxes n b xs) ≡ 4 * n
unfolding boxes
length_boxes zero b xs = refl
length_boxes (suc n) b xs =
    let s = length_selected b (take 6 xs) in
    let r = length_boxes n (suc b) (drop 6 xs) in
    length-append (selected b (take 6 xs)) (boxes n (suc b) (drop 6 xs)) ∙ omega arith

-- six bits of a round key
key_window : (key i : ℕ) → i < 8 → take 6 (drop (6 * i) (bits 48 key)) ≡ bits 6 (key / 2 ^ (42 - 6 * i))
key_window key i h =
    let n : ℕ = 42 - 6 * i in
    let e : 48 ≡ 6 * i + (6 + n) = omega arith in
    ap (λ k. take 6 (drop (6 * i) (bits k key))) e ∙ ap (take 6) (drop_bits (6 * i) (6 + n) key) ∙ take_bits 6 n key

-- what goes into the boxes
abbrev pub inward : ℕ → ℕ → List ℕ
inward half key = xors (chosen expansion (bits 32 half)) (bits 48 key)

abbrev pub window : ℕ → ℕ → ℕ → ℕ
window half key i = bit_xor (wrapped half / 2 ^ (28 - 4 * i)) (key / 2 ^ (42 - 6 * i)) % 64

window_six : (half key i : ℕ) → half < 2 ^ 32 → i < 8 → take 6 (drop (6 * i) (inward half key)) ≡ bits 6 (window half key i)
window_six half key i l h =
    let a : ℕ = wrapped half / 2 ^ (28 - 4 * i) in
    let b : ℕ = key / 2 ^ (42 - 6 * i) in
    let xs : List ℕ = chosen expansion (bits 32 half) in
    ap (take 6) (drop_xors (6 * i) xs (bits 48 key))
    ∙ take_xors 6 (drop (6 * i) xs) (drop (6 * i) (bits 48 key))
    ∙ ap (λ ys. xors ys (take 6 (drop (6 * i) (bits 48 key)))) (sym (window_is i half h l))
    ∙ ap (xors (bits 6 a)) (key_window key i h)
    ∙ sym (bits_mod 6 (bit_xor a b) ∙ bits_xor 6 a b)

-- the boxes from i on, behind zeros, after P
abbrev pub rest : ℕ → List ℕ → List ℕ
rest i xs = chosen straight (zeros (4 * i) ++ boxes (8 - i) i (drop (6 * i) xs))

rest_more : (i v : ℕ) (xs : List ℕ) → i < 8 → take 6 (drop (6 * i) xs) ≡ bits 6 v → rest i xs ≡ xors (chosen straight (placed i v)) (rest (i + 1) xs)
unfolding boxes
rest_more i v xs h e =
    let m : ℕ = 8 - (i + 1) in
    let ys : List ℕ = drop (6 * i) xs in
    let s : List ℕ = selected i (bits 6 v) in
    let r : List ℕ = boxes m (i + 1) (drop (6 * (i + 1)) xs) in
    let q : 8 - i ≡ suc m = omega arith in
    let e6 : 6 * i + 6 ≡ 6 * (i + 1) = omega arith in
    let e4 : 4 * i + 4 ≡ 4 * (i + 1) = omega arith in
    let down : drop 6 ys ≡ drop (6 * (i + 1)) xs = drop-drop 6 (6 * i) xs ∙ ap (λ k. drop k xs) e6 in
    let ls : length s ≡ 4 = length_selected i (bits 6 v) in
    let lr : length r ≡ 28 - 4 * i = length_boxes m (i + 1) (drop (6 * (i + 1)) xs) ∙ omega arith in
    let first : boxes (8 - i) i ys ≡ s ++ r =
    ap (λ k. boxes k i ys) q ∙ ap (λ zs. selected i zs ++ boxes m (suc i) (drop 6 ys)) e ∙ ap (λ zs. s ++ boxes m (suc i) zs) down ∙ ap (λ k. s ++ boxes m k (drop (6 * (i + 1)) xs)) (sym (add-one i)) in
    let a : List ℕ = zeros (4 * i) ++ (s ++ zeros (length r)) in
    let b : List ℕ = zeros (4 * i) ++ (zeros (length s) ++ r) in
    let la : length a ≡ 32 = length-append (zeros (4 * i)) (s ++ zeros (length r)) ∙ omega (arith, length_zeros (4 * i), length-append s (zeros (length r)), length_zeros (length r)) in
    let lb : length b ≡ 32 = length-append (zeros (4 * i)) (zeros (length s) ++ r) ∙ omega (arith, length_zeros (4 * i), length-append (zeros (length s)) r, length_zeros (length s)) in
    let cut : zeros (4 * i) ++ (s ++ r) ≡ xors a b = sym (behind_zeros (4 * i) (s ++ zeros (length r)) (zeros (length s) ++ r) ∙ ap (λ zs. zeros (4 * i) ++ zs) (parts s r)) in
    let pa : chosen straight a ≡ chosen straight (placed i v) = ap (λ k. chosen straight (zeros (4 * i) ++ (s ++ zeros k))) lr in
    let pb : chosen straight b ≡ rest (i + 1) xs =
    ap (λ k. chosen straight (zeros (4 * i) ++ (zeros k ++ r))) ls
    ∙ ap (chosen straight) (sym (append_assoc (zeros (4 * i)) (zeros 4) r) ∙ ap (λ zs. zs ++ r) (replicate-append-replicate {A = ℕ} (4 * i) 4 0))
    ∙ ap (λ k. chosen straight (zeros k ++ r)) e4 in
    ap (λ zs. chosen straight (zeros (4 * i) ++ zs)) first
    ∙ ap (chosen straight) cut
    ∙ chosen_xors straight a b (la ∙ sym lb)
    ∙ ap (λ zs. xors zs (chosen straight b)) pa
    ∙ ap (xors (chosen straight (placed i v))) pb

pub mixed_none : (half key : ℕ) → xors (bits 32 0) (rest 0 (inward half key)) ≡ mixed (bits 32 half) (bits 48 key)
unfolding bits straight mixed xors boxes
mixed_none half key = refl

pub mixed_more : (half key i out word : ℕ) (t : List ℕ) → half < 2 ^ 32 → i < 8 → bits 32 word ≡ chosen straight (placed i (window half key i))
    → xors (bits 32 out) (rest i (inward half key)) ≡ t → xors (bits 32 (bit_xor out word)) (rest (i + 1) (inward half key)) ≡ t
mixed_more half key i out word t l h e was =
    let xs : List ℕ = inward half key in
    let v : ℕ = window half key i in
    ap (λ zs. xors zs (rest (i + 1) xs)) (bits_xor 32 out word)
    ∙ xors_assoc (bits 32 out) (bits 32 word) (rest (i + 1) xs) (length_bits 32 out ∙ sym (length_bits 32 word))
    ∙ ap (λ ys. xors (bits 32 out) (xors ys (rest (i + 1) xs))) e
    ∙ ap (xors (bits 32 out)) (sym (rest_more i v xs h (window_six half key i l h)))
    ∙ was

pub mixed_all : (half key i out : ℕ) (t : List ℕ) → i ≡ 8 → xors (bits 32 out) (rest i (inward half key)) ≡ t → bits 32 out ≡ t
unfolding straight boxes
mixed_all half key i out t e was =
    sym (xors_zeros (bits 32 out) 32) ∙ sym (ap (λ k. xors (bits 32 out) (rest k (inward half key))) e) ∙ was
