-- Functions that go through exclusive or: two that agree at the powers of two agree at every number.
use Rattle.std.proofs.Common.{◌≡◌, ℕ, zero, suc, ◌+◌, ◌-◌, ◌*◌, ◌^◌, ◌<◌, Bool, T, ◌⊎◌, List, sym, ap, ◌∙◌, inl, inr, ⊎_elim, eq-zero-or-pos, add-one, arith}
use lib.Bits.{bit_xor, xor_shifted}
use Rattle.std.proofs.lemmas.Nat.{pow-add}
use Rattle.byte_lists.specs.Bytes.{xors}
use Rattle.byte_lists.proofs.Tables.{all_below, all_below_at, same, same_is}
use Rattle.des_tables.specs.Bits.{bits, chosen}
use Rattle.des_tables.proofs.Lists.{chosen_xors}
use Rattle.des_tables.proofs.Bits.{bits_xor, length_bits}

-- from numbers to numbers
abbrev pub Linear : (ℕ → ℕ) → Type 0
Linear f = (x y : ℕ) → f (bit_xor x y) ≡ bit_xor (f x) (f y)

-- from numbers to bits
abbrev pub Additive : (ℕ → List ℕ) → Type 0
Additive f = (x y : ℕ) → f (bit_xor x y) ≡ xors (f x) (f y)

pub bits_additive : (n : ℕ) (f : ℕ → ℕ) → Linear f → Additive (λ x. bits n (f x))
bits_additive n f l x y = ap (bits n) (l x y) ∙ bits_xor n (f x) (f y)

pub chosen_additive : (ps : List ℕ) (n : ℕ) → Additive (λ x. chosen ps (bits n x))
chosen_additive ps n x y = ap (chosen ps) (bits_xor n x y) ∙ chosen_xors ps (bits n x) (bits n y) (length_bits n x ∙ sym (length_bits n y))

-- the test: the same at the powers of two below 2 ^ n
abbrev pub agrees : (ℕ → List ℕ) → (ℕ → List ℕ) → ℕ → Bool
agrees f g n = all_below (λ k. same (f (2 ^ k)) (g (2 ^ k))) n

two : (n x : ℕ) → x < 2 ^ suc n → (x < 2 ^ n) ⊎ ((r : ℕ) × (r < 2 ^ n) × (x ≡ bit_xor (1 * 2 ^ n) r))
two n x h =
    let e : 2 ^ suc n ≡ 2 ^ n * 2 = ap (λ k. 2 ^ k) (sym (add-one n)) ∙ pow-add 2 n 1 in
    ⊎_elim
    (λ (g : 2 ^ n - x ≡ 0).
    let r : ℕ = x - 2 ^ n in
    let s : r < 2 ^ n = omega arith in
    let t : x ≡ 1 * 2 ^ n + r = omega arith in
    inr (r, s, t ∙ sym (xor_shifted 1 n r s)))
    (λ (l : 0 < 2 ^ n - x). let b : x < 2 ^ n = omega arith in inl b)
    (eq-zero-or-pos (2 ^ n - x))

module _ (f g : ℕ → List ℕ) (lf : Additive f) (lg : Additive g) (z : f 0 ≡ g 0) where
  pub agree_below : (n : ℕ) → ((k : ℕ) → k < n → f (2 ^ k) ≡ g (2 ^ k)) → (x : ℕ) → x < 2 ^ n → f x ≡ g x
  agree_below zero h x l = let e : x ≡ 0 = omega arith in ap f e ∙ z ∙ sym (ap g e)
  agree_below (suc n) h x l =
      let low : (y : ℕ) → y < 2 ^ n → f y ≡ g y = agree_below n (λ k i. h k (omega arith)) in
      let one : 1 * 2 ^ n ≡ 2 ^ n = omega arith in
      ⊎_elim (low x)
      (λ (t : (r : ℕ) × (r < 2 ^ n) × (x ≡ bit_xor (1 * 2 ^ n) r)).
      let ex : x ≡ bit_xor (2 ^ n) t.0 = t.2 ∙ ap (λ y. bit_xor y t.0) one in
      ap f ex ∙ lf (2 ^ n) t.0 ∙ ap (λ ys. xors ys (f t.0)) (h n (omega arith)) ∙ ap (xors (g (2 ^ n))) (low t.0 t.1) ∙ sym (ap g ex ∙ lg (2 ^ n) t.0))
      (two n x l)

  pub agree : (n : ℕ) → T (agrees f g n) → (x : ℕ) → x < 2 ^ n → f x ≡ g x
  agree n t = agree_below n (λ k h. same_is (f (2 ^ k)) (g (2 ^ k)) (all_below_at (λ j. same (f (2 ^ j)) (g (2 ^ j))) n t k h))
