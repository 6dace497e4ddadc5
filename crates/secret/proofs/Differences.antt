-- One accumulator of the differences of two lists.
use Rattle.std.proofs.Common.{◌≡◌, ℕ, eqb, List, [], ◌∷◌, length, Decides, sym, refl, ap, ◌∙◌, arith}
use Rattle.std.specs.List.{fold, zip}
use lib.Bits.{bit_or, bit_xor, or_add_and, xor_add_and, and_le_l, and_le_r, xor_self, or_zero_l}
use Rattle.std.proofs.lemmas.Bool.{eqb-true, eq-eqb}

or_none : (a b : ℕ) → bit_or a b ≡ 0 → (a ≡ 0) × (b ≡ 0)
or_none a b e = (omega (arith, or_add_and a b, and_le_r a b), omega (arith, or_add_and a b, and_le_l a b))

xor_none : (a b : ℕ) → bit_xor a b ≡ 0 → a ≡ b
xor_none a b e = omega (arith, xor_add_and a b, and_le_l a b, and_le_r a b)

-- A difference joined with that of two elements.
abbrev pub joined : ℕ → ℕ × ℕ → ℕ
joined d p = bit_or d (bit_xor p.0 p.1)

none_differ : (xs ys : List ℕ) (d : ℕ) → length xs ≡ length ys → fold joined d (zip xs ys) ≡ 0 → (d ≡ 0) × (xs ≡ ys)
none_differ [] [] d l e = (e, refl)
none_differ [] (y ∷ ys) d l e = absurd (omega arith)
none_differ (x ∷ xs) [] d l e = absurd (omega arith)
none_differ (x ∷ xs) (y ∷ ys) d l e =
    let r = none_differ xs ys (joined d (x, y)) (omega arith) e in
    let o = or_none d (bit_xor x y) r.0 in
    (o.0, ap (λ z. z ∷ xs) (xor_none x y o.1) ∙ ap (λ zs. y ∷ zs) r.1)

same_join : (xs : List ℕ) → fold joined 0 (zip xs xs) ≡ 0
same_join [] = refl
same_join (x ∷ xs) = ap (λ d. fold joined d (zip xs xs)) (or_zero_l _ ∙ xor_self x) ∙ same_join xs

-- Lists of one length are equal where the differences joined are 0.
pub decided : (xs ys : List ℕ) (d : ℕ) → length xs ≡ length ys → d ≡ fold joined 0 (zip xs ys) → Decides (eqb d 0) (xs ≡ ys)
decided xs ys d l is = (
  λ e. (none_differ xs ys 0 l (sym is ∙ eqb-true d 0 e)).1,
  λ e. eq-eqb d 0 (is ∙ ap (λ zs. fold joined 0 (zip xs zs)) (sym e) ∙ same_join xs),
)
