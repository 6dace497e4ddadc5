-- The tests of the code as the tests of the definitions.
use Rattle.std.proofs.Common.{◌≡◌, ℕ, Bool, true, false, cond, List, Some, None, Decides, refl, sym, ◌∙◌, arith}
use Rattle.std.specs.Str.{bytes_eq}
use Rattle.std.proofs.lemmas.Slice.Eq.{bytes_eq-Decides}
use Rattle.std.proofs.lemmas.Bool.Decides.{same_from_decides, Decides-like}

-- A comparison of two lists is one of what they equal.
pub tested : (r : Bool) (xs ys us vs : List ℕ) → Decides r (xs ≡ ys) → xs ≡ us → ys ≡ vs → r ≡ bytes_eq us vs
tested r xs ys us vs d p q =
    same_from_decides r (bytes_eq us vs) (Decides-like r (λ (e : xs ≡ ys). sym p ∙ e ∙ q) (λ (e : us ≡ vs). p ∙ e ∙ sym q) d) (bytes_eq-Decides us vs)

-- A value that is there under a test alone tells how the test went.
pub is_not : {X : Type 0} (w : Bool) (x : X) → None ≡ cond w (Some x) None → w ≡ false
is_not true x e = absurd (let z : ◌≡◌ {A = ℕ} 0 1 = cc in omega arith)
is_not false x e = refl

pub is_so : {X : Type 0} (w : Bool) (x y : X) → Some y ≡ cond w (Some x) None → (w ≡ true) × (y ≡ x)
is_so true x y e = (refl, cc)
is_so false x y e = absurd (let z : ◌≡◌ {A = ℕ} 0 1 = cc in omega arith)
