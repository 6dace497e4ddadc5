-- Equality of bytes, decided.
use Rattle.std.proofs.Common.{◌≡◌, ℕ, Bool, true, false, List, Decides, sym, refl, ap, ◌∙◌}
use Rattle.law.specs.Rows.{same_bytes}
use Rattle.law.proofs.Ruling.{same_true, same_itself}

-- Two tests that imply each other are equal.
alike : (a b : Bool) → (a ≡ true → b ≡ true) → (b ≡ true → a ≡ true) → a ≡ b
alike true b f g = sym (f refl)
alike false true f g = g refl
alike false false f g = refl

-- What decides equality of bytes is the test of the rules.
pub same_decided : (xs ys : List ℕ) (r : Bool) → Decides r (xs ≡ ys) → r ≡ same_bytes xs ys
same_decided xs ys r d =
    alike r (same_bytes xs ys) (λ t. ap (λ (zs : List ℕ). same_bytes xs zs) (sym (d.0 t)) ∙ same_itself xs) (λ t. d.1 (same_true xs ys t))
