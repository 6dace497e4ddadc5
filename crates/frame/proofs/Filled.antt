-- Whole blocks.
use Rattle.std.proofs.Common.{◌≡◌, ℕ, ◌+◌, ◌%◌, ◌≤◌, ◌⊎◌, sym, subst, inl, inr, arith}
use Rattle.frame.specs.Frame.{missing}

-- What is filled up is whole blocks, and 288 bytes are whole blocks of either length.
pub filled : (n l : ℕ) → (n ≡ 8) ⊎ (n ≡ 16) → (l + missing n l) % n ≡ 0
filled n l (inl e) = let P : ℕ → Type 0 = λ m. (l + missing m l) % m ≡ 0 in subst P (sym e) (omega arith)
filled n l (inr e) = let P : ℕ → Type 0 = λ m. (l + missing m l) % m ≡ 0 in subst P (sym e) (omega arith)

pub filled_short : (n l : ℕ) → (n ≡ 8) ⊎ (n ≡ 16) → l ≤ 288 → l + missing n l ≤ 288
filled_short n l (inl e) h = let P : ℕ → Type 0 = λ m. l + missing m l ≤ 288 in subst P (sym e) (omega arith)
filled_short n l (inr e) h = let P : ℕ → Type 0 = λ m. l + missing m l ≤ 288 in subst P (sym e) (omega arith)
