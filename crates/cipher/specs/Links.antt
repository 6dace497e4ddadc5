-- What a step of a chain does.
use Rattle.std.specs.Prelude.{◌≡◌, List, ℕ}
use Rattle.std.specs.Borrow.{MutBor}

-- Each call of a step on the block before and the block leaves the one that next gives in the first, and what out gives in the second.
abbrev pub Links : (MutBor (List ℕ) → MutBor (List ℕ) → Unit {0} → MutBor (List ℕ) → MutBor (List ℕ) → Type 0) → (List ℕ → List ℕ → List ℕ) → (List ℕ → List ℕ → List ℕ) → Type 0
Links post out next = (before block before' block' : MutBor (List ℕ)) → post before block tt before' block' → (block'.now ≡ out before.now block.now) × (before'.now ≡ next before.now block.now)
