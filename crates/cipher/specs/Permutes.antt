-- What makes two functions on blocks a cipher under one key.
use Rattle.std.specs.Prelude.{◌≡◌, ℕ, List}
use Rattle.byte_lists.specs.Bytes.{Block}

-- On blocks of n bytes, E and D give blocks of n bytes, and each undoes the other.
pub record Permutes (n : ℕ) (E D : List ℕ → List ℕ) : Type 0 where
  pub forth : (b : List ℕ) → Block n b → Block n (E b)
  pub back : (b : List ℕ) → Block n b → Block n (D b)
  pub undoes : (b : List ℕ) → Block n b → D (E b) ≡ b
  pub redoes : (b : List ℕ) → Block n b → E (D b) ≡ b
