-- The front of an array that is filled from its start.
use Rattle.std.proofs.Common.{◌≡◌, ℕ, List, ◌++◌, length, take, sym, ap, ◌∙◌}
use Rattle.std.proofs.lemmas.List.{take_at}

pub front : (n : ℕ) (a p r : List ℕ) → a ≡ p → n ≡ length p → take n (a ++ r) ≡ p
front n a p r e h = ap (λ t. take n (t ++ r)) e ∙ take_at p r n (sym h)
