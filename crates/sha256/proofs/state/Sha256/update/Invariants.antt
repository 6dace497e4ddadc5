use Rattle.std.proofs.Common.{◌≡◌, ℕ, List, ◌++◌, length}
use Rattle.sha256.specs.Took.{Took}
use Rattle.sha256.proofs.state.Sha256.update.Given as goal

-- What was taken stands before the rest of the part.
abbrev pub invariant-loop-rest : goal.invariant-loop-rest
invariant-loop-rest l = (bytes : List ℕ) → Took l.initial.self bytes → (front : List ℕ) × (front ++ l.rest ≡ l.part) × Took l.self (bytes ++ front)

abbrev pub decreases-loop-rest : goal.decreases-loop-rest
decreases-loop-rest l = length l.rest
