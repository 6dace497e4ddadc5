-- A row from which what fails a test is gone.
use Rattle.std.specs.Prelude.{Bool, false, cond, Some, None, Option}

abbrev pub retained : {X : Type 0} → (X → Bool) → Option X → Option X
retained p None = None
retained p (Some x) = cond (p x) (Some x) None

-- Whether a row holds what passes a test.
abbrev pub passes : {X : Type 0} → (X → Bool) → Option X → Bool
passes p None = false
passes p (Some x) = p x
