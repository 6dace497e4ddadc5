-- A limit, as its line says it: unset is no number.
use Rattle.std.specs.Prelude.{ℕ, ◌≤◌, Bool, true, false, List, [], ◌∷◌, Some, None, Ok, Err, Option, Result}
use Rattle.numerals.specs.Decimal.{numeral}
use Rattle.personalise.specs.declared.refusal.Refusal.{Refusal}
use Rattle.personalise.specs.declared.refusal.Refusal.TheVariants.{Unset, Malformed}

-- The number, or why there is none.
abbrev pub Limit : Type 0
Limit = Result ℕ Refusal

abbrev pub numbered : Option ℕ → Limit
numbered None = Err Malformed
numbered (Some n) = Ok n

-- From the value of its line: absent or empty is unset, and all else has to be a number up to the top.
abbrev pub limit : ℕ → Option (List ℕ) → Limit
limit top None = Err Unset
limit top (Some []) = Err Unset
limit top (Some (c ∷ cs)) = numbered (numeral top (c ∷ cs))

abbrev pub malformed_limit : Limit → Bool
malformed_limit (Err Unset) = false
malformed_limit (Err Malformed) = true
malformed_limit (Ok n) = false

-- The number of a limit that is set.
abbrev pub number_of : Limit → Option ℕ
number_of (Err e) = None
number_of (Ok n) = Some n

-- A number that is set is at most the top.
abbrev pub Within : ℕ → Limit → Type 0
Within top (Err e) = Unit {0}
Within top (Ok n) = n ≤ top
