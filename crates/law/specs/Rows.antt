-- Rows of a table: each is free or holds something.
use Rattle.std.specs.Prelude.{ℕ, suc, Bool, true, false, ◌&&◌, List, [], ◌∷◌, Some, None, Option, ◌==◌}

-- Four rows, all free.
abbrev pub free_rows : {X : Type 0} → List (Option X)
free_rows = None ∷ None ∷ None ∷ None ∷ []

-- Whether two identifiers are equal.
abbrev pub same_bytes : List ℕ → List ℕ → Bool
same_bytes [] [] = true
same_bytes [] (y ∷ ys) = false
same_bytes (x ∷ xs) [] = false
same_bytes (x ∷ xs) (y ∷ ys) = x == y && same_bytes xs ys

-- What a row holds, with the row's number.
pub record At (X : Type 0) : Type 0 where
  pub row : ℕ
  pub item : X

abbrev pub next_row : {X : Type 0} → Option (At X) → Option (At X)
next_row None = None
next_row (Some a) = Some (record { row = suc a.row; item = a.item })

abbrev pub this_or : {X : Type 0} → Bool → X → Option (At X) → Option (At X)
this_or true x o = Some (record { row = 0; item = x })
this_or false x o = next_row o

-- The first held row where a test holds.
abbrev pub found : {X : Type 0} → (X → Bool) → List (Option X) → Option (At X)
found p [] = None
found p (None ∷ rows) = next_row (found p rows)
found p (Some x ∷ rows) = this_or (p x) x (found p rows)

-- Whether no row is free.
abbrev pub full : {X : Type 0} → List (Option X) → Bool
full [] = true
full (None ∷ rows) = false
full (Some x ∷ rows) = full rows

-- The number of the smallest free row.
abbrev pub free : {X : Type 0} → List (Option X) → ℕ
free [] = 0
free (None ∷ rows) = 0
free (Some x ∷ rows) = suc (free rows)

abbrev pub is_some : {X : Type 0} → Option X → Bool
is_some None = false
is_some (Some x) = true
