-- The single checks, each with what it finds.
use Rattle.std.specs.Prelude.{ℕ, Bool, cond, not, ◌||◌, List, Some, None, Option, nat_le}
use Rattle.law.specs.Rows.{same_bytes, full, free, is_some}
use Rattle.law.specs.Associations.{bit}
use Rattle.law.specs.Tables.{Session}
use Rattle.law.specs.Associate.{is_started}

-- Passes unless the test holds.
abbrev pub unless : {X : Type 0} → Bool → X → Option X
unless test x = cond test None (Some x)

-- The terminal asks for the mechanism that the card has, and the key is not weak.
abbrev pub agreed : ℕ → Bool → Option Unit
agreed mechanisms weak = unless (not (bit 1 mechanisms) || weak) tt

-- One more is within the limit.
abbrev pub below : ℕ → ℕ → Option Unit
below count limit = unless (nat_le limit count) tt

-- The smallest free row.
abbrev pub room : {X : Type 0} → List (Option X) → Option ℕ
room rows = unless (full rows) (free rows)

-- Nothing has the identifier yet.
abbrev pub unused : {X : Type 0} → Option X → Option Unit
unused used = unless (is_some used) tt

-- A session that is not started.
abbrev pub fresh : Session → Option Unit
fresh s = unless (is_started s) tt

-- A code as it must be, with what was given.
abbrev pub passes : List ℕ → List ℕ → Option Unit
passes code given = cond (same_bytes code given) (Some tt) None
