-- Tables of places.
use Rattle.std.specs.Prelude.{ℕ, Bool, true, List, [], ◌∷◌, nat_le}
use Rattle.byte_lists.specs.Bytes.{both}

-- Whether each place of the table is one of w, counted from 1.
abbrev pub places_in : ℕ → List ℕ → Bool
places_in w [] = true
places_in w (p ∷ ps) = both (nat_le 1 p) (both (nat_le p w) (places_in w ps))
