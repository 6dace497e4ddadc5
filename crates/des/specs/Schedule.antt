-- The key schedule: sixteen round keys of 48 bits from the 64 bits of a key (FIPS 46-3, appendix 1).
use Rattle.std.specs.Prelude.{ℕ, List, [], ◌∷◌, ◌++◌, take, drop}
use Rattle.des_tables.specs.Bits.{chosen}
use Rattle.des_tables.specs.Tables.{pc1, pc2, shifts}

-- Bits shifted to the left by n places; those that leave come in at the right.
abbrev pub shifted : ℕ → List ℕ → List ℕ
shifted n xs = drop n xs ++ take n xs

-- The round keys that C and D give, one for each shift.
unfoldable pub round_keys : List ℕ → List ℕ → List ℕ → List (List ℕ)
round_keys [] c d = []
round_keys (n ∷ ns) c d = chosen pc2 (shifted n c ++ shifted n d) ∷ round_keys ns (shifted n c) (shifted n d)

-- The round keys of a key.
unfoldable pub schedule : List ℕ → List (List ℕ)
schedule key = round_keys shifts (take 28 (chosen pc1 key)) (drop 28 (chosen pc1 key))
