-- A table of words whose bytes follow a rule: the rule at each entry, by one test of the whole table.
use Rattle.std.proofs.Common.{◌≡◌, ℕ, ◌<◌, Bool, T, List, map, get_or}
use Rattle.std.specs.List.{range_with_len}
use Rattle.byte_lists.specs.Numbers.{octets, number}
use Rattle.byte_lists.proofs.Tables.{every, every_at, same, same_is}

-- The bytes of the word w at the place k are those of the rule f.
abbrev follows : (ℕ → List ℕ) → ℕ → ℕ → Bool
follows f k w = same (octets 4 w) (f k)

-- The table of the rule f: the code's table is this one, number for number.
abbrev pub table : (ℕ → List ℕ) → List ℕ
table f = map (λ k. number (f k)) (range_with_len 0 256)

-- The test of the whole table.
abbrev pub tested : (ℕ → List ℕ) → Bool
tested f = every (follows f) 0 (table f)

pub word_rule : (f : ℕ → List ℕ) → T (tested f) → (k : ℕ) → k < 256 → octets 4 (get_or (table f) k 0) ≡ f k
word_rule f t k h = same_is (octets 4 (get_or (table f) k 0)) (f k) (every_at (follows f) (table f) 0 t k h)
