-- Lines that end in LF, and what stands behind a line's name.
use Rattle.std.specs.Prelude.{◌≡◌, ℕ, ◌+◌, ◌-◌, ◌<◌, Bool, true, false, cond, ◌&&◌, List, [], ◌∷◌, length, take, drop, Some, None, Option, ◌==◌, nat_lt, slice_index}
use Rattle.std.specs.Str.{bytes_eq}

-- A byte in front of the first line.
abbrev pub in_front : ℕ → List (List ℕ) → List (List ℕ)
in_front c [] = []
in_front c (l ∷ ls) = (c ∷ l) ∷ ls

-- The lines of a text, each without its LF. What stands behind the last LF is no line.
abbrev pub lines_of : List ℕ → List (List ℕ)
lines_of [] = []
lines_of (c ∷ cs) = let ls : List (List ℕ) = lines_of cs in cond (c == 10) ([] ∷ ls) (in_front c ls)

-- There is a last byte, and it is LF.
abbrev pub ended : List ℕ → Bool
ended text = nat_lt 0 (length text) && slice_index text (length text - 1) == 10

-- What stands behind the name in a line that begins with it.
abbrev pub behind : List ℕ → List ℕ → Option (List ℕ)
behind name line = cond (bytes_eq name (take (length name) line)) (Some (drop (length name) line)) None

-- The value of the first line, where that has the name.
abbrev pub value : List ℕ → List (List ℕ) → Option (List ℕ)
value name [] = None
value name (l ∷ ls) = behind name l

abbrev pub passed : Option (List ℕ) → List ℕ → List (List ℕ) → List (List ℕ)
passed None l ls = l ∷ ls
passed (Some v) l ls = ls

-- The lines behind it; all of them where the first has another name.
abbrev pub past : List ℕ → List (List ℕ) → List (List ℕ)
past name [] = []
past name (l ∷ ls) = passed (behind name l) l ls

-- No line is left.
abbrev pub none : List (List ℕ) → Bool
none [] = true
none (l ∷ ls) = false

-- Where the first line ends, if there is one: what is cut there is that line and the rest.
abbrev pub EndsAt : List ℕ → Option ℕ → Type 0
EndsAt text None = lines_of text ≡ []
EndsAt text (Some i) = (i < length text) × (lines_of text ≡ take i text ∷ lines_of (drop (i + 1) text))
