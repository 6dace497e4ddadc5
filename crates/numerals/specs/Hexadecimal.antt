-- Bytes as pairs of hexadecimal digits.
use Rattle.std.specs.Prelude.{ℕ, ◌+◌, ◌-◌, ◌*◌, ◌/◌, ◌%◌, Bool, true, false, cond, ◌&&◌, List, [], ◌∷◌, length, Some, None, Option, nat_le, nat_lt}

-- The value of a digit, 0-9 or A-F.
abbrev pub digit : ℕ → Option ℕ
digit c = cond (nat_le 48 c && nat_le c 57) (Some (c - 48)) (cond (nat_le 65 c && nat_le c 70) (Some (c - 55)) None)

-- Two digits make a byte, which stands before the others.
abbrev pub pair : Option ℕ → Option ℕ → Option (List ℕ) → Option (List ℕ)
pair (Some a) (Some b) (Some bytes) = Some ((16 * a + b) ∷ bytes)
pair (Some a) (Some b) None = None
pair (Some a) None bytes = None
pair None b bytes = None

-- The bytes that pairs of digits write.
abbrev pub unhex : List ℕ → Option (List ℕ)
unhex [] = Some []
unhex (a ∷ []) = None
unhex (a ∷ b ∷ cs) = pair (digit a) (digit b) (unhex cs)

-- At least low and at most high bytes.
abbrev pub sized : ℕ → ℕ → Option (List ℕ) → Option (List ℕ)
sized low high None = None
sized low high (Some bytes) = cond (nat_le low (length bytes) && nat_le (length bytes) high) (Some bytes) None

-- A value that is there or not.
abbrev pub when : {X : Type 0} → Bool → X → Option X
when true x = Some x
when false x = None

-- The other way round: the digit of a value, and bytes as digits.
abbrev pub shown : ℕ → ℕ
shown d = cond (nat_lt d 10) (48 + d) (55 + d)

abbrev pub hex : List ℕ → List ℕ
hex [] = []
hex (x ∷ xs) = shown (x / 16) ∷ shown (x % 16) ∷ hex xs
