-- The objects inside: each a tag, one length byte and a value of that length.
use Rattle.std.specs.Prelude.{ℕ, ◌+◌, Bool, cond, ◌&&◌, List, [], ◌∷◌, length, take, drop, Some, None, Option, ◌==◌, nat_le, slice_index}
use Rattle.objects.specs.declared.read.Field.{Field}
use Rattle.objects.specs.declared.read.Reader.{Reader}

-- What a reader has still to read.
abbrev pub unread : Reader → List ℕ
unread r = r.rest.now

-- A tag, with the least and the greatest length of its value.
abbrev pub field : ℕ → ℕ → ℕ → Field
field t a b = record { tag = t; least = a; most = b }

-- An identifier, a nonce or a MAC; and a value of one byte.
abbrev pub sixteen : ℕ → Field
sixteen t = field t 16 16

abbrev pub one_byte : ℕ → Field
one_byte t = field t 1 1

-- The bytes begin with an object of this tag, whose value has a length in these bounds and is there whole.
abbrev pub begins : Field → List ℕ → Bool
begins f bs =
    nat_le 2 (length bs) && slice_index bs 0 == f.tag && nat_le f.least (slice_index bs 1) && nat_le (slice_index bs 1) f.most && nat_le (2 + slice_index bs 1) (length bs)

-- The first object's value, and what stands behind that object.
abbrev pub first_value : List ℕ → List ℕ
first_value bs = take (slice_index bs 1) (drop 2 bs)

abbrev pub behind : List ℕ → List ℕ
behind bs = drop (2 + slice_index bs 1) bs

-- The first object taken as this field: its value, and what is left. Nothing is taken of another object.
unfoldable pub taken : Field → List ℕ → Option (List ℕ)
taken f bs = cond (begins f bs) (Some (first_value bs)) None

unfoldable pub left : Field → List ℕ → List ℕ
left f bs = cond (begins f bs) (behind bs) bs

-- What follows where a value was taken, and nothing where none was.
abbrev upon : Option (List ℕ) → (List ℕ → Option (List (List ℕ))) → Option (List (List ℕ))
upon None next = None
upon (Some v) next = next v

abbrev before : List ℕ → Option (List (List ℕ)) → Option (List (List ℕ))
before v None = None
before v (Some vs) = Some (v ∷ vs)

-- The values of these fields, in order, with nothing behind them.
abbrev pub values : List Field → List ℕ → Option (List (List ℕ))
values [] bs = cond (length bs == 0) (Some []) None
values (f ∷ fs) bs = upon (taken f bs) (λ v. before v (values fs (left f bs)))
