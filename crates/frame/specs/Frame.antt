-- The frame of a text: direction, number, length and body, the check over these, and the fewest zeros that fill whole blocks.
use Rattle.std.specs.Prelude.{ℕ, ◌+◌, ◌-◌, ◌%◌, Bool, cond, ◌&&◌, List, ◌∷◌, ◌++◌, length, take, drop, replicate, Some, None, Option, ◌==◌, nat_le, slice_index}
use Rattle.std.specs.List.{list_all}
use Rattle.std.specs.Str.{bytes_eq}
use Rattle.byte_lists.specs.Numbers.{octets, number}
use Rattle.sealing.specs.Suites.{direction_byte, direction_of}
use Rattle.sealing.specs.Sealing.{Text, text}
use Rattle.sealing.specs.declared.suite.Direction.{Direction}
use Rattle.sealing.specs.declared.sealer.Opened.{Opened}

-- One byte of direction, eight of number, two of the body's length, and the body.
abbrev pub front : Text → List ℕ
front t = direction_byte t.direction ∷ (octets 8 t.number ++ (octets 2 (length t.body) ++ t.body))

-- How many zeros fill l bytes up to whole blocks of n.
abbrev pub missing : ℕ → ℕ → ℕ
missing n l = (n - l % n) % n

-- The frame of a text, by the block's length and the check over its front.
unfoldable pub frame : ℕ → (List ℕ → List ℕ) → Text → List ℕ
frame n check t = (front t ++ check (front t)) ++ replicate (missing n (length (front t ++ check (front t)))) 0

-- The body's length that a frame states, and where its body ends.
abbrev pub stated : List ℕ → ℕ
stated p = number (take 2 (drop 9 p))

abbrev pub end_of : List ℕ → ℕ
end_of p = 11 + stated p

-- Whether all are zero.
abbrev pub blank : List ℕ → Bool
blank xs = list_all (λ x. x == 0) xs

-- Whether bytes are laid out as a frame: a body of 2 to 261 bytes is stated, the length is that of whole blocks and no block
-- more, the check of c bytes is that over what stands before it, and the fill is zero.
abbrev pub framed : ℕ → ℕ → (List ℕ → List ℕ) → List ℕ → Bool
framed n c check p =
    nat_le 11 (length p) && (nat_le 2 (stated p) && (nat_le (stated p) 261 && (length p == end_of p + c + missing n (end_of p + c)
    && (bytes_eq (check (take (end_of p) p)) (take c (drop (end_of p) p)) && blank (drop (end_of p + c) p)))))

-- The text with this direction, if it is one.
abbrev pub directed : Option Direction → ℕ → List ℕ → Option Text
directed None n b = None
directed (Some d) n b = Some (text d n b)

-- The text that a frame holds.
unfoldable pub text_of : ℕ → ℕ → (List ℕ → List ℕ) → List ℕ → Option Text
text_of n c check p = cond (framed n c check p) (directed (direction_of (slice_index p 0)) (number (take 8 (drop 1 p))) (take (stated p) (drop 11 p))) None

-- How an opened text is told of: its head, and its body behind the eleven bytes before it.
abbrev pub told : Option Text → Option Opened
told None = None
told (Some t) = Some (record { direction = t.direction; number = t.number; at = 11; len = length t.body })
