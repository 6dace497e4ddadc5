-- Numbers as bytes, the highest first.
use Rattle.std.specs.Prelude.{ℕ, zero, suc, ◌/◌, ◌%◌, ◌^◌, List, [], ◌∷◌}
use Rattle.std.specs.Int.Digits.{number_from_digits_after}

-- The lowest n bytes of x.
unfoldable pub octets : ℕ → ℕ → List ℕ
octets zero x = []
octets (suc n) x = x / 256 ^ n % 256 ∷ octets n x

-- The number that the bytes make: each byte is a digit in base 256.
abbrev pub number : List ℕ → ℕ
number bs = number_from_digits_after 256 0 bs
