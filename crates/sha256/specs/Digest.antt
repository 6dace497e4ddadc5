-- SHA-256 of a list of bytes (FIPS 180-2, 5.1.1, 5.2 and 6.2).
use Rattle.std.specs.Prelude.{ℕ, zero, suc, ◌-◌, ◌*◌, ◌/◌, ◌%◌, List, ◌∷◌, ◌++◌, length, take, drop, replicate}
use Rattle.std.specs.List.{flat_map}
use Rattle.byte_lists.specs.Numbers.{octets}
use Rattle.compression.specs.declared.letters.Eight.{Eight}
use Rattle.compression.specs.Compression.{initial, compressed, in_order}

-- How many bytes 00 stand between the byte 80 and the length, behind n bytes: the fewest that fill whole blocks of 64.
abbrev pub zeros : ℕ → ℕ
zeros n = (119 - n % 64) % 64

-- What stands behind n bytes: the byte 80, zeros, and the number of bits as 8 bytes (of a message that the standard
-- allows, below 2^61 bytes, the number itself; beyond that, its lowest 64 bits).
unfoldable pub padding : ℕ → List ℕ
padding n = 0x80 ∷ (replicate (zeros n) 0 ++ octets 8 (8 * n))

abbrev pub padded : List ℕ → List ℕ
padded m = m ++ padding (length m)

-- The block n of a message, from 0.
abbrev pub block : List ℕ → ℕ → List ℕ
block m n = take 64 (drop (64 * n) m)

-- The eight words after the first n blocks.
unfoldable pub hashed : ℕ → List ℕ → Eight
hashed zero m = initial
hashed (suc n) m = compressed (hashed n m) (block m n)

-- Eight words as 32 bytes, the highest first.
abbrev pub written : Eight → List ℕ
written v = flat_map (octets 4) (in_order v)

-- The digest, 32 bytes.
unfoldable pub digest : List ℕ → List ℕ
digest m = written (hashed (length (padded m) / 64) (padded m))
