-- A bench for runs that are worked out: the plain sealer, and a small sum in place of HMAC.
use Rattle.std.specs.Prelude.{ℕ, zero, suc, ◌+◌, ◌-◌, ◌*◌, ◌/◌, ◌%◌, ◌^◌, Bool, true, false, cond, ◌&&◌, List, [], ◌∷◌, ◌++◌, length, take, drop, replicate, Some, None, Option, ◌==◌, bit_xor, nat_le, slice_index}
use Rattle.sealing.specs.declared.suite.Direction.{Direction}
use Rattle.sealing.specs.Suites.{direction_byte, direction_of}
use Rattle.sealing.specs.Sealing.{Sealing, Text, text}
use Rattle.law.specs.Rows.{same_bytes}
use Rattle.law.specs.Associations.{Hashing}

-- The n bytes of a number, and back.
abbrev pub bytes_onto : ℕ → ℕ → List ℕ → List ℕ
bytes_onto zero v r = r
bytes_onto (suc n) v r = bytes_onto n (v / 256) (v % 256 ∷ r)

abbrev pub bytes_in : ℕ → ℕ → List ℕ
bytes_in n v = bytes_onto n v []

abbrev pub number_from : ℕ → List ℕ → ℕ
number_from a [] = a
number_from a (x ∷ xs) = number_from (256 * a + x) xs

-- A sum over key and message, in 32 bytes. It keeps no secret; the card's rules do not ask what gives the MACs.
abbrev pub summed : ℕ → List ℕ → ℕ
summed h [] = h
summed h (b ∷ bs) = summed ((h * 1000003 + b + 1) % (2 ^ 256)) bs

abbrev pub sum_of : List ℕ → List ℕ → List ℕ
sum_of k m = bytes_in 32 (summed 12345 (k ++ length k ∷ m))

abbrev pub two_sums : List ℕ → List ℕ → List ℕ
two_sums k s = let t : List ℕ = sum_of k (s ++ 1 ∷ []) in t ++ sum_of k (t ++ s ++ 2 ∷ [])

abbrev pub sums : Hashing
sums = record { hmac = sum_of; expanded = two_sums }

-- CRC32: polynomial 04C11DB7, reflected, start and final inversion FFFFFFFF.
abbrev pub crc_bits : ℕ → ℕ → ℕ
crc_bits zero c = c
crc_bits (suc n) c = crc_bits n (cond (c % 2 == 1) (bit_xor (c / 2) 0xEDB88320) (c / 2))

abbrev pub crc_from : ℕ → List ℕ → ℕ
crc_from c [] = bit_xor c 0xFFFFFFFF
crc_from c (b ∷ bs) = crc_from (crc_bits 8 (bit_xor c b)) bs

-- Direction, number, body length, body, the check over these, and 00 bytes up to a multiple of 8; nothing is encrypted.
abbrev pub filled : List ℕ → List ℕ
filled s = s ++ replicate ((8 - (length s % 8)) % 8) 0

abbrev pub checked : List ℕ → List ℕ
checked h = filled (h ++ bytes_in 4 (crc_from 0xFFFFFFFF h))

abbrev pub laid : Text → List ℕ
laid t = checked ((direction_byte t.direction ∷ bytes_in 8 t.number) ++ bytes_in 2 (length t.body) ++ t.body)

-- A string opens if it is the sealing of the text that its first bytes say.
abbrev pub same_as : List ℕ → Text → Bool → Option Text
same_as z t false = None
same_as z t true = cond (same_bytes (laid t) z) (Some t) None

abbrev pub opened_as : List ℕ → Option Direction → Option Text
opened_as z None = None
opened_as z (Some d) =
    let n : ℕ = number_from 0 (take 2 (drop 9 z)) in
    same_as z (text d (number_from 0 (take 8 (drop 1 z))) (take n (drop 11 z))) (nat_le 11 (length z) && nat_le 2 n && nat_le n 261 && nat_le (11 + n) (length z))

abbrev pub plain : Sealing
plain = record { sealed = λ u k t. laid t; opened = λ u k z. opened_as z (direction_of (slice_index z 0)) }
