-- DES as FIPS 46-3 has it, on lists of bits, and then on bytes.
use Rattle.std.specs.Prelude.{◌≡◌, ℕ, ◌/◌, List, map, reverse}
use Rattle.byte_lists.specs.Bytes.{xors}
use Rattle.byte_lists.specs.Numbers.{octets, number}
use Rattle.des_tables.specs.Bits.{bits, value, chosen}
use Rattle.des_tables.specs.Tables.{ip, fp, expansion, straight}
use Rattle.des_tables.specs.Boxes.{boxes}
use Rattle.des.specs.Feistel.{halves, crossed, turns}
use Rattle.des.specs.Schedule.{schedule}

-- The function f of a round, on a half and a round key.
unfoldable pub mixed : List ℕ → List ℕ → List ℕ
mixed half key = chosen straight (boxes 8 0 (xors (chosen expansion half) key))

-- 64 bits through the initial permutation, a round for each key, and its inverse.
unfoldable pub crypt : List (List ℕ) → List ℕ → List ℕ
crypt keys xs = chosen fp (crossed (turns mixed keys (halves (chosen ip xs))))

-- A block of eight bytes under a list of round keys.
unfoldable pub ciphered : List (List ℕ) → List ℕ → List ℕ
ciphered keys b = octets 8 (value (crypt keys (bits 64 (number b))))

-- The round keys as words of 48 bits, from the first to encrypt.
abbrev pub encrypts : List ℕ → List ℕ → List ℕ
encrypts keys b = ciphered (map (bits 48) keys) b

-- And from the last to decrypt.
abbrev pub decrypts : List ℕ → List ℕ → List ℕ
decrypts keys b = ciphered (reverse (map (bits 48) keys)) b

-- DES under a key of eight bytes.
abbrev pub des_encrypt : List ℕ → List ℕ → List ℕ
des_encrypt key b = ciphered (schedule (bits 64 (number key))) b

-- Its inverse: the same with the round keys in the opposite order.
abbrev pub des_decrypt : List ℕ → List ℕ → List ℕ
des_decrypt key b = ciphered (reverse (schedule (bits 64 (number key)))) b

-- Two keys that differ in parity bits alone: in the lowest bit of each byte.
abbrev pub SameButParity : List ℕ → List ℕ → Type 0
SameButParity k j = map (λ b. b / 2) k ≡ map (λ b. b / 2) j
