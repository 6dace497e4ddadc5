-- CRC-32: the remainder by the polynomial 04C11DB7, bits reflected, start and final inversion FFFFFFFF.
use Rattle.std.specs.Prelude.{ℕ, zero, suc, ◌+◌, ◌*◌, ◌/◌, ◌%◌, ◌^◌, cond, List, [], ◌∷◌, ◌==◌, bit_xor}
use Rattle.byte_lists.specs.Numbers.{octets}

-- The lowest k bits of x in the opposite order.
abbrev pub reflected : ℕ → ℕ → ℕ
reflected zero x = 0
reflected (suc k) x = x % 2 * 2 ^ k + reflected k (x / 2)

-- The polynomial, reflected: its highest coefficient, the 32nd, is left out.
abbrev pub polynomial : ℕ
polynomial = reflected 32 0x04c11db7

-- One bit is divided: the lowest falls out, and where it was 1 the polynomial is joined in.
abbrev pub divided : ℕ → ℕ
divided x = cond (x % 2 == 1) (bit_xor (x / 2) polynomial) (x / 2)

-- k bits are divided.
unfoldable pub bits : ℕ → ℕ → ℕ
bits zero x = x
bits (suc k) x = divided (bits k x)

-- From the state x on, each byte is joined in, and its eight bits are divided.
unfoldable pub remainder : ℕ → List ℕ → ℕ
remainder x [] = x
remainder x (b ∷ bs) = remainder (bits 8 (bit_xor x b)) bs

-- The state before the first byte.
abbrev pub start : ℕ
start = 0xffffffff

-- All 32 bits turned.
abbrev pub inverted : ℕ → ℕ
inverted x = bit_xor x 0xffffffff

-- The check of a message: four bytes, the highest first.
unfoldable pub crc : List ℕ → List ℕ
crc message = octets 4 (inverted (remainder start message))
