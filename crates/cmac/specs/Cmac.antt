-- CMAC over a cipher of 16-byte blocks (NIST SP 800-38B); the check is the whole last block of the chain.
use Rattle.std.specs.Prelude.{ℕ, zero, suc, ◌+◌, ◌-◌, ◌*◌, ◌/◌, ◌%◌, Bool, cond, List, [], ◌∷◌, ◌++◌, length, take, drop, replicate, ◌==◌, nat_lt, slice_index}
use Rattle.byte_lists.specs.Bytes.{xors}

-- A block of zeros.
abbrev pub zeros : List ℕ
zeros = replicate 16 0

-- Shifted left by one bit: each byte takes the highest bit of the one behind it.
unfoldable pub shifted : List ℕ → List ℕ
shifted [] = []
shifted (x ∷ xs) = (x * 2 % 256 + slice_index xs 0 / 128) ∷ shifted xs

-- What is joined in where a bit falls out.
abbrev pub reduction : List ℕ
reduction = replicate 15 0 ++ 0x87 ∷ []

-- Twice a block in GF(2^128) (6.1, steps 2 and 3).
unfoldable pub doubled : List ℕ → List ℕ
doubled b = cond (nat_lt (slice_index b 0) 128) (shifted b) (xors (shifted b) reduction)

-- The subkey under the cipher E: K1 where the last block is whole, else K2 (6.1).
abbrev pub subkey : (List ℕ → List ℕ) → Bool → List ℕ
subkey E whole = cond whole (doubled (E zeros)) (doubled (doubled (E zeros)))

-- A part of a block, a bit 1 behind it, and zeros up to the end of the block.
abbrev pub padded : List ℕ → List ℕ
padded part = part ++ 0x80 ∷ replicate (15 - length part) 0

-- The last block: whole as it is, else padded.
abbrev pub filled : List ℕ → List ℕ
filled part = cond (length part == 16) part (padded part)

-- The last block with its subkey joined in (6.2, step 4).
abbrev pub masked : (List ℕ → List ℕ) → List ℕ → List ℕ
masked E part = xors (subkey E (length part == 16)) (filled part)

-- The state after m blocks from the front of xs, each joined into the state before it, c at first, and encrypted (6.2, step 6).
unfoldable pub absorbed : (List ℕ → List ℕ) → ℕ → List ℕ → List ℕ → List ℕ
absorbed E zero c xs = c
absorbed E (suc m) c xs = absorbed E m (E (xors c (take 16 xs))) (drop 16 xs)

-- How many blocks of a message of n bytes stand before its last one, which has 1 to 16 bytes, or none where n is 0 (6.2, step 3).
abbrev pub before_last : ℕ → ℕ
before_last n = (n - 1) / 16

-- The check of a message under the cipher E (6.2).
unfoldable pub cmac : (List ℕ → List ℕ) → List ℕ → List ℕ
cmac E message =
    let m = before_last (length message) in
    E (xors (absorbed E m zeros message) (masked E (drop (16 * m) message)))
