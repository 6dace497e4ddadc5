-- Cipher block chaining from a block of zeros (NIST SP 800-38A, 6.2).
use Rattle.std.specs.Prelude.{ℕ, zero, suc, ◌/◌, List, ◌++◌, length, take, drop, replicate}
use Rattle.byte_lists.specs.Bytes.{xors}

-- m blocks of n bytes from the front of xs: the block b behind the block prev becomes out prev b, and next prev b stands
-- before the following one. What is left behind the m blocks stays.
unfoldable pub chained : ℕ → (List ℕ → List ℕ → List ℕ) → (List ℕ → List ℕ → List ℕ) → ℕ → List ℕ → List ℕ → List ℕ
chained n out next zero prev xs = xs
chained n out next (suc m) prev xs = out prev (take n xs) ++ chained n out next m (next prev (take n xs)) (drop n xs)

-- A block is joined with the ciphertext before it, and encrypted.
abbrev pub forth : (List ℕ → List ℕ) → List ℕ → List ℕ → List ℕ
forth E prev b = E (xors b prev)

-- A block is decrypted, and joined with the ciphertext before it.
abbrev pub back : (List ℕ → List ℕ) → List ℕ → List ℕ → List ℕ
back D prev b = xors (D b) prev

-- In decrypting, the block itself stands before the next one.
abbrev pub itself : List ℕ → List ℕ → List ℕ
itself prev b = b

-- All the blocks of xs encrypted.
abbrev pub cbc : ℕ → (List ℕ → List ℕ) → List ℕ → List ℕ
cbc n E xs = chained n (forth E) (forth E) (length xs / n) (replicate n 0) xs

-- All the blocks of xs decrypted.
abbrev pub uncbc : ℕ → (List ℕ → List ℕ) → List ℕ → List ℕ
uncbc n D xs = chained n (back D) itself (length xs / n) (replicate n 0) xs
