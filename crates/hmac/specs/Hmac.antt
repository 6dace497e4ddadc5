-- HMAC (RFC 2104) with SHA-256: blocks of 64 bytes, results of 32.
use Rattle.std.specs.Prelude.{ℕ, ◌-◌, cond, List, ◌++◌, length, replicate, nat_lt}
use Rattle.byte_lists.specs.Bytes.{xors}
use Rattle.sha256.specs.Digest.{digest}

-- A list of at most 64 bytes, with zeros behind it, as a block.
abbrev pub filled : List ℕ → List ℕ
filled bs = bs ++ replicate (64 - length bs) 0

-- A key as a block: one that is longer than a block stands for its digest.
unfoldable pub block_key : List ℕ → List ℕ
block_key key = filled (cond (nat_lt 64 (length key)) (digest key) key)

-- The bytes that a key is joined with, for the inner and for the outer digest.
abbrev pub ipad : List ℕ
ipad = replicate 64 0x36

abbrev pub opad : List ℕ
opad = replicate 64 0x5c

-- K xor ipad, K xor opad
unfoldable pub inner_key : List ℕ → List ℕ
inner_key key = xors ipad (block_key key)

unfoldable pub outer_key : List ℕ → List ℕ
outer_key key = xors opad (block_key key)

-- H(K xor opad, H(K xor ipad, message)).
unfoldable pub hmac : List ℕ → List ℕ → List ℕ
hmac key message = digest (outer_key key ++ digest (inner_key key ++ message))
