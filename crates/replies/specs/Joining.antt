-- Laws of blocks: joined, they are what was cut.
use Rattle.std.specs.Prelude.{◌≡◌, ℕ, zero, suc, ◌+◌, ◌<◌, Bool, true, false, not, ◌||◌, List, [], ◌∷◌, ◌++◌, length, is_some, Some, None, Option, nat_lt}
use Rattle.std.specs.List.{flat_map}
use Rattle.replies.specs.Blocks.{Part, block_of, cut_block, cut_count}

-- The reply blocks for the lengths that were asked for, each from where the one before ended.
abbrev pub reply_blocks : List ℕ → ℕ → List ℕ → List Part
reply_blocks whole place [] = []
reply_blocks whole place (most ∷ later) =
    block_of whole place most ∷ reply_blocks whole (place + length (block_of whole place most).bytes) later

-- One of these blocks says that nothing remains.
abbrev pub ended : List Part → Bool
ended [] = false
ended (p ∷ ps) = not p.more || ended ps

-- The bytes of blocks, one behind the other.
abbrev pub all_bytes : List Part → List ℕ
all_bytes ps = flat_map (λ (p : Part). p.bytes) ps

-- The numbers 0 up to n, without n.
abbrev pub below : ℕ → List ℕ
below zero = []
below (suc n) = below n ++ n ∷ []

-- The bytes of answer block n; none where there is no such block.
abbrev pub present_bytes : Option Part → List ℕ
present_bytes None = []
present_bytes (Some p) = p.bytes

abbrev pub cut_bytes : ℕ → List ℕ → ℕ → List ℕ
cut_bytes size whole n = present_bytes (cut_block size whole n)

pub record Joins : Type 0 where
  -- reply blocks are the whole once one says that nothing remains, whatever lengths were asked for
  pub replies : (whole lengths : List ℕ) → ended (reply_blocks whole 0 lengths) ≡ true → all_bytes (reply_blocks whole 0 lengths) ≡ whole
  -- and less than the whole until then
  pub begun : (whole lengths : List ℕ) → 0 < length whole → ended (reply_blocks whole 0 lengths) ≡ false → length (all_bytes (reply_blocks whole 0 lengths)) < length whole
  -- all blocks of an answer are the whole
  pub answers : (size : ℕ) (whole : List ℕ) → 0 < size → flat_map (cut_bytes size whole) (below (cut_count size whole)) ≡ whole
  -- there are as many as were counted
  pub present : (size : ℕ) (whole : List ℕ) (n : ℕ) → 0 < size → is_some (cut_block size whole n) ≡ nat_lt n (cut_count size whole)
  -- and more remain behind each but the last
  pub last : (size : ℕ) (whole : List ℕ) (n : ℕ) (p : Part) → 0 < size → cut_block size whole n ≡ Some p → p.more ≡ nat_lt (n + 1) (cut_count size whole)
