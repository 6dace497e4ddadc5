-- A block of an answer has no more bytes than the size at which the answer is cut.
use Rattle.std.proofs.Common.{◌≡◌, ℕ, ◌*◌, ◌≤◌, Bool, true, false, cond, ltb, List, length, drop, Some, None, Option, IfSome, ap, arith}
use Rattle.std.specs.Option.{option_map}
use Rattle.std.proofs.lemmas.List.{length-take}
use Rattle.replies.specs.declared.block.Block.{Block}
use Rattle.replies.specs.Blocks.{Part, seen, block_of, cut_block}

which : (b : Bool) (p q : Part) → Some p ≡ cond b (Some q) None → p ≡ q
which true p q e = cc
which false p q e = cc

pub block_within : (size : ℕ) (whole : List ℕ) (n : ℕ) (o : Option Block) → size ≤ 255 → option_map seen o ≡ cut_block size whole n → IfSome o (λ b. length b.bytes.now ≤ 255)
block_within size whole n None h e = tt
block_within size whole n (Some b) h e =
    let rest = drop (n * size) whole in
    let same : seen b ≡ block_of whole (n * size) size = which (ltb (n * size) (length whole)) (seen b) (block_of whole (n * size) size) e in
    omega (arith, ap (λ (p : Part). length p.bytes) same, length-take size rest)
