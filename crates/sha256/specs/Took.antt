-- What a digest in progress has taken.
use Rattle.std.specs.Prelude.{◌≡◌, ℕ, ◌*◌, ◌/◌, ◌%◌, ◌^◌, List, length, take, drop}
use Rattle.sha256.specs.declared.state.Sha256.{Sha256}
use Rattle.sha256.specs.Digest.{hashed}

-- The state has taken these bytes: it has counted them, its words are those after the whole blocks, and its block
-- begins with the bytes that are left over.
pub record Took (s : Sha256) (bytes : List ℕ) : Type 0 where
  pub counted : s.count ≡ length bytes % 2 ^ 64
  pub chained : s.chain ≡ hashed (length bytes / 64) bytes
  pub held : take (length bytes % 64) s.block ≡ drop (64 * (length bytes / 64)) bytes
