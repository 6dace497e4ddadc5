-- What a code in progress has taken.
use Rattle.std.specs.Prelude.{ℕ, List, ◌++◌}
use Rattle.sha256.specs.Took.{Took}
use Rattle.hmac.specs.declared.code.Hmac.{Hmac}
use Rattle.hmac.specs.Hmac.{inner_key, outer_key}

-- Under this key, the state has taken this message: both digests have taken the key, the inner one the message too.
pub record Keyed (h : Hmac) (key message : List ℕ) : Type 0 where
  pub within : Took h.inner (inner_key key ++ message)
  pub around : Took h.outer (outer_key key)
