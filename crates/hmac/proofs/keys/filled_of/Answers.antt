use Rattle.std.proofs.Common.{◌≡◌, ℕ, ◌-◌, List, ◌++◌, length, drop, replicate, ap, ◌∙◌}
use Rattle.std.proofs.lemmas.List.{drop-replicate}
use Rattle.hmac.specs.Hmac.{filled}
use Rattle.hmac.proofs.keys.filled_of.Goals as goal

filled_put : (copy bytes : List ℕ) → copy ≡ bytes → copy ++ drop (length bytes) (replicate 64 0) ≡ filled bytes
filled_put copy bytes e = ap (λ y. copy ++ y) (drop-replicate (length bytes) 64 0) ∙ ap (λ y. y ++ replicate (64 - length bytes) 0) e

pub returns : goal.returns
returns c = filled_put c.copy_from_slice.new.self c.args.bytes.now c.copy_from_slice.ensures.after
