use Rattle.std.proofs.Common.{ℕ, List, ◌++◌, take}
use Rattle.std.specs.List.{flat_map}
use Rattle.hmac.specs.Keyed.{Keyed}
use Rattle.hmac.proofs.code.Hmac.update_all.Given as goal

abbrev pub invariant-loop-part : goal.invariant-loop-part
invariant-loop-part l = (key message : List ℕ) → Keyed l.initial.self key message → Keyed l.self key (message ++ flat_map (λ part. part.now) (take l.part-index l.parts))
