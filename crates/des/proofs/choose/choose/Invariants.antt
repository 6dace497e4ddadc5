use Rattle.std.proofs.Common.{◌≡◌, ◌^◌, ◌<◌, take}
use Rattle.des_tables.specs.Bits.{bits, chosen}
use Rattle.des.proofs.choose.choose.Given as goal

abbrev pub invariant-loop-p : goal.invariant-loop-p
invariant-loop-p l = (l.out < 2 ^ l.p-index) × (bits l.p-index l.out ≡ chosen (take l.p-index l.places) (bits l.width l.x))
