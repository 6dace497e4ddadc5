use Rattle.std.proofs.Common.{◌≡◌, ◌<◌, ◌≤◌, [], map, length, ap, arith, rules}
use lib.Bits.{xor_lt}
use lib.ListN.{length-map}
use Rattle.std.proofs.lemmas.List.{get_or-map}
use Rattle.des_tables.specs.Bits.{bits}
use Rattle.des.specs.Feistel.{turns}
use Rattle.des.specs.Des.{mixed}
use Rattle.des.proofs.Turning.{rounds_none, rounds_more, rounds_all}
use Rattle.des.proofs.rounds.rounds.Goals as goal

pub loop-key-init : goal.loop-key-init
loop-key-init c = (omega arith, omega arith, ap (turns mixed (map (bits 48) c.args.keys.now)) (rounds_none c.args.start _ _ c.cut-block.ensures.left c.cut-block.ensures.right))

pub loop-key-preserved : goal.loop-key-preserved
loop-key-preserved c =
    let ks = c.args.keys.now in
    let i = c.loop-key.key-index in
    let b = c.loop-key.block in
    let n : length ks ≡ 16 = search rules in
    let g : i < length ks = omega arith in
    let h : i < length (map (bits 48) ks) = omega (arith, length-map ks (bits 48)) in
    let x = xor_lt 32 b.left c.mix.result c.loop-key.invariant.0 c.mix.type_inv in
    let t = c.turned-block.ensures in (
      omega (arith, t.left),
      omega (arith, t.right),
      rounds_more (map (bits 48) ks) i b.left b.right _ _ c.mix.result _ _ t.left t.right h (get_or-map (bits 48) ks i 0 [] g) c.mix.ensures c.loop-key.invariant.2,
    )

pub returns : goal.returns
returns c =
    let ks = c.args.keys.now in
    let n : length ks ≡ 16 = search rules in
    let h : length (map (bits 48) ks) ≤ c.loop-key.key-index = omega (arith, length-map ks (bits 48)) in
    rounds_all (map (bits 48) ks) c.loop-key.key-index c.loop-key.block.left c.loop-key.block.right c.crossed.result _ h c.loop-key.invariant.0 c.crossed.ensures c.loop-key.invariant.2
