use Rattle.std.proofs.Common.{◌≡◌, ℕ, ◌-◌, ◌/◌, ◌%◌, ◌^◌, ◌<◌, length, get_or, sym, refl, ap, ◌∙◌, subst, arith, lit<}
use Rattle.std.proofs.lemmas.List.{take_all}
use Rattle.des_tables.specs.Bits.{bits, chosen}
use Rattle.des.proofs.Choosing.{choose_more, room, place_at}
use Rattle.des.proofs.choose.choose.Goals as goal

pub loop-p-init : goal.loop-p-init
unfolding bits
loop-p-init c = (lit< tt, refl)

pub loop-p-preserved : goal.loop-p-preserved
loop-p-preserved c =
    let i = c.loop-p.p-index in
    let ps = c.args.places.now in
    let h = c.loop-p-test.true in (
      (room c.loop-p.out i (c.args.x / 2 ^ (c.args.width - get_or ps i 0) % 2) (length ps) c.loop-p.invariant.0 h (omega arith) (omega arith)).0,
      choose_more ps c.args.width c.args.x c.loop-p.out i h (place_at c.args.width ps c.requires.table i h) c.loop-p.invariant.1,
    )

pub returns : goal.returns
returns c =
    let n : c.loop-p.p-index ≡ length c.args.places.now = omega arith in
    let P : ℕ → Type 0 = λ k. c.loop-p.out < 2 ^ k in
    record {
      is = ap (λ k. bits k c.loop-p.out) (sym n) ∙ c.loop-p.invariant.1 ∙ ap (λ qs. chosen qs (bits c.args.width c.args.x)) (take_all _ _ c.loop-p-test.false);
      fits = subst P n c.loop-p.invariant.0;
    }

pub overflow_sub-bit : goal.overflow_sub-bit
overflow_sub-bit c = (place_at c.args.width c.args.places.now c.requires.table c.loop-p.p-index c.loop-p-test.true).1

pub overflow_shr-bit : goal.overflow_shr-bit
overflow_shr-bit c = omega (arith, place_at c.args.width c.args.places.now c.requires.table c.loop-p.p-index c.loop-p-test.true)
