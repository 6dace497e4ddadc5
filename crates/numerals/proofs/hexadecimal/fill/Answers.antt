use Rattle.std.proofs.Common.{◌+◌, ◌*◌, ◌<◌, length, take, sym, ap, ◌∙◌, arith}
use Rattle.numerals.specs.Hexadecimal.{unhex}
use Rattle.numerals.proofs.Pairs.{behind, behind_none, stops_high, stops_low, goes_on, all_filled}
use Rattle.numerals.proofs.hexadecimal.fill.Goals as goal

pub loop-i-init : goal.loop-i-init
loop-i-init c = behind_none (unhex c.args.text.now)

pub returns-in_err-high : goal.returns-in_err-high
returns-in_err-high c =
    let i = c.loop-i.i in
    let h : 2 * i + 1 < length c.args.text.now = omega (arith, c.requires) in
    rw c.from_residual.ensures (sym (ap (behind (take i c.loop-i.bytes)) (stops_high c.args.text.now i h c.in_err-high.ensures.value)) ∙ c.loop-i.invariant)

pub returns-in_err-low : goal.returns-in_err-low
returns-in_err-low c =
    let i = c.loop-i.i in
    let h : 2 * i + 1 < length c.args.text.now = omega (arith, c.requires) in
    rw c.from_residual-in_err-low.ensures (sym (ap (behind (take i c.loop-i.bytes)) (stops_low c.args.text.now i c.in_ok-high.high h c.in_ok-high.ensures.value c.in_err-low.ensures.value)) ∙ c.loop-i.invariant)

pub loop-i-preserved : goal.loop-i-preserved
loop-i-preserved c =
    let i = c.loop-i.i in
    let h : 2 * i + 1 < length c.args.text.now = omega (arith, c.requires) in
    let g : i < length c.loop-i.bytes = omega (arith, c.loop-i.auto.bytes) in
    sym (goes_on c.args.text.now c.loop-i.bytes i c.in_ok-high.high c.in_ok-low.low h g c.in_ok-high.ensures.value c.in_ok-low.ensures.value) ∙ c.loop-i.invariant

pub returns : goal.returns
returns c = sym (all_filled c.args.text.now c.loop-i.bytes c.loop-i.i (omega (arith, c.requires, c.loop-i.auto.bytes)) (omega (arith, c.loop-i.auto.bytes))) ∙ c.loop-i.invariant
