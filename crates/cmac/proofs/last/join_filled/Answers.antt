use Rattle.std.proofs.Common.{◌-◌, ◌<◌, ◌≤◌, cond, length, get_or, set, sym, ap, ◌∙◌, arith}
use lib.Bits.{bit_xor}
use Rattle.std.proofs.lemmas.Bool.{eqb-false}
use Rattle.byte_lists.specs.Bytes.{xors}
use Rattle.cmac.specs.Cmac.{padded}
use Rattle.cmac.specs.Joins.{joined_front, xors_behind}
use Rattle.cmac.proofs.last.join_filled.Goals as goal

pub returns-then-not-is_whole : goal.returns-then-not-is_whole
returns-then-not-is_whole c =
    let b = c.args.block.now in
    let p = c.args.part.now in
    let n = length p in
    let fits : n ≤ length b = omega arith in
    let test = c.if-not-is_whole.ensures in
    let cut : n < length b = omega (arith, eqb-false n 16 (sym test)) in
    c.join_mark.ensures
    ∙ ap (λ zs. set zs n (bit_xor (get_or zs n 0) 0x80)) (joined_front b p c.join.new.block (n - 0) (omega arith) fits c.join.ensures)
    ∙ sym (xors_behind b p 0x80 (15 - n) cut)
    ∙ ap (λ t. xors b (cond t p (padded p))) test

pub returns-else-not-is_whole : goal.returns-else-not-is_whole
returns-else-not-is_whole c =
    let b = c.args.block.now in
    let p = c.args.part.now in
    let fits : length p ≤ length b = omega arith in
    joined_front b p c.join.new.block (length p - 0) (omega arith) fits c.join.ensures
    ∙ ap (λ t. xors b (cond t p (padded p))) c.if-not-is_whole.ensures
