use Rattle.std.proofs.Common.{length, sym, ◌∙◌, le_refl, arith}
use Rattle.numerals.proofs.Pairs.{sized_all, sized_none}
use Rattle.numerals.proofs.hexadecimal.read_hexadecimal.Goals as goal
use Rattle.numerals.proofs.hexadecimal.read_hexadecimal.Goals.{then-text-ne0-via-then-text-ne0, then-text-ne0-via-else-text-ne0+then-text-bytes}

pub returns-then-text-ne0 : goal.returns-then-text-ne0
returns-then-text-ne0 c =
    let n = length c.args.bytes.now in
    sym (sized_none c.args.text.now n n
    (λ k l h e. elim c.then-text-ne0.branch [ then-text-ne0-via-then-text-ne0 w ↦ omega (arith, w.if-text-ne0.true) | then-text-ne0-via-else-text-ne0+then-text-bytes w ↦ omega (arith, w.if-text-bytes.true) ]))

pub returns : goal.returns
returns c =
    let n = length c.args.bytes.now in
    c.fill.ensures ∙ sym (sized_all c.args.text.now n n n (omega arith) (le_refl n) (le_refl n))
