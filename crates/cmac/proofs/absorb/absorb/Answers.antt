use Rattle.std.proofs.Common.{◌+◌, ◌/◌, length, List, ℕ, [], drop, fold, sym, ap, ◌∙◌}
use Rattle.std.proofs.lemmas.List.{at_drop_more, at_drop_all}
use Rattle.cmac.proofs.Folds.{taking, fold_absorbed}
use Rattle.cmac.proofs.absorb.absorb.Goals as goal

pub loop-block-preserved : goal.loop-block-preserved
loop-block-preserved g c =
    let E : List ℕ → List ℕ = g.C.BlockCipher.enc c.args.cipher.now in
    let blocks : List (List ℕ) = c.as_chunks.result.0.now in
    let i : ℕ = c.loop-block.block-index in
    ap (λ s. fold (taking E) s (drop (i + 1) blocks)) (c.encrypt.ensures ∙ ap E c.join.ensures)
    ∙ sym (at_drop_more (fold (taking E) c.loop-block.state) blocks i [] c.loop-block-test.true)
    ∙ c.loop-block.invariant

pub returns : goal.returns
returns g c =
    let E : List ℕ → List ℕ = g.C.BlockCipher.enc c.args.cipher.now in
    let text : List ℕ = c.args.text.now in
    sym (at_drop_all (fold (taking E) c.loop-block.state) c.as_chunks.result.0.now c.loop-block.block-index c.loop-block-test.false)
    ∙ c.loop-block.invariant
    ∙ ap (fold (taking E) c.args.state.now) c.as_chunks.ensures.front
    ∙ fold_absorbed E (length text / 16) c.args.state.now text
