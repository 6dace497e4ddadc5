use Rattle.std.proofs.Common.{◌≡◌, ◌∙◌, ◌/◌, ap, length}
use Rattle.std.specs.List.{fold, zip}
use Rattle.std.specs.Simd.{first_chunks}
use Rattle.compression.specs.Constants.{constants}
use Rattle.compression.proofs.Steps.{part, rounds_all}
use Rattle.compression.proofs.block.rounds.Goals as goal

pub returns : goal.returns
unfolding constants
returns c =
    let w = c.args.w.now in
    let ks : c.as_chunks.result.0.now ≡ first_chunks 8 8 constants = c.as_chunks.ensures.front ∙ ap (λ xs. first_chunks 8 (length xs / 8) xs) c.constants.ensures.is in
    let ws : c.as_chunks-2.result.0.now ≡ first_chunks 8 8 w = c.as_chunks-2.ensures.front ∙ ap (λ n. first_chunks 8 (n / 8) w) c.told-w in
    c.rounds_over.ensures ∙ ap (λ xs. fold part c.args.v (zip xs c.as_chunks-2.result.0.now)) ks ∙ ap (λ xs. fold part c.args.v (zip (first_chunks 8 8 constants) xs)) ws ∙ rounds_all w c.args.v c.told-w
