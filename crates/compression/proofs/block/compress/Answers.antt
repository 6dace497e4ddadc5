use Rattle.std.proofs.Common.{ap, ◌∙◌}
use Rattle.compression.specs.Compression.{extended, rounds, sums, compressed}
use Rattle.compression.proofs.block.compress.Goals as goal

pub returns : goal.returns
unfolding compressed
returns c =
    let v = c.args.v in
    let w = c.extend.ensures ∙ ap (extended 48) c.parse.ensures in
    c.add.ensures ∙ ap (sums v) (c.rounds.ensures ∙ ap (λ s. rounds 64 s v) w)
