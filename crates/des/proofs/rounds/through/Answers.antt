use Rattle.std.proofs.Common.{map, ap, ◌∙◌}
use Rattle.des_tables.specs.Bits.{bits, chosen}
use Rattle.des_tables.specs.Tables.{fp}
use Rattle.des_tables.proofs.Words.{initial_is, final_is}
use Rattle.des.specs.Feistel.{halves, crossed, turns}
use Rattle.des.specs.Des.{mixed, crypt}
use Rattle.des.proofs.rounds.through.Goals as goal

pub returns : goal.returns
unfolding crypt
returns c =
    let ks = map (bits 48) c.args.keys.now in
    let start = ap (bits 64) c.initial.ensures ∙ initial_is c.args.block c.ranges.block.fits in
    ap (bits 64) c.last.ensures ∙ final_is c.rounds.result c.rounds.type_inv ∙ ap (chosen fp) (c.rounds.ensures ∙ ap (λ xs. crossed (turns mixed ks (halves xs))) start)
