use Rattle.std.proofs.Common.{◌<◌, arith, rules}
use Rattle.std.proofs.lemmas.List.FromFn.{get_or-map-range_with_len}
use Rattle.crc.specs.Crc.{bits}
use Rattle.crc.proofs.table.byte_remainder.Goals as goal

-- The whole table is computed once from its rule, and compared; the lemma has the rule at each entry.
pub returns : goal.returns
unfolding bits
returns c =
    let h : c.args.byte < 256 = search rules in
    get_or-map-range_with_len (bits 8) 0 256 c.args.byte c.args.byte 0 h (omega arith)
