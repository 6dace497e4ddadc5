use Rattle.std.proofs.Common.{map, sym, ap, ◌∙◌}
use Rattle.byte_lists.specs.Numbers.{octets}
use Rattle.des_tables.specs.Bits.{bits, value}
use Rattle.des_tables.proofs.Bits.{value_bits}
use Rattle.des.specs.Des.{crypt, ciphered}
use Rattle.des.proofs.rounds.apply.Goals as goal

pub returns : goal.returns
unfolding ciphered
returns c =
    let ks = map (bits 48) c.args.keys.now in
    c.written.ensures
    ∙ ap (octets 8) (sym (value_bits 64 c.through.result c.through.type_inv))
    ∙ ap (λ xs. octets 8 (value xs)) (c.through.ensures ∙ ap (λ x. crypt ks (bits 64 x)) c.read.ensures)
