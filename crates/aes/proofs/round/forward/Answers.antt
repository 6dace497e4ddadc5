use Rattle.std.proofs.Common.{ap, ◌∙◌, rules}
use Rattle.byte_lists.specs.Bytes.{xors}
use Rattle.aes.specs.Steps.{mix_columns, sub_bytes}
use Rattle.aes.specs.Words.{bytes_of}
use Rattle.aes.proofs.FourColumns.{mixed_columns}
use Rattle.aes.proofs.round.forward.Goals as goal

pub returns : goal.returns
returns c =
    c.add_round_key.ensures ∙ ap (λ y. xors y (bytes_of c.args.key.now)) (c.shifted.ensures (λ xs. mix_columns (sub_bytes xs)) (λ cs y p. search rules) ∙ mixed_columns c.args.s (search rules))
