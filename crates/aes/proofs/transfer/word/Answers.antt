use Rattle.std.proofs.Common.{◌≡◌, ℕ, ◌<◌, length, get_or, sym, ◌∙◌, rules, arith}
use Rattle.std.proofs.lemmas.List.{take_all}
use Rattle.aes.proofs.WordBytes.{octets_made}
use Rattle.aes.specs.Parts.{taken_four}
use Rattle.aes.proofs.transfer.word.Goals as goal

pub returns : goal.returns
returns c =
    let bs = c.args.bytes in
    let fits : (i : ℕ) → get_or bs i 0 < 256 = λ i. search rules in
    let long : length bs ≡ 4 = search rules in
    octets_made c.from_be_bytes.result (get_or bs 0 0) (get_or bs 1 0) (get_or bs 2 0) (get_or bs 3 0) c.from_be_bytes.ensures (fits 0) (fits 1) (fits 2) (fits 3)
    ∙ sym (taken_four bs 0 (omega arith))
    ∙ take_all 4 bs (omega arith)
