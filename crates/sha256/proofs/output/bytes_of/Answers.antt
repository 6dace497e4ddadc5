use Rattle.std.proofs.Common.{◌≡◌, ℕ, ◌<◌, [], length, map, get_or, sym, ap, ◌∙◌, rules, arith}
use lib.ListN.{length-map}
use Rattle.std.proofs.lemmas.List.{get_or-map, ext_get_or}
use Rattle.std.proofs.lemmas.List.Folds.{flat_map-map}
use Rattle.std.specs.List.{flat_map}
use Rattle.byte_lists.specs.Numbers.{octets}
use Rattle.sha256.proofs.output.bytes_of.Goals as goal

pub returns : goal.returns
returns c =
    let ws = c.into-words.result in
    let eight : length ws ≡ 8 = ap length c.into-words.ensures in
    let long : length c.map.result ≡ length (map (octets 4) ws) = c.map.ensures.items.long ∙ sym eight ∙ sym (length-map ws (octets 4)) in
    let at : (i : ℕ) → i < length c.map.result → get_or c.map.result i [] ≡ get_or (map (octets 4) ws) i [] = λ i h.
    let small : i < 8 = omega (arith, h, c.map.ensures.items.long) in
    let within : i < length ws = omega (arith, small, eight) in
    let made = c.map.ensures.items.at i 0 [] small in
    let four : get_or c.map.result i [] ≡ octets 4 (get_or ws i 0) = search (rules, made.2) in
    four ∙ sym (get_or-map (octets 4) ws i 0 [] within)
    in
    let words : c.map.result ≡ map (octets 4) ws = ext_get_or [] _ _ long at in
    let same : c.unwrap.result.now ≡ c.as_flattened.result.now = search rules in
    same ∙ c.as_flattened.ensures.value ∙ ap (flat_map (λ xs. xs)) words ∙ flat_map-map (λ xs. xs) (octets 4) ws ∙ ap (flat_map (octets 4)) c.into-words.ensures
