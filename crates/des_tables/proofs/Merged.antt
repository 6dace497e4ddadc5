-- Each entry of the merged table is what a box gives for six bits, in its place among 32, after P: one computed test.
use Rattle.std.proofs.Common.{◌≡◌, ℕ, ◌+◌, ◌*◌, ◌/◌, ◌%◌, ◌<◌, Bool, T, List, [], map, get_or, sym, ap, ◌∙◌, arith}
use Rattle.std.specs.List.{range_with_len}
use Rattle.std.proofs.lemmas.List.FromFn.{get_or-map-range_with_len}
use Rattle.byte_lists.proofs.Tables.{all_below, all_below_at, same, same_is}
use Rattle.des_tables.specs.Bits.{bits, value, chosen}
use Rattle.des_tables.specs.Tables.{sboxes, straight}
use Rattle.des_tables.specs.Boxes.{selected, placed}

abbrev word : ℕ → ℕ → ℕ
word b v = value (chosen straight (placed b v))

-- for each box the words of all six bits: the code's table is this one, number for number
unfoldable pub merged : List (List ℕ)
merged = map (λ b. map (word b) (range_with_len 0 64)) (range_with_len 0 8)

rule : ℕ → Bool
unfolding bits straight sboxes selected
rule i = same (bits 32 (word (i / 64) (i % 64))) (chosen straight (placed (i / 64) (i % 64)))

rule_holds : T (all_below rule 512)
unfolding rule bits straight sboxes selected
rule_holds = tt

pub entry_is : (b v : ℕ) → b < 8 → v < 64 → bits 32 (get_or (get_or merged b []) v 0) ≡ chosen straight (placed b v)
unfolding merged rule
entry_is b v h l =
    let i : ℕ = 64 * b + v in
    let q : i / 64 ≡ b = omega arith in
    let r : i % 64 ≡ v = omega arith in
    let n : i < 512 = omega arith in
    let row : get_or merged b [] ≡ map (word b) (range_with_len 0 64) = get_or-map-range_with_len (λ c. map (word c) (range_with_len 0 64)) 0 8 b b [] h (omega arith) in
    let at : get_or (map (word b) (range_with_len 0 64)) v 0 ≡ word b v = get_or-map-range_with_len (word b) 0 64 v v 0 l (omega arith) in
    ap (λ ws. bits 32 (get_or ws v 0)) row ∙ ap (bits 32) at
    ∙ ap (λ c. bits 32 (word c v)) (sym q) ∙ ap (λ w. bits 32 (word (i / 64) w)) (sym r)
    ∙ same_is (bits 32 (word (i / 64) (i % 64))) (chosen straight (placed (i / 64) (i % 64))) (all_below_at rule 512 rule_holds i n)
    ∙ ap (λ c. chosen straight (placed c (i % 64))) q ∙ ap (λ w. chosen straight (placed b w)) r
