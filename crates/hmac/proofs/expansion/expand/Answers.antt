use Rattle.std.proofs.Common.{◌≡◌, [], ◌∷◌, ◌++◌, length, ap, ◌∙◌}
use borrow.Rule.Slice.PartMut.{post_of}
use Rattle.std.proofs.lemmas.List.{take_at}
use Rattle.std.specs.List.{flat_map}
use Rattle.hmac.specs.Hmac.{hmac}
use Rattle.hmac.specs.Expansion.{turn, stream}
use Rattle.hmac.proofs.Codes.{length_hmac, halves}
use Rattle.hmac.proofs.expansion.expand.Goals as goal

pub returns : goal.returns
unfolding turn stream
returns c =
    let key = c.args.key.now in
    let seed = flat_map (λ part. part.now) c.args.seed.now in
    let keyed = c.new-code.ensures in
    let one = c.copy_from_slice.new.self in
    let two = c.copy_from_slice-2.new.self in
    let is_one : one ≡ turn 1 key seed = c.copy_from_slice.ensures.after ∙ c.string.ensures key keyed in
    let long : length one ≡ 32 = ap length is_one ∙ length_hmac key (seed ++ 1 ∷ []) in
    let front = take_at one (post_of 0 32 c.args.area.now) 32 long in
    let is-two : two ≡ turn 2 key seed =
    c.copy_from_slice-2.ensures.after ∙ c.string-next.ensures key keyed ∙ ap (λ b. hmac key (b ++ (seed ++ 2 ∷ []))) (front ∙ is_one) in
    halves one two c.args.area.now long c.told-area ∙ ap (λ y. y ++ two) is_one ∙ ap (λ y. turn 1 key seed ++ y) is-two
