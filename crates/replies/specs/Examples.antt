-- Either side of a line, worked.
use Rattle.std.specs.Prelude.{◌≡◌, ℕ, Bool, true, false, List, [], ◌∷◌, replicate, Some, None}
use Rattle.replies.specs.declared.reply.Reply.TheVariants.{Discovery, Session}
use Rattle.replies.specs.Reply.{reply_object}
use Rattle.replies.specs.Blocks.{Part, block_of, cut_block, cut_count}

-- What a card that requires the channel and saw no failure yet says of itself.
abbrev fresh : List ℕ
fresh = reply_object (Discovery (record { required = true; failures = 0 }))

abbrev part : List ℕ → Bool → Part
part bs m = record { bytes = bs; more = m }

pub record Worked : Type 0 where
  pub discovery : fresh ≡ 0x73 ∷ 0x09 ∷ 0x91 ∷ 0x01 ∷ 0xFF ∷ 0x92 ∷ 0x01 ∷ 0x01 ∷ 0x8F ∷ 0x01 ∷ 0x00 ∷ []
  pub session : reply_object (Session 0xC0) ≡ 0x73 ∷ 0x03 ∷ 0x53 ∷ 0x01 ∷ 0xC0 ∷ []
  pub first_four : block_of fresh 0 4 ≡ part (0x73 ∷ 0x09 ∷ 0x91 ∷ 0x01 ∷ []) true
  pub all_but_one : block_of fresh 4 6 ≡ part (0xFF ∷ 0x92 ∷ 0x01 ∷ 0x01 ∷ 0x8F ∷ 0x01 ∷ []) true
  pub exactly_the_rest : block_of fresh 4 7 ≡ part (0xFF ∷ 0x92 ∷ 0x01 ∷ 0x01 ∷ 0x8F ∷ 0x01 ∷ 0x00 ∷ []) false
  pub all_of_it : block_of fresh 0 256 ≡ part fresh false
  pub after_the_end : block_of fresh 11 256 ≡ part [] false
  pub two_full_blocks : cut_count 10 (replicate 20 0x5A) ≡ 2
  pub one_byte_over : cut_count 10 (replicate 21 0x5A) ≡ 3
  pub last_of_two : cut_block 10 (replicate 20 0x5A) 1 ≡ Some (part (replicate 10 0x5A) false)
  pub third_of_two : cut_block 10 (replicate 20 0x5A) 2 ≡ None
  pub last_of_three : cut_block 10 (replicate 21 0x5A) 2 ≡ Some (part (0x5A ∷ []) false)
