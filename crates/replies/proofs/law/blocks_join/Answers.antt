use Rattle.replies.proofs.Joined.{replies_join, replies_begun}
use Rattle.replies.proofs.Cut.{answers_join, present, last}
use Rattle.replies.proofs.law.blocks_join.Goals as goal

pub returns : goal.returns
returns c = record {
  replies = replies_join;
  begun = replies_begun;
  answers = answers_join;
  present = λ size whole n h. present size whole h n;
  last = λ size whole n p h e. last size whole h n p e;
}
