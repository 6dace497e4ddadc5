-- Replies, read again.
use Rattle.std.specs.Prelude.{◌≡◌, ◌<◌, length}
use Rattle.objects.specs.Joined.{value, object}
use Rattle.replies.specs.declared.reply.Reply.{Reply}
use Rattle.replies.specs.Reply.{inside, reply_object}

-- What the card writes is a complete object with those values inside, to whoever reads it as the card reads objects.
abbrev pub ReadsBack : Type 0
ReadsBack = (r : Reply) → length (inside r) < 128 → object (reply_object r) ≡ value (inside r)
