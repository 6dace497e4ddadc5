-- A session as the rules speak of it.
use Rattle.std.specs.Prelude.{◌≡◌, ℕ, cond, List, [], Some, None, Option}
use Rattle.buffer.specs.Held.{held}
use Rattle.law.specs.Request as line
use Rattle.law.specs.Step.{holds_talk}
use Rattle.law.specs.Tables as law
use Rattle.session.specs.declared.state.Block.{Block}
use Rattle.session.specs.declared.state.Talk.{Talk}
use Rattle.session.specs.declared.state.Talk.TheVariants.{Idle, Gathering, Answered}
use Rattle.session.specs.declared.state.Session.{Session}

abbrev pub block_of : Block → line.Block
block_of b = record { p2 = b.p2; bytes = held b.bytes }

abbrev pub talk_of : Talk → law.Talk
talk_of Idle = law.idle
talk_of (Gathering p) = law.gathering (held p.joined) (block_of p.last)
talk_of (Answered h) = law.answered (block_of h.last)

-- The answer that a session holds; none unless it is answered.
abbrev pub answer_in : Talk → List ℕ
answer_in Idle = []
answer_in (Gathering p) = []
answer_in (Answered h) = held h.answer

-- The answer is kept as long as the session holds one, and no other is there.
abbrev pub KeepsAnswer : Talk → Talk → Type 0
KeepsAnswer before after = answer_in after ≡ cond (holds_talk (talk_of after)) (answer_in before) []

-- A connection has no session until it is started.
abbrev pub session_of : Option Session → law.Session
session_of None = law.unstarted
session_of (Some s) = law.started s.container (talk_of s.talk)

abbrev pub answer_of : Option Session → List ℕ
answer_of None = []
answer_of (Some s) = answer_in s.talk
