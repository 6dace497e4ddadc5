-- The card, off and powered, as the rules speak of it.
use Rattle.std.specs.Prelude.{◌≡◌, ℕ, ◌≤◌, Bool, true, false, List, length, take, drop, replicate, Some, None, Ok, Err, Option, Result}
use Rattle.apdu.specs.Reply.{fronted}
use Rattle.tables.specs.View.{answers_of}
use Rattle.manage.specs.declared.card_core.Core.{Core}
use Rattle.manage.specs.View.{core_as}
use Rattle.law.specs.Calls.{Answer, refused_host, replied}
use Rattle.law.specs.Step.{State, Done}
use Rattle.card.specs.declared.off.Off.{Off}
use Rattle.card.specs.declared.powered.Powered.{Powered}
use Rattle.card.specs.declared.refusal.HostRefusal.{HostRefusal}
use Rattle.card.specs.Refusals.{host_number}

abbrev pub state_as : {M : Type 0} → Bool → Core → M → State M
state_as powered c m = record { core = core_as powered c; answers = answers_of c.tables; contents = m }

abbrev pub off_state : {S A M : Type 0} → (A → M) → Off S A → State M
off_state f c = state_as false c.parts.core (f c.parts.application)

abbrev pub on_state : {S A M : Type 0} → (A → M) → Powered S A → State M
on_state f c = state_as true c.parts.core (f c.parts.application)

abbrev pub outcome : {M : Type 0} → State M → Answer → Done M
outcome s a = record { after = s; answer = a }

-- A command's answer: the reply is the first bytes of the buffer.
abbrev pub answered : Result ℕ HostRefusal → List ℕ → Answer
answered (Ok n) buffer = replied (take n buffer)
answered (Err e) buffer = refused_host (host_number e)

-- The refusal, if it is one.
abbrev pub refusal_in : {X : Type 0} → Result X HostRefusal → Option HostRefusal
refusal_in (Ok x) = None
refusal_in (Err e) = Some e

-- The host's memory after a command: behind the reply the buffer is as it was, and the work area is zero; a refusal touches
-- neither.
pub record Touched (n : ℕ) (lent written work after : List ℕ) : Type 0 where
  pub inside : n ≤ length lent
  pub behind : drop n written ≡ drop n lent
  pub size : length written ≡ length lent
  pub wiped : after ≡ replicate (length work) 0

pub record Untouched (lent written work after : List ℕ) : Type 0 where
  pub buffer : written ≡ lent
  pub area : after ≡ work

abbrev pub Memory : Result ℕ HostRefusal → List ℕ → List ℕ → List ℕ → List ℕ → Type 0
Memory (Ok n) lent written work after = Touched n lent written work after
Memory (Err e) lent written work after = Untouched lent written work after

-- A move was carried out: the card is left so, the reply stands at the start of the buffer, the rest as it was, and the
-- answer is its length.
pub record Answers {M : Type 0} (d : Done M) (after : State M) (lent written : List ℕ) (n : ℕ) : Type 0 where
  pub reply : List ℕ
  pub is : d ≡ outcome after (replied reply)
  pub len : n ≡ length reply
  pub bytes : written ≡ fronted reply lent
