-- The program's calls, answers and cards, as the law speaks of them.
use Rattle.std.specs.Prelude.{ℕ, Bool, true, false, List, [], ◌∷◌, vec_items}
use Rattle.law.specs.Calls as law
use Rattle.law.specs.Calls.{Entry}
use Rattle.law.specs.Step.{State}
use Rattle.card.specs.Refusals.{load_number}
use Rattle.card.specs.View.{off_state, on_state, answered}
use Rattle.pair.specs.declared.calls.Call.{Call}
use Rattle.pair.specs.declared.calls.Call.TheVariants.{Load, PowerOn, PowerOff, Command}
use Rattle.pair.specs.declared.calls.Answer.{Answer}
use Rattle.pair.specs.declared.calls.Answer.TheVariants.{NotTaken, Powered, Loaded, Replied}
use Rattle.pair.specs.declared.calls.Done.{Done}
use Rattle.pair.specs.declared.cards.Card.{Card}
use Rattle.pair.specs.declared.cards.Card.TheVariants.{Off, On}

abbrev pub call_of : Call → law.Call
call_of (Load text) = law.load text.now
call_of PowerOn = law.power_on
call_of PowerOff = law.power_off
call_of (Command c) = law.command c.apdu.now c.random.now c.buffer c.work

-- An answer, by what the reply buffer then holds: a reply is the first bytes of it, and a refusal is told by its number.
abbrev pub answer_of : Answer → List ℕ → law.Answer
answer_of NotTaken buffer = law.not_taken
answer_of Powered buffer = law.powered
answer_of (Loaded r) buffer = law.loaded (load_number r)
answer_of (Replied r) buffer = answered r buffer

abbrev pub done_answer : Done → law.Answer
done_answer d = answer_of d.answer (vec_items d.buffer)

abbrev pub state_of : {S A M : Type 0} → (A → M) → Card S A → State M
state_of f (Off c) = off_state f c
state_of f (On c) = on_state f c

-- Off, a card takes only load and power on; powered, only command and power off.
abbrev pub takes : {S A : Type 0} → Card S A → Call → Bool
takes (Off c) (Load text) = true
takes (Off c) PowerOn = true
takes (Off c) PowerOff = false
takes (Off c) (Command x) = false
takes (On c) (Load text) = false
takes (On c) PowerOn = false
takes (On c) PowerOff = true
takes (On c) (Command x) = true

-- Each call with its answer.
abbrev pub entries : List Call → List Done → List Entry
entries [] ds = []
entries (c ∷ cs) [] = []
entries (c ∷ cs) (d ∷ ds) = record { call = call_of c; answer = done_answer d } ∷ entries cs ds
