-- A call that is not taken leaves the card as it is, and lends no memory.
use Rattle.std.proofs.Common.{◌≡◌, ℕ, true, false, List, [], vec_items, sym, refl, ap, ◌∙◌, arith}
use Rattle.sealing.specs.Sealing.{Sealing}
use Rattle.application.specs.Acts.{Acts}
use Rattle.law.specs.Hashes.{keyed}
use Rattle.law.specs.Calls.{not_taken}
use Rattle.law.specs.Step.{State, Move, does, done, kept, moves, carries, step}
use Rattle.tables.proofs.Kept.{all_kept}
use Rattle.card.specs.View.{outcome}
use Rattle.pair.specs.declared.calls.Call.{Call}
use Rattle.pair.specs.declared.calls.Call.TheVariants.{Load, PowerOn, PowerOff, Command}
use Rattle.pair.specs.declared.calls.Answer.{Answer}
use Rattle.pair.specs.declared.calls.Answer.TheVariants.{NotTaken}
use Rattle.pair.specs.declared.calls.Done.{Done}
use Rattle.pair.specs.declared.cards.Card.{Card}
use Rattle.pair.specs.declared.cards.Card.TheVariants.{Off, On}
use Rattle.pair.specs.View.{call_of, answer_of, done_answer, state_of, takes}
use Rattle.pair.specs.Lent.{Lent}

never : {P : Type 0} → true ≡ false → P
never e = absurd (let z : ◌≡◌ {A = ℕ} 0 1 = cc in omega arith)

module _ (𝓢 : Sealing) {S A M : Type 0} (𝓐 : Acts M) (f : A → M) where
  -- The card's own answers are all kept.
  stays_kept : (card : Card S A) → (state_of f card).answers ≡ kept (state_of f card).core.tables.connections (state_of f card).answers
  stays_kept (Off c) = all_kept c.parts.core.tables.connections
  stays_kept (On c) = all_kept c.parts.core.tables.connections

  no_move : (card : Card S A) (call : Call) → takes card call ≡ false → moves keyed 𝓢 (state_of f card).core (call_of call) ≡ does (state_of f card).core not_taken
  no_move (Off c) (Load text) e = never e
  no_move (Off c) PowerOn e = never e
  no_move (Off c) PowerOff e = refl
  no_move (Off c) (Command x) e = refl
  no_move (On c) (Load text) e = refl
  no_move (On c) PowerOn e = refl
  no_move (On c) PowerOff e = never e
  no_move (On c) (Command x) e = never e

  pub untaken : (card : Card S A) (call : Call) (d : Done) → takes card call ≡ false → d.answer ≡ NotTaken
      → step keyed 𝓢 𝓐 (state_of f card) (call_of call) ≡ outcome (state_of f card) (done_answer d)
  untaken card call d e a =
      let s : State M = state_of f card in
      ap (λ (m : Move). carries 𝓢 𝓐 s m) (no_move card call e)
      ∙ ap (λ (zs : List (List ℕ)). done s.core zs s.contents not_taken) (sym (stays_kept card))
      ∙ ap (λ (x : Answer). outcome s (answer_of x (vec_items d.buffer))) (sym a)

pub lends_none : (fill : ℕ) (call : Call) (d : Done) → d.answer ≡ NotTaken → vec_items d.buffer ≡ [] → vec_items d.work ≡ [] → Lent fill call d
lends_none fill call d a b w = rw a (b, w)
