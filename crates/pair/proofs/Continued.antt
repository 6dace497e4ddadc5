-- The law over a run that goes on from earlier calls.
use Rattle.std.proofs.Common.{◌≡◌, ℕ, true, List, [], ◌∷◌, ◌++◌, map, IfOk, Ok, Err, Result, sym, refl, ap, ◌∙◌}
use Rattle.sealing.specs.Sealing.{Sealing, Faithful}
use Rattle.application.specs.Acts.{Acts, Bounded}
use Rattle.law.specs.Hashes.{keyed}
use Rattle.law.specs.Calls as law
use Rattle.law.specs.Calls.{Entry}
use Rattle.law.specs.Step.{State, step, new}
use Rattle.law.specs.Run.{run, left_by}
use Rattle.law.specs.Law.{Stands}
use Rattle.law.proofs.Hashes.{keyed_sized}
use Rattle.law.proofs.Stand.{stands}
use Rattle.pair.specs.declared.calls.Call.{Call}
use Rattle.pair.specs.declared.calls.Done.{Done}
use Rattle.pair.specs.View.{call_of, entries}
use Rattle.pair.specs.Followed.{Followed, Came, LawfulRun}

-- Where a call made something, what follows from two facts of it holds too.
pub made_both : {X Y : Type 0} (P Q W : X → Type 0) (r : Result X Y) → ((x : X) → P x → Q x → W x) → IfOk r P → IfOk r Q → IfOk r W
made_both P Q W (Ok x) f p q = f x p q
made_both P Q W (Err y) f p q = tt

module _ (𝓢 : Sealing) {M : Type 0} (𝓐 : Acts M) where
  run_splits : (before cs : List law.Call) (s : State M)
      → run keyed 𝓢 𝓐 s (before ++ cs) ≡ run keyed 𝓢 𝓐 s before ++ run keyed 𝓢 𝓐 (left_by keyed 𝓢 𝓐 s before) cs
  run_splits [] cs s = refl
  run_splits (c ∷ before) cs s =
      ap (λ (es : List Entry). record { call = c; answer = (step keyed 𝓢 𝓐 s c).answer } ∷ es) (run_splits before cs (step keyed 𝓢 𝓐 s c).after)

  left_splits : (before cs : List law.Call) (s : State M) → left_by keyed 𝓢 𝓐 s (before ++ cs) ≡ left_by keyed 𝓢 𝓐 (left_by keyed 𝓢 𝓐 s before) cs
  left_splits [] cs s = refl
  left_splits (c ∷ before) cs s = left_splits before cs (step keyed 𝓢 𝓐 s c).after

  -- The entries and the card of a run that goes on are those of all its calls since new.
  module _ (m : M) (before : List law.Call) (fill : ℕ) (s : State M) (cs : List Call) (ds : List Done) (t : State M) (came : Came 𝓢 𝓐 m before s) (f : Followed 𝓢 𝓐 fill s cs ds t) where
    pub answers_since : run keyed 𝓢 𝓐 (new true m) before ++ entries cs ds ≡ run keyed 𝓢 𝓐 (new true m) (before ++ map call_of cs)
    answers_since =
        ap (λ (es : List Entry). run keyed 𝓢 𝓐 (new true m) before ++ es) (f.answers ∙ ap (λ (u : State M). run keyed 𝓢 𝓐 u (map call_of cs)) came)
        ∙ sym (run_splits before (map call_of cs) (new true m))

    pub state_since : t ≡ left_by keyed 𝓢 𝓐 (new true m) (before ++ map call_of cs)
    state_since = f.state ∙ ap (λ (u : State M). left_by keyed 𝓢 𝓐 u (map call_of cs)) came ∙ sym (left_splits before (map call_of cs) (new true m))

module _ (𝓢 : Sealing) (F : Faithful 𝓢) {L R : Type 0} (𝓛 : Acts L) (𝓡 : Acts R) (BL : Bounded 𝓛) (BR : Bounded 𝓡) where
  stands_so : (l : L) (r : R) (cs : List law.Call) (es fs : List Entry) (s : State L) (t : State R)
      → es ≡ run keyed 𝓢 𝓛 (new true l) cs → fs ≡ run keyed 𝓢 𝓡 (new true r) cs
      → s ≡ left_by keyed 𝓢 𝓛 (new true l) cs → t ≡ left_by keyed 𝓢 𝓡 (new true r) cs
      → Stands keyed 𝓢 𝓛 𝓡 l r es fs s t
  stands_so l r cs es fs s t a b c d = rw (a, b, c, d) (stands keyed keyed_sized 𝓢 F 𝓛 𝓡 BL BR l r cs)

  pub lawful : (fill : ℕ) (s : State L) (t : State R) (cs : List Call) (ds es : List Done) (s' : State L) (t' : State R)
      → Followed 𝓢 𝓛 fill s cs ds s' → Followed 𝓢 𝓡 fill t cs es t' → LawfulRun 𝓢 𝓛 𝓡 s t cs ds es s' t'
  lawful fill s t cs ds es s' t' left right = λ l r before came_left came_right.
      stands_so l r (before ++ map call_of cs) (run keyed 𝓢 𝓛 (new true l) before ++ entries cs ds) (run keyed 𝓢 𝓡 (new true r) before ++ entries cs es) s' t'
      (answers_since 𝓢 𝓛 l before fill s cs ds s' came_left left) (answers_since 𝓢 𝓡 r before fill t cs es t' came_right right)
      (state_since 𝓢 𝓛 l before fill s cs ds s' came_left left) (state_since 𝓢 𝓡 r before fill t cs es t' came_right right)
