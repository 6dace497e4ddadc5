-- What a run of the program comes to.
use Rattle.std.specs.Prelude.{◌≡◌, ℕ, true, List, ◌++◌, map}
use Rattle.sealing.specs.Sealing.{Sealing}
use Rattle.application.specs.Acts.{Acts}
use Rattle.law.specs.Hashes.{keyed}
use Rattle.law.specs.Calls as law
use Rattle.law.specs.Step.{State, new}
use Rattle.law.specs.Run.{run, left_by}
use Rattle.law.specs.Law.{Stands}
use Rattle.pair.specs.declared.calls.Call.{Call}
use Rattle.pair.specs.declared.calls.Done.{Done}
use Rattle.pair.specs.View.{call_of, entries}
use Rattle.pair.specs.Lent.{AllLent}

module _ (𝓢 : Sealing) {M : Type 0} (𝓐 : Acts M) where
  -- One card, from state s over these calls to state t: every answer and the card that is left are those of the law's run,
  -- and the host's memory is left in order.
  pub record Followed (fill : ℕ) (s : State M) (cs : List Call) (ds : List Done) (t : State M) : Type 0 where
    pub answers : entries cs ds ≡ run keyed 𝓢 𝓐 s (map call_of cs)
    pub state : t ≡ left_by keyed 𝓢 𝓐 s (map call_of cs)
    pub memory : AllLent fill cs ds

  -- A card that requires the channel came to state s by these calls since new, when its application held m.
  abbrev pub Came : M → List law.Call → State M → Type 0
  Came m before s = s ≡ left_by keyed 𝓢 𝓐 (new true m) before

-- The law over runs, whatever both cards met before: with the calls since new, and then those of this run.
abbrev pub LawfulRun : Sealing → {L R : Type 0} → Acts L → Acts R → State L → State R → List Call → List Done → List Done → State L → State R → Type 0
LawfulRun 𝓢 {L} {R} 𝓛 𝓡 s t cs ds es s' t' = (l : L) (r : R) (before : List law.Call) → Came 𝓢 𝓛 l before s → Came 𝓢 𝓡 r before t
    → Stands keyed 𝓢 𝓛 𝓡 l r (run keyed 𝓢 𝓛 (new true l) before ++ entries cs ds) (run keyed 𝓢 𝓡 (new true r) before ++ entries cs es) s' t'
