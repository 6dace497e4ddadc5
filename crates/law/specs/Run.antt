-- A card's run: each call with its answer, and the card that is left.
use Rattle.std.specs.Prelude.{List, [], ◌∷◌}
use Rattle.sealing.specs.Sealing.{Sealing}
use Rattle.application.specs.Acts.{Acts}
use Rattle.law.specs.Associations.{Hashing}
use Rattle.law.specs.Calls.{Call, Entry}
use Rattle.law.specs.Step.{State, step}

module _ (𝓗 : Hashing) (𝓢 : Sealing) {M : Type 0} (𝓐 : Acts M) where
  abbrev pub run : State M → List Call → List Entry
  run s [] = []
  run s (c ∷ cs) = record { call = c; answer = (step 𝓗 𝓢 𝓐 s c).answer } ∷ run (step 𝓗 𝓢 𝓐 s c).after cs

  abbrev pub left_by : State M → List Call → State M
  left_by s [] = s
  left_by s (c ∷ cs) = left_by (step 𝓗 𝓢 𝓐 s c).after cs
