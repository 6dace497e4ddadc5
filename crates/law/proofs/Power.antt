-- What outlasts a power change.
use Rattle.std.proofs.Common.{Bool, true, false, refl}
use Rattle.sealing.specs.Sealing.{Sealing}
use Rattle.application.specs.Acts.{Acts}
use Rattle.law.specs.Associations.{Hashing}
use Rattle.law.specs.Calls.{power_on, power_off}
use Rattle.law.specs.Step.{State, carries, moves_at}
use Rattle.law.specs.Laws.{Lasts, PowerKeepsCounts}

module _ (𝓗 : Hashing) (𝓢 : Sealing) {M : Type 0} (𝓐 : Acts M) where
  on : (s : State M) (b : Bool) → Lasts s (carries 𝓢 𝓐 s (moves_at 𝓗 𝓢 s.core b power_on)).after
  on s true = record { keys = refl; masters = refl; failures = refl; contents = refl }
  on s false = record { keys = refl; masters = refl; failures = refl; contents = refl }

  off : (s : State M) (b : Bool) → Lasts s (carries 𝓢 𝓐 s (moves_at 𝓗 𝓢 s.core b power_off)).after
  off s true = record { keys = refl; masters = refl; failures = refl; contents = refl }
  off s false = record { keys = refl; masters = refl; failures = refl; contents = refl }

  pub power_keeps_counts : PowerKeepsCounts 𝓗 𝓢 𝓐
  power_keeps_counts s = (on s s.core.powered, off s s.core.powered)
