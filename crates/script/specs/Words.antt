-- The words of a setup.
use Rattle.std.specs.Prelude.{ℕ, Bool, true, false, List, [], ◌∷◌, codes}
use Rattle.script.specs.declared.setup.Kept.{Kept}
use Rattle.script.specs.declared.setup.Kept.TheVariants.{Fares, Records}
use Rattle.script.specs.declared.setup.Seals.{Seals}
use Rattle.script.specs.declared.setup.Seals.TheVariants.{Real, Bench}
use Rattle.script.specs.declared.setup.Setup.{Setup}

-- What a card keeps.
abbrev pub kept_word : Kept → List ℕ
kept_word Fares = codes "fares"
kept_word Records = codes "records"

-- Its sealer.
abbrev pub seals_word : Seals → List ℕ
seals_word Real = codes "real"
seals_word Bench = codes "bench"

-- Whether it requires the channel.
abbrev pub channel_word : Bool → List ℕ
channel_word true = codes "required"
channel_word false = codes "open"

-- All four, in the order in which they stand.
abbrev pub setup_words : Setup → List (List ℕ)
setup_words s = kept_word s.left ∷ kept_word s.right ∷ channel_word s.required ∷ seals_word s.seals ∷ []
