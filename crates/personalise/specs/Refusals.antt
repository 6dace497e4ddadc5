-- Why a load is refused, by number.
use Rattle.std.specs.Prelude.{ℕ, List, codes}
use Rattle.personalise.specs.declared.refusal.Refusal.{Refusal}
use Rattle.personalise.specs.declared.refusal.Refusal.TheVariants.{Malformed, Unset}

abbrev pub refusal_number : Refusal → ℕ
refusal_number Malformed = 1
refusal_number Unset = 2

-- And in words.
abbrev pub refusal_words : Refusal → List ℕ
refusal_words Malformed = codes "the text is not a key load: a line is missing, out of place or wrongly written"
refusal_words Unset = codes "a limit is not set"
