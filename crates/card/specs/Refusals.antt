-- The numbers and words of the refusals that are no status words.
use Rattle.std.specs.Prelude.{ℕ, cond, not, ◌||◌, List, Some, None, Ok, Err, codes, Option, Result, ◌==◌, nat_lt}
use Rattle.personalise.specs.declared.refusal.Refusal.{Refusal}
use Rattle.personalise.specs.declared.refusal.Refusal.TheVariants as text
use Rattle.card.specs.declared.refusal.LoadRefusal.{LoadRefusal}
use Rattle.card.specs.declared.refusal.LoadRefusal.TheVariants.{Malformed, Unset, AlreadyHeld, NoRow}
use Rattle.card.specs.declared.refusal.HostRefusal.{HostRefusal}
use Rattle.card.specs.declared.refusal.HostRefusal.TheVariants.{ShortMemory, RandomBytes}

abbrev pub load_number_of : LoadRefusal → ℕ
load_number_of Malformed = 1
load_number_of Unset = 2
load_number_of AlreadyHeld = 3
load_number_of NoRow = 4

abbrev pub load_words : LoadRefusal → List ℕ
load_words Malformed = codes "the text is not a key load"
load_words Unset = codes "a limit is not set"
load_words AlreadyHeld = codes "a key with this reference is held already"
load_words NoRow = codes "no key row is free"

-- A text that gives no key.
abbrev pub refused_text : Refusal → LoadRefusal
refused_text text.Malformed = Malformed
refused_text text.Unset = Unset

-- A load's answer by number: 0 is accepted.
abbrev pub load_number : Result Unit LoadRefusal → ℕ
load_number (Ok u) = 0
load_number (Err e) = load_number_of e

abbrev pub host_number : HostRefusal → ℕ
host_number ShortMemory = 5
host_number RandomBytes = 6

abbrev pub host_words : HostRefusal → List ℕ
host_words ShortMemory = codes "the reply buffer or the work area is too short"
host_words RandomBytes = codes "there are not 32 random bytes"

-- The host's refusal, told from the lengths of reply buffer, work area and random bytes.
abbrev pub host_refusal : ℕ → ℕ → ℕ → Option HostRefusal
host_refusal buffer work random = cond (nat_lt buffer 258 || nat_lt work 64) (Some ShortMemory) (cond (not (random == 32)) (Some RandomBytes) None)
