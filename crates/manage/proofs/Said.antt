-- Moves that are a status word alone, and moves that are another by a check's outcome.
use Rattle.std.proofs.Common.{◌≡◌, ℕ, List, [], ◌++◌, length, Some, None, sym, refl, ap, ◌∙◌}
use Rattle.apdu.specs.Command.{Shape, bare, le, alone, both}
use Rattle.apdu.specs.Reply.{reply, fronted}
use Rattle.apdu.specs.declared.status.Status.{Status}
use Rattle.apdu.specs.declared.status.Status.TheVariants.{WrongLength, NotNow}
use Rattle.objects.specs.Joined.{object}
use Rattle.law.specs.Request as law
use Rattle.law.specs.Step as law_step
use Rattle.law.specs.Associations.{Hashing}
use Rattle.law.specs.Calls.{replied}
use Rattle.law.specs.Step.{Move, does, says, given, gives_reply, joins, joined, continues}
use Rattle.law.proofs.Rows.{no_some, some_same}
use Rattle.manage.specs.declared.card_core.Core.{Core}
use Rattle.manage.specs.declared.told.Told.{Told}
use Rattle.manage.specs.Told.{bytes_of}
use Rattle.manage.specs.View.{core_of, pending_of, Said, Replied}
use Rattle.manage.specs.declared.pending.Gathered.{Gathered}
use Rattle.manage.specs.declared.pending.Pending.{Pending}
use Rattle.manage.specs.declared.pending.Pending.TheVariants as pending
use Rattle.apdu.specs.Alone.{le_alone, data_alone}
use Rattle.manage.proofs.Stays.{stays}

-- A status word that is told, and nothing changes.
pub tells : (m : Move) (c : Core) (s : Status) (t : Told) (lent written : List ℕ) (n : ℕ)
    → m ≡ says (core_of c) s → bytes_of t ≡ reply [] s → n ≡ length (bytes_of t) → written ≡ fronted (bytes_of t) lent → Replied m c c lent written n
tells m c s t lent written n e w l b = record {
  reply = bytes_of t;
  move = e ∙ ap (λ (zs : List ℕ). does (core_of c) (replied zs)) (sym w);
  answers = stays c.tables;
  len = l;
  bytes = b;
}

-- One move is another.
pub is_same : (m m' : Move) (before after : Core) (lent written : List ℕ) (n : ℕ) → m ≡ m' → Replied m' before after lent written n → Replied m before after lent written n
is_same m m' before after lent written n e d = record { reply = d.reply; move = e ∙ d.move; answers = d.answers; len = d.len; bytes = d.bytes }

module _ (c : law_step.Core) (k : law.Kind) (z : List ℕ) (at : ℕ) where
  pub no_le : (s : Shape) → None ≡ le_alone s → gives_reply c k z at s ≡ says c WrongLength
  no_le bare e = refl
  no_le (le n) e = no_some e
  no_le (alone d) e = refl
  no_le (both d n) e = refl

  pub with_le : (s : Shape) (n : ℕ) → Some n ≡ le_alone s → gives_reply c k z at s ≡ given c k z at n
  with_le bare n e = no_some (sym e)
  with_le (le m) n e = ap (λ (j : ℕ). given c k z at j) (some_same (sym e))
  with_le (alone d) n e = no_some (sym e)
  with_le (both d m) n e = no_some (sym e)

module _ (𝓗 : Hashing) (c : law_step.Core) (random : List ℕ) (k : law.Kind) (j : List ℕ) where
  pub no_data : (s : Shape) → None ≡ data_alone s → joins 𝓗 c random k j s ≡ says c WrongLength
  no_data bare e = refl
  no_data (le n) e = refl
  no_data (alone d) e = no_some e
  no_data (both d n) e = refl

  pub with_data : (s : Shape) (d z : List ℕ) → Some d ≡ data_alone s → z ≡ j ++ d → joins 𝓗 c random k j s ≡ joined 𝓗 c random k z (object z)
  with_data bare d z e w = no_some (sym e)
  with_data (le n) d z e w = no_some (sym e)
  with_data (alone x) d z e w = ap (λ (y : List ℕ). joined 𝓗 c random k y (object y)) (ap (λ (y : List ℕ). j ++ y) (some_same (sym e)) ∙ sym w)
  with_data (both x n) d z e w = no_some (sym e)

-- Where no object is gathered, none goes on.
pub no_object : (𝓗 : Hashing) (c : law_step.Core) (random : List ℕ) (k : law.Kind) (s : Shape) (p : Pending) → ((g : Gathered) → p ≡ pending.Object g → ⊥)
    → continues 𝓗 c random k s (pending_of p) ≡ says c NotNow
no_object 𝓗 c random k s pending.Nothing n = refl
no_object 𝓗 c random k s (pending.Object g) n = absurd (n g refl)
no_object 𝓗 c random k s (pending.Reply w) n = refl

-- Nothing changes.
pub still : (m : Move) (c : Core) (s : Status) → m ≡ says (core_of c) s → Said m c c s
still m c s e = record { move = e; answers = stays c.tables }
