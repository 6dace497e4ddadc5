-- What the card does by an object's outcome.
use Rattle.std.proofs.Common.{◌≡◌, ℕ, List, Ok, Err, Result, sym, refl, ap, ◌∙◌, subst}
use Rattle.buffer.specs.Held.{held as held_bytes}
use Rattle.apdu.specs.declared.status.Status.{Status}
use Rattle.apdu.specs.declared.status.Status.TheVariants.{WrongData, MoreToSend}
use Rattle.objects.specs.Joined.{Object, bad, incomplete}
use Rattle.request.specs.View.{kind_of}
use Rattle.objects.specs.Asked.{Asked}
use Rattle.law.specs.Request as law
use Rattle.law.specs.Tables as held
use Rattle.law.specs.Associations.{Hashing}
use Rattle.law.specs.Associate.{Verdict, refused, wrong_mac, spent, granted as granting, bad_layout, unknown, no_row, not_possible, already_started, verdict}
use Rattle.law.specs.Step as step
use Rattle.law.specs.Step.{Move, says, put, nothing, decides, joined}
use Rattle.associate.specs.Outcome.{Outcome, done, decided, outcome}
use Rattle.tables.specs.declared.rows.Tables.{Tables}
use Rattle.tables.specs.View.{tables_of, Keeps}
use Rattle.manage.specs.declared.card_core.Core.{Core}
use Rattle.manage.specs.View.{core_of, with_tables, with_pending, failures_after, refused_core, granted, Said}
use Rattle.manage.specs.declared.pending.Gathered.{Gathered}
use Rattle.manage.specs.declared.pending.Pending.TheVariants as pending
use Rattle.manage.proofs.Stays.{stays}

abbrev refusing : step.Core → held.Tables → Status → step.Core
refusing c t s = record { powered = c.powered; requires = c.requires; failures = failures_after s c.failures; tables = t; pending = nothing }

abbrev by_answer : step.Core → law.Kind → held.Tables → Result (List ℕ) Status → Move
by_answer c k t (Ok z) = granted (put c t c.pending) k z
by_answer c k t (Err s) = says (refusing c t s) s

abbrev by_outcome : step.Core → law.Kind → Outcome → Move
by_outcome c k o = by_answer c k o.after o.answer

module _ (𝓗 : Hashing) (c : step.Core) (random : List ℕ) (k : law.Kind) (a : Asked) where
  grants_by : (k : law.Kind) → step.grants 𝓗 c random a k ≡ by_outcome c k (decided 𝓗 c.tables random a granting)
  grants_by law.discovery = refl
  grants_by law.master = refl
  grants_by law.connection = refl
  grants_by law.start = refl
  grants_by law.terminate = refl

  decides_by : (v : Verdict) → decides 𝓗 c random k a v ≡ by_outcome c k (decided 𝓗 c.tables random a v)
  decides_by (refused bad_layout) = refl
  decides_by (refused unknown) = refl
  decides_by (refused no_row) = refl
  decides_by (refused not_possible) = refl
  decides_by (refused already_started) = refl
  decides_by wrong_mac = refl
  decides_by spent = refl
  decides_by granting = grants_by k

module _ (𝓗 : Hashing) (c e : Core) (random : List ℕ) (k : law.Kind) (a : Asked) (t : Tables) (kept : Keeps c.tables t) where
  -- An object that was refused.
  pub refused_by : (s r : Status) → outcome 𝓗 (tables_of c.tables) random a ≡ done (tables_of t) (Err s) → e ≡ refused_core (with_tables c t) s → r ≡ s
      → Said (decides 𝓗 (core_of c) random k a (verdict 𝓗 (tables_of c.tables) random a)) c e r
  refused_by s r o q w = record {
    move =
        decides_by 𝓗 (core_of c) random k a (verdict 𝓗 (tables_of c.tables) random a) ∙ ap (by_outcome (core_of c) k) o
        ∙ ap (λ (y : Core). says (core_of y) s) (sym q) ∙ ap (says (core_of e)) (sym w);
    answers = subst (λ (y : Core). Keeps c.tables y.tables) (sym q) kept;
  }

  -- An object that was granted.
  pub granted_by : (z : List ℕ) (r : Status) → outcome 𝓗 (tables_of c.tables) random a ≡ done (tables_of t) (Ok z) → says (core_of e) r ≡ granted (core_of (with_tables c t)) k z → e.tables ≡ t
      → Said (decides 𝓗 (core_of c) random k a (verdict 𝓗 (tables_of c.tables) random a)) c e r
  granted_by z r o q w = record {
    move =
        decides_by 𝓗 (core_of c) random k a (verdict 𝓗 (tables_of c.tables) random a) ∙ ap (by_outcome (core_of c) k) o ∙ sym q;
    answers = subst (λ (y : Tables). Keeps c.tables y) (sym w) kept;
  }

-- Joined blocks that are no object, and that begin one.
module _ (𝓗 : Hashing) (c : Core) (random : List ℕ) (k : law.Kind) (j : List ℕ) (o : Object) where
  pub joined_bad : (e : Core) (r : Status) → bad ≡ o → e ≡ refused_core c WrongData → r ≡ WrongData → Said (joined 𝓗 (core_of c) random k j o) c e r
  joined_bad e r q h w = record {
    move = ap (joined 𝓗 (core_of c) random k j) (sym q) ∙ ap (λ (y : Core). says (core_of y) WrongData) (sym h) ∙ ap (says (core_of e)) (sym w);
    answers = subst (λ (y : Core). Keeps c.tables y.tables) (sym h) (stays c.tables);
  }

  pub joined_begun : (g : Gathered) → incomplete ≡ o → kind_of g.kind ≡ k → held_bytes g.bytes ≡ j
      → Said (joined 𝓗 (core_of c) random k j o) c (with_pending c (pending.Object g)) MoreToSend
  joined_begun g q h b = record {
    move =
        ap (joined 𝓗 (core_of c) random k j) (sym q)
        ∙ ap (λ (i : law.Kind). says (put (core_of c) (core_of c).tables (step.gathered i j)) MoreToSend) (sym h)
        ∙ ap (λ (x : List ℕ). says (put (core_of c) (core_of c).tables (step.gathered (kind_of g.kind) x)) MoreToSend) (sym b);
    answers = stays c.tables;
  }
