-- What the file holds is what passed over the line: so it keeps its user's law.
use Rattle.std.proofs.Common.{◌≡◌, ℕ, ◌-◌, ◌<◌, ◌≤◌, Bool, true, false, cond, ◌&&◌, eqb, List, [], ◌∷◌, length, Some, None, Option, sym, refl, ap, ◌∙◌, subst, ⊎_elim, arith}
use Rattle.std.proofs.lemmas.Bool.{cases_eq, eq-eqb, ne_eqb, eqb-true}
use Rattle.apdu.specs.Command.{Command, command_in, data_of}
use Rattle.apdu.specs.Reply.{reply as replying, says}
use Rattle.apdu.specs.declared.status.Status.TheVariants.{Done, UnknownInstruction}
use Rattle.application.specs.Acts.{after, line}
use Rattle.application.specs.Commands.{Turn, turn, upon}
use Rattle.records.specs.File.{blank, place, record_at, read_at, write_at, carried, keeps}
use Rattle.records.specs.Kept.{wrote, last_written, KeepsRecords}
use Rattle.records.proofs.Places.{place_in, placed, blank_at, read_keeps, read_same, write_takes, write_length, write_here, write_other}

-- The turn by the two tests on INS.
abbrev chosen : List (List ℕ) → ℕ → List ℕ → Bool → Bool → Turn (List (List ℕ))
chosen rs p ds t u = cond t (read_at rs (place p)) (cond u (write_at rs (place p) ds) (turn [] UnknownInstruction rs))

carried_ins : (rs : List (List ℕ)) (c : Command) (n : ℕ) → c.ins ≡ n → carried rs c ≡ chosen rs c.p1 (data_of c.shape) (eqb n 0xB2) (eqb n 0xDC)
carried_ins rs c n e = ap (λ k. chosen rs c.p1 (data_of c.shape) (eqb k 0xB2) (eqb k 0xDC)) e

-- No INS is both.
one_ins : (n : ℕ) → eqb n 0xB2 ≡ true → eqb n 0xDC ≡ true → ⊥
one_ins n e f = let p = eqb-true n 0xB2 e in let q = eqb-true n 0xDC f in omega arith

-- A write, at record n, is what the line shows of it.
shown_write : (rs : List (List ℕ)) (p : ℕ) (ds : List ℕ) (n : ℕ) → length rs ≡ 8 → 1 ≤ n → n ≤ 8
    → record_at (write_at rs (place p) ds).contents (n - 1) ≡ cond (eqb p n && says Done (write_at rs (place p) ds).reply) ds (record_at rs (n - 1))
shown_write rs p ds n long l h =
    let Shown : Bool → Option ℕ → Type 0 = λ t o. record_at (write_at rs o ds).contents (n - 1) ≡ cond (t && says Done (write_at rs o ds).reply) ds (record_at rs (n - 1)) in
    ⊎_elim
    (λ (e : p ≡ n).
    let within : n - 1 < length rs = omega arith in
    subst (λ (t : Bool). Shown t (place p)) (sym (eq-eqb p n e))
    (subst (λ (o : Option ℕ). Shown true o) (sym (ap place e ∙ place_in n l h)) (write_here rs (n - 1) ds within)))
    (λ (e : p ≡ n → ⊥).
    subst (λ (t : Bool). Shown t (place p)) (sym (ne_eqb p n e))
    (write_other rs (place p) ds (n - 1) (λ j f g. let q = placed p j f in e (omega arith))))
    (cases_eq p n)

-- The same of every command.
shown_by : (rs : List (List ℕ)) (p : ℕ) (ds : List ℕ) (n : ℕ) (t u : Bool) → (t ≡ true → u ≡ true → ⊥) → length rs ≡ 8 → 1 ≤ n → n ≤ 8
    → record_at (chosen rs p ds t u).contents (n - 1) ≡ cond (u && (eqb p n && says Done (chosen rs p ds t u).reply)) ds (record_at rs (n - 1))
shown_by rs p ds n true true one long l h = absurd (one refl refl)
shown_by rs p ds n true false one long l h = ap (λ m. record_at m (n - 1)) (read_keeps rs (place p))
shown_by rs p ds n false true one long l h = shown_write rs p ds n long l h
shown_by rs p ds n false false one long l h = refl

shown : (rs : List (List ℕ)) (o : Option Command) (n : ℕ) → length rs ≡ 8 → 1 ≤ n → n ≤ 8
    → record_at (upon carried rs o).contents (n - 1) ≡ wrote n o (upon carried rs o).reply (record_at rs (n - 1))
shown rs None n long l h = refl
shown rs (Some c) n long l h = shown_by rs c.p1 (data_of c.shape) n (eqb c.ins 0xB2) (eqb c.ins 0xDC) (one_ins c.ins) long l h

-- There are as many records as there were.
long_by : (rs : List (List ℕ)) (p : ℕ) (ds : List ℕ) (t u : Bool) → length (chosen rs p ds t u).contents ≡ length rs
long_by rs p ds true u = ap length (read_keeps rs (place p))
long_by rs p ds false true = write_length rs (place p) ds
long_by rs p ds false false = refl

long_upon : (rs : List (List ℕ)) (o : Option Command) → length (upon carried rs o).contents ≡ length rs
long_upon rs None = refl
long_upon rs (Some c) = long_by rs c.p1 (data_of c.shape) (eqb c.ins 0xB2) (eqb c.ins 0xDC)

-- After any commands each record is as last written.
kept : (cs : List (List ℕ)) (rs : List (List ℕ)) (n : ℕ) → length rs ≡ 8 → 1 ≤ n → n ≤ 8
    → record_at (after keeps rs cs) (n - 1) ≡ last_written n (record_at rs (n - 1)) (line keeps rs cs)
kept [] rs n long l h = refl
kept (bs ∷ cs) rs n long l h =
    let next = keeps.next rs bs in
    kept cs next n (long_upon rs (command_in bs) ∙ long) l h
    ∙ ap (λ old. last_written n old (line keeps next cs)) (shown rs (command_in bs) n long l h)

-- A command leaves what stands at the places of other numbers.
spares_by : (rs : List (List ℕ)) (p : ℕ) (ds : List ℕ) (t u : Bool) (i : ℕ) → ((j : ℕ) → place p ≡ Some j → i ≡ j → ⊥)
    → record_at (chosen rs p ds t u).contents i ≡ record_at rs i
spares_by rs p ds true u i h = ap (λ m. record_at m i) (read_keeps rs (place p))
spares_by rs p ds false true i h = write_other rs (place p) ds i h
spares_by rs p ds false false i h = refl

reply_to : (rs : List (List ℕ)) (bs : List ℕ) (c : Command) (n : ℕ) → command_in bs ≡ Some c → c.ins ≡ n
    → keeps.reply rs bs ≡ (chosen rs c.p1 (data_of c.shape) (eqb n 0xB2) (eqb n 0xDC)).reply
reply_to rs bs c n e i = ap (λ o. (upon carried rs o).reply) e ∙ ap (λ t. t.reply) (carried_ins rs c n i)

pub keeps_records : KeepsRecords keeps blank
keeps_records = record {
  reads = λ cs bs c e i l h.
      let rs = after keeps blank cs in
      let within : c.p1 - 1 < 8 = omega arith in
      reply_to rs bs c 0xB2 e i
      ∙ ap (λ o. (read_at rs o).reply) (place_in c.p1 l h)
      ∙ ap (λ ds. replying ds Done) (kept cs blank c.p1 refl l h ∙ ap (λ old. last_written c.p1 old (line keeps blank cs)) (blank_at (c.p1 - 1) within));
  takes = λ cs bs c e i l h g.
      let rs = after keeps blank cs in
      reply_to rs bs c 0xDC e i
      ∙ ap (λ o. (write_at rs o (data_of c.shape)).reply) (place_in c.p1 l h)
      ∙ write_takes rs (c.p1 - 1) (data_of c.shape) g;
  apart = λ cs ws bs w c f e i ne.
      let rs = after keeps blank cs in
      let next = keeps.next rs ws in
      let left : next ≡ (carried rs w).contents = ap (λ o. (upon carried rs o).contents) f in
      reply_to next bs c 0xB2 e i
      ∙ read_same next rs (place c.p1) (λ k g.
      let pk = placed c.p1 k g in
      ap (λ m. record_at m k) left
      ∙ spares_by rs w.p1 (data_of w.shape) (eqb w.ins 0xB2) (eqb w.ins 0xDC) k (λ j q r. let pj = placed w.p1 j q in ne (omega arith)))
      ∙ sym (reply_to rs bs c 0xB2 e i);
}
