-- Which answers are kept when rows of connections change.
use Rattle.std.proofs.Common.{◌≡◌, ℕ, zero, suc, Bool, false, cond, ◌⊎◌, List, [], ◌∷◌, map, set, Some, None, Option, sym, refl, ap, ◌∙◌, inl, inr}
use Rattle.std.specs.Option.{option_map}
use Rattle.law.specs.Step.{kept, holds, holds_session}
use Rattle.session.specs.declared.state.Talk.{Talk}
use Rattle.session.specs.declared.state.Talk.TheVariants.{Idle, Gathering, Answered}
use Rattle.session.specs.declared.state.Session.{Session}
use Rattle.session.specs.View.{session_of, talk_of, answer_of, answer_in}
use Rattle.law.specs.Step as step
use Rattle.tables.specs.declared.rows.Connection.{Connection}
use Rattle.tables.specs.View.{connection_of, connections_of, answer_at}

kept_talk : (t : Talk) → cond (step.holds_talk (talk_of t)) (answer_in t) [] ≡ answer_in t
kept_talk Idle = refl
kept_talk (Gathering p) = refl
kept_talk (Answered h) = refl

kept_session : (s : Option Session) → cond (holds_session (session_of s)) (answer_of s) [] ≡ answer_of s
kept_session None = refl
kept_session (Some s) = kept_talk s.talk

-- A row keeps its own answer.
pub kept_row : (o : Option Connection) → cond (holds (option_map connection_of o)) (answer_at o) [] ≡ answer_at o
kept_row None = refl
kept_row (Some c) = kept_session c.session

-- A session that does not hold an answer has none.
pub no_answer : (o : Option Connection) → holds (option_map connection_of o) ≡ false → answer_at o ≡ []
no_answer o h = sym (kept_row o) ∙ ap (λ (b : Bool). cond b (answer_at o) []) h

-- Nothing changed: each answer is kept.
pub all_kept : (rows : List (Option Connection)) → map answer_at rows ≡ kept (connections_of rows) (map answer_at rows)
all_kept [] = refl
all_kept (o ∷ rows) =
    ap (λ (zs : List (List ℕ)). answer_at o ∷ zs) (all_kept rows)
    ∙ ap (λ (z : List ℕ). z ∷ kept (connections_of rows) (map answer_at rows)) (sym (kept_row o))

-- One row changed to what holds no answer.
pub row_dropped : (rows : List (Option Connection)) (i : ℕ) (o : Option Connection) → holds (option_map connection_of o) ≡ false
    → map answer_at (set rows i o) ≡ kept (connections_of (set rows i o)) (map answer_at rows)
row_dropped [] i o h = refl
row_dropped (r ∷ rows) zero o h =
    ap (λ (z : List ℕ). z ∷ map answer_at rows) (no_answer o h) ∙ ap (λ (zs : List (List ℕ)). [] ∷ zs) (all_kept rows)
    ∙ ap (λ (b : Bool). cond b (answer_at r) [] ∷ kept (connections_of rows) (map answer_at rows)) (sym h)
row_dropped (r ∷ rows) (suc i) o h =
    ap (λ (zs : List (List ℕ)). answer_at r ∷ zs) (row_dropped rows i o h)
    ∙ ap (λ (z : List ℕ). z ∷ kept (connections_of (set rows i o)) (map answer_at rows)) (sym (kept_row r))

-- One row changed to what holds the answer z.
pub row_answered : (rows : List (Option Connection)) (i : ℕ) (x : Connection) (z : List ℕ) → answer_of x.session ≡ z
    → set (kept (connections_of (set rows i (Some x))) (map answer_at rows)) i z ≡ map answer_at (set rows i (Some x))
row_answered [] i x z e = refl
row_answered (r ∷ rows) zero x z e =
    ap (λ (w : List ℕ). w ∷ kept (connections_of rows) (map answer_at rows)) (sym e)
    ∙ ap (λ (zs : List (List ℕ)). answer_of x.session ∷ zs) (sym (all_kept rows))
row_answered (r ∷ rows) (suc i) x z e =
    ap (λ (w : List ℕ). w ∷ set (kept (connections_of (set rows i (Some x))) (map answer_at rows)) i z) (kept_row r)
    ∙ ap (λ (zs : List (List ℕ)). answer_at r ∷ zs) (row_answered rows i x z e)

-- Each row stayed or became free.
module _ (f : Option Connection → Option Connection) (h : (o : Option Connection) → (f o ≡ o) ⊎ (f o ≡ None)) where
  row_left : (o : Option Connection) → answer_at (f o) ≡ cond (holds (option_map connection_of (f o))) (answer_at o) []
  row_left o = by (h o)
    where
      by : (f o ≡ o) ⊎ (f o ≡ None) → answer_at (f o) ≡ cond (holds (option_map connection_of (f o))) (answer_at o) []
      by (inl e) = sym (kept_row (f o)) ∙ ap (λ (p : Option Connection). cond (holds (option_map connection_of (f o))) (answer_at p) []) e
      by (inr e) = ap answer_at e ∙ ap (λ (p : Option Connection). cond (holds (option_map connection_of p)) (answer_at o) []) (sym e)

  pub rows_left : (rows : List (Option Connection)) → map answer_at (map f rows) ≡ kept (connections_of (map f rows)) (map answer_at rows)
  rows_left [] = refl
  rows_left (o ∷ rows) =
      ap (λ (zs : List (List ℕ)). answer_at (f o) ∷ zs) (rows_left rows)
      ∙ ap (λ (z : List ℕ). z ∷ kept (connections_of (map f rows)) (map answer_at rows)) (row_left o)
