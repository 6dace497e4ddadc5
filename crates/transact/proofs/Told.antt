-- What the card says of an event, told from what the session made of it.
use Rattle.std.proofs.Common.{◌≡◌, ℕ, Bool, true, false, eqb, List, [], map, get_or, Some, None, Ok, Err, Option, Result, sym, refl, ap, ◌∙◌}
use lib.ListN.{get_or-map}
use Rattle.std.specs.Option.{option_map}
use Rattle.sealing.specs.Sealing.{Sealing}
use Rattle.application.specs.Acts.{Acts}
use Rattle.apdu.specs.Command.{Shape}
use Rattle.apdu.specs.Reply.{reply}
use Rattle.apdu.specs.StatusWords.{status_bytes}
use Rattle.apdu.specs.declared.status.Status.{Status}
use Rattle.apdu.specs.declared.status.Status.TheVariants as sw
use Rattle.session.specs.declared.event.Heard.{Heard}
use Rattle.session.specs.declared.event.Heard.TheVariants.{Repeated, Joined, Gives, Discarded}
use Rattle.session.specs.declared.state.Session.{Session}
use Rattle.session.specs.View.{session_of, talk_of, answer_in, answer_of}
use Rattle.session.specs.Heard.{block, fetch, discard, joins, turns, takes, fetches, heard}
use Rattle.session.specs.Moved.{moved, talk_after}
use Rattle.session.proofs.Moves.{block_in_session, block_ends, fetch_in_session, discard_in_session}
use Rattle.replies.specs.Blocks.{cut_block}
use Rattle.tables.specs.declared.rows.Connection.{Connection}
use Rattle.tables.specs.View.{connection_of, connections_of, answers_of, answer_at}
use Rattle.tables.proofs.Kept.{all_kept}
use Rattle.manage.specs.declared.card_core.Core.{Core}
use Rattle.manage.specs.declared.told.Told.{Told}
use Rattle.manage.specs.Told.{bytes_of}
use Rattle.manage.specs.View.{core_of, Said}
use Rattle.law.specs.Calls.{replied}
use Rattle.law.specs.Session.{repeats, in_turn, fits, before}
use Rattle.law.specs.Tables as law
use Rattle.law.specs.Step as law_step
use Rattle.law.specs.Step.{Move, Done, says, put, talks, carries, done, blocks, in_session, completes, holds_talk, block_given}
use Rattle.law.proofs.Rows.{never}
use Rattle.transact.specs.declared.started.Started.{Started}
use Rattle.transact.specs.View.{state_of, ended, told, said, last_of, session_at, LentAt, StartedAt}

module _ (𝓢 : Sealing) {M : Type 0} (𝓐 : Acts M) where
  -- A move that is a status word alone, carried out.
  pub carried : (m : Move) (before after : Core) (k : M) (s : Status) → Said m before after s → carries 𝓢 𝓐 (state_of before k) m ≡ ended after k s
  carried m before after k s d =
      ap (carries 𝓢 𝓐 (state_of before k)) d.move
      ∙ ap (λ (zs : List (List ℕ)). done (core_of after) zs k (replied (status_bytes s))) (sym d.answers)

  -- Nothing changes.
  pub unchanged : (c : Core) (k : M) (s : Status) → carries 𝓢 𝓐 (state_of c k) (says (core_of c) s) ≡ ended c k s
  unchanged c k s = carried (says (core_of c) s) c c k s (record { move = refl; answers = all_kept c.tables.connections })

  -- A status word alone, told.
  pub tells_status : (c : Core) (k : M) (m : Move) (w : Status) (t : Told) → m ≡ says (core_of c) w → bytes_of t ≡ reply [] w → carries 𝓢 𝓐 (state_of c k) m ≡ told c k t
  tells_status c k m w t e b =
      ap (carries 𝓢 𝓐 (state_of c k)) e ∙ unchanged c k w ∙ ap (λ (zs : List ℕ). done (core_of c) (answers_of c.tables) k (replied zs)) (sym b)

-- What a block can make of a session.
abbrev of_block : Result Heard Status → Bool
of_block (Err s) = true
of_block (Ok (Repeated b)) = true
of_block (Ok Joined) = true
of_block (Ok Gives) = false
of_block (Ok Discarded) = false

module _ (size : ℕ) (t : law.Talk) (p2 : ℕ) (s : Shape) where
  joins_block : (b : Bool) → of_block (joins t p2 s b).0 ≡ true
  joins_block true = refl
  joins_block false = refl

  turns_block : (b : Bool) → of_block (turns size t p2 s b).0 ≡ true
  turns_block true = joins_block (fits size t s)
  turns_block false = refl

  takes_block : (b : Bool) → of_block (takes size t p2 s b).0 ≡ true
  takes_block true = refl
  takes_block false = turns_block (in_turn t p2)

  block_told : (𝓢 : Sealing) (c : law_step.Core) (row : ℕ) (x : law.Connection) (h : Heard) → Ok h ≡ (heard size t (block p2 s)).0 → (h ≡ Joined → ⊥)
      → moved 𝓢 c row x size t p2 s (Ok h) ≡ says c (said row h)
  block_told 𝓢 c row x (Repeated b) e n = refl
  block_told 𝓢 c row x Joined e n = absurd (n refl)
  block_told 𝓢 c row x Gives e n = never (sym (ap of_block e ∙ takes_block (repeats t p2 s)))
  block_told 𝓢 c row x Discarded e n = never (sym (ap of_block e ∙ takes_block (repeats t p2 s)))

-- A fetch that is not refused.
fetch_heard : (t : law.Talk) (b : Bool) (h : Heard) → Ok h ≡ (fetches t b).0 → h ≡ Gives
fetch_heard t true h e = cc
fetch_heard t false h e = cc

-- The size and the state of a started session.
abbrev size_in : law.Session → ℕ
size_in law.unstarted = 0
size_in (law.started n t) = n

abbrev talk_in : law.Session → law.Talk
talk_in law.unstarted = law.idle
talk_in (law.started n t) = t

-- Where the session of a row is not started.
module _ (𝓢 : Sealing) (c : law_step.Core) (row n : ℕ) (s : Shape) where
  blocks_unstarted : (o : Option law.Connection) → session_at o ≡ law.unstarted → blocks 𝓢 c row n s o ≡ says c sw.NotNow
  blocks_unstarted None e = refl
  blocks_unstarted (Some x) e = ap (λ (y : law.Session). in_session 𝓢 c row x n s y) e

  fetches_unstarted : (o : Option law.Connection) → session_at o ≡ law.unstarted → law_step.fetches c row n s o ≡ says c sw.NotNow
  fetches_unstarted None e = refl
  fetches_unstarted (Some x) e = ap (λ (y : law.Session). law_step.fetches_in c row n s y) e

  discards_unstarted : (o : Option law.Connection) → session_at o ≡ law.unstarted → law_step.discards c row s o ≡ says c sw.NotNow
  discards_unstarted None e = refl
  discards_unstarted (Some x) e = ap (λ (y : law.Session). law_step.discards_in c row x s y) e

-- What a row of a core holds.
abbrev pub at : Core → ℕ → Option law.Connection
at c row = get_or (connections_of c.tables.connections) row None

-- The answer that a row's session holds.
answer_held : (rows : List (Option Connection)) (row : ℕ) (x : Connection) (z : Session) → Some x ≡ get_or rows row None → x.session ≡ Some z → get_or (map answer_at rows) row [] ≡ answer_in z.talk
answer_held rows row x z e is = get_or-map answer_at rows row None ∙ ap answer_at (sym e) ∙ ap answer_of is

-- A session that is lent is one that is started.
pub lent_started : (c : Core) (row : ℕ) (z : Session) (l : LentAt c row z) → StartedAt c row (record { row = row; connection = l.connection; session = z })
lent_started c row z l = record {
  row_is = refl;
  held = l.held;
  seen = ap (option_map connection_of) l.held ∙ sym (get_or-map (option_map connection_of) c.tables.connections row None);
  is = l.is;
}

module _ (𝓢 : Sealing) {M : Type 0} (𝓐 : Acts M) (c : Core) (k : M) (row : ℕ) (s : Shape) where
  abbrev carry : Move → Done M
  carry m = carries 𝓢 𝓐 (state_of c k) m

  -- A session that is not started.
  pub block_unstarted : (p2 : ℕ) → session_at (at c row) ≡ law.unstarted → carries 𝓢 𝓐 (state_of c k) (blocks 𝓢 (core_of c) row p2 s (at c row)) ≡ ended c k sw.NotNow
  block_unstarted p2 e = ap carry (blocks_unstarted 𝓢 (core_of c) row p2 s (at c row) e) ∙ unchanged 𝓢 𝓐 c k sw.NotNow

  pub discard_unstarted : session_at (at c row) ≡ law.unstarted → carries 𝓢 𝓐 (state_of c k) (law_step.discards (core_of c) row s (at c row)) ≡ ended c k sw.NotNow
  discard_unstarted e = ap carry (discards_unstarted 𝓢 (core_of c) row 0 s (at c row) e) ∙ unchanged 𝓢 𝓐 c k sw.NotNow

  pub fetch_unstarted : (n : ℕ) (t : Told) → session_at (at c row) ≡ law.unstarted → bytes_of t ≡ reply [] sw.NotNow
      → carries 𝓢 𝓐 (state_of c k) (law_step.fetches (core_of c) row n s (at c row)) ≡ told c k t
  fetch_unstarted n t e b = tells_status 𝓢 𝓐 c k (law_step.fetches (core_of c) row n s (at c row)) sw.NotNow t (fetches_unstarted 𝓢 (core_of c) row n s (at c row) e) b

  module _ (st : Started) (q : StartedAt c row st) where
    abbrev size : ℕ
    size = st.session.container

    abbrev was : law.Talk
    was = talk_of st.session.talk

    abbrev x : law.Connection
    x = connection_of st.connection

    block_moves : (p2 : ℕ) (h : Result Heard Status) → h ≡ (heard size was (block p2 s)).0 → blocks 𝓢 (core_of c) row p2 s (at c row) ≡ moved 𝓢 (core_of c) row x size was p2 s h
    block_moves p2 h e =
        ap (λ (o : Option law.Connection). blocks 𝓢 (core_of c) row p2 s o) (sym q.seen)
        ∙ block_in_session 𝓢 (core_of c) row x size was p2 s (ap session_of q.is) h e

    -- It is refused, or nothing is joined.
    pub block_refused : (p2 : ℕ) (w : Status) → Err w ≡ (heard size was (block p2 s)).0
        → carries 𝓢 𝓐 (state_of c k) (blocks 𝓢 (core_of c) row p2 s (at c row)) ≡ ended c k w
    block_refused p2 w e = ap carry (block_moves p2 (Err w) e) ∙ unchanged 𝓢 𝓐 c k w

    pub block_said : (p2 : ℕ) (h : Heard) → Ok h ≡ (heard size was (block p2 s)).0 → (h ≡ Joined → ⊥)
        → carries 𝓢 𝓐 (state_of c k) (blocks 𝓢 (core_of c) row p2 s (at c row)) ≡ ended c k (said row h)
    block_said p2 h e n =
        ap carry (block_moves p2 (Ok h) e ∙ block_told size was p2 s 𝓢 (core_of c) row x h e n) ∙ unchanged 𝓢 𝓐 c k (said row h)

    discard_moves : (h : Result Heard Status) → h ≡ (heard size was (discard s)).0 → law_step.discards (core_of c) row s (at c row) ≡ moved 𝓢 (core_of c) row x size was 0 s h
    discard_moves h e =
        ap (λ (o : Option law.Connection). law_step.discards (core_of c) row s o) (sym q.seen)
        ∙ discard_in_session 𝓢 (core_of c) row x size was 0 s (ap session_of q.is) h e

    pub discard_refused : (w : Status) → Err w ≡ (heard size was (discard s)).0
        → carries 𝓢 𝓐 (state_of c k) (law_step.discards (core_of c) row s (at c row)) ≡ ended c k w
    discard_refused w e = ap carry (discard_moves (Err w) e) ∙ unchanged 𝓢 𝓐 c k w

    fetch_moves : (n : ℕ) (h : Result Heard Status) → h ≡ (heard size was fetch).0 → law_step.fetches (core_of c) row n s (at c row) ≡ moved 𝓢 (core_of c) row x size was n s h
    fetch_moves n h e =
        ap (λ (o : Option law.Connection). law_step.fetches (core_of c) row n s o) (sym q.seen)
        ∙ fetch_in_session 𝓢 (core_of c) row x size was n s (ap session_of q.is) h e

    pub fetch_refused : (n : ℕ) (w : Status) (t : Told) → Err w ≡ (heard size was fetch).0 → bytes_of t ≡ reply [] w
        → carries 𝓢 𝓐 (state_of c k) (law_step.fetches (core_of c) row n s (at c row)) ≡ told c k t
    fetch_refused n w t e b = tells_status 𝓢 𝓐 c k (law_step.fetches (core_of c) row n s (at c row)) w t (fetch_moves n (Err w) e) b

    -- A fetch is heard: a block of the answer is given.
    pub fetch_given : (n : ℕ) (h : Heard) (t : Told) → Ok h ≡ (heard size was fetch).0
        → bytes_of t ≡ block_given row s (cut_block size (answer_in st.session.talk) n)
        → carries 𝓢 𝓐 (state_of c k) (law_step.fetches (core_of c) row n s (at c row)) ≡ told c k t
    fetch_given n h t e b =
        ap carry (fetch_moves n (Ok h) e ∙ ap (λ (g : Heard). moved 𝓢 (core_of c) row x size was n s (Ok g)) (fetch_heard was (holds_talk was) h e))
        ∙ ap (λ (w : List ℕ). done (core_of c) (answers_of c.tables) k (replied (block_given row s (cut_block size w n)))) (answer_held c.tables.connections row st.connection st.session q.held q.is)
        ∙ ap (λ (zs : List ℕ). done (core_of c) (answers_of c.tables) k (replied zs)) (sym b)

    -- The session is y now.
    module _ (y : Session) where
      -- The block is joined.
      pub block_joined : (p2 : ℕ) (d : Done M) → Ok Joined ≡ (heard size was (block p2 s)).0
          → session_of (Some y) ≡ law.started size (heard size was (block p2 s)).1
          → carries 𝓢 𝓐 (state_of c k) (completes 𝓢 (core_of c) st.row x y.container (last_of (talk_of y.talk)) (before (talk_of y.talk)) (eqb p2 0)) ≡ d
          → carries 𝓢 𝓐 (state_of c k) (blocks 𝓢 (core_of c) row p2 s (at c row)) ≡ d
      block_joined p2 d e a w =
          ap carry (block_moves p2 (Ok Joined) e)
          ∙ ap (λ (r : ℕ). by r size (talk_after was p2 s (Ok Joined))) (sym q.row_is)
          ∙ ap (λ (n : ℕ). by st.row n (talk_after was p2 s (Ok Joined))) (sym (ap size_in a))
          ∙ ap (by st.row y.container) (sym (ap talk_in a ∙ block_ends size was p2 s (Ok Joined) e))
          ∙ w
        where
          by : ℕ → ℕ → law.Talk → Done M
          by r n u = carries 𝓢 𝓐 (state_of c k) (completes 𝓢 (core_of c) r x n (last_of u) (before u) (eqb p2 0))
