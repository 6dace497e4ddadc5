-- A new connection begins empty, and a session starts idle.
use Rattle.std.proofs.Common.{◌≡◌, ℕ, zero, suc, ◌+◌, Bool, true, false, not, ◌||◌, eqb, ltb, ◌⊎◌, List, [], ◌∷◌, ◌++◌, map, length, get_or, set, Some, None, Option, sym, refl, ap, ◌∙◌, subst, inl, inr}
use Rattle.sealing.specs.declared.suite.Suite.{Suite}
use Rattle.sealing.specs.Sealing.{Sealing}
use Rattle.application.specs.Acts.{Acts}
use Rattle.apdu.specs.Command.{Shape, bare, le, alone, both, data_of}
use Rattle.objects.specs.Joined.{Object, incomplete, bad, value, object}
use Rattle.objects.specs.Asked.{Asked, layout, ask_master, ask_connection, ask_start, end_master, end_connection}
use Rattle.personalise.specs.Load as text_of
use Rattle.personalise.specs.Load.{Lines, Loading, loading}
use Rattle.law.specs.Rows.{At, found, full, is_some}
use Rattle.law.specs.Request.{Kind, discovery, master, connection, start, terminate, same_kind, asked, Block, Request, malformed, other, unlisted, begin, continue, discover, answer, go_on, block, fetch, discard, request}
use Rattle.law.specs.Calls.{Call, load, power_on, power_off, command}
use Rattle.law.specs.Associations.{Hashing, Key, Master, common, transactions_limit}
use Rattle.law.specs.Tables.{Talk, idle, gathering, answered, Session, unstarted, started, Connection, Tables, with_session, off_key}
use Rattle.law.specs.Associate.{taken, Verdict, refused, wrong_mac, spent, granted, verdict, has_ref, has_msa, has_csa, new_connection, enter_master, enter_with, enter_connection, enter_session, remove_key, remove_master, remove_connection, established, exhausted}
use Rattle.law.specs.Session as session
use Rattle.law.specs.Session.{repeats, in_turn, before, fits, Judgement, accepts, judged}
use Rattle.law.specs.Step.{Pending, nothing, gathered, waits, Core, Move, does, plain, runs, gives, discovery_object, gives_reply, replies_as, answers, goes_on, grants, decides, joins, continues_as, continues, judges, completes, gathers, turns, takes, in_session, blocks, fetches_in, fetches, discards_in, discards, others, loads_at, loads, requests, commands_at, moves_at, State, carries}
use Rattle.law.specs.Step as card
use Rattle.law.specs.Laws.{FromSession, From, BeginsEmpty, NewConnectionsBeginEmpty}
use Rattle.law.proofs.Rows.{no_some, some_same, set_some, found_at, none_free}
use Rattle.law.proofs.Sounds.{set_none, mapped_master, mapped_rests}

same_session : (s : Session) → FromSession s s
same_session unstarted = inl refl
same_session (started n t) = tt

-- A row that held this before.
from_held : (o : Option Connection) (x : Connection) → o ≡ Some x → From o x
from_held o x e = subst (λ (o : Option Connection). From o x) (sym e) (same_session x.session)

same_rows : (xs : List (Option Connection)) → BeginsEmpty xs xs
same_rows xs i x e = from_held (get_or xs i None) x e

-- Rows of which some were cleared.
fewer : (xs ys : List (Option Connection)) → ((i : ℕ) (x : Connection) → get_or ys i None ≡ Some x → get_or xs i None ≡ Some x) → BeginsEmpty xs ys
fewer xs ys h i x e = from_held (get_or xs i None) x (h i x e)

-- One row, whose session goes on.
goes_on_row : (xs : List (Option Connection)) (row : ℕ) (y z : Connection) → get_or xs row None ≡ Some y → FromSession y.session z.session → BeginsEmpty xs (set xs row (Some z))
goes_on_row xs row y z held f i x e = by (set_some xs row (Some z) i x e)
  where
    by : ((i ≡ row) × (Some z ≡ Some x)) ⊎ ((i ≡ row → ⊥) × (get_or xs i None ≡ Some x)) → From (get_or xs i None) x
    by (inl p) = subst (λ (o : Option Connection). From o x) (sym (ap (λ (j : ℕ). get_or xs j None) p.0 ∙ held)) (subst (λ (v : Connection). FromSession y.session v.session) (some_same p.1) f)
    by (inr p) = from_held (get_or xs i None) x p.1

started_on : (xs : List (Option Connection)) (row : ℕ) (y z : Connection) (size : ℕ) (t : Talk) → get_or xs row None ≡ Some y → y.session ≡ started size t → BeginsEmpty xs (set xs row (Some z))
started_on xs row y z size t held ses = goes_on_row xs row y z held (subst (λ (s : Session). FromSession s z.session) (sym ses) tt)

-- The smallest free row.
taken_free : {X : Type 0} (l : List (Option X)) (y : X) (j : ℕ) (x : X) → get_or (taken l y) j None ≡ Some x → ((get_or l j None ≡ None) × (y ≡ x)) ⊎ (get_or l j None ≡ Some x)
taken_free [] y j x e = no_some e
taken_free (None ∷ l) y zero x e = inl (refl, some_same e)
taken_free (None ∷ l) y (suc j) x e = inr e
taken_free (Some z ∷ l) y zero x e = inr e
taken_free (Some z ∷ l) y (suc j) x e = taken_free l y j x e

begins_new : (xs : List (Option Connection)) (y : Connection) → y.session ≡ unstarted → y.count ≡ 0 → BeginsEmpty xs (taken xs y)
begins_new xs y ses count i x e = by (taken_free xs y i x e)
  where
    by : ((get_or xs i None ≡ None) × (y ≡ x)) ⊎ (get_or xs i None ≡ Some x) → From (get_or xs i None) x
    by (inl p) = subst (λ (o : Option Connection). From o x) (sym p.0) (ap (λ (v : Connection). v.session) (sym p.1) ∙ ses, ap (λ (v : Connection). v.count) (sym p.1) ∙ count)
    by (inr p) = from_held (get_or xs i None) x p

module _ (t : Tables) where
  abbrev Empty : Tables → Type 0
  Empty u = BeginsEmpty t.connections u.connections

  key_removed : (o : Option (At Key)) → Empty (remove_key t o)
  key_removed None = same_rows t.connections
  key_removed (Some k) = fewer t.connections _ (λ i x e. (mapped_rests (map (off_key k.row) t.masters) i t.connections x e).0)

  master_removed : (o : Option (At Master)) → Empty (remove_master t o)
  master_removed None = same_rows t.connections
  master_removed (Some m) = fewer t.connections _ (λ i x e. (mapped_master m.row i t.connections x e).0)

  connection_removed : (o : Option (At Connection)) → Empty (remove_connection t o)
  connection_removed None = same_rows t.connections
  connection_removed (Some c) = fewer t.connections _ (λ i x e. set_none t.connections c.row i x e)

  starts_idle : (size : ℕ) (s : Session) → FromSession s (started size idle)
  starts_idle size unstarted = inr (size, refl)
  starts_idle size (started n u) = tt

  session_entered : (size : ℕ) (o : Option (At Connection)) → ((c : At Connection) → o ≡ Some c → get_or t.connections c.row None ≡ Some c.item) → Empty (enter_session t size o)
  session_entered size None h = same_rows t.connections
  session_entered size (Some c) h = goes_on_row t.connections c.row c.item (with_session c.item c.item.count (started size idle)) (h c refl) (starts_idle size c.item.session)

  exhausted_empty : (a : Asked) → Empty (exhausted t a)
  exhausted_empty layout = same_rows t.connections
  exhausted_empty (ask_master ref mechanisms) = key_removed (found (has_ref ref) t.keys)
  exhausted_empty (ask_connection msa tnonce tsca tsim) = master_removed (found (has_msa msa) t.masters)
  exhausted_empty (ask_start csa size mac) = same_rows t.connections
  exhausted_empty (end_master msa mac) = same_rows t.connections
  exhausted_empty (end_connection csa mac) = same_rows t.connections

  module _ (𝓗 : Hashing) (random : List ℕ) where
    master_entered : (o : Option (At Key)) → Empty (enter_master 𝓗 t random o)
    master_entered None = same_rows t.connections
    master_entered (Some k) = same_rows t.connections

    with_entered : (tnonce : List ℕ) (m : At Master) (u : Option Suite) → Empty (enter_with 𝓗 t random tnonce m u)
    with_entered tnonce m None = same_rows t.connections
    with_entered tnonce m (Some u) = begins_new t.connections (new_connection 𝓗 random tnonce u m) refl refl

    connection_entered : (tnonce : List ℕ) (u : Option Suite) (o : Option (At Master)) → Empty (enter_connection 𝓗 t random tnonce u o)
    connection_entered tnonce u None = same_rows t.connections
    connection_entered tnonce u (Some m) = with_entered tnonce m u

    established_empty : (a : Asked) → Empty (established 𝓗 t random a)
    established_empty layout = same_rows t.connections
    established_empty (ask_master ref mechanisms) = master_entered (found (has_ref ref) t.keys)
    established_empty (ask_connection msa tnonce tsca tsim) = connection_entered tnonce (common tsca tsim) (found (has_msa msa) t.masters)
    established_empty (ask_start csa size mac) = session_entered size (found (has_csa csa) t.connections) (λ c e. found_at (has_csa csa) t.connections c e)
    established_empty (end_master msa mac) = master_removed (found (has_msa msa) t.masters)
    established_empty (end_connection csa mac) = connection_removed (found (has_csa csa) t.connections)

-- Every move.
abbrev MovesEmpty : Core → Move → Type 0
MovesEmpty c (does c' a) = BeginsEmpty c.tables.connections c'.tables.connections
MovesEmpty c (plain z) = Unit {0}
MovesEmpty c (runs c' row x body) = BeginsEmpty c.tables.connections c'.tables.connections
MovesEmpty c (gives row size n h) = Unit {0}

module _ (c : Core) where
  abbrev keeps : BeginsEmpty c.tables.connections c.tables.connections
  keeps = same_rows c.tables.connections

  reply_empty : (k : Kind) (z : List ℕ) (at : ℕ) (s : Shape) → MovesEmpty c (gives_reply c k z at s)
  reply_empty k z at bare = keeps
  reply_empty k z at (le n) = keeps
  reply_empty k z at (alone d) = keeps
  reply_empty k z at (both d n) = keeps

  replies_empty : (k : Kind) (z : List ℕ) (at : ℕ) (s : Shape) (b : Bool) → MovesEmpty c (replies_as c k z at s b)
  replies_empty k z at s true = reply_empty k z at s
  replies_empty k z at s false = keeps

  answers_empty : (k : Kind) (s : Shape) (p : Pending) → MovesEmpty c (answers c k s p)
  answers_empty k s nothing = keeps
  answers_empty k s (gathered i j) = keeps
  answers_empty k s (waits i z at) = replies_empty k z 0 s (same_kind i k)

  goes_on_empty : (k : Kind) (s : Shape) (p : Pending) → MovesEmpty c (goes_on c k s p)
  goes_on_empty k s nothing = keeps
  goes_on_empty k s (gathered i j) = keeps
  goes_on_empty k s (waits i z at) = replies_empty k z at s (same_kind i k)

  loads_at_empty : (k : Lines) (u v : Bool) → MovesEmpty c (loads_at c k u v)
  loads_at_empty k true v = keeps
  loads_at_empty k false true = keeps
  loads_at_empty k false false = keeps

  loads_empty : (o : Loading) → MovesEmpty c (loads c o)
  loads_empty text_of.malformed = keeps
  loads_empty text_of.unset = keeps
  loads_empty (text_of.loads k) = loads_at_empty k (is_some (found (has_ref k.ref) c.tables.keys)) (full c.tables.keys)

  others_empty : (apdu : List ℕ) (b : Bool) → MovesEmpty c (others c apdu b)
  others_empty apdu true = keeps
  others_empty apdu false = tt

  fetches_empty : (row n : ℕ) (s : Shape) (o : Option Connection) → MovesEmpty c (fetches c row n s o)
  fetches_empty row n s None = keeps
  fetches_empty row n s (Some x) = by_session x.session
    where
      by_session : (z : Session) → MovesEmpty c (fetches_in c row n s z)
      by_session unstarted = keeps
      by_session (started size idle) = keeps
      by_session (started size (gathering j b)) = keeps
      by_session (started size (answered b)) = tt

  discards_empty : (row : ℕ) (s : Shape) (o : Option Connection) → get_or c.tables.connections row None ≡ o → MovesEmpty c (discards c row s o)
  discards_empty row s None e = keeps
  discards_empty row s (Some x) e = by_session x.session refl s
    where
      by_session : (z : Session) → x.session ≡ z → (s : Shape) → MovesEmpty c (discards_in c row x s z)
      by_session unstarted q s = keeps
      by_session (started size t) q bare = started_on c.tables.connections row x (with_session x x.count (started size idle)) size t e q
      by_session (started size t) q (le n) = keeps
      by_session (started size t) q (alone d) = keeps
      by_session (started size t) q (both d n) = keeps

  module _ (𝓢 : Sealing) (row : ℕ) (x : Connection) (size : ℕ) (t : Talk) (held : get_or c.tables.connections row None ≡ Some x) (ses : x.session ≡ started size t) where
    on : (n : ℕ) (u : Talk) → BeginsEmpty c.tables.connections (set c.tables.connections row (Some (with_session x n (started size u))))
    on n u = started_on c.tables.connections row x (with_session x n (started size u)) size t held ses

    judges_empty : (b : Block) (v : Judgement) → MovesEmpty c (judges 𝓢 c row x size b v)
    judges_empty b session.wrong = on x.count idle
    judges_empty b session.spent = fewer c.tables.connections _ (λ i y e. set_none c.tables.connections row i y e)
    judges_empty b (accepts body) = on (x.count + 1) (answered b)

    completes_empty : (b : Block) (z : List ℕ) (p : Bool) → MovesEmpty c (completes 𝓢 c row x size b z p)
    completes_empty b z true = judges_empty b (judged 𝓢 x (transactions_limit c.tables.keys c.tables.masters x.master) z)
    completes_empty b z false = on x.count (gathering z b)

    gathers_empty : (p2 : ℕ) (d : List ℕ) (b : Bool) → MovesEmpty c (gathers 𝓢 c row x size t p2 d b)
    gathers_empty p2 d true = completes_empty (record { p2 = p2; bytes = d }) (before t ++ d) (eqb p2 0)
    gathers_empty p2 d false = keeps

    turns_empty : (p2 : ℕ) (s : Shape) (b : Bool) → MovesEmpty c (turns 𝓢 c row x size t p2 s b)
    turns_empty p2 s true = gathers_empty p2 (data_of s) (fits size t s)
    turns_empty p2 s false = keeps

    takes_empty : (p2 : ℕ) (s : Shape) (b : Bool) → MovesEmpty c (takes 𝓢 c row x size t p2 s b)
    takes_empty p2 s true = keeps
    takes_empty p2 s false = turns_empty p2 s (in_turn t p2)

  blocks_empty : (𝓢 : Sealing) (row p2 : ℕ) (s : Shape) (o : Option Connection) → get_or c.tables.connections row None ≡ o → MovesEmpty c (blocks 𝓢 c row p2 s o)
  blocks_empty 𝓢 row p2 s None e = keeps
  blocks_empty 𝓢 row p2 s (Some x) e = by_session x.session refl
    where
      by_session : (z : Session) → x.session ≡ z → MovesEmpty c (in_session 𝓢 c row x p2 s z)
      by_session unstarted q = keeps
      by_session (started size t) q = takes_empty 𝓢 row x size t e q p2 s (repeats t p2 s)

  module _ (𝓗 : Hashing) (random : List ℕ) where
    grants_empty : (a : Asked) (k : Kind) → MovesEmpty c (grants 𝓗 c random a k)
    grants_empty a discovery = established_empty c.tables 𝓗 random a
    grants_empty a master = established_empty c.tables 𝓗 random a
    grants_empty a connection = established_empty c.tables 𝓗 random a
    grants_empty a start = established_empty c.tables 𝓗 random a
    grants_empty a terminate = established_empty c.tables 𝓗 random a

    decides_empty : (k : Kind) (a : Asked) (v : Verdict) → MovesEmpty c (decides 𝓗 c random k a v)
    decides_empty k a (refused r) = keeps
    decides_empty k a wrong_mac = keeps
    decides_empty k a spent = exhausted_empty c.tables a
    decides_empty k a granted = grants_empty a k

    joined_empty : (k : Kind) (j : List ℕ) (o : Object) → MovesEmpty c (card.joined 𝓗 c random k j o)
    joined_empty k j bad = keeps
    joined_empty k j incomplete = keeps
    joined_empty k j (value v) = decides_empty k (asked k v) (verdict 𝓗 c.tables random (asked k v))

    joins_empty : (k : Kind) (j : List ℕ) (s : Shape) → MovesEmpty c (joins 𝓗 c random k j s)
    joins_empty k j bare = keeps
    joins_empty k j (le n) = keeps
    joins_empty k j (alone d) = joined_empty k (j ++ d) (object (j ++ d))
    joins_empty k j (both d n) = keeps

    continues_empty : (k : Kind) (s : Shape) (p : Pending) → MovesEmpty c (continues 𝓗 c random k s p)
    continues_empty k s nothing = keeps
    continues_empty k s (waits i z at) = keeps
    continues_empty k s (gathered i j) = by (same_kind i k)
      where
        by : (b : Bool) → MovesEmpty c (continues_as 𝓗 c random k j s b)
        by true = joins_empty k j s
        by false = keeps

  module _ (𝓗 : Hashing) (𝓢 : Sealing) where
    requests_empty : (apdu random : List ℕ) (q : Request) → MovesEmpty c (requests 𝓗 𝓢 c apdu random q)
    requests_empty apdu random malformed = keeps
    requests_empty apdu random other = others_empty apdu c.requires
    requests_empty apdu random unlisted = keeps
    requests_empty apdu random (begin k s) = joins_empty 𝓗 random k [] s
    requests_empty apdu random (continue k s) = continues_empty 𝓗 random k s c.pending
    requests_empty apdu random (discover s) = reply_empty discovery (discovery_object c.requires c.failures) 0 s
    requests_empty apdu random (answer k s) = answers_empty k s c.pending
    requests_empty apdu random (go_on k s) = goes_on_empty k s c.pending
    requests_empty apdu random (block row p2 s) = blocks_empty 𝓢 row p2 s (get_or c.tables.connections row None) refl
    requests_empty apdu random (fetch row n s) = fetches_empty row n s (get_or c.tables.connections row None)
    requests_empty apdu random (discard row s) = discards_empty row s (get_or c.tables.connections row None) refl

    commands_empty : (apdu random : List ℕ) (u v : Bool) → MovesEmpty c (commands_at 𝓗 𝓢 c apdu random u v)
    commands_empty apdu random true v = keeps
    commands_empty apdu random false true = keeps
    commands_empty apdu random false false = requests_empty apdu random (request apdu)

    moves_empty : (p : Bool) (call : Call) → MovesEmpty c (moves_at 𝓗 𝓢 c p call)
    moves_empty true (load text) = keeps
    moves_empty true power_on = keeps
    moves_empty true power_off = λ i x e. no_some (sym (none_free i) ∙ e)
    moves_empty true (command a r b w) = commands_empty a r (ltb b 258 || ltb w 64) (not (eqb (length r) 32))
    moves_empty false (load text) = loads_empty (loading text)
    moves_empty false power_on = keeps
    moves_empty false power_off = keeps
    moves_empty false (command a r b w) = keeps

module _ (𝓗 : Hashing) (𝓢 : Sealing) {M : Type 0} (𝓐 : Acts M) where
  carried_empty : (s : State M) (mv : Move) → MovesEmpty s.core mv → BeginsEmpty s.core.tables.connections (carries 𝓢 𝓐 s mv).after.core.tables.connections
  carried_empty s (does c a) h = h
  carried_empty s (plain z) h = same_rows s.core.tables.connections
  carried_empty s (runs c row x body) h = h
  carried_empty s (gives row size n k) h = same_rows s.core.tables.connections

  pub new_connections_begin_empty : NewConnectionsBeginEmpty 𝓗 𝓢 𝓐
  new_connections_begin_empty s call = carried_empty s _ (moves_empty s.core 𝓗 𝓢 s.core.powered call)
