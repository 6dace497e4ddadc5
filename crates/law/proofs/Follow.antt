-- From the state that a ledger makes, each request leads to the state that the next ledger makes.
use Rattle.std.proofs.Common.{◌≡◌, ℕ, ◌+◌, ◌*◌, ◌<◌, Bool, true, false, cond, not, ◌&&◌, ◌||◌, eqb, ltb, leb, List, [], ◌∷◌, ◌++◌, map, length, get_or, take, drop, set, Some, None, Option, sym, refl, ap, ◌∙◌, subst, ltb-true}
use lib.ListN.{get_or-map}
use Rattle.sealing.specs.declared.suite.Direction.{Direction}
use Rattle.sealing.specs.declared.suite.Direction.TheVariants as direction
use Rattle.sealing.specs.Sealing.{Sealing, Text}
use Rattle.apdu.specs.Command.{Shape, bare, le, alone, both, data_of}
use Rattle.apdu.specs.declared.status.Status.TheVariants as sw
use Rattle.apdu.specs.StatusWords.{status_bytes}
use Rattle.objects.specs.Joined.{Object, incomplete, bad, value, object}
use Rattle.objects.specs.Asked.{Asked}
use Rattle.law.specs.Request.{Kind, discovery, master, connection, start, terminate, same_kind, asked, Block, Request, malformed, other, unlisted, begin, continue, discover, answer, go_on, block, fetch, discard}
use Rattle.law.specs.Calls.{not_taken, powered, loaded, refused_host, replied}
use Rattle.law.specs.Associations.{Hashing, Sized}
use Rattle.law.specs.Tables.{idle, gathering, answered, started, Connection, Tables, put_connection, with_session}
use Rattle.law.specs.Associate.{Refusal, bad_layout, unknown, no_row, not_possible, already_started, Verdict, refused, wrong_mac, spent, granted, verdict, established, reply_to}
use Rattle.law.specs.Session as session
use Rattle.law.specs.Session.{is_command, repeats, in_turn, before, fits, Judgement, accepts, judged, judged_by, body_of}
use Rattle.law.specs.Step.{Pending, nothing, gathered, waits, Core, Move, does, plain, runs, gives, put, drops, discovery_object, given, gives_reply, replies_as, answers, goes_on, grants, decides, joins, continues_as, continues, judges, completes, gathers, turns, takes, in_session, blocks, fetches_from, fetches_in, fetches, discards_as, discards_in, discards, requests}
use Rattle.law.specs.Step as card
use Rattle.law.specs.Ledger.{Reading, reading, is, Owed, Standing, at_rest, under_way, owing, owed, Dialogue, dialogue_at, Link, Parts, Book, Ledger, rewrites, rewrites_all, counts_failure, writes_link, standing_at, carried_out, asks_whole, enters_object, enters_next, enters_discovery, in_hand, joined, repeated, to_card, is_joined, inner_command, limit_of, opens_to, enters_complete, enters_joined, enters_dialogue, enters_block, enters_discard_in, enters_discard, enters_request, Got, none_got, put_at, next_got, got_dialogue, got_block, got_request, owes_standing, owes_dialogue, owes}
use Rattle.law.specs.Held.{Sound, talk_of, session_of, held_as, row_of}
use Rattle.law.specs.Ruled.{Discovered, RuledAsked, RuledObject, RuledBlock, RuledAs, RuledNext}
use Rattle.law.specs.Judged.{DiscardedAs, DiscardedIn, Discarded}
use Rattle.law.specs.Law.{fetches_request}
use Rattle.law.proofs.Rows.{never, no_some, put_own, put_other}
use Rattle.law.proofs.Sounds.{sound_talk, sound_ran, sound_without, sound_established, sound_exhausted}
use Rattle.law.proofs.Agree.{tables_of, carried_agrees, limit_agrees, wrote_link}
use Rattle.law.proofs.Persist.{Persists, persists_set, persists_carried, persists_limit, elsewhere}
use Rattle.law.proofs.Ruling.{reads, said, ruling, discovered}

-- whether an inner command came of it
abbrev pub some : Option (List ℕ) → Bool
some None = false
some (Some b) = true

-- what the judgement of a completed command says, by its definition
pub record BlockJudged (in_order completes taken accepted : Bool) (a : Reading) : Type 0 where
  pub due : in_order ≡ true → (eqb a.sw1 0x92 || is 0x69 0x88 a || is 0x69 0x83 a) ≡ true
  pub complete : completes ≡ true → taken ≡ accepted

abbrev pub is_due : Dialogue → ℕ → Shape → Bool
is_due d p2 s = in_turn (talk_of d.standing) p2 && fits d.size (talk_of d.standing) s

abbrev pub JudgedIn : Sealing → Ledger → Link → ℕ → Shape → Reading → Option Dialogue → Type 0
JudgedIn 𝓢 l x p2 s a None = is 0x69 0x85 a ≡ true
JudgedIn 𝓢 l x p2 s a (Some d) =
    BlockJudged (is_due d p2 s) (is_joined d.standing p2 s a && eqb p2 0) (eqb a.sw1 0x92) (some (opens_to 𝓢 l.book x (joined (in_hand d.standing) ++ data_of s))) a

abbrev pub Judged : Sealing → Ledger → ℕ → Shape → Reading → Option Link → Type 0
Judged 𝓢 l p2 s a None = is 0x69 0x85 a ≡ true
Judged 𝓢 l p2 s a (Some x) = JudgedIn 𝓢 l x p2 s a x.dialogue

-- What the ledger does not keep: power, a reply that waits.
pub record Reply : Type 0 where
  pub kind : Kind
  pub bytes : List ℕ
  pub given : ℕ

pub record Extra : Type 0 where
  pub powered : Bool
  pub reply : Option Reply

abbrev pub pend : Option Parts → Option Reply → Pending
pend (Some p) r = gathered p.kind p.bytes
pend None None = nothing
pend None (Some r) = waits r.kind r.bytes r.given

-- The state that the ledger makes.
abbrev pub at : Extra → Ledger → Core
at x l = record { powered = x.powered; requires = true; failures = l.failures; tables = tables_of l.book; pending = pend l.object x.reply }

-- A call that runs nothing.
pub record Good (l l' : Ledger) (k : Core) : Type 0 where
  pub extra : Extra
  pub is : k ≡ at extra l'
  pub inner : l'.inner ≡ l.inner
  pub sound : Sound (tables_of l'.book)
  pub persists : Persists l.book.links l'.book.links

pub still : (x : Extra) (l : Ledger) → Sound (tables_of l.book) → Good l l (at x l)
still x l s = record { extra = x; is = refl; inner = refl; sound = s; persists = λ i y e h. e }

abbrev pub with_reply : Extra → Option Reply → Extra
with_reply x r = record { powered = x.powered; reply = r }

-- That state with other tables.
abbrev core_with : Extra → ℕ → Option Parts → Tables → Core
core_with x n p t = record { powered = x.powered; requires = true; failures = n; tables = t; pending = pend p x.reply }

abbrev pub SameGot : List (Option Link) → (ℕ → Got) → (ℕ → Got) → Type 0
SameGot xs gs gs' = (i : ℕ) (y : Link) → get_or xs i None ≡ Some y → owes (Some y) ≡ true → gs' i ≡ gs i

pub reset_got : (xs : List (Option Link)) (row : ℕ) (y : Option Link) → owes y ≡ false → (gs : ℕ → Got) → SameGot (set xs row y) gs (put_at gs row none_got)
reset_got xs row y e gs i z ez hz = put_other gs row none_got i (elsewhere xs row y e i z ez hz)

-- A reply that runs nothing.
pub record Did (l l' : Ledger) (J : Type 0) (f : Bool) (g : (ℕ → Got) → (ℕ → Got)) (k : Core) : Type 0 where
  pub good : Good l l' k
  pub free : f ≡ false
  pub judged : J
  pub gots : (gs : ℕ → Got) → SameGot l'.book.links gs (g gs)

-- An accepted command.
pub record Ran (𝓢 : Sealing) (l l' : Ledger) (J : Type 0) (f : Bool) (g : (ℕ → Got) → (ℕ → Got)) (k : Core) (row : ℕ) (c : Connection) (body : List ℕ) : Type 0 where
  pub extra : Extra
  pub is : k ≡ at extra l'
  pub inner : l'.inner ≡ l.inner ++ body ∷ []
  pub sound : Sound (tables_of l'.book)
  pub link : Link
  pub held : get_or l.book.links row None ≡ Some link
  pub same : c ≡ held_as link
  pub size : ℕ
  pub last : Block
  pub links : l'.book.links ≡ set l.book.links row (Some (standing_at link (link.count + 1) (dialogue_at size (owing last (owed l.inner body link.count)))))
  pub z : List ℕ
  pub opened : opens_to 𝓢 l.book link z ≡ Some body
  pub free : f ≡ false
  pub judged : J
  pub gots : (gs : ℕ → Got) → g gs ≡ put_at gs row none_got

-- A block of an answer.
pub record Gave (l : Ledger) (q : Request) (row size n : ℕ) (h : Shape) : Type 0 where
  pub asked : q ≡ fetch row n h
  pub link : Link
  pub last : Block
  pub owed : Owed
  pub held : get_or l.book.links row None ≡ Some link
  pub dialogue : link.dialogue ≡ Some (dialogue_at size (owing last owed))

abbrev pub Outcome : Sealing → Ledger → Request → (Reading → Ledger) → (Reading → Type 0) → Bool → (Reading → (ℕ → Got) → (ℕ → Got)) → Move → Type 0
Outcome 𝓢 l q L J f g (does k (replied a)) = Did l (counts_failure (is 0x69 0x88 (reading a)) (L (reading a))) (J (reading a)) f (g (reading a)) k
Outcome 𝓢 l q L J f g (does k not_taken) = ⊥
Outcome 𝓢 l q L J f g (does k powered) = ⊥
Outcome 𝓢 l q L J f g (does k (loaded n)) = ⊥
Outcome 𝓢 l q L J f g (does k (refused_host n)) = ⊥
Outcome 𝓢 l q L J f g (plain z) = ⊥
Outcome 𝓢 l q L J f g (runs k row y body) = let a = reading (status_bytes (sw.Taken (row * 2 + 1))) in Ran 𝓢 l (L a) (J a) f (g a) k row y body
Outcome 𝓢 l q L J f g (gives row size n h) = Gave l q row size n h

abbrev pub kept_got : Reading → (ℕ → Got) → (ℕ → Got)
kept_got a gs = gs

abbrev pub NoJudgement : Reading → Type 0
NoJudgement a = Unit {0}

pub did_as : {l l' : Ledger} {k : Core} {J : Type 0} → J → Good l l' k → Did l l' J false (λ gs. gs) k
did_as j g = record { good = g; free = refl; judged = j; gots = λ gs i y e h. refl }

pub did : {l l' : Ledger} {k : Core} → Good l l' k → Did l l' (Unit {0}) false (λ gs. gs) k
did g = did_as tt g

-- A reply block is no failure.
no_failure : (d : List ℕ) (b : Bool) → is 0x69 0x88 (reading (d ++ cond b (status_bytes sw.MoreToFetch) (status_bytes sw.Done))) ≡ false
no_failure d true = ap (λ (r : Reading). is 0x69 0x88 r) (reads d 0x62 0xF1)
no_failure d false = ap (λ (r : Reading). is 0x69 0x88 r) (reads d 0x90 0)

unfailed : (l l' : Ledger) (k : Core) (b : Bool) → b ≡ false → Good l l' k → Good l (counts_failure b l') k
unfailed l l' k b e g = subst (λ (b : Bool). Good l (counts_failure b l') k) (sym e) g

-- The clerk accepts what the card's judgement accepts.
abbrev of_judgement : Judgement → Option (List ℕ)
of_judgement session.wrong = None
of_judgement session.spent = None
of_judgement (accepts b) = Some b

same_direction : (a : Direction) → to_card a ≡ is_command a
same_direction direction.Command = refl
same_direction direction.Reply = refl

pub accepts_same : (n limit : ℕ) (o : Option Text) → inner_command n limit o ≡ of_judgement (judged_by (ltb n limit) (body_of n o))
accepts_same n limit None = refl
accepts_same n limit (Some t) = ap (λ (u : Bool). cond (u && eqb t.number n && leb 4 (length t.body) && ltb n limit) (Some t.body) None) (same_direction t.direction)
    ∙ by (is_command t.direction) (eqb t.number n) (leb 4 (length t.body)) (ltb n limit)
  where
    by : (a b c w : Bool) → cond (a && b && c && w) (Some t.body) None ≡ of_judgement (judged_by w (cond (a && b && c) (Some t.body) None))
    by true true true true = refl
    by true true true false = refl
    by true true false w = refl
    by true false c w = refl
    by false b c w = refl

within_limit : (n limit : ℕ) (o : Option Text) (b : List ℕ) → inner_command n limit o ≡ Some b → n < limit
within_limit n limit None b e = no_some e
within_limit n limit (Some t) b e = by (to_card t.direction) (eqb t.number n) (leb 4 (length t.body)) (ltb n limit) refl e
  where
    by : (u v c w : Bool) → ltb n limit ≡ w → cond (u && v && c && w) (Some t.body) None ≡ Some b → n < limit
    by true true true true q e = ltb-true n limit q
    by true true true false q e = no_some e
    by true true false w q e = no_some e
    by true false c w q e = no_some e
    by false v c w q e = no_some e

-- What the standing says, in the card's words.
same_repeat : (st : Standing) (p2 : ℕ) (h : Shape) → repeats (talk_of st) p2 h ≡ repeated st p2 h
same_repeat at_rest p2 bare = refl
same_repeat at_rest p2 (le n) = refl
same_repeat at_rest p2 (alone d) = refl
same_repeat at_rest p2 (both d n) = refl
same_repeat (under_way b bs) p2 bare = refl
same_repeat (under_way b bs) p2 (le n) = refl
same_repeat (under_way b bs) p2 (alone d) = refl
same_repeat (under_way b bs) p2 (both d n) = refl
same_repeat (owing b o) p2 bare = refl
same_repeat (owing b o) p2 (le n) = refl
same_repeat (owing b o) p2 (alone d) = refl
same_repeat (owing b o) p2 (both d n) = refl

pub same_before : (st : Standing) → before (talk_of st) ≡ joined (in_hand st)
same_before at_rest = refl
same_before (under_way b bs) = refl
same_before (owing b o) = refl

module _ (𝓗 : Hashing) (digests : Sized 𝓗) (𝓢 : Sealing) where
  module _ (x : Extra) (l : Ledger) (s : Sound (tables_of l.book)) (random : List ℕ) (q : Request) where
    abbrev pub PlainGood : (Reading → Ledger) → (Reading → Type 0) → Move → Type 0
    PlainGood L J mv = Outcome 𝓢 l q L J false kept_got mv

    abbrev ObjectGood : Kind → List ℕ → (Reading → Type 0) → Move → Type 0
    ObjectGood k j J mv = PlainGood (enters_object 𝓗 l random k j) J mv

    dropped : Good l (rewrites_all l l.book None) (drops (at x l))
    dropped = record { extra = with_reply x None; is = refl; inner = refl; sound = s; persists = λ i y e h. e }

    -- an object that is carried out
    carried : (a : Asked) → verdict 𝓗 (tables_of l.book) random a ≡ granted → (r : Option Reply)
        → Good l (rewrites_all l (carried_out 𝓗 l.book random a) None) (put (at x l) (established 𝓗 (tables_of l.book) random a) (pend None r))
    carried a g r = record {
      extra = with_reply x r;
      inner = refl;
      is = ap (λ (t : Tables). core_with (with_reply x r) l.failures None t) (sym (carried_agrees 𝓗 l.book s random a));
      sound = subst (λ (t : Tables). Sound t) (sym (carried_agrees 𝓗 l.book s random a)) (sound_established 𝓗 digests (tables_of l.book) random a g s);
      persists = persists_carried 𝓗 l.book random a;
    }

    granted_good : (k : Kind) (j : List ℕ) (J : Reading → Type 0) (a : Asked) → asks_whole k (object j) ≡ a → verdict 𝓗 (tables_of l.book) random a ≡ granted
        → J (reading (status_bytes (said k granted))) → ObjectGood k j J (grants 𝓗 (at x l) random a k)
    granted_good discovery j J a e g w = rw e (did_as w (carried a g (Some (record { kind = discovery; bytes = reply_to 𝓗 (tables_of l.book) random a; given = 0 }))))
    granted_good master j J a e g w = rw e (did_as w (carried a g (Some (record { kind = master; bytes = reply_to 𝓗 (tables_of l.book) random a; given = 0 }))))
    granted_good connection j J a e g w = rw e (did_as w (carried a g (Some (record { kind = connection; bytes = reply_to 𝓗 (tables_of l.book) random a; given = 0 }))))
    granted_good start j J a e g w = rw e (did_as w (carried a g (Some (record { kind = start; bytes = reply_to 𝓗 (tables_of l.book) random a; given = 0 }))))
    granted_good terminate j J a e g w = rw e (did_as w (carried a g None))

    spent_good : (k : Kind) (j : List ℕ) (J : Reading → Type 0) (a : Asked) → asks_whole k (object j) ≡ a → J (reading (status_bytes sw.LimitPassed))
        → ObjectGood k j J (decides 𝓗 (at x l) random k a spent)
    spent_good k j J a e w = rw e (did_as w (record {
      extra = with_reply x None;
      inner = refl;
      is = ap (λ (t : Tables). core_with (with_reply x None) l.failures None t) (sym (limit_agrees 𝓗 l.book s a));
      sound = subst (λ (t : Tables). Sound t) (sym (limit_agrees 𝓗 l.book s a)) (sound_exhausted 𝓗 digests (tables_of l.book) a s);
      persists = persists_limit l.book a;
    }))

    refused_good : (k : Kind) (j : List ℕ) (J : Reading → Type 0) (a : Asked) (r : Refusal) → J (reading (status_bytes (said k (refused r)))) → ObjectGood k j J (decides 𝓗 (at x l) random k a (refused r))
    refused_good k j J a bad_layout w = did_as w dropped
    refused_good k j J a unknown w = did_as w dropped
    refused_good k j J a no_row w = did_as w dropped
    refused_good k j J a not_possible w = did_as w dropped
    refused_good k j J a already_started w = did_as w dropped

    decided : (k : Kind) (j : List ℕ) (J : Reading → Type 0) (a : Asked) → asks_whole k (object j) ≡ a → (v : Verdict) → verdict 𝓗 (tables_of l.book) random a ≡ v
        → J (reading (status_bytes (said k v))) → ObjectGood k j J (decides 𝓗 (at x l) random k a v)
    decided k j J a e (refused r) ev w = refused_good k j J a r w
    decided k j J a e wrong_mac ev w = did_as w (record { extra = with_reply x None; is = refl; inner = refl; sound = s; persists = λ i y e h. e })
    decided k j J a e spent ev w = spent_good k j J a e w
    decided k j J a e granted ev w = granted_good k j J a e ev w

    object_good : (k : Kind) (j : List ℕ) (o : Object) → object j ≡ o → ObjectGood k j (RuledObject 𝓗 l.book random k o) (card.joined 𝓗 (at x l) random k j o)
    object_good k j bad e = did_as refl dropped
    object_good k j incomplete e = did_as refl (record { extra = with_reply x None; is = refl; inner = refl; sound = s; persists = λ i y e h. e })
    object_good k j (value v) e = decided k j (RuledAsked 𝓗 l.book random (asked k v)) (asked k v) (ap (λ (o : Object). asks_whole k o) e) (verdict 𝓗 (tables_of l.book) random (asked k v)) refl
        (ruling 𝓗 l.book k random (asked k v))

    joins_good : (k : Kind) (j : List ℕ) (h : Shape) → ObjectGood k (j ++ data_of h) (RuledBlock 𝓗 l.book random k j h) (joins 𝓗 (at x l) random k j h)
    joins_good k j (alone d) = object_good k (j ++ d) (object (j ++ d)) refl
    joins_good k j bare = did_as refl (still x l s)
    joins_good k j (le n) = did_as refl (still x l s)
    joins_good k j (both d n) = did_as refl (still x l s)

    discover_good : (h : Shape) → PlainGood (λ a. enters_discovery l h) (Discovered l.failures h) (gives_reply (at x l) discovery (discovery_object true l.failures) 0 h)
    discover_good (le n) = did_as (discovered l.failures n (ltb n 11) refl) (unfailed l (rewrites_all l l.book None) _ _ (no_failure (take n (drop 0 (discovery_object true l.failures))) (ltb n (length (drop 0 (discovery_object true l.failures)))))
        (record {
          extra = with_reply x (Some (record { kind = discovery; bytes = discovery_object true l.failures; given = 0 + length (take n (drop 0 (discovery_object true l.failures))) }));
          is = refl;
          inner = refl;
          sound = s;
          persists = λ i y e h. e;
        }))
    discover_good bare = did_as refl (still x l s)
    discover_good (alone d) = did_as refl (still x l s)
    discover_good (both d n) = did_as refl (still x l s)

  -- by what is pending
  module _ (power : Bool) (failures : ℕ) (b : Book) (s : Sound (tables_of b)) (inner : List (List ℕ)) (random : List ℕ) (q : Request) where
    abbrev led : Option Parts → Ledger
    led p = record { book = b; object = p; inner = inner; failures = failures }

    abbrev ext : Option Reply → Extra
    ext r = record { powered = power; reply = r }

    -- reply blocks leave the ledger as it is
    gives_good : (r : Reply) (k : Kind) (n : ℕ) (h : Shape) → PlainGood (ext (Some r)) (led None) s random q (λ a. led None) NoJudgement (gives_reply (at (ext (Some r)) (led None)) k r.bytes n h)
    gives_good r k n (le m) = did (unfailed (led None) (led None) _ _ (no_failure (take m (drop n r.bytes)) (ltb m (length (drop n r.bytes))))
        (record { extra = ext (Some (record { kind = k; bytes = r.bytes; given = n + length (take m (drop n r.bytes)) })); is = refl; inner = refl; sound = s; persists = λ i y e h. e }))
    gives_good r k n bare = did (still (ext (Some r)) (led None) s)
    gives_good r k n (alone d) = did (still (ext (Some r)) (led None) s)
    gives_good r k n (both d m) = did (still (ext (Some r)) (led None) s)

    replies_good : (r : Reply) (k : Kind) (n : ℕ) (h : Shape) (c : Bool) → PlainGood (ext (Some r)) (led None) s random q (λ a. led None) NoJudgement (replies_as (at (ext (Some r)) (led None)) k r.bytes n h c)
    replies_good r k n h true = gives_good r k n h
    replies_good r k n h false = did (still (ext (Some r)) (led None) s)

    pub answers_good : (p : Option Parts) (r : Option Reply) (k : Kind) (h : Shape) → PlainGood (ext r) (led p) s random q (λ a. led p) NoJudgement (answers (at (ext r) (led p)) k h (pend p r))
    answers_good None None k h = did (still (ext None) (led None) s)
    answers_good None (Some r) k h = replies_good r k 0 h (same_kind r.kind k)
    answers_good (Some p) r k h = did (still (ext r) (led (Some p)) s)

    pub goes_on_good : (p : Option Parts) (r : Option Reply) (k : Kind) (h : Shape) → PlainGood (ext r) (led p) s random q (λ a. led p) NoJudgement (goes_on (at (ext r) (led p)) k h (pend p r))
    goes_on_good None None k h = did (still (ext None) (led None) s)
    goes_on_good None (Some r) k h = replies_good r k r.given h (same_kind r.kind k)
    goes_on_good (Some p) r k h = did (still (ext r) (led (Some p)) s)

    continued : (p : Parts) (r : Option Reply) (k : Kind) (h : Shape) (c : Bool)
        → PlainGood (ext r) (led (Some p)) s random q (enters_object 𝓗 (led (Some p)) random k (p.bytes ++ data_of h)) (λ a. RuledAs 𝓗 b random k p.bytes h a c) (continues_as 𝓗 (at (ext r) (led (Some p))) random k p.bytes h c)
    continued p r k h true = joins_good (ext r) (led (Some p)) s random q k p.bytes h
    continued p r k h false = did_as refl (still (ext r) (led (Some p)) s)

    pub continues_good : (p : Option Parts) (r : Option Reply) (k : Kind) (h : Shape)
        → PlainGood (ext r) (led p) s random q (enters_next 𝓗 (led p) random k h p) (λ a. RuledNext 𝓗 b random k h a p) (continues 𝓗 (at (ext r) (led p)) random k h (pend p r))
    continues_good None None k h = did_as refl (still (ext None) (led None) s)
    continues_good None (Some r) k h = did_as refl (still (ext (Some r)) (led None) s)
    continues_good (Some p) r k h = continued p r k h (same_kind p.kind k)

  -- sessions
  module _ (x : Extra) (l : Ledger) (s : Sound (tables_of l.book)) (q : Request) (row p2 : ℕ) (h : Shape) where
    module _ (y : Link) (held : get_or l.book.links row None ≡ Some y) (size : ℕ) (st : Standing) where
      abbrev all_joined : List ℕ
      all_joined = joined (in_hand st) ++ data_of h

      abbrev here : Block
      here = record { p2 = p2; bytes = data_of h }

      abbrev opened_here : Option (List ℕ)
      opened_here = opens_to 𝓢 l.book y all_joined

      abbrev worth : Reading → Bool
      worth a = eqb a.sw1 0x92 || is 0x69 0x88 a || is 0x69 0x83 a

      abbrev enters_if : Bool → Option (List ℕ) → Reading → Ledger
      enters_if true o a = enters_complete 𝓢 l row y size here a o
      enters_if false o a = rewrites l (writes_link l.book row (Some (standing_at y y.count (dialogue_at size (under_way here (in_hand st))))))

      -- by whether it is due, whether it is a repetition, whether it completes, and what it then opens to
      abbrev TakesGood : Bool → Bool → Bool → Option (List ℕ) → Move → Type 0
      TakesGood due r p o mv = Outcome 𝓢 l q (λ a. cond (not r && worth a) (enters_if p o a) l)
          (λ a. BlockJudged due ((not r && worth a) && p) (eqb a.sw1 0x92) (some o) a) false
          (λ a gs. cond (not r && worth a) (put_at gs row none_got) gs) mv

      card_held : get_or (map row_of l.book.links) row None ≡ Some (held_as y)
      card_held = get_or-map row_of l.book.links row None ∙ ap row_of held

      refused_still : (a : Reading) (p : Bool) (o : Option (List ℕ)) → Did l l (BlockJudged false (false && p) false (some o) a) false (λ gs. gs) (at x l)
      refused_still a p o = record {
        good = still x l s;
        free = refl;
        judged = record { due = λ e. never (sym e); complete = λ e. never (sym e) };
        gots = λ gs i y e h. refl;
      }

      -- the row written, and the session of it
      wrote : (n : ℕ) (d : Dialogue) → tables_of (writes_link l.book row (Some (standing_at y n d))) ≡ put_connection (tables_of l.book) row (with_session (held_as y) n (session_of (Some d)))
      wrote n d = wrote_link l.book row (Some (standing_at y n d))

      judged_good : (due : Bool) (v : Judgement) → judged 𝓢 (held_as y) (limit_of l.book y) all_joined ≡ v → TakesGood due false true (of_judgement v) (judges 𝓢 (at x l) row (held_as y) size here v)
      judged_good due session.wrong e =
          let d : Dialogue = dialogue_at size at_rest in
          record {
            good = record {
              extra = x;
              is = ap (λ (t : Tables). core_with x (card.one_more l.failures) l.object t) (sym (wrote y.count d));
              inner = refl;
              sound = subst (λ (t : Tables). Sound t) (sym (wrote y.count d)) (sound_talk (tables_of l.book) row (held_as y) (started size idle) card_held s);
              persists = persists_set l.book.links row (Some (standing_at y y.count d)) refl;
            };
            free = refl;
            judged = record { due = λ _. refl; complete = λ _. refl };
            gots = λ gs. reset_got l.book.links row (Some (standing_at y y.count d)) refl gs;
          }
      judged_good due session.spent e = record {
        good = record {
          extra = x;
          is = ap (λ (t : Tables). core_with x l.failures l.object t) (sym (wrote_link l.book row None));
          inner = refl;
          sound = subst (λ (t : Tables). Sound t) (sym (wrote_link l.book row None)) (sound_without (tables_of l.book) row s);
          persists = persists_set l.book.links row None refl;
        };
        free = refl;
        judged = record { due = λ _. refl; complete = λ _. refl };
        gots = λ gs. reset_got l.book.links row None refl gs;
      }
      judged_good due (accepts body) e =
          let o : opens_to 𝓢 l.book y all_joined ≡ Some body = accepts_same y.count (limit_of l.book y) (𝓢.opened y.suite y.keys all_joined) ∙ ap of_judgement e in
          let lt : y.count < limit_of l.book y = within_limit y.count (limit_of l.book y) (𝓢.opened y.suite y.keys all_joined) body o in
          let d : Dialogue = dialogue_at size (owing here (owed l.inner body y.count)) in
          record {
            extra = x;
            is = ap (λ (t : Tables). core_with x l.failures l.object t) (sym (wrote (y.count + 1) d));
            inner = refl;
            sound = subst (λ (t : Tables). Sound t) (sym (wrote (y.count + 1) d)) (sound_ran (tables_of l.book) row (held_as y) (started size (answered here)) card_held lt s);
            link = y;
            held = held;
            same = refl;
            size = size;
            last = here;
            links = refl;
            z = all_joined;
            opened = o;
            free = refl;
            judged = record { due = λ _. refl; complete = λ _. refl };
            gots = λ gs. refl;
          }

      completed_good : (due p : Bool) → TakesGood due false p opened_here (completes 𝓢 (at x l) row (held_as y) size here all_joined p)
      completed_good due true =
          subst (λ (o : Option (List ℕ)). TakesGood due false true o (judges 𝓢 (at x l) row (held_as y) size here (judged 𝓢 (held_as y) (limit_of l.book y) all_joined)))
          (sym (accepts_same y.count (limit_of l.book y) (𝓢.opened y.suite y.keys all_joined)))
          (judged_good due (judged 𝓢 (held_as y) (limit_of l.book y) all_joined) refl)
      completed_good due false =
          let d : Dialogue = dialogue_at size (under_way here (in_hand st)) in
          record {
            good = record {
              extra = x;
              is = ap (λ (t : Tables). core_with x l.failures l.object t) (sym (wrote y.count d));
              inner = refl;
              sound = subst (λ (t : Tables). Sound t) (sym (wrote y.count d)) (sound_talk (tables_of l.book) row (held_as y) (started size (gathering all_joined here)) card_held s);
              persists = persists_set l.book.links row (Some (standing_at y y.count d)) refl;
            };
            free = refl;
            judged = record { due = λ _. refl; complete = λ e. never (sym e) };
            gots = λ gs. reset_got l.book.links row (Some (standing_at y y.count d)) refl gs;
          }

      fits_good : (b : Bool) → TakesGood b false (eqb p2 0) opened_here (gathers 𝓢 (at x l) row (held_as y) size (talk_of st) p2 (data_of h) b)
      fits_good true = subst (λ (j : List ℕ). TakesGood true false (eqb p2 0) opened_here (completes 𝓢 (at x l) row (held_as y) size here (j ++ data_of h) (eqb p2 0))) (sym (same_before st)) (completed_good true (eqb p2 0))
      fits_good false = refused_still (reading (status_bytes sw.WrongLength)) (eqb p2 0) opened_here

      turn_good : (b : Bool) → TakesGood (b && fits size (talk_of st) h) false (eqb p2 0) opened_here (turns 𝓢 (at x l) row (held_as y) size (talk_of st) p2 h b)
      turn_good true = fits_good (fits size (talk_of st) h)
      turn_good false = refused_still (reading (status_bytes sw.WrongParameters)) (eqb p2 0) opened_here

      pub taken_good : (r : Bool) → TakesGood (in_turn (talk_of st) p2 && fits size (talk_of st) h) r (eqb p2 0) opened_here (takes 𝓢 (at x l) row (held_as y) size (talk_of st) p2 h r)
      taken_good true = record { good = still x l s; free = refl; judged = record { due = λ _. refl; complete = λ e. never (sym e) }; gots = λ gs i y e h. refl }
      taken_good false = turn_good (in_turn (talk_of st) p2)

    abbrev BlockGood : Option Link → Move → Type 0
    BlockGood o mv = Outcome 𝓢 l q (λ a. enters_block 𝓢 l row p2 h a o) (λ a. Judged 𝓢 l p2 h a o) false (λ a gs. got_block gs row p2 h a o) mv

    block_in : (y : Link) → get_or l.book.links row None ≡ Some y → (z : Option Dialogue)
        → Outcome 𝓢 l q (λ a. enters_dialogue 𝓢 l row y p2 h a z) (λ a. JudgedIn 𝓢 l y p2 h a z) false (λ a gs. got_dialogue gs row p2 h a z) (in_session 𝓢 (at x l) row (held_as y) p2 h (session_of z))
    block_in y held None = did_as refl (still x l s)
    block_in y held (Some d) =
        subst (λ (r : Bool). Outcome 𝓢 l q (λ a. enters_dialogue 𝓢 l row y p2 h a (Some d)) (λ a. JudgedIn 𝓢 l y p2 h a (Some d)) false (λ a gs. got_dialogue gs row p2 h a (Some d)) (takes 𝓢 (at x l) row (held_as y) d.size (talk_of d.standing) p2 h r))
        (sym (same_repeat d.standing p2 h))
        (joined_as (eqb p2 0) (taken_good y held d.size d.standing (repeated d.standing p2 h)))
      where
        joined_as : (p : Bool) → TakesGood y held d.size d.standing (is_due d p2 h) (repeated d.standing p2 h) p (opened_here y held d.size d.standing) (takes 𝓢 (at x l) row (held_as y) d.size (talk_of d.standing) p2 h (repeated d.standing p2 h))
            → Outcome 𝓢 l q (λ a. cond (is_joined d.standing p2 h a) (enters_joined 𝓢 l row y d.size (record { p2 = p2; bytes = data_of h }) (in_hand d.standing) a p) l)
            (λ a. BlockJudged (is_due d p2 h) (is_joined d.standing p2 h a && p) (eqb a.sw1 0x92) (some (opened_here y held d.size d.standing)) a) false
            (λ a gs. cond (is_joined d.standing p2 h a) (put_at gs row none_got) gs) (takes 𝓢 (at x l) row (held_as y) d.size (talk_of d.standing) p2 h (repeated d.standing p2 h))
        joined_as true o = o
        joined_as false o = o

    pub block_good : (o : Option Link) → get_or l.book.links row None ≡ o → BlockGood o (blocks 𝓢 (at x l) row p2 h (row_of o))
    block_good None e = did_as refl (still x l s)
    block_good (Some y) e = block_in y e y.dialogue

  module _ (x : Extra) (l : Ledger) (s : Sound (tables_of l.book)) (row n : ℕ) (h : Shape) where
    abbrev FetchGood : Bool → Move → Type 0
    FetchGood f mv = Outcome 𝓢 l (fetch row n h) (λ a. l) (λ a. is 0x69 0x85 a ≡ true) f (λ a gs. put_at gs row (next_got (gs row) n a)) mv

    not_fetched : Did l l (true ≡ true) false (λ gs. put_at gs row (gs row)) (at x l)
    not_fetched = record { good = still x l s; free = refl; judged = refl; gots = λ gs i y e h. put_own gs row i }

    fetch_talk : (y : Link) → get_or l.book.links row None ≡ Some y → (size : ℕ) (st : Standing) → y.dialogue ≡ Some (dialogue_at size st)
        → FetchGood (owes_standing st) (fetches_from (at x l) row n h size (talk_of st))
    fetch_talk y held size at_rest e = not_fetched
    fetch_talk y held size (under_way b bs) e = not_fetched
    fetch_talk y held size (owing b o) e = record { asked = refl; link = y; last = b; owed = o; held = held; dialogue = e }

    fetch_in : (y : Link) → get_or l.book.links row None ≡ Some y → (z : Option Dialogue) → y.dialogue ≡ z → FetchGood (owes_dialogue z) (fetches_in (at x l) row n h (session_of z))
    fetch_in y held None e = not_fetched
    fetch_in y held (Some d) e = fetch_talk y held d.size d.standing e

    pub fetch_good : (o : Option Link) → get_or l.book.links row None ≡ o → FetchGood (owes o) (fetches (at x l) row n h (row_of o))
    fetch_good None e = not_fetched
    fetch_good (Some y) e = fetch_in y e y.dialogue refl

  module _ (x : Extra) (l : Ledger) (s : Sound (tables_of l.book)) (q : Request) (row : ℕ) where
    abbrev DiscardGood : (Reading → Ledger) → (Reading → Type 0) → Move → Type 0
    DiscardGood L J mv = Outcome 𝓢 l q L J false kept_got mv

    discard_as : (y : Link) → get_or l.book.links row None ≡ Some y → (d : Dialogue) (h : Shape) → DiscardGood (λ a. enters_discard_in l row y a (Some d)) (DiscardedAs h) (discards_as (at x l) row (held_as y) d.size h)
    discard_as y held d bare =
        let r : Dialogue = dialogue_at d.size at_rest in
        let w : tables_of (writes_link l.book row (Some (standing_at y y.count r))) ≡ put_connection (tables_of l.book) row (with_session (held_as y) y.count (started d.size idle)) = wrote_link l.book row (Some (standing_at y y.count r)) in
        did_as refl (record {
          extra = x;
          is = ap (λ (t : Tables). core_with x l.failures l.object t) (sym w);
          inner = refl;
          sound = subst (λ (t : Tables). Sound t) (sym w) (sound_talk (tables_of l.book) row (held_as y) (started d.size idle) (get_or-map row_of l.book.links row None ∙ ap row_of held) s);
          persists = persists_set l.book.links row (Some (standing_at y y.count r)) refl;
        })
    discard_as y held d (le n) = did_as refl (still x l s)
    discard_as y held d (alone e) = did_as refl (still x l s)
    discard_as y held d (both e n) = did_as refl (still x l s)

    discard_in : (y : Link) → get_or l.book.links row None ≡ Some y → (z : Option Dialogue) (h : Shape) → DiscardGood (λ a. enters_discard_in l row y a z) (λ a. DiscardedIn h a z) (discards_in (at x l) row (held_as y) h (session_of z))
    discard_in y held None h = did_as refl (still x l s)
    discard_in y held (Some d) h = discard_as y held d h

    pub discard_good : (h : Shape) (o : Option Link) → get_or l.book.links row None ≡ o → DiscardGood (λ a. enters_discard l row a o) (λ a. Discarded h a o) (discards (at x l) row h (row_of o))
    discard_good h None e = did_as refl (still x l s)
    discard_good h (Some y) e = discard_in y e y.dialogue h

  -- Any request: what the clerk enters, whether it fetches an answer, what is judged.
  abbrev pub JudgedRequest : Ledger → List ℕ → Request → Reading → Type 0
  JudgedRequest l random malformed a = is 0x67 0x00 a ≡ true
  JudgedRequest l random other a = is 0x69 0x89 a ≡ true
  JudgedRequest l random unlisted a = is 0x6A 0x86 a ≡ true
  JudgedRequest l random (begin k h) a = RuledBlock 𝓗 l.book random k [] h a
  JudgedRequest l random (continue k h) a = RuledNext 𝓗 l.book random k h a l.object
  JudgedRequest l random (discover h) a = Discovered l.failures h a
  JudgedRequest l random (answer k h) a = Unit {0}
  JudgedRequest l random (go_on k h) a = Unit {0}
  JudgedRequest l random (block row p2 h) a = Judged 𝓢 l p2 h a (get_or l.book.links row None)
  JudgedRequest l random (fetch row n h) a = is 0x69 0x85 a ≡ true
  JudgedRequest l random (discard row h) a = Discarded h a (get_or l.book.links row None)

  abbrev pub Follows : Ledger → List ℕ → Request → Move → Type 0
  Follows l random q mv = Outcome 𝓢 l q (enters_request 𝓗 𝓢 l random q) (JudgedRequest l random q) (fetches_request l.book.links q) (λ a gs. got_request l.book.links gs q a) mv

  pub requested : (x : Extra) (l : Ledger) (s : Sound (tables_of l.book)) (apdu random : List ℕ) (q : Request) → Follows l random q (requests 𝓗 𝓢 (at x l) apdu random q)
  requested x l s apdu random malformed = did_as refl (still x l s)
  requested x l s apdu random other = did_as refl (still x l s)
  requested x l s apdu random unlisted = did_as refl (still x l s)
  requested x l s apdu random (begin k h) = joins_good x l s random (begin k h) k [] h
  requested x l s apdu random (continue k h) = continues_good x.powered l.failures l.book s l.inner random (continue k h) l.object x.reply k h
  requested x l s apdu random (discover h) = discover_good x l s random (discover h) h
  requested x l s apdu random (answer k h) = answers_good x.powered l.failures l.book s l.inner random (answer k h) l.object x.reply k h
  requested x l s apdu random (go_on k h) = goes_on_good x.powered l.failures l.book s l.inner random (go_on k h) l.object x.reply k h
  requested x l s apdu random (block row p2 h) =
      subst (λ (o : Option Connection). Follows l random (block row p2 h) (blocks 𝓢 (at x l) row p2 h o)) (sym (get_or-map row_of l.book.links row None))
      (block_good x l s (block row p2 h) row p2 h (get_or l.book.links row None) refl)
  requested x l s apdu random (fetch row n h) =
      subst (λ (o : Option Connection). Follows l random (fetch row n h) (fetches (at x l) row n h o)) (sym (get_or-map row_of l.book.links row None))
      (fetch_good x l s row n h (get_or l.book.links row None) refl)
  requested x l s apdu random (discard row h) =
      subst (λ (o : Option Connection). Follows l random (discard row h) (discards (at x l) row h o)) (sym (get_or-map row_of l.book.links row None))
      (discard_good x l s (discard row h) row h (get_or l.book.links row None) refl)
