-- The law over runs: each card follows its ledger, and two cards have one ledger.
use Rattle.std.proofs.Common.{◌≡◌, ℕ, zero, suc, ◌+◌, ◌*◌, ◌^◌, ◌<◌, ◌≤◌, min, Bool, true, false, cond, not, ◌&&◌, ◌||◌, eqb, ltb, leb, ◌⊎◌, ◌↔◌, List, [], ◌∷◌, ◌++◌, map, length, get_or, take, drop, set, Some, None, Option, sym, refl, ap, ◌∙◌, subst, inl, inr, suc-mul, zero-mul, arith, length-drop, length-take, take_all, get_or-set_other, take-add, ltb-false, ltb-true, lt-ltb, eq-eqb, eqb-true, le-leb, leb-true}
use lib.ListN.{get_or-map}
use Rattle.std.proofs.lemmas.List.{length-take-le}
use Rattle.std.proofs.lemmas.Bool.{cases_eq}
use Rattle.byte_lists.specs.Bytes.{Bytes}
use Rattle.byte_lists.specs.Bytes as bytes
use Rattle.sealing.specs.declared.suite.Direction.{Direction}
use Rattle.sealing.specs.declared.suite.Direction.TheVariants as direction
use Rattle.sealing.specs.Sealing.{Sealing, Text, text, Good, Faithful}
use Rattle.application.specs.Acts.{Acts, Bounded, after}
use Rattle.apdu.specs.Command.{Shape, bare, le, alone, both, data_of}
use Rattle.apdu.specs.declared.status.Status.TheVariants as sw
use Rattle.apdu.specs.StatusWords.{status_bytes}
use Rattle.personalise.specs.Load as text_of
use Rattle.personalise.specs.Load.{Lines, Loading, loading}
use Rattle.law.specs.Rows.{found, full, is_some}
use Rattle.law.specs.Request.{Block, Request, malformed, other, unlisted, begin, continue, discover, answer, go_on, block, fetch, discard, request}
use Rattle.law.specs.Calls.{Entry, Call, load, power_on, power_off, command, Answer, not_taken, powered, loaded, refused_host, replied}
use Rattle.law.specs.Associations.{Hashing, Sized, Key, new_key}
use Rattle.law.specs.Tables.{Connection, Tables}
use Rattle.law.specs.Associate.{has_ref}
use Rattle.replies.specs.Blocks.{Part, block_of}
use Rattle.law.specs.Step.{Core, Move, does, plain, runs, gives, requests, commands_at, moves, moves_at, loads, loads_at, holds, holds_session, kept, flag, enough, part_given, block_given, State, Done, carries, step, new}
use Rattle.law.specs.Session.{in_turn, fits}
use Rattle.law.specs.Run.{run, left_by}
use Rattle.law.specs.Ledger.{Reading, reading, is, Owed, Standing, at_rest, under_way, owing, owed, Dialogue, dialogue_at, Link, Book, Ledger, blank, counts_failure, standing_at, joined, in_hand, to_card, inner_command, limit_of, opens_to, enters, enters_request, enters_load, ledger, Got, none_got, nothing_got, put_at, next_got, got, got_request, owes, owes_dialogue, owes_standing}
use Rattle.law.specs.Judged as law
use Rattle.law.specs.Ruled.{load_answer, LoadedAs}
use Rattle.law.specs.Judged.{Accepted, reply_owed, Opened, Fetched, OpensStanding, OpensDialogue, OpensRow}
use Rattle.law.specs.Law.{LawfulRequest, LawfulAnswer, Lawful, fetches_request, fetches_answer, Each, Alike, Kept, Stands}
use Rattle.law.specs.Held.{talk_of, Sound, held_as, row_of, session_of}
use Rattle.law.proofs.Rows.{never, no_some, some_same, none_free, set_some, set_here, put_same, put_other, taken_entered}
use Rattle.law.proofs.Sounds.{sound_none, sound_loaded, sound_off}
use Rattle.law.proofs.Agree.{tables_of}
use Rattle.law.proofs.Persist.{Persists, persists_off}
use Rattle.law.proofs.Follow.{did_as, is_due, same_before, some, JudgedIn, Judged, Extra, at, still, Did, Ran, Gave, JudgedRequest, Follows, requested, did}
use Rattle.law.proofs.Ruling.{reads}
use Rattle.law.proofs.Written.{written_law}

-- An answer that its session still holds is kept.
kept_at : (xs : List (Option Connection)) (zs : List (List ℕ)) (i : ℕ) (x : Connection) → get_or xs i None ≡ Some x → holds (Some x) ≡ true → get_or (kept xs zs) i [] ≡ get_or zs i []
kept_at [] zs i x e h = no_some e
kept_at (y ∷ xs) [] zero x e h = refl
kept_at (y ∷ xs) [] (suc i) x e h = kept_at xs [] i x e h
kept_at (y ∷ xs) (z ∷ zs) zero x e h = ap (λ (b : Bool). cond b z []) (ap holds e ∙ h)
kept_at (y ∷ xs) (z ∷ zs) (suc i) x e h = kept_at xs zs i x e h

kept_set : (xs : List (Option Connection)) (zs : List (List ℕ)) (i : ℕ) (x : Connection) (z : List ℕ) → get_or xs i None ≡ Some x → get_or (set (kept xs zs) i z) i [] ≡ z
kept_set [] zs i x z e = no_some e
kept_set (y ∷ xs) [] zero x z e = refl
kept_set (y ∷ xs) [] (suc i) x z e = kept_set xs [] i x z e
kept_set (y ∷ xs) (w ∷ zs) zero x z e = refl
kept_set (y ∷ xs) (w ∷ zs) (suc i) x z e = kept_set xs zs i x z e

-- The same, by links.
on_card : (xs : List (Option Link)) (i : ℕ) (y : Link) → get_or xs i None ≡ Some y → get_or (map row_of xs) i None ≡ Some (held_as y)
on_card xs i y e = get_or-map row_of xs i None ∙ ap row_of e

owing_holds : (y : Link) (size : ℕ) (b : Block) (o : Owed) → y.dialogue ≡ Some (dialogue_at size (owing b o)) → holds (Some (held_as y)) ≡ true
owing_holds y size b o e = ap (λ (d : Option Dialogue). holds_session (session_of d)) e

owing_owes : (y : Link) (size : ℕ) (b : Block) (o : Owed) → y.dialogue ≡ Some (dialogue_at size (owing b o)) → owes (Some y) ≡ true
owing_owes y size b o e = ap owes_dialogue e

same_owed : (a b : Block) (o p : Owed) → owing a o ≡ owing b p → o ≡ p
same_owed a b o p e = cc

-- Block n of an answer, and what a fetch gives, by whether it is there.
abbrev nth_block : ℕ → List ℕ → ℕ → Part
nth_block size z n = block_of z (n * size) size

abbrev given_block : ℕ → ℕ → List ℕ → ℕ → Shape → Bool → List ℕ
given_block row size z n h b = block_given row h (cond b (Some (nth_block size z n)) None)

-- A fetch is no failure.
given_unfailed : (row size n : ℕ) (h : Shape) (z : List ℕ) (b : Bool) → is 0x69 0x88 (reading (given_block row size z n h b)) ≡ false
given_unfailed row size n h z true = by (enough (length (nth_block size z n).bytes) h)
  where
    by : (e : Bool) → is 0x69 0x88 (reading (part_given row (nth_block size z n) e)) ≡ false
    by true = ap (λ (r : Reading). is 0x69 0x88 r) (reads (nth_block size z n).bytes 0x92 (row * 2 + flag (nth_block size z n).more))
    by false = refl
given_unfailed row size n h z false = refl

-- One block more, in order.
joins : (z bytes : List ℕ) (size count n : ℕ) → bytes ≡ take (count * size) z → n ≡ count → bytes ++ take size (drop (n * size) z) ≡ take (suc n * size) z
joins z bytes size count n e q =
    ap (λ (x : List ℕ). x ++ take size (drop (n * size) z)) (e ∙ ap (λ (c : ℕ). take (c * size) z) (sym q))
    ∙ sym (take-add (n * size) size z) ∙ ap (λ (c : ℕ). take c z) (sym (suc-mul n size))

-- One command more, run last.
after_one : {M : Type 0} (𝓐 : Acts M) (m : M) (cs : List (List ℕ)) (c : List ℕ) → after 𝓐 m (cs ++ c ∷ []) ≡ 𝓐.next (after 𝓐 m cs) c
after_one 𝓐 m [] c = refl
after_one 𝓐 m (d ∷ cs) c = after_one 𝓐 (𝓐.next m d) cs c

-- The text that an accepted command opened to.
command_text : (n limit : ℕ) (o : Option Text) (b : List ℕ) → inner_command n limit o ≡ Some b → (t : Text) × (o ≡ Some t) × (t.number ≡ n)
command_text n limit None b e = no_some e
command_text n limit (Some t) b e = by (to_card t.direction) (eqb t.number n) (leb 4 (length t.body)) (ltb n limit) refl e
  where
    by : (u v w x : Bool) → eqb t.number n ≡ v → cond (u && v && w && x) (Some t.body) None ≡ Some b → (t' : Text) × (Some t ≡ Some t') × (t'.number ≡ n)
    by true true true true q e = (t, refl, eqb-true t.number n q)
    by true true true false q e = no_some e
    by true true false x q e = no_some e
    by true false w x q e = no_some e
    by false v w x q e = no_some e

is_to_card : (d : Direction) → to_card d ≡ true → d ≡ direction.Command
is_to_card direction.Command e = refl
is_to_card direction.Reply e = never (sym e)

-- The clerk accepts exactly what is accepted.
module _ (𝓢 : Sealing) (x : Link) (limit : ℕ) (z : List ℕ) where
  accepted_text : (o : Option Text) → 𝓢.opened x.suite x.keys z ≡ o → some (inner_command x.count limit o) ≡ true → Accepted 𝓢 x limit z
  accepted_text None e h = never (sym h)
  accepted_text (Some t) e h = by (to_card t.direction) (eqb t.number x.count) (leb 4 (length t.body)) (ltb x.count limit) refl refl refl refl h
    where
      by : (a b c w : Bool) → to_card t.direction ≡ a → eqb t.number x.count ≡ b → leb 4 (length t.body) ≡ c → ltb x.count limit ≡ w
          → some (cond (a && b && c && w) (Some t.body) None) ≡ true → Accepted 𝓢 x limit z
      by true true true true ea eb ec ew h = record {
        text = t;
        opens = e;
        direction = is_to_card t.direction ea;
        number = eqb-true t.number x.count eb;
        long = leb-true 4 (length t.body) ec;
        within = ltb-true x.count limit ew;
      }
      by true true true false ea eb ec ew h = never (sym h)
      by true true false w ea eb ec ew h = never (sym h)
      by true false c w ea eb ec ew h = never (sym h)
      by false b c w ea eb ec ew h = never (sym h)

  text_accepted : Accepted 𝓢 x limit z → some (inner_command x.count limit (𝓢.opened x.suite x.keys z)) ≡ true
  text_accepted a = simp (a.opens, ap to_card a.direction, eq-eqb a.text.number x.count a.number, le-leb 4 (length a.text.body) a.long, lt-ltb x.count limit a.within)

  accepted_as : (b : Bool) → b ≡ some (inner_command x.count limit (𝓢.opened x.suite x.keys z)) → (b ≡ true) ↔ Accepted 𝓢 x limit z
  accepted_as b e = (λ h. accepted_text (𝓢.opened x.suite x.keys z) refl (sym e ∙ h), λ a. e ∙ text_accepted a)

-- A block is due by the ledger exactly where it is by the card.
same_turn : (st : Standing) (p2 : ℕ) → law.in_turn st p2 ≡ in_turn (talk_of st) p2
same_turn at_rest p2 = refl
same_turn (under_way b bs) p2 = refl
same_turn (owing b o) p2 = refl

same_fits : (d : Dialogue) (s : Shape) → law.fits d s ≡ fits d.size (talk_of d.standing) s
same_fits d bare = refl
same_fits d (le n) = refl
same_fits d (alone bs) = ap (λ (j : List ℕ). leb (length bs) d.size && leb (length (j ++ bs)) 288) (sym (same_before d.standing))
same_fits d (both bs n) = refl

same_due : (d : Dialogue) (p2 : ℕ) (s : Shape) → (law.in_turn d.standing p2 && law.fits d s) ≡ is_due d p2 s
same_due d p2 s = ap (λ (b : Bool). b && law.fits d s) (same_turn d.standing p2) ∙ ap (λ (b : Bool). in_turn (talk_of d.standing) p2 && b) (same_fits d s)

judged_in : (𝓢 : Sealing) (l : Ledger) (x : Link) (p2 : ℕ) (s : Shape) (a : Reading) (z : Option Dialogue) → JudgedIn 𝓢 l x p2 s a z → law.JudgedDialogue 𝓢 l x p2 s a z
judged_in 𝓢 l x p2 s a None j = j
judged_in 𝓢 l x p2 s a (Some d) j = record {
  due = λ h. j.due (sym (same_due d p2 s) ∙ h);
  complete = λ h. accepted_as 𝓢 x (limit_of l.book x) (joined (in_hand d.standing) ++ data_of s) (eqb a.sw1 0x92) (j.complete h);
}

judged_block : (𝓢 : Sealing) (l : Ledger) (p2 : ℕ) (s : Shape) (a : Reading) (o : Option Link) → Judged 𝓢 l p2 s a o → law.Judged 𝓢 l p2 s a o
judged_block 𝓢 l p2 s a None j = j
judged_block 𝓢 l p2 s a (Some x) j = judged_in 𝓢 l x p2 s a x.dialogue j

module _ (𝓗 : Hashing) (digests : Sized 𝓗) (𝓢 : Sealing) where
  -- each call
  abbrev JudgedAnswer : Ledger → List ℕ → Request → Answer → Type 0
  JudgedAnswer l random q (replied a) = JudgedRequest 𝓗 digests 𝓢 l random q (reading a)
  JudgedAnswer l random q not_taken = Unit {0}
  JudgedAnswer l random q powered = Unit {0}
  JudgedAnswer l random q (loaded n) = Unit {0}
  JudgedAnswer l random q (refused_host n) = Unit {0}

  abbrev JudgedCall : Ledger → Call → Answer → Type 0
  JudgedCall l (load t) a = LoadedAs (load_answer l.book (loading t)) a
  JudgedCall l power_on a = Unit {0}
  JudgedCall l power_off a = Unit {0}
  JudgedCall l (command c r b w) a = JudgedAnswer l r (request c) a

  abbrev GaveCall : Ledger → Call → ℕ → ℕ → ℕ → Shape → Type 0
  GaveCall l (load t) row size n h = ⊥
  GaveCall l power_on row size n h = ⊥
  GaveCall l power_off row size n h = ⊥
  GaveCall l (command c r b w) row size n h = Gave l (request c) row size n h

  abbrev fetches_replied : Ledger → Request → Answer → Bool
  fetches_replied l q (replied a) = fetches_request l.book.links q
  fetches_replied l q not_taken = false
  fetches_replied l q powered = false
  fetches_replied l q (loaded n) = false
  fetches_replied l q (refused_host n) = false

  abbrev fetches_call : Ledger → Call → Answer → Bool
  fetches_call l (load t) a = false
  fetches_call l power_on a = false
  fetches_call l power_off a = false
  fetches_call l (command c r b w) a = fetches_replied l (request c) a

  abbrev Answered : Ledger → (Answer → Ledger) → (Answer → Type 0) → (Answer → Bool) → (Answer → (ℕ → Got) → ℕ → Got) → (ℕ → ℕ → ℕ → Shape → Type 0) → Move → Type 0
  Answered l L J f g G (does k a) = Did l (L a) (J a) (f a) (g a) k
  Answered l L J f g G (plain z) = ⊥
  Answered l L J f g G (runs k row y body) = let a : Answer = replied (status_bytes (sw.Taken (row * 2 + 1))) in Ran 𝓢 l (L a) (J a) (f a) (g a) k row y body
  Answered l L J f g G (gives row size n h) = G row size n h

  abbrev Called : Ledger → Call → Move → Type 0
  Called l c mv = Answered l (enters 𝓗 𝓢 l c) (JudgedCall l c) (fetches_call l c) (λ a gs. got l gs c a) (GaveCall l c) mv

  lift : (l : Ledger) (c r : List ℕ) (b w : ℕ) (mv : Move) → Follows 𝓗 digests 𝓢 l r (request c) mv → Called l (command c r b w) mv
  lift l c r b w (does k (replied a)) o = o
  lift l c r b w (does k not_taken) o = absurd o
  lift l c r b w (does k powered) o = absurd o
  lift l c r b w (does k (loaded n)) o = absurd o
  lift l c r b w (does k (refused_host n)) o = absurd o
  lift l c r b w (plain z) o = absurd o
  lift l c r b w (runs k row y body) o = o
  lift l c r b w (gives row size n h) o = o

  module _ (x : Extra) (l : Ledger) (s : Sound (tables_of l.book)) where
    commanded : (c r : List ℕ) (b w : ℕ) (u v : Bool) → Called l (command c r b w) (commands_at 𝓗 𝓢 (at x l) c r u v)
    commanded c r b w true v = did (still x l s)
    commanded c r b w false true = did (still x l s)
    commanded c r b w false false = lift l c r b w (requests 𝓗 𝓢 (at x l) c r (request c)) (requested 𝓗 digests 𝓢 x l s c r (request c))

    abbrev LoadsGood : Loading → ℕ → Move → Type 0
    LoadsGood o n mv = Answered l (enters_load l o) (LoadedAs n) (λ a. false) (λ a gs. gs) (λ row size n h. ⊥) mv

    abbrev with_keys : List (Option Key) → Tables
    with_keys ks = record { keys = ks; masters = l.book.masters; connections = map row_of l.book.links }

    loaded_good : (k : Lines) (u v : Bool) → LoadsGood (text_of.loads k) (cond u 3 (cond v 4 0)) (loads_at (at x l) k u v)
    loaded_good k true v = did_as refl (still x l s)
    loaded_good k false true = did_as refl (still x l s)
    loaded_good k false false = did_as refl (record {
      extra = x;
      inner = refl;
      persists = λ i y e h. e;
      is = ap (λ (ks : List (Option Key)). let c : Core = record { powered = x.powered; requires = true; failures = l.failures; tables = with_keys ks; pending = (at x l).pending } in c) (taken_entered l.book.keys (new_key k));
      sound = subst (λ (ks : List (Option Key)). Sound (with_keys ks)) (taken_entered l.book.keys (new_key k)) (sound_loaded (tables_of l.book) k s);
    })

    loads_good : (o : Loading) → LoadsGood o (load_answer l.book o) (loads (at x l) o)
    loads_good text_of.malformed = did_as refl (still x l s)
    loads_good text_of.unset = did_as refl (still x l s)
    loads_good (text_of.loads k) = loaded_good k (is_some (found (has_ref k.ref) l.book.keys)) (full l.book.keys)

    by_power : (p : Bool) (c : Call) → Called l c (moves_at 𝓗 𝓢 (at x l) p c)
    by_power true (load t) = did (still x l s)
    by_power true power_on = did (still x l s)
    by_power true power_off = did (record {
      extra = record { powered = false; reply = None };
      is = refl;
      inner = refl;
      sound = sound_off (tables_of l.book) s;
      persists = persists_off l.book.links;
    })
    by_power true (command c r b w) = commanded c r b w (ltb b 258 || ltb w 64) (not (eqb (length r) 32))
    by_power false (load t) = loads_good (loading t)
    by_power false power_on = did (record { extra = record { powered = true; reply = x.reply }; is = refl; inner = refl; sound = s; persists = λ i y e h. e })
    by_power false power_off = did (still x l s)
    by_power false (command c r b w) = did (still x l s)

    pub calls : (c : Call) → Called l c (moves 𝓗 𝓢 (at x l) c)
    calls c = by_power x.powered c

  -- one card
  module _ {M : Type 0} (𝓐 : Acts M) (m : M) where
    abbrev state : Extra → Ledger → List (List ℕ) → State M
    state x l zs = record { core = at x l; answers = zs; contents = after 𝓐 m l.inner }

    -- the answer that a session holds
    pub record Waiting (x : Link) (size : ℕ) (g : Got) (o : Owed) (z : List ℕ) : Type 0 where
      pub opened : Bytes (reply_owed 𝓢 𝓐 m o) → Opened 𝓢 𝓐 m x o z
      pub short : Bytes (reply_owed 𝓢 𝓐 m o) → length z ≤ 288
      pub fetched : g.bytes ≡ take (g.blocks * size) z

    abbrev Waits : Ledger → (ℕ → Got) → List (List ℕ) → Type 0
    Waits l gs zs = (i : ℕ) (y : Link) (size : ℕ) (b : Block) (o : Owed) → get_or l.book.links i None ≡ Some y → y.dialogue ≡ Some (dialogue_at size (owing b o))
        → Waiting y size (gs i) o (get_or zs i [])

    pub record Next (l' : Ledger) (gs' : ℕ → Got) (x' : Extra) (P : Type 0) (s' : State M) : Type 0 where
      pub answers : List (List ℕ)
      pub is : s' ≡ state x' l' answers
      pub waits : Waits l' gs' answers
      pub lawful : P

    opens_standing : (y : Link) (g : Got) (row size n : ℕ) (a : Reading) (st : Standing) → owes_standing st ≡ false → is 0x69 0x85 a ≡ true → OpensStanding 𝓢 𝓐 m y g row size n a st
    opens_standing y g row size n a at_rest e j = j
    opens_standing y g row size n a (under_way b bs) e j = j
    opens_standing y g row size n a (owing b o) e j = never e

    opens_dialogue : (y : Link) (g : Got) (row n : ℕ) (a : Reading) (z : Option Dialogue) → owes_dialogue z ≡ false → is 0x69 0x85 a ≡ true → OpensDialogue 𝓢 𝓐 m y g row n a z
    opens_dialogue y g row n a None e j = j
    opens_dialogue y g row n a (Some d) e j = opens_standing y g row d.size n a d.standing e j

    opens_free : (g : Got) (row n : ℕ) (a : Reading) (o : Option Link) → owes o ≡ false → is 0x69 0x85 a ≡ true → OpensRow 𝓢 𝓐 m g row n a o
    opens_free g row n a None e j = j
    opens_free g row n a (Some y) e j = opens_dialogue y g row n a y.dialogue e j

    lawful_of : (l : Ledger) (gs : ℕ → Got) (random : List ℕ) (q : Request) (a : Reading) → fetches_request l.book.links q ≡ false → JudgedRequest 𝓗 digests 𝓢 l random q a → LawfulRequest 𝓗 𝓢 𝓐 m l gs random q a
    lawful_of l gs random malformed a f j = j
    lawful_of l gs random other a f j = j
    lawful_of l gs random unlisted a f j = j
    lawful_of l gs random (begin k s) a f j = j
    lawful_of l gs random (continue k s) a f j = j
    lawful_of l gs random (discover s) a f j = j
    lawful_of l gs random (answer k s) a f j = tt
    lawful_of l gs random (go_on k s) a f j = tt
    lawful_of l gs random (block row p2 s) a f j = judged_block 𝓢 l p2 s a (get_or l.book.links row None) j
    lawful_of l gs random (fetch row n s) a f j = opens_free (gs row) row n a (get_or l.book.links row None) f j
    lawful_of l gs random (discard row s) a f j = j

    lawful_answer : (l : Ledger) (gs : ℕ → Got) (random : List ℕ) (q : Request) (a : Answer) → fetches_replied l q a ≡ false → JudgedAnswer l random q a → LawfulAnswer 𝓗 𝓢 𝓐 m l gs random q a
    lawful_answer l gs random q (replied a) f j = lawful_of l gs random q (reading a) f j
    lawful_answer l gs random q not_taken f j = tt
    lawful_answer l gs random q powered f j = tt
    lawful_answer l gs random q (loaded n) f j = tt
    lawful_answer l gs random q (refused_host n) f j = tt

    lawful_call : (l : Ledger) (gs : ℕ → Got) (c : Call) (a : Answer) → fetches_call l c a ≡ false → JudgedCall l c a → Lawful 𝓗 𝓢 𝓐 m l gs c a
    lawful_call l gs (load t) a f j = j
    lawful_call l gs power_on a f j = tt
    lawful_call l gs power_off a f j = tt
    lawful_call l gs (command c r b w) a f j = lawful_answer l gs r (request c) a f j

    -- answers that are kept
    waits_on : (l l' : Ledger) (gs gs' : ℕ → Got) (zs : List (List ℕ)) → Persists l.book.links l'.book.links
        → ((i : ℕ) (y : Link) → get_or l'.book.links i None ≡ Some y → owes (Some y) ≡ true → gs' i ≡ gs i)
        → Waits l gs zs → Waits l' gs' (kept (map row_of l'.book.links) zs)
    waits_on l l' gs gs' zs p g w i y size b o e q =
        let h : owes (Some y) ≡ true = owing_owes y size b o q in
        let v = w i y size b o (p i y e h) q in
        subst (λ (z : List ℕ). Waiting y size (gs' i) o z) (sym (kept_at (map row_of l'.book.links) zs i (held_as y) (on_card l'.book.links i y e) (owing_holds y size b o q)))
        (subst (λ (c : Got). Waiting y size c o (get_or zs i [])) (sym (g i y e h)) v)

    waiting_to : (y : Link) (size : ℕ) (g g' : Got) (o o' : Owed) (z z' : List ℕ) → g ≡ g' → o ≡ o' → z ≡ z' → Waiting y size g o z → Waiting y size g' o' z'
    waiting_to y size g g' o o' z z' a b c w =
        subst (λ (v : List ℕ). Waiting y size g' o' v) c (subst (λ (v : Owed). Waiting y size g' v z) b (subst (λ (v : Got). Waiting y size v o z) a w))

    next_did : (l : Ledger) (gs : ℕ → Got) (zs : List (List ℕ)) (c : Call) (k : Core) (a : Answer) → Waits l gs zs
        → (d : Did l (enters 𝓗 𝓢 l c a) (JudgedCall l c a) (fetches_call l c a) (λ gs. got l gs c a) k)
        → Next (enters 𝓗 𝓢 l c a) (got l gs c a) d.good.extra (Lawful 𝓗 𝓢 𝓐 m l gs c a) (record { core = k; answers = kept k.tables.connections zs; contents = after 𝓐 m l.inner })
    next_did l gs zs c k a w d = record {
      answers = kept (map row_of (enters 𝓗 𝓢 l c a).book.links) zs;
      is = ap (λ (kk : Core). let st : State M = record { core = kk; answers = kept kk.tables.connections zs; contents = after 𝓐 m l.inner } in st) d.good.is
          ∙ ap (λ (cs : List (List ℕ)). let st : State M = record { core = at d.good.extra (enters 𝓗 𝓢 l c a); answers = kept (map row_of (enters 𝓗 𝓢 l c a).book.links) zs; contents = after 𝓐 m cs } in st) (sym d.good.inner);
      waits = waits_on l (enters 𝓗 𝓢 l c a) gs (got l gs c a) zs d.good.persists (d.gots gs) w;
      lawful = lawful_call l gs c a d.free d.judged;
    }

    module _ (F : Faithful 𝓢) (B : Bounded 𝓐) where
      -- the reply that is sealed opens again
      abbrev reply_text : Link → List (List ℕ) → List ℕ → Text
      reply_text y cs body = text direction.Reply y.count (𝓐.reply (after 𝓐 m cs) body)

      good_reply : (b : Book) (y : Link) (cs : List (List ℕ)) (body z : List ℕ) → opens_to 𝓢 b y z ≡ Some body → bytes.Block 40 y.keys → Bytes (𝓐.reply (after 𝓐 m cs) body) → Good (reply_text y cs body)
      good_reply b y cs body z e size bs =
          let t = command_text y.count (limit_of b y) (𝓢.opened y.suite y.keys z) body e in
          let n : y.count < 2 ^ 64 = subst (λ (n : ℕ). n < 2 ^ 64) t.2 (F.good y.suite y.keys z t.0 size t.1).number in
          let most = B.most (after 𝓐 m cs) body in
          record { number = n; least = B.least (after 𝓐 m cs) body; most = omega arith; bytes = bs }

      new_opened : (b : Book) (y y' : Link) (cs : List (List ℕ)) (body z : List ℕ) → opens_to 𝓢 b y z ≡ Some body → bytes.Block 40 y.keys → y'.suite ≡ y.suite → y'.keys ≡ y.keys
          → Bytes (𝓐.reply (after 𝓐 m cs) body)
          → Opened 𝓢 𝓐 m y' (owed cs body y.count) (𝓢.sealed y.suite y.keys (reply_text y cs body))
      new_opened b y y' cs body z e size su ke bs =
          let reply : Text = reply_text y cs body in
          let opens = F.gives y.suite y.keys reply size (good_reply b y cs body z e size bs) in
          record {
            text = reply;
            opens = ap (λ u. 𝓢.opened u y'.keys (𝓢.sealed y.suite y.keys reply)) su ∙ ap (λ (k : List ℕ). 𝓢.opened y.suite k (𝓢.sealed y.suite y.keys reply)) ke ∙ opens;
            direction = refl;
            number = refl;
            body = refl;
          }

      waits_ran : (l l' : Ledger) (gs gs' : ℕ → Got) (zs : List (List ℕ)) (ruled : Type 0) (f : Bool) (g : (ℕ → Got) → ℕ → Got) (k : Core) (row : ℕ) (c : Connection) (body : List ℕ)
          → (r : Ran 𝓢 l l' ruled f g k row c body) → gs' ≡ g gs → Waits l gs zs
          → Waits l' gs' (set (kept (map row_of l'.book.links) zs) row (𝓢.sealed c.suite c.keys (text direction.Reply c.count (𝓐.reply (after 𝓐 m l.inner) body))))
      waits_ran l l' gs gs' zs ruled f g k row c body r eg w i x size b o e q =
          by (set_some l.book.links row (Some new_link) i x (subst (λ (xs : List (Option Link)). get_or xs i None ≡ Some x) r.links e))
        where
          new_link : Link
          new_link = standing_at r.link (r.link.count + 1) (dialogue_at r.size (owing r.last (owed l.inner body r.link.count)))

          z_is : 𝓢.sealed r.link.suite r.link.keys (text direction.Reply r.link.count (𝓐.reply (after 𝓐 m l.inner) body)) ≡ 𝓢.sealed c.suite c.keys (text direction.Reply c.count (𝓐.reply (after 𝓐 m l.inner) body))
          z_is = ap (λ (v : Connection). 𝓢.sealed v.suite v.keys (text direction.Reply v.count (𝓐.reply (after 𝓐 m l.inner) body))) (sym r.same)

          got_is : gs' ≡ put_at gs row none_got
          got_is = eg ∙ r.gots gs

          key_bytes : bytes.Block 40 r.link.keys
          key_bytes =
              (r.sound.connections row (held_as (standing_at r.link (r.link.count + 1) (dialogue_at r.size (owing r.last (owed l.inner body r.link.count)))))
              (on_card l'.book.links row _ (ap (λ (xs : List (Option Link)). get_or xs row None) r.links ∙ set_here l.book.links row _ r.link r.held))).sealer

          same_dialogue : standing_at r.link (r.link.count + 1) (dialogue_at r.size (owing r.last (owed l.inner body r.link.count))) ≡ x
              → Some (dialogue_at r.size (owing r.last (owed l.inner body r.link.count))) ≡ Some (dialogue_at size (owing b o))
          same_dialogue p = ap (λ (v : Link). v.dialogue) p ∙ q

          opened_owed : (o : Owed) → owed l.inner body r.link.count ≡ o → x.suite ≡ r.link.suite → x.keys ≡ r.link.keys → Bytes (reply_owed 𝓢 𝓐 m o)
              → Opened 𝓢 𝓐 m x o (𝓢.sealed r.link.suite r.link.keys (text direction.Reply r.link.count (𝓐.reply (after 𝓐 m l.inner) body)))
          opened_owed o eo su ke bs = subst (λ (v : Owed). Opened 𝓢 𝓐 m x v (𝓢.sealed r.link.suite r.link.keys (text direction.Reply r.link.count (𝓐.reply (after 𝓐 m l.inner) body)))) eo
              (new_opened l.book r.link x l.inner body r.z r.opened key_bytes su ke (subst (λ (v : Owed). Bytes (reply_owed 𝓢 𝓐 m v)) (sym eo) bs))

          short_owed : (o : Owed) → owed l.inner body r.link.count ≡ o → Bytes (reply_owed 𝓢 𝓐 m o)
              → length (𝓢.sealed r.link.suite r.link.keys (reply_text r.link l.inner body)) ≤ 288
          short_owed o eo bs = F.short r.link.suite r.link.keys (reply_text r.link l.inner body) key_bytes
              (good_reply l.book r.link l.inner body r.z r.opened key_bytes (subst (λ (v : Owed). Bytes (reply_owed 𝓢 𝓐 m v)) (sym eo) bs))

          at_row : standing_at r.link (r.link.count + 1) (dialogue_at r.size (owing r.last (owed l.inner body r.link.count))) ≡ x
              → get_or l'.book.links row None ≡ Some x
              → Waiting x size (gs' row) o (get_or (set (kept (map row_of l'.book.links) zs) row (𝓢.sealed c.suite c.keys (text direction.Reply c.count (𝓐.reply (after 𝓐 m l.inner) body)))) row [])
          at_row p e =
              let sd = same_dialogue p in
              let eo : owed l.inner body r.link.count ≡ o = same_owed r.last b (owed l.inner body r.link.count) o (ap (λ (d : Dialogue). d.standing) (some_same sd)) in
              waiting_to x size none_got (gs' row) o o (𝓢.sealed r.link.suite r.link.keys (text direction.Reply r.link.count (𝓐.reply (after 𝓐 m l.inner) body))) _
              (sym (ap (λ (v : ℕ → Got). v row) got_is ∙ put_same gs row none_got)) refl
              (z_is ∙ sym (kept_set (map row_of l'.book.links) zs row (held_as x) _ (on_card l'.book.links row x e)))
              (record { opened = opened_owed o eo (ap (λ (v : Link). v.suite) (sym p)) (ap (λ (v : Link). v.keys) (sym p)); short = short_owed o eo; fetched = ap (λ (n : ℕ). take n (𝓢.sealed r.link.suite r.link.keys (text direction.Reply r.link.count (𝓐.reply (after 𝓐 m l.inner) body)))) (sym (zero-mul size)) })

          by : ((i ≡ row) × (Some new_link ≡ Some x)) ⊎ ((i ≡ row → ⊥) × (get_or l.book.links i None ≡ Some x))
              → Waiting x size (gs' i) o (get_or (set (kept (map row_of l'.book.links) zs) row (𝓢.sealed c.suite c.keys (text direction.Reply c.count (𝓐.reply (after 𝓐 m l.inner) body)))) i [])
          by (inl p) = subst (λ (j : ℕ). Waiting x size (gs' j) o (get_or (set (kept (map row_of l'.book.links) zs) row (𝓢.sealed c.suite c.keys (text direction.Reply c.count (𝓐.reply (after 𝓐 m l.inner) body)))) j [])) (sym p.0)
              (at_row (some_same p.1) (subst (λ (j : ℕ). get_or l'.book.links j None ≡ Some x) p.0 e))
          by (inr p) = waiting_to x size (gs i) (gs' i) o o (get_or zs i []) (get_or (set (kept (map row_of l'.book.links) zs) row (𝓢.sealed c.suite c.keys (text direction.Reply c.count (𝓐.reply (after 𝓐 m l.inner) body)))) i [])
              (sym (ap (λ (v : ℕ → Got). v i) got_is ∙ put_other gs row none_got i p.0)) refl
              (sym (get_or-set_other (kept (map row_of l'.book.links) zs) row i _ [] p.0 ∙ kept_at (map row_of l'.book.links) zs i (held_as x) (on_card l'.book.links i x e) (owing_holds x size b o q)))
              (w i x size b o p.1 q)

      next_ran : (l : Ledger) (gs : ℕ → Got) (zs : List (List ℕ)) (c : Call) (k : Core) (row : ℕ) (y : Connection) (body : List ℕ) → Waits l gs zs
          → let a : Answer = replied (status_bytes (sw.Taken (row * 2 + 1))) in
          (r : Ran 𝓢 l (enters 𝓗 𝓢 l c a) (JudgedCall l c a) (fetches_call l c a) (λ gs. got l gs c a) k row y body)
          → Next (enters 𝓗 𝓢 l c a) (got l gs c a) r.extra (Lawful 𝓗 𝓢 𝓐 m l gs c a)
          (record { core = k; answers = set (kept k.tables.connections zs) row (𝓢.sealed y.suite y.keys (text direction.Reply y.count (𝓐.reply (after 𝓐 m l.inner) body))); contents = 𝓐.next (after 𝓐 m l.inner) body })
      next_ran l gs zs c k row y body w r =
          let a : Answer = replied (status_bytes (sw.Taken (row * 2 + 1))) in
          let l' : Ledger = enters 𝓗 𝓢 l c a in
          let z : List ℕ = 𝓢.sealed y.suite y.keys (text direction.Reply y.count (𝓐.reply (after 𝓐 m l.inner) body)) in
          record {
            answers = set (kept (map row_of l'.book.links) zs) row z;
            is = ap (λ (kk : Core). let st : State M = record { core = kk; answers = set (kept kk.tables.connections zs) row z; contents = 𝓐.next (after 𝓐 m l.inner) body } in st) r.is
                ∙ ap (λ (v : M). let st : State M = record { core = at r.extra l'; answers = set (kept (map row_of l'.book.links) zs) row z; contents = v } in st) (sym (after_one 𝓐 m l.inner body) ∙ ap (λ (cs : List (List ℕ)). after 𝓐 m cs) (sym r.inner));
            waits = waits_ran l l' gs (got l gs c a) zs (JudgedCall l c a) (fetches_call l c a) (λ gs. got l gs c a) k row y body r refl w;
            lawful = lawful_call l gs c a r.free r.judged;
          }

      -- a fetched block
      module _ (row size n : ℕ) (h : Shape) (y : Link) (g : Got) (o : Owed) (z : List ℕ) (w : Waiting y size g o z) where
        pub record BlockFact (a : Reading) : Type 0 where
          pub fetched : (next_got g n a).bytes ≡ take ((next_got g n a).blocks * size) z
          pub part : n ≡ g.blocks → Fetched 𝓢 𝓐 m y g row size a o

        next_fetched : (b : Bool) → eqb n g.blocks ≡ b → let g' : Got = cond b (record { bytes = g.bytes ++ (nth_block size z n).bytes; blocks = g.blocks + 1 }) g in g'.bytes ≡ take (g'.blocks * size) z
        next_fetched true e =
            let q : n ≡ g.blocks = eqb-true n g.blocks e in
            let c : suc n ≡ g.blocks + 1 = omega arith in
            joins z g.bytes size g.blocks n w.fetched q ∙ ap (λ (k : ℕ). take (k * size) z) c
        next_fetched false e = w.fetched

        last_opens : (b : Bool) → (nth_block size z n).more ≡ b → Bytes (reply_owed 𝓢 𝓐 m o) → n ≡ g.blocks → eqb (row * 2 + flag b) (row * 2) ≡ true → Opened 𝓢 𝓐 m y o (g.bytes ++ (nth_block size z n).bytes)
        last_opens true e bs q t = absurd (let v = eqb-true (row * 2 + 1) (row * 2) t in omega arith)
        last_opens false e bs q t = subst (λ (v : List ℕ). Opened 𝓢 𝓐 m y o v)
            (sym (joins z g.bytes size g.blocks n w.fetched q ∙ take_all (suc n * size) z (let h = ltb-false size (length (drop (n * size) z)) e in omega (arith, length-drop (n * size) z, suc-mul n size)))) (w.opened bs)

        -- a block that is not the last is full
        block_full : (b : Bool) → (nth_block size z n).more ≡ b → eqb (row * 2 + flag b) (row * 2 + 1) ≡ true → length (nth_block size z n).bytes ≡ size
        block_full true e t = length-take-le size (drop (n * size) z) (let h = ltb-true size (length (drop (n * size) z)) e in omega arith)
        block_full false e t = absurd (let v = eqb-true (row * 2 + 0) (row * 2 + 1) t in omega arith)

        joined_short : Bytes (reply_owed 𝓢 𝓐 m o) → n ≡ g.blocks → length (g.bytes ++ (nth_block size z n).bytes) ≤ 288
        joined_short bs q =
            let e : length (g.bytes ++ (nth_block size z n).bytes) ≡ min (suc n * size) (length z) = ap length (joins z g.bytes size g.blocks n w.fetched q) ∙ length-take (suc n * size) z in
            let h = w.short bs in
            omega arith

        block_fact : (b : Bool) → BlockFact (reading (part_given row (nth_block size z n) b))
        block_fact true = subst (λ (a : Reading). BlockFact a) (sym (reads (nth_block size z n).bytes 0x92 (row * 2 + flag (nth_block size z n).more)))
            (record {
              fetched = next_fetched (eqb n g.blocks) refl;
              part = λ q. record { last = λ bs t. last_opens (nth_block size z n).more refl bs q t; full = block_full (nth_block size z n).more refl; short = λ bs t. joined_short bs q };
            })
        block_fact false = record { fetched = w.fetched; part = λ q. record { last = λ bs t. never (sym t); full = λ t. never (sym t); short = λ bs t. never (sym t) } }

        given_fact : (b : Bool) → BlockFact (reading (given_block row size z n h b))
        given_fact true = block_fact (enough (length (nth_block size z n).bytes) h)
        given_fact false = record { fetched = w.fetched; part = λ q. record { last = λ bs t. never (sym t); full = λ t. never (sym t); short = λ bs t. never (sym t) } }

      next_fetch : (x : Extra) (l : Ledger) (gs : ℕ → Got) (zs : List (List ℕ)) (row size n : ℕ) (h : Shape) (y : Link) (last : Block) (o : Owed)
          → get_or l.book.links row None ≡ Some y → y.dialogue ≡ Some (dialogue_at size (owing last o)) → Waits l gs zs
          → let a : Reading = reading (given_block row size (get_or zs row []) n h (ltb (n * size) (length (get_or zs row [])))) in
          Next l (put_at gs row (next_got (gs row) n a)) x (OpensRow 𝓢 𝓐 m (gs row) row n a (get_or l.book.links row None)) (state x l zs)
      next_fetch x l gs zs row size n h y last o held ses w =
          record {
            answers = zs;
            is = refl;
            waits = λ i x' size' b o' e q. by i x' size' b o' e q (cases_eq i row);
            lawful = subst (λ (v : Option Link). OpensRow 𝓢 𝓐 m (gs row) row n (reading (given_block row size (get_or zs row []) n h (ltb (n * size) (length (get_or zs row []))))) v) (sym held)
                (subst (λ (v : Option Dialogue). OpensDialogue 𝓢 𝓐 m y (gs row) row n (reading (given_block row size (get_or zs row []) n h (ltb (n * size) (length (get_or zs row []))))) v) (sym ses) fact.part);
          }
        where
          fact : BlockFact row size n h y (gs row) o (get_or zs row []) (w row y size last o held ses) (reading (given_block row size (get_or zs row []) n h (ltb (n * size) (length (get_or zs row [])))))
          fact = given_fact row size n h y (gs row) o (get_or zs row []) (w row y size last o held ses) (ltb (n * size) (length (get_or zs row [])))

          g' : Got
          g' = next_got (gs row) n (reading (given_block row size (get_or zs row []) n h (ltb (n * size) (length (get_or zs row [])))))

          at_row : (x' : Link) (size' : ℕ) (b : Block) (o' : Owed) → y ≡ x' → x'.dialogue ≡ Some (dialogue_at size' (owing b o')) → Waiting x' size' g' o' (get_or zs row [])
          at_row x' size' b o' p q =
              let same : Some (dialogue_at size (owing last o)) ≡ Some (dialogue_at size' (owing b o')) = sym ses ∙ ap (λ (c : Link). c.dialogue) p ∙ q in
              let s' : size ≡ size' = ap (λ (d : Dialogue). d.size) (some_same same) in
              let eo : o ≡ o' = same_owed last b o o' (ap (λ (d : Dialogue). d.standing) (some_same same)) in
              subst (λ (c : Link). Waiting c size' g' o' (get_or zs row [])) p
              (subst (λ (v : ℕ). Waiting y v g' o' (get_or zs row [])) s'
              (subst (λ (v : Owed). Waiting y size g' v (get_or zs row [])) eo
              (record { opened = (w row y size last o held ses).opened; short = (w row y size last o held ses).short; fetched = fact.fetched })))

          by : (i : ℕ) (x' : Link) (size' : ℕ) (b : Block) (o' : Owed) → get_or l.book.links i None ≡ Some x' → x'.dialogue ≡ Some (dialogue_at size' (owing b o')) → (i ≡ row) ⊎ (i ≡ row → ⊥)
              → Waiting x' size' (put_at gs row g' i) o' (get_or zs i [])
          by i x' size' b o' e q (inl p) = subst (λ (j : ℕ). Waiting x' size' (put_at gs row g' j) o' (get_or zs j [])) (sym p)
              (waiting_to x' size' g' (put_at gs row g' row) o' o' (get_or zs row []) (get_or zs row []) (sym (put_same gs row g')) refl refl
              (at_row x' size' b o' (some_same (sym held ∙ subst (λ (j : ℕ). get_or l.book.links j None ≡ Some x') p e)) q))
          by i x' size' b o' e q (inr p) = waiting_to x' size' (gs i) (put_at gs row g' i) o' o' (get_or zs i []) (get_or zs i []) (sym (put_other gs row g' i p)) refl refl (w i x' size' b o' e q)

      next_gave : (x : Extra) (l : Ledger) (gs : ℕ → Got) (zs : List (List ℕ)) (random : List ℕ) (q : Request) (row size n : ℕ) (h : Shape) → Gave l q row size n h → Waits l gs zs
          → let a : Reading = reading (given_block row size (get_or zs row []) n h (ltb (n * size) (length (get_or zs row [])))) in
          Next (enters_request 𝓗 𝓢 l random q a) (got_request l.book.links gs q a) x (LawfulRequest 𝓗 𝓢 𝓐 m l gs random q a) (state x l zs)
      next_gave x l gs zs random q row size n h v w =
          let a : Reading = reading (given_block row size (get_or zs row []) n h (ltb (n * size) (length (get_or zs row [])))) in
          subst (λ (q : Request). Next (enters_request 𝓗 𝓢 l random q a) (got_request l.book.links gs q a) x (LawfulRequest 𝓗 𝓢 𝓐 m l gs random q a) (state x l zs)) (sym v.asked)
          (next_fetch x l gs zs row size n h v.link v.last v.owed v.held v.dialogue w)

  -- what the ledger does not keep, after a call
  extra_of : Extra → (l : Ledger) (c : Call) (mv : Move) → Called l c mv → Extra
  extra_of x l c (does k a) o = o.good.extra
  extra_of x l c (plain z) o = x
  extra_of x l c (runs k row y body) o = o.extra
  extra_of x l c (gives row size n h) o = x

  gave_same : (l : Ledger) (random : List ℕ) (q : Request) (row size n : ℕ) (h : Shape) (z : List ℕ) → Gave l q row size n h
      → let a : Reading = reading (given_block row size z n h (ltb (n * size) (length z))) in counts_failure (is 0x69 0x88 a) (enters_request 𝓗 𝓢 l random q a) ≡ l
  gave_same l random q row size n h z v =
      let a : Reading = reading (given_block row size z n h (ltb (n * size) (length z))) in
      ap (λ (b : Bool). counts_failure b (enters_request 𝓗 𝓢 l random q a)) (given_unfailed row size n h z (ltb (n * size) (length z))) ∙ ap (λ (q : Request). enters_request 𝓗 𝓢 l random q a) v.asked

  module _ {M : Type 0} (F : Faithful 𝓢) (𝓐 : Acts M) (B : Bounded 𝓐) (m : M) where
    abbrev Carried : Extra → Ledger → (ℕ → Got) → Call → Extra → Done M → Type 0
    Carried x l gs c x' d = Next 𝓐 m (enters 𝓗 𝓢 l c d.answer) (got l gs c d.answer) x' (Lawful 𝓗 𝓢 𝓐 m l gs c d.answer) d.after

    carried : (x : Extra) (l : Ledger) (gs : ℕ → Got) (zs : List (List ℕ)) → Waits 𝓐 m l gs zs → (c : Call) (mv : Move) (o : Called l c mv)
        → Carried x l gs c (extra_of x l c mv o) (carries 𝓢 𝓐 (state 𝓐 m x l zs) mv)
    unfolding extra_of
    carried x l gs zs w c (does k a) o = next_did 𝓐 m l gs zs c k a w o
    carried x l gs zs w c (plain z) o = absurd o
    carried x l gs zs w c (runs k row y body) o = next_ran 𝓐 m F B l gs zs c k row y body w o
    carried x l gs zs w (load t) (gives row size n h) o = absurd o
    carried x l gs zs w power_on (gives row size n h) o = absurd o
    carried x l gs zs w power_off (gives row size n h) o = absurd o
    carried x l gs zs w (command c r b v) (gives row size n h) o =
        let a : Reading = reading (given_block row size (get_or zs row []) n h (ltb (n * size) (length (get_or zs row [])))) in
        subst (λ (f : Bool). Next 𝓐 m (counts_failure f (enters_request 𝓗 𝓢 l r (request c) a)) (got_request l.book.links gs (request c) a) x (LawfulRequest 𝓗 𝓢 𝓐 m l gs r (request c) a) (state 𝓐 m x l zs))
        (sym (given_unfailed row size n h (get_or zs row []) (ltb (n * size) (length (get_or zs row []))))) (next_gave 𝓐 m F B x l gs zs r (request c) row size n h o w)

    still_sound : (x : Extra) (l : Ledger) → Sound (tables_of l.book) → (zs : List (List ℕ)) (c : Call) (mv : Move) → Called l c mv → Sound (tables_of (enters 𝓗 𝓢 l c (carries 𝓢 𝓐 (state 𝓐 m x l zs) mv).answer).book)
    still_sound x l s zs c (does k a) o = o.good.sound
    still_sound x l s zs c (plain z) o = absurd o
    still_sound x l s zs c (runs k row y body) o = o.sound
    still_sound x l s zs (load t) (gives row size n h) o = absurd o
    still_sound x l s zs power_on (gives row size n h) o = absurd o
    still_sound x l s zs power_off (gives row size n h) o = absurd o
    still_sound x l s zs (command c r b v) (gives row size n h) o =
        subst (λ (k : Ledger). Sound (tables_of k.book)) (sym (gave_same l r (request c) row size n h (get_or zs row []) o)) s

    -- one call
    abbrev next_extra : (x : Extra) (l : Ledger) → Sound (tables_of l.book) → Call → Extra
    next_extra x l s c = extra_of x l c (moves 𝓗 𝓢 (at x l) c) (calls x l s c)

    abbrev said : Extra → Ledger → List (List ℕ) → Call → Answer
    said x l zs c = (step 𝓗 𝓢 𝓐 (state 𝓐 m x l zs) c).answer

    abbrev then : Extra → Ledger → List (List ℕ) → Call → Ledger
    then x l zs c = enters 𝓗 𝓢 l c (said x l zs c)

    stepped : (x : Extra) (l : Ledger) (s : Sound (tables_of l.book)) (gs : ℕ → Got) (zs : List (List ℕ)) → Waits 𝓐 m l gs zs → (c : Call)
        → Carried x l gs c (next_extra x l s c) (step 𝓗 𝓢 𝓐 (state 𝓐 m x l zs) c)
    stepped x l s gs zs w c = carried x l gs zs w c (moves 𝓗 𝓢 (at x l) c) (calls x l s c)

    sounded : (x : Extra) (l : Ledger) (s : Sound (tables_of l.book)) (zs : List (List ℕ)) (c : Call) → Sound (tables_of (then x l zs c).book)
    sounded x l s zs c = still_sound x l s zs c (moves 𝓗 𝓢 (at x l) c) (calls x l s c)

    -- the whole run
    each_of : (cs : List Call) (x : Extra) (l : Ledger) (s : Sound (tables_of l.book)) (gs : ℕ → Got) (zs : List (List ℕ)) → Waits 𝓐 m l gs zs → Each 𝓗 𝓢 𝓐 m l gs (run 𝓗 𝓢 𝓐 (state 𝓐 m x l zs) cs)
    each_of [] x l s gs zs w = tt
    each_of (c ∷ cs) x l s gs zs w =
        let g = stepped x l s gs zs w c in (
          g.lawful,
          subst (λ (st : State M). Each 𝓗 𝓢 𝓐 m (then x l zs c) (got l gs c (said x l zs c)) (run 𝓗 𝓢 𝓐 st cs)) (sym g.is)
              (each_of cs (next_extra x l s c) (then x l zs c) (sounded x l s zs c) (got l gs c (said x l zs c)) g.answers g.waits),
        )

    pub record Ends (l : Ledger) (st : State M) : Type 0 where
      pub contents : st.contents ≡ after 𝓐 m l.inner
      pub tables : st.core.tables ≡ tables_of l.book
      pub failures : st.core.failures ≡ l.failures
      pub sound : Sound st.core.tables

    ends_of : (cs : List Call) (x : Extra) (l : Ledger) (s : Sound (tables_of l.book)) (gs : ℕ → Got) (zs : List (List ℕ)) → Waits 𝓐 m l gs zs
        → Ends (ledger 𝓗 𝓢 l (run 𝓗 𝓢 𝓐 (state 𝓐 m x l zs) cs)) (left_by 𝓗 𝓢 𝓐 (state 𝓐 m x l zs) cs)
    ends_of [] x l s gs zs w = record { contents = refl; tables = refl; failures = refl; sound = s }
    ends_of (c ∷ cs) x l s gs zs w =
        let g = stepped x l s gs zs w c in
        subst (λ (st : State M). Ends (ledger 𝓗 𝓢 (then x l zs c) (run 𝓗 𝓢 𝓐 st cs)) (left_by 𝓗 𝓢 𝓐 st cs)) (sym g.is)
        (ends_of cs (next_extra x l s c) (then x l zs c) (sounded x l s zs c) (got l gs c (said x l zs c)) g.answers g.waits)

    abbrev first : Extra
    first = record { powered = false; reply = None }

    abbrev no_answers : List (List ℕ)
    no_answers = [] ∷ [] ∷ [] ∷ [] ∷ []

    waits_none : Waits 𝓐 m blank nothing_got no_answers
    waits_none i y size b o e q = no_some (sym (none_free i) ∙ e)

    pub kept_law : (cs : List Call) → Kept 𝓗 𝓢 𝓐 m (run 𝓗 𝓢 𝓐 (new true m) cs) (left_by 𝓗 𝓢 𝓐 (new true m) cs)
    kept_law cs =
        let e = ends_of cs first blank sound_none nothing_got no_answers waits_none in
        let es : List Entry = run 𝓗 𝓢 𝓐 (new true m) cs in
        record {
          each = each_of cs first blank sound_none nothing_got no_answers waits_none;
          contents = e.contents;
          failures = e.failures;
          sound = e.sound;
          rows = record { keys = ap (λ (t : Tables). t.keys) e.tables; masters = ap (λ (t : Tables). t.masters) e.tables; connections = ap (λ (t : Tables). t.connections) e.tables };
          written = λ i k h. written_law 𝓗 𝓢 es i k (ap (λ (t : Tables). get_or t.keys i None) (sym e.tables) ∙ h);
        }

  -- two cards with one ledger
  module _ {L R : Type 0} (F : Faithful 𝓢) (𝓛 : Acts L) (𝓡 : Acts R) (BL : Bounded 𝓛) (BR : Bounded 𝓡) (m : L) (n : R) where
    abbrev Same : Ledger → Call → Answer → Answer → Type 0
    Same l c a b = (fetches_answer l c ≡ false → a ≡ b) × (enters 𝓗 𝓢 l c a ≡ enters 𝓗 𝓢 l c b)

    gave_fetches : (l : Ledger) (q : Request) (row size k : ℕ) (h : Shape) → Gave l q row size k h → fetches_request l.book.links q ≡ true
    gave_fetches l q row size k h v = ap (λ (q : Request). fetches_request l.book.links q) v.asked ∙ ap owes v.held ∙ ap owes_dialogue v.dialogue

    same_move : (x : Extra) (l : Ledger) (us vs : List (List ℕ)) (c : Call) (mv : Move) → Called l c mv
        → Same l c (carries 𝓢 𝓛 (state 𝓛 m x l us) mv).answer (carries 𝓢 𝓡 (state 𝓡 n x l vs) mv).answer
    same_move x l us vs c (does k a) o = (λ _. refl, refl)
    same_move x l us vs c (plain z) o = absurd o
    same_move x l us vs c (runs k row y body) o = (λ _. refl, refl)
    same_move x l us vs (load t) (gives row size k h) o = absurd o
    same_move x l us vs power_on (gives row size k h) o = absurd o
    same_move x l us vs power_off (gives row size k h) o = absurd o
    same_move x l us vs (command c r b w) (gives row size k h) o = (
      λ e. never (sym (gave_fetches l (request c) row size k h o) ∙ e),
      gave_same l r (request c) row size k h (get_or us row []) o
          ∙ sym (gave_same l r (request c) row size k h (get_or vs row []) o),
    )

    pub alike_of : (cs : List Call) (x : Extra) (l : Ledger) (s : Sound (tables_of l.book)) (gs hs : ℕ → Got) (us vs : List (List ℕ)) → Waits 𝓛 m l gs us → Waits 𝓡 n l hs vs
        → Alike 𝓗 𝓢 l (run 𝓗 𝓢 𝓛 (state 𝓛 m x l us) cs) (run 𝓗 𝓢 𝓡 (state 𝓡 n x l vs) cs)
    alike_of [] x l s gs hs us vs u v = tt
    alike_of (c ∷ cs) x l s gs hs us vs u v =
        let g = stepped F 𝓛 BL m x l s gs us u c in
        let h = stepped F 𝓡 BR n x l s hs vs v c in
        let e = same_move x l us vs c (moves 𝓗 𝓢 (at x l) c) (calls x l s c) in
        let x' : Extra = next_extra F 𝓛 BL m x l s c in
        let l' : Ledger = then F 𝓛 BL m x l us c in
        let hs' : ℕ → Got = got l hs c (said F 𝓡 BR n x l vs c) in
        let rest = alike_of cs x' l' (sounded F 𝓛 BL m x l s us c) (got l gs c (said F 𝓛 BL m x l us c)) hs' g.answers h.answers g.waits
        (subst (λ (k : Ledger). Waits 𝓡 n k hs' h.answers) (sym e.1) h.waits) in (
          refl,
          e.0,
          subst (λ (st : State L). Alike 𝓗 𝓢 l' (run 𝓗 𝓢 𝓛 st cs) (run 𝓗 𝓢 𝓡 (step 𝓗 𝓢 𝓡 (state 𝓡 n x l vs) c).after cs)) (sym g.is)
              (subst (λ (st : State R). Alike 𝓗 𝓢 l' (run 𝓗 𝓢 𝓛 (state 𝓛 m x' l' g.answers) cs) (run 𝓗 𝓢 𝓡 st cs))
              (ap (λ (k : Ledger). state 𝓡 n x' k h.answers) e.1 ∙ sym h.is) rest),
        )

    pub stands : (cs : List Call) → Stands 𝓗 𝓢 𝓛 𝓡 m n (run 𝓗 𝓢 𝓛 (new true m) cs) (run 𝓗 𝓢 𝓡 (new true n) cs) (left_by 𝓗 𝓢 𝓛 (new true m) cs) (left_by 𝓗 𝓢 𝓡 (new true n) cs)
    stands cs = record {
      alike = alike_of cs (first F 𝓛 BL m) blank sound_none nothing_got nothing_got (no_answers F 𝓛 BL m) (no_answers F 𝓡 BR n) (waits_none F 𝓛 BL m) (waits_none F 𝓡 BR n);
      left = kept_law F 𝓛 BL m cs;
      right = kept_law F 𝓡 BR n cs;
    }
