-- The card's meaning: what each call answers, and what it makes of the card.
use Rattle.std.specs.Prelude.{ℕ, suc, ◌+◌, ◌*◌, min, Bool, true, false, cond, not, ◌||◌, List, [], ◌∷◌, ◌++◌, length, Some, None, Option, ◌==◌, nat_le, nat_lt, slice_index_or, slice_set}
use Rattle.sealing.specs.declared.suite.Direction.TheVariants.{Reply}
use Rattle.sealing.specs.Sealing.{Sealing, text}
use Rattle.application.specs.Acts.{Acts}
use Rattle.apdu.specs.Command.{Shape, bare, le, alone, both, data_of}
use Rattle.apdu.specs.declared.status.Status.{Status}
use Rattle.apdu.specs.declared.status.Status.TheVariants as sw
use Rattle.apdu.specs.StatusWords.{status_bytes}
use Rattle.replies.specs.Reply.{reply_object}
use Rattle.replies.specs.declared.reply.Reply.TheVariants as reply
use Rattle.replies.specs.Blocks.{Part, block_of, cut_block}
use Rattle.objects.specs.Joined.{Object, incomplete, bad, value, object}
use Rattle.objects.specs.Asked.{Asked}
use Rattle.personalise.specs.Load as text_of
use Rattle.personalise.specs.Load.{Lines, Loading, loading}
use Rattle.law.specs.Rows.{free_rows, found, full, is_some}
use Rattle.law.specs.Request.{Kind, discovery, master, connection, start, terminate, same_kind, asked, Block, Request, malformed, other, unlisted, begin, continue, discover, answer, go_on, block, fetch, discard, request}
use Rattle.law.specs.Calls.{Call, load, power_on, power_off, command, Answer, not_taken, powered, loaded, refused_host, replied}
use Rattle.law.specs.Associations.{Hashing, new_key, transactions_limit}
use Rattle.law.specs.Tables.{Talk, idle, gathering, answered, Session, unstarted, started, Connection, Tables, no_tables, put_connections, put_connection, with_session, without_connection}
use Rattle.law.specs.Associate.{taken, refusal_status, Verdict, refused, wrong_mac, spent, granted, verdict, established, exhausted, reply_to, has_ref}
use Rattle.law.specs.Session as session
use Rattle.law.specs.Session.{repeats, completed, in_turn, before, fits, Judgement, accepts, judged}

-- One thing at most is pending: gathered blocks, or a waiting reply and how much of it was given; each with its kind.
pub data Pending : Type 0 where
  nothing : Pending
  gathered : Kind → List ℕ → Pending
  waits : Kind → List ℕ → ℕ → Pending

-- All of a card but its application and the answers that its sessions hold.
pub record Core : Type 0 where
  pub powered : Bool
  pub requires : Bool
  pub failures : ℕ
  pub tables : Tables
  pub pending : Pending

-- What a call does, whatever the application is: it answers; a plain command goes to the application; an accepted command
-- of a connection runs, and its sealed reply is kept in the row; or a block of a kept answer is given.
pub data Move : Type 0 where
  does : Core → Answer → Move
  plain : List ℕ → Move
  runs : Core → ℕ → Connection → List ℕ → Move
  gives : ℕ → ℕ → ℕ → Shape → Move

abbrev pub put : Core → Tables → Pending → Core
put c t p = record { powered = c.powered; requires = c.requires; failures = c.failures; tables = t; pending = p }

-- A status word alone.
abbrev pub says : Core → Status → Move
says c s = does c (replied (status_bytes s))

abbrev pub drops : Core → Core
drops c = put c c.tables nothing

-- The failure count rises at each 69 88, and stays at 255.
abbrev pub one_more : ℕ → ℕ
one_more n = min 255 (suc n)

abbrev pub failed : Core → Tables → Pending → Core
failed c t p = record { powered = c.powered; requires = c.requires; failures = one_more c.failures; tables = t; pending = p }

-- Reply blocks: up to Le bytes and 62 F1, or 90 00 when none remain.
abbrev pub given : Core → Kind → List ℕ → ℕ → ℕ → Move
given c k z at n =
    let part : Part = block_of z at n in
    does (put c c.tables (waits k z (at + length part.bytes))) (replied (part.bytes ++ cond part.more (status_bytes sw.MoreToFetch) (status_bytes sw.Done)))

-- A reply block carries Le only.
abbrev pub gives_reply : Core → Kind → List ℕ → ℕ → Shape → Move
gives_reply c k z at (le n) = given c k z at n
gives_reply c k z at bare = says c sw.WrongLength
gives_reply c k z at (alone d) = says c sw.WrongLength
gives_reply c k z at (both d n) = says c sw.WrongLength

abbrev pub flag : Bool → ℕ
flag false = 0
flag true = 1

-- 91 FF, 92 whether the channel is required, 8F failures.
abbrev pub discovery_object : Bool → ℕ → List ℕ
discovery_object r n = reply_object (reply.Discovery (record { required = r; failures = n }))

-- P1 is to be that of what is pending.
abbrev pub replies_as : Core → Kind → List ℕ → ℕ → Shape → Bool → Move
replies_as c k z at s true = gives_reply c k z at s
replies_as c k z at s false = says c sw.WrongParameters

-- A0 starts over.
abbrev pub answers : Core → Kind → Shape → Pending → Move
answers c k s nothing = says c sw.NotNow
answers c k s (gathered i j) = says c sw.NotNow
answers c k s (waits i z at) = replies_as c k z 0 s (same_kind i k)

-- 20 goes on, from the first byte if none was given.
abbrev pub goes_on : Core → Kind → Shape → Pending → Move
goes_on c k s nothing = says c sw.NotNow
goes_on c k s (gathered i j) = says c sw.NotNow
goes_on c k s (waits i z at) = replies_as c k z at s (same_kind i k)

module _ (𝓗 : Hashing) where
  -- A granted object is carried out: 62 F3 and a reply that waits, or 90 00 to a termination.
  abbrev pub grants : Core → List ℕ → Asked → Kind → Move
  grants c random a terminate = says (put c (established 𝓗 c.tables random a) nothing) sw.Done
  grants c random a discovery = says (put c (established 𝓗 c.tables random a) (waits discovery (reply_to 𝓗 c.tables random a) 0)) sw.ReplyWaits
  grants c random a master = says (put c (established 𝓗 c.tables random a) (waits master (reply_to 𝓗 c.tables random a) 0)) sw.ReplyWaits
  grants c random a connection = says (put c (established 𝓗 c.tables random a) (waits connection (reply_to 𝓗 c.tables random a) 0)) sw.ReplyWaits
  grants c random a start = says (put c (established 𝓗 c.tables random a) (waits start (reply_to 𝓗 c.tables random a) 0)) sw.ReplyWaits

  -- Any refusal of a whole object drops what was gathered.
  abbrev pub decides : Core → List ℕ → Kind → Asked → Verdict → Move
  decides c random k a (refused r) = says (drops c) (refusal_status r)
  decides c random k a wrong_mac = says (failed c c.tables nothing) sw.NotAuthentic
  decides c random k a spent = says (put c (exhausted c.tables a) nothing) sw.LimitPassed
  decides c random k a granted = grants c random a k

  abbrev pub joined : Core → List ℕ → Kind → List ℕ → Object → Move
  joined c random k j bad = says (drops c) sw.WrongData
  joined c random k j incomplete = says (put c c.tables (gathered k j)) sw.MoreToSend
  joined c random k j (value v) = decides c random k (asked k v) (verdict 𝓗 c.tables random (asked k v))

  -- A command block carries data alone; 67 00 drops nothing.
  abbrev pub joins : Core → List ℕ → Kind → List ℕ → Shape → Move
  joins c random k j (alone d) = joined c random k (j ++ d) (object (j ++ d))
  joins c random k j bare = says c sw.WrongLength
  joins c random k j (le n) = says c sw.WrongLength
  joins c random k j (both d n) = says c sw.WrongLength

  abbrev pub continues_as : Core → List ℕ → Kind → List ℕ → Shape → Bool → Move
  continues_as c random k j s true = joins c random k j s
  continues_as c random k j s false = says c sw.WrongParameters

  -- A next command block joins what is gathered.
  abbrev pub continues : Core → List ℕ → Kind → Shape → Pending → Move
  continues c random k s nothing = says c sw.NotNow
  continues c random k s (waits i z at) = says c sw.NotNow
  continues c random k s (gathered i j) = continues_as c random k j s (same_kind i k)

-- The tables where the session of a row's connection goes on.
abbrev pub talks : Core → ℕ → Connection → ℕ → Talk → Tables
talks c row x size t = put_connection c.tables row (with_session x x.count (started size t))

-- 92, and row × 2, one higher or not.
abbrev pub row_says : Core → ℕ → ℕ → Move
row_says c row n = says c (sw.Taken (row * 2 + n))

module _ (𝓢 : Sealing) where
  -- A complete command: 69 88 and idle, 69 83 and removed, or it runs and the count rises.
  abbrev pub judges : Core → ℕ → Connection → ℕ → Block → Judgement → Move
  judges c row x size b session.wrong = says (failed c (talks c row x size idle) c.pending) sw.NotAuthentic
  judges c row x size b session.spent = says (put c (without_connection c.tables row) c.pending) sw.LimitPassed
  judges c row x size b (accepts body) =
      runs (put c (put_connection c.tables row (with_session x (x.count + 1) (started size (answered b)))) c.pending) row x body

  -- P2 00 completes the command.
  abbrev pub completes : Core → ℕ → Connection → ℕ → Block → List ℕ → Bool → Move
  completes c row x size b z true = judges c row x size b (judged 𝓢 x (transactions_limit c.tables.keys c.tables.masters x.master) z)
  completes c row x size b z false = row_says (put c (talks c row x size (gathering z b)) c.pending) row 0

  abbrev pub gathers : Core → ℕ → Connection → ℕ → Talk → ℕ → List ℕ → Bool → Move
  gathers c row x size t p2 d false = says c sw.WrongLength
  gathers c row x size t p2 d true = completes c row x size (record { p2 = p2; bytes = d }) (before t ++ d) (p2 == 0)

  abbrev pub turns : Core → ℕ → Connection → ℕ → Talk → ℕ → Shape → Bool → Move
  turns c row x size t p2 s false = says c sw.WrongParameters
  turns c row x size t p2 s true = gathers c row x size t p2 (data_of s) (fits size t s)

  -- A repetition has the same reply and changes nothing.
  abbrev pub takes : Core → ℕ → Connection → ℕ → Talk → ℕ → Shape → Bool → Move
  takes c row x size t p2 s true = row_says c row (completed t)
  takes c row x size t p2 s false = turns c row x size t p2 s (in_turn t p2)

  abbrev pub in_session : Core → ℕ → Connection → ℕ → Shape → Session → Move
  in_session c row x p2 s unstarted = says c sw.NotNow
  in_session c row x p2 s (started size t) = takes c row x size t p2 s (repeats t p2 s)

  -- A block: started session, repetition, turn, length, then opening.
  abbrev pub blocks : Core → ℕ → ℕ → Shape → Option Connection → Move
  blocks c row p2 s None = says c sw.NotNow
  blocks c row p2 s (Some x) = in_session c row x p2 s x.session

abbrev pub fetches_from : Core → ℕ → ℕ → Shape → ℕ → Talk → Move
fetches_from c row n s size idle = says c sw.NotNow
fetches_from c row n s size (gathering j b) = says c sw.NotNow
fetches_from c row n s size (answered b) = gives row size n s

abbrev pub fetches_in : Core → ℕ → ℕ → Shape → Session → Move
fetches_in c row n s unstarted = says c sw.NotNow
fetches_in c row n s (started size t) = fetches_from c row n s size t

-- A fetch wants a session that holds an answer.
abbrev pub fetches : Core → ℕ → ℕ → Shape → Option Connection → Move
fetches c row n s None = says c sw.NotNow
fetches c row n s (Some x) = fetches_in c row n s x.session

-- A discard carries neither data nor Le, and makes the session idle.
abbrev pub discards_as : Core → ℕ → Connection → ℕ → Shape → Move
discards_as c row x size bare = says (put c (talks c row x size idle) c.pending) sw.Done
discards_as c row x size (le n) = says c sw.WrongLength
discards_as c row x size (alone d) = says c sw.WrongLength
discards_as c row x size (both d n) = says c sw.WrongLength

abbrev pub discards_in : Core → ℕ → Connection → Shape → Session → Move
discards_in c row x s unstarted = says c sw.NotNow
discards_in c row x s (started size t) = discards_as c row x size s

abbrev pub discards : Core → ℕ → Shape → Option Connection → Move
discards c row s None = says c sw.NotNow
discards c row s (Some x) = discards_in c row x s x.session

-- Any other CLA or INS: 69 89 on a card that requires the channel, else the application replies.
abbrev pub others : Core → List ℕ → Bool → Move
others c apdu true = says c sw.ChannelRequired
others c apdu false = plain apdu

-- Load: 3 ref already held, 4 no key row, 0 accepted.
abbrev pub loads_at : Core → Lines → Bool → Bool → Move
loads_at c k true f = does c (loaded 3)
loads_at c k false true = does c (loaded 4)
loads_at c k false false =
    does (put c (record { keys = taken c.tables.keys (new_key k); masters = c.tables.masters; connections = c.tables.connections }) c.pending) (loaded 0)

-- Before these: 1 malformed, 2 limit unset.
abbrev pub loads : Core → Loading → Move
loads c text_of.malformed = does c (loaded 1)
loads c text_of.unset = does c (loaded 2)
loads c (text_of.loads k) = loads_at c k (is_some (found (has_ref k.ref) c.tables.keys)) (full c.tables.keys)

abbrev pub powers : Core → Bool → Tables → Pending → Move
powers c b t p = does (record { powered = b; requires = c.requires; failures = c.failures; tables = t; pending = p }) powered

module _ (𝓗 : Hashing) (𝓢 : Sealing) where
  abbrev pub requests : Core → List ℕ → List ℕ → Request → Move
  requests c apdu random malformed = says c sw.WrongLength
  requests c apdu random other = others c apdu c.requires
  requests c apdu random unlisted = says c sw.WrongParameters
  requests c apdu random (begin k s) = joins 𝓗 c random k [] s
  requests c apdu random (continue k s) = continues 𝓗 c random k s c.pending
  requests c apdu random (discover s) = gives_reply c discovery (discovery_object c.requires c.failures) 0 s
  requests c apdu random (answer k s) = answers c k s c.pending
  requests c apdu random (go_on k s) = goes_on c k s c.pending
  requests c apdu random (block row p2 s) = blocks 𝓢 c row p2 s (slice_index_or c.tables.connections row None)
  requests c apdu random (fetch row n s) = fetches c row n s (slice_index_or c.tables.connections row None)
  requests c apdu random (discard row s) = discards c row s (slice_index_or c.tables.connections row None)

  -- The host's refusals, told from lengths, before the APDU is looked at.
  abbrev pub commands_at : Core → List ℕ → List ℕ → Bool → Bool → Move
  commands_at c apdu random true x = does c (refused_host 5)
  commands_at c apdu random false true = does c (refused_host 6)
  commands_at c apdu random false false = requests c apdu random (request apdu)

  -- By power: off, a card takes only load and power on; powered, only command and power off. Power off drops connections,
  -- gathered blocks and waiting replies, and nothing else.
  abbrev pub moves_at : Core → Bool → Call → Move
  moves_at c false (load text) = loads c (loading text)
  moves_at c false power_on = powers c true c.tables c.pending
  moves_at c false power_off = does c not_taken
  moves_at c false (command a r b w) = does c not_taken
  moves_at c true (load text) = does c not_taken
  moves_at c true power_on = does c not_taken
  moves_at c true power_off = powers c false (put_connections c.tables free_rows) nothing
  moves_at c true (command a r b w) = commands_at c a r (nat_lt b 258 || nat_lt w 64) (not (length r == 32))

  abbrev pub moves : Core → Call → Move
  moves c call = moves_at c c.powered call

-- A card: beside its core, the answer that each row's session holds, and what its application contains.
pub record State (M : Type 0) : Type 0 where
  pub core : Core
  pub answers : List (List ℕ)
  pub contents : M

pub record Done (M : Type 0) : Type 0 where
  pub after : State M
  pub answer : Answer

abbrev pub done : {M : Type 0} → Core → List (List ℕ) → M → Answer → Done M
done c zs m a = record { after = record { core = c; answers = zs; contents = m }; answer = a }

-- An answer is kept as long as its session holds it.
abbrev pub holds_talk : Talk → Bool
holds_talk idle = false
holds_talk (gathering j b) = false
holds_talk (answered b) = true

abbrev pub holds_session : Session → Bool
holds_session unstarted = false
holds_session (started n t) = holds_talk t

abbrev pub holds : Option Connection → Bool
holds None = false
holds (Some x) = holds_session x.session

abbrev pub kept : List (Option Connection) → List (List ℕ) → List (List ℕ)
kept [] zs = []
kept (x ∷ xs) [] = [] ∷ kept xs []
kept (x ∷ xs) (z ∷ zs) = cond (holds x) z [] ∷ kept xs zs

-- A fetch carries Le alone, not below the block's length.
abbrev pub enough : ℕ → Shape → Bool
enough n (le m) = nat_le n m
enough n bare = false
enough n (alone d) = false
enough n (both d m) = false

-- The block of an answer, and 92 with row × 2, one higher unless last.
abbrev pub part_given : ℕ → Part → Bool → List ℕ
part_given row p true = p.bytes ++ status_bytes (sw.Taken (row * 2 + flag p.more))
part_given row p false = status_bytes sw.WrongLength

-- A block that is absent is refused first.
abbrev pub block_given : ℕ → Shape → Option Part → List ℕ
block_given row s None = status_bytes sw.WrongParameters
block_given row s (Some p) = part_given row p (enough (length p.bytes) s)

module _ (𝓢 : Sealing) {M : Type 0} (𝓐 : Acts M) where
  -- A move carried out. The reply to an accepted command is sealed with direction 01 and the command's number.
  abbrev pub carries : State M → Move → Done M
  carries s (does c a) = done c (kept c.tables.connections s.answers) s.contents a
  carries s (plain apdu) = done s.core s.answers (𝓐.next s.contents apdu) (replied (𝓐.reply s.contents apdu))
  carries s (runs c row x body) =
      done c (slice_set (kept c.tables.connections s.answers) row (𝓢.sealed x.suite x.keys (text Reply x.count (𝓐.reply s.contents body))))
      (𝓐.next s.contents body) (replied (status_bytes (sw.Taken (row * 2 + 1))))
  carries s (gives row size n h) =
      done s.core s.answers s.contents (replied (block_given row h (cut_block size (slice_index_or s.answers row []) n)))

module _ (𝓗 : Hashing) (𝓢 : Sealing) {M : Type 0} (𝓐 : Acts M) where
  -- One call.
  abbrev pub step : State M → Call → Done M
  step s call = carries 𝓢 𝓐 s (moves 𝓗 𝓢 s.core call)

-- A new card is blank and off, and set to require the channel or not.
abbrev pub new : {M : Type 0} → Bool → M → State M
new r m = record {
  core = record { powered = false; requires = r; failures = 0; tables = no_tables; pending = nothing };
  answers = [] ∷ [] ∷ [] ∷ [] ∷ [];
  contents = m;
}
