-- The ledger: what a clerk writes down who sees each call with its answer, and looks into no card. He believes status words,
-- joins blocks as they pass, opens joined blocks with the sealer, and knows the rules of the rows.
use Rattle.std.specs.Prelude.{ℕ, suc, ◌+◌, min, Bool, true, false, cond, not, ◌&&◌, ◌||◌, List, [], ◌∷◌, ◌++◌, map, length, Some, None, Option, ◌==◌, nat_le, nat_lt, slice_index_or, slice_set}
use Rattle.sealing.specs.declared.suite.Suite.{Suite}
use Rattle.sealing.specs.declared.suite.Direction.TheVariants as direction
use Rattle.sealing.specs.declared.suite.Direction.{Direction}
use Rattle.sealing.specs.Sealing.{Sealing, Text}
use Rattle.apdu.specs.Command.{Shape, bare, le, alone, both, data_of}
use Rattle.objects.specs.Joined.{Object, incomplete, bad, value, object}
use Rattle.objects.specs.Asked.{Asked, layout, ask_master, ask_connection, ask_start, end_master, end_connection}
use Rattle.personalise.specs.Load as text_of
use Rattle.personalise.specs.Load.{Loading, loading}
use Rattle.law.specs.Rows.{free_rows, same_bytes, At, found}
use Rattle.law.specs.Request.{Kind, asked, Block, Request, malformed, other, unlisted, begin, continue, discover, answer, go_on, block, fetch, discard, request}
use Rattle.law.specs.Calls.{Entry, Call, load, power_on, power_off, command, Answer, not_taken, powered, loaded, refused_host, replied}
use Rattle.law.specs.Associations.{Hashing, Key, Master, new_key, one_more_master, one_more_connection, transactions_limit, id_of, common, mac_key, sealer_keys, new_master}

-- A reply as it is read: data, then SW1 SW2.
pub record Reading : Type 0 where
  pub bytes : List ℕ
  pub sw1 : ℕ
  pub sw2 : ℕ

abbrev pub onto : ℕ → Reading → Reading
onto x r = record { bytes = x ∷ r.bytes; sw1 = r.sw1; sw2 = r.sw2 }

abbrev pub reading : List ℕ → Reading
reading [] = record { bytes = []; sw1 = 0; sw2 = 0 }
reading (x ∷ []) = record { bytes = []; sw1 = 0; sw2 = 0 }
reading (x ∷ y ∷ []) = record { bytes = []; sw1 = x; sw2 = y }
reading (x ∷ y ∷ z ∷ r) = onto x (reading (y ∷ z ∷ r))

abbrev pub is : ℕ → ℕ → Reading → Bool
is a b r = r.sw1 == a && r.sw2 == b

-- What the ledger has of a session

-- An answer that a session holds: the inner commands before the one that it answers, that command, and its transaction number.
pub record Owed : Type 0 where
  pub earlier : List (List ℕ)
  pub command : List ℕ
  pub number : ℕ

-- Where a started session stands.
pub data Standing : Type 0 where
  -- no block is in hand
  at_rest : Standing
  -- blocks of a command that is not complete: the last, and those before it, the newest first
  under_way : Block → List Block → Standing
  -- an answer is held: the block that completed its command, and the answer
  owing : Block → Owed → Standing

-- A started session: the container's size, and where it stands.
pub record Dialogue : Type 0 where
  pub size : ℕ
  pub standing : Standing

abbrev pub owed : List (List ℕ) → List ℕ → ℕ → Owed
owed cs c n = record { earlier = cs; command = c; number = n }

abbrev pub dialogue_at : ℕ → Standing → Dialogue
dialogue_at size st = record { size = size; standing = st }

-- A connection as the ledger has it: its identifier, the row of its master, its suite and keys, how many commands were
-- accepted, and its session once that is started.
pub record Link : Type 0 where
  pub id : List ℕ
  pub master : ℕ
  pub suite : Suite
  pub mac : List ℕ
  pub keys : List ℕ
  pub count : ℕ
  pub dialogue : Option Dialogue

-- Blocks of an object so far, joined.
pub record Parts : Type 0 where
  pub kind : Kind
  pub bytes : List ℕ

-- The rows of keys, masters and connections.
pub record Book : Type 0 where
  pub keys : List (Option Key)
  pub masters : List (Option Master)
  pub links : List (Option Link)

pub record Ledger : Type 0 where
  pub book : Book
  pub object : Option Parts
  -- the inner commands, in order
  pub inner : List (List ℕ)
  -- how often 69 88 was answered, up to 255
  pub failures : ℕ

abbrev pub blank : Ledger
blank = record { book = record { keys = free_rows; masters = free_rows; links = free_rows }; object = None; inner = []; failures = 0 }

abbrev pub rows : List (Option Key) → List (Option Master) → List (Option Link) → Book
rows ks ms xs = record { keys = ks; masters = ms; links = xs }

-- The ledger with other rows; with other rows and blocks in hand.
abbrev pub rewrites : Ledger → Book → Ledger
rewrites l b = record { book = b; object = l.object; inner = l.inner; failures = l.failures }

abbrev pub rewrites_all : Ledger → Book → Option Parts → Ledger
rewrites_all l b p = record { book = b; object = p; inner = l.inner; failures = l.failures }

-- Each 69 88 is counted, up to 255.
abbrev pub counts_failure : Bool → Ledger → Ledger
counts_failure b l = record { book = l.book; object = l.object; inner = l.inner; failures = cond b (min 255 (suc l.failures)) l.failures }

-- Entering: in the smallest free row.
abbrev pub entered : {X : Type 0} → List (Option X) → X → List (Option X)
entered [] x = []
entered (None ∷ rows) x = Some x ∷ rows
entered (Some y ∷ rows) x = Some y ∷ entered rows x

-- Striking: what rests on a row that is not held any more goes too.
abbrev pub stays_on : {X Y : Type 0} → X → Option Y → Option X
stays_on x None = None
stays_on x (Some y) = Some x

abbrev pub rests_on : {X Y : Type 0} → List (Option Y) → (X → ℕ) → Option X → Option X
rests_on below row None = None
rests_on below row (Some x) = stays_on x (slice_index_or below (row x) None)

abbrev pub settled : Book → List (Option Key) → List (Option Master) → Book
settled l ks ms =
    let left : List (Option Master) = map (rests_on ks (λ m. m.key)) ms in
    rows ks left (map (rests_on left (λ x. x.master)) l.links)

abbrev pub strikes_key : Book → Option (At Key) → Book
strikes_key l None = l
strikes_key l (Some k) = settled l (slice_set l.keys k.row None) l.masters

abbrev pub strikes_master : Book → Option (At Master) → Book
strikes_master l None = l
strikes_master l (Some m) = settled l l.keys (slice_set l.masters m.row None)

abbrev pub writes_link : Book → ℕ → Option Link → Book
writes_link l row x = rows l.keys l.masters (slice_set l.links row x)

abbrev pub strikes_link : Book → Option (At Link) → Book
strikes_link l None = l
strikes_link l (Some x) = writes_link l x.row None

-- Who is meant.
abbrev pub key_named : Book → List ℕ → Option (At Key)
key_named l ref = found (λ k. same_bytes k.says.ref ref) l.keys

abbrev pub master_named : Book → List ℕ → Option (At Master)
master_named l id = found (λ m. same_bytes m.id id) l.masters

abbrev pub link_named : Book → List ℕ → Option (At Link)
link_named l id = found (λ x. same_bytes x.id id) l.links

-- A link with its count and session as given.
abbrev pub standing_at : Link → ℕ → Dialogue → Link
standing_at x n d = record { id = x.id; master = x.master; suite = x.suite; mac = x.mac; keys = x.keys; count = n; dialogue = Some d }

-- A session starts with no block in hand.
abbrev pub starts : Book → ℕ → Option (At Link) → Book
starts l size None = l
starts l size (Some x) = writes_link l x.row (Some (standing_at x.item x.item.count (dialogue_at size at_rest)))

-- 69 83: what was asked for more than its limit lets is struck, with all that rests on it.
abbrev pub beyond_limit : Book → Asked → Book
beyond_limit l layout = l
beyond_limit l (ask_master ref mechanisms) = strikes_key l (key_named l ref)
beyond_limit l (ask_connection msa tnonce tsca tsim) = strikes_master l (master_named l msa)
beyond_limit l (ask_start csa size mac) = l
beyond_limit l (end_master id mac) = l
beyond_limit l (end_connection id mac) = l

-- What a whole object asks for.
abbrev pub asks_whole : Kind → Object → Asked
asks_whole k bad = layout
asks_whole k incomplete = layout
asks_whole k (value v) = asked k v

abbrev pub asks : Kind → List ℕ → Asked
asks k j = asks_whole k (object j)

module _ (𝓗 : Hashing) where
  -- A new link is not started, and nothing of its row's past is in it.
  abbrev pub new_link : List ℕ → List ℕ → Suite → At Master → Link
  new_link random tnonce u m = record {
    id = id_of random;
    master = m.row;
    suite = u;
    mac = mac_key 𝓗 m.item random tnonce;
    keys = sealer_keys 𝓗 m.item random tnonce;
    count = 0;
    dialogue = None;
  }

  -- A master is entered, and counted at its key; a connection is entered, and counted at its master.
  abbrev pub enters_master : Book → List ℕ → Option (At Key) → Book
  enters_master l random None = l
  enters_master l random (Some k) =
      rows (slice_set l.keys k.row (Some (one_more_master k.item))) (entered l.masters (new_master 𝓗 random k.row k.item)) l.links

  abbrev pub enters_link : Book → List ℕ → List ℕ → At Master → Option Suite → Book
  enters_link l random tnonce m None = l
  enters_link l random tnonce m (Some u) =
      rows l.keys (slice_set l.masters m.row (Some (one_more_connection m.item))) (entered l.links (new_link random tnonce u m))

  abbrev pub enters_connection : Book → List ℕ → List ℕ → Option Suite → Option (At Master) → Book
  enters_connection l random tnonce u None = l
  enters_connection l random tnonce u (Some m) = enters_link l random tnonce m u

  -- 62 F3: the object's master or connection is entered, or a session starts. 90 00: what it names is struck.
  abbrev pub carried_out : Book → List ℕ → Asked → Book
  carried_out l random layout = l
  carried_out l random (ask_master ref mechanisms) = enters_master l random (key_named l ref)
  carried_out l random (ask_connection msa tnonce tsca tsim) = enters_connection l random tnonce (common tsca tsim) (master_named l msa)
  carried_out l random (ask_start csa size mac) = starts l size (link_named l csa)
  carried_out l random (end_master msa mac) = strikes_master l (master_named l msa)
  carried_out l random (end_connection csa mac) = strikes_link l (link_named l csa)

  -- A command block. 67 00 and 6A 86 drop nothing; 63 F1: more blocks are to come; any other refusal drops what was joined.
  abbrev pub enters_object : Ledger → List ℕ → Kind → List ℕ → Reading → Ledger
  enters_object l random k j a =
      cond (is 0x67 0x00 a || is 0x6A 0x86 a) l
      (cond (is 0x63 0xF1 a) (rewrites_all l l.book (Some (record { kind = k; bytes = j })))
      (cond (is 0x62 0xF3 a || is 0x90 0x00 a) (rewrites_all l (carried_out l.book random (asks k j)) None)
      (cond (is 0x69 0x83 a) (rewrites_all l (beyond_limit l.book (asks k j)) None)
      (rewrites_all l l.book None))))

  -- A next block joins those in hand.
  abbrev pub enters_next : Ledger → List ℕ → Kind → Shape → Option Parts → Reading → Ledger
  enters_next l random k s None a = l
  enters_next l random k s (Some p) a = enters_object l random k (p.bytes ++ data_of s) a

-- A discovery drops the blocks in hand.
abbrev pub enters_discovery : Ledger → Shape → Ledger
enters_discovery l (le n) = rewrites_all l l.book None
enters_discovery l bare = l
enters_discovery l (alone d) = l
enters_discovery l (both d n) = l

-- The blocks of the command in hand: none where an answer is held, since the next block starts a command.
abbrev pub in_hand : Standing → List Block
in_hand at_rest = []
in_hand (under_way b bs) = b ∷ bs
in_hand (owing b o) = []

abbrev pub last_block : Standing → Option Block
last_block at_rest = None
last_block (under_way b bs) = Some b
last_block (owing b o) = Some b

-- Blocks joined in the order in which they passed.
abbrev pub joined : List Block → List ℕ
joined [] = []
joined (b ∷ bs) = joined bs ++ b.bytes

abbrev pub equals : Option Block → ℕ → List ℕ → Bool
equals None p2 d = false
equals (Some b) p2 d = b.p2 == p2 && same_bytes b.bytes d

-- A repetition: data alone, equal in P2 and bytes to the last block.
abbrev pub repeated : Standing → ℕ → Shape → Bool
repeated st p2 (alone d) = equals (last_block st) p2 d
repeated st p2 bare = false
repeated st p2 (le n) = false
repeated st p2 (both d n) = false

-- A block is joined if it is no repetition, and was answered 92, 69 88 or 69 83.
abbrev pub is_joined : Standing → ℕ → Shape → Reading → Bool
is_joined st p2 s a = not (repeated st p2 s) && (a.sw1 == 0x92 || is 0x69 0x88 a || is 0x69 0x83 a)

abbrev pub to_card : Direction → Bool
to_card direction.Command = true
to_card direction.Reply = false

-- Accepting: the text has direction 00, the connection's count as number and 4 body bytes or more, and the count is below the
-- limit. Its body is then an inner command.
abbrev pub inner_command : ℕ → ℕ → Option Text → Option (List ℕ)
inner_command count limit None = None
inner_command count limit (Some t) =
    cond (to_card t.direction && t.number == count && nat_le 4 (length t.body) && nat_lt count limit) (Some t.body) None

-- The limit of a link's commands.
abbrev pub limit_of : Book → Link → ℕ
limit_of b x = transactions_limit b.keys b.masters x.master

module _ (𝓢 : Sealing) where
  abbrev pub opens_to : Book → Link → List ℕ → Option (List ℕ)
  opens_to b x z = inner_command x.count (limit_of b x) (𝓢.opened x.suite x.keys z)

  -- A complete command. Accepted, it is the next inner command, and the session holds its answer; else 69 83 strikes the
  -- connection, and its session is at rest otherwise.
  abbrev pub enters_complete : Ledger → ℕ → Link → ℕ → Block → Reading → Option (List ℕ) → Ledger
  enters_complete l row x size b a (Some body) =
      record {
        book = writes_link l.book row (Some (standing_at x (x.count + 1) (dialogue_at size (owing b (owed l.inner body x.count)))));
        object = l.object;
        inner = l.inner ++ body ∷ [];
        failures = l.failures;
      }
  enters_complete l row x size b a None =
      rewrites l (cond (is 0x69 0x83 a) (writes_link l.book row None) (writes_link l.book row (Some (standing_at x x.count (dialogue_at size at_rest)))))

  -- A block that is joined; with P2 00 it completes the command.
  abbrev pub enters_joined : Ledger → ℕ → Link → ℕ → Block → List Block → Reading → Bool → Ledger
  enters_joined l row x size b bs a true = enters_complete l row x size b a (opens_to l.book x (joined (b ∷ bs)))
  enters_joined l row x size b bs a false = rewrites l (writes_link l.book row (Some (standing_at x x.count (dialogue_at size (under_way b bs)))))

  abbrev pub enters_dialogue : Ledger → ℕ → Link → ℕ → Shape → Reading → Option Dialogue → Ledger
  enters_dialogue l row x p2 s a None = l
  enters_dialogue l row x p2 s a (Some d) =
      cond (is_joined d.standing p2 s a) (enters_joined l row x d.size (record { p2 = p2; bytes = data_of s }) (in_hand d.standing) a (p2 == 0)) l

  abbrev pub enters_block : Ledger → ℕ → ℕ → Shape → Reading → Option Link → Ledger
  enters_block l row p2 s a None = l
  enters_block l row p2 s a (Some x) = enters_dialogue l row x p2 s a x.dialogue

-- A discard answered 90 00 lays the session to rest.
abbrev pub enters_discard_in : Ledger → ℕ → Link → Reading → Option Dialogue → Ledger
enters_discard_in l row x a None = l
enters_discard_in l row x a (Some d) =
    cond (is 0x90 0x00 a) (rewrites l (writes_link l.book row (Some (standing_at x x.count (dialogue_at d.size at_rest))))) l

abbrev pub enters_discard : Ledger → ℕ → Reading → Option Link → Ledger
enters_discard l row a None = l
enters_discard l row a (Some x) = enters_discard_in l row x a x.dialogue

-- A load answered 0 enters a key.
abbrev pub enters_key : Ledger → Loading → Ledger
enters_key l text_of.malformed = l
enters_key l text_of.unset = l
enters_key l (text_of.loads k) = rewrites l (rows (entered l.book.keys (new_key k)) l.book.masters l.book.links)

abbrev pub enters_load : Ledger → Loading → Answer → Ledger
enters_load l k (loaded n) = cond (n == 0) (enters_key l k) l
enters_load l k not_taken = l
enters_load l k powered = l
enters_load l k (refused_host n) = l
enters_load l k (replied a) = l

-- Power off strikes each connection, and the blocks in hand are gone.
abbrev pub enters_power_off : Ledger → Answer → Ledger
enters_power_off l powered = rewrites_all l (rows l.book.keys l.book.masters free_rows) None
enters_power_off l not_taken = l
enters_power_off l (loaded n) = l
enters_power_off l (refused_host n) = l
enters_power_off l (replied a) = l

module _ (𝓗 : Hashing) (𝓢 : Sealing) where
  abbrev pub enters_request : Ledger → List ℕ → Request → Reading → Ledger
  enters_request l random malformed a = l
  enters_request l random other a = l
  enters_request l random unlisted a = l
  enters_request l random (begin k s) a = enters_object 𝓗 l random k (data_of s) a
  enters_request l random (continue k s) a = enters_next 𝓗 l random k s l.object a
  enters_request l random (discover s) a = enters_discovery l s
  enters_request l random (answer k s) a = l
  enters_request l random (go_on k s) a = l
  enters_request l random (block row p2 s) a = enters_block 𝓢 l row p2 s a (slice_index_or l.book.links row None)
  enters_request l random (fetch row n s) a = l
  enters_request l random (discard row s) a = enters_discard l row a (slice_index_or l.book.links row None)

  abbrev pub enters_command : Ledger → List ℕ → Request → Answer → Ledger
  enters_command l random q (replied a) = counts_failure (is 0x69 0x88 (reading a)) (enters_request l random q (reading a))
  enters_command l random q not_taken = l
  enters_command l random q powered = l
  enters_command l random q (loaded n) = l
  enters_command l random q (refused_host n) = l

  -- One call and its answer.
  abbrev pub enters : Ledger → Call → Answer → Ledger
  enters l (load text) a = enters_load l (loading text) a
  enters l power_on a = l
  enters l power_off a = enters_power_off l a
  enters l (command c random buffer work) a = enters_command l random (request c) a

  -- All of a run, from a first ledger on.
  abbrev pub ledger : Ledger → List Entry → Ledger
  ledger l [] = l
  ledger l (e ∷ es) = ledger (enters l e.call e.answer) es

-- What was fetched of a row's answer, block by block from 0.
pub record Got : Type 0 where
  pub bytes : List ℕ
  pub blocks : ℕ

abbrev pub none_got : Got
none_got = record { bytes = []; blocks = 0 }

abbrev pub nothing_got : ℕ → Got
nothing_got row = none_got

-- What stands for each row, with one row changed.
abbrev pub put_at : {X : Type 0} → (ℕ → X) → ℕ → X → ℕ → X
put_at f row v i = cond (i == row) v (f i)

-- The next block in order, answered 92, is joined to those before.
abbrev pub next_got : Got → ℕ → Reading → Got
next_got g n a = cond (a.sw1 == 0x92 && n == g.blocks) (record { bytes = g.bytes ++ a.bytes; blocks = g.blocks + 1 }) g

-- A block that is joined drops the answer: nothing of the next answer was fetched yet.
abbrev pub got_dialogue : (ℕ → Got) → ℕ → ℕ → Shape → Reading → Option Dialogue → ℕ → Got
got_dialogue gs row p2 s a None = gs
got_dialogue gs row p2 s a (Some d) = cond (is_joined d.standing p2 s a) (put_at gs row none_got) gs

abbrev pub got_block : (ℕ → Got) → ℕ → ℕ → Shape → Reading → Option Link → ℕ → Got
got_block gs row p2 s a None = gs
got_block gs row p2 s a (Some x) = got_dialogue gs row p2 s a x.dialogue

abbrev pub got_request : List (Option Link) → (ℕ → Got) → Request → Reading → ℕ → Got
got_request xs gs malformed a = gs
got_request xs gs other a = gs
got_request xs gs unlisted a = gs
got_request xs gs (begin k s) a = gs
got_request xs gs (continue k s) a = gs
got_request xs gs (discover s) a = gs
got_request xs gs (answer k s) a = gs
got_request xs gs (go_on k s) a = gs
got_request xs gs (block row p2 s) a = got_block gs row p2 s a (slice_index_or xs row None)
got_request xs gs (fetch row n s) a = put_at gs row (next_got (gs row) n a)
got_request xs gs (discard row s) a = gs

abbrev pub got_command : List (Option Link) → (ℕ → Got) → Request → Answer → ℕ → Got
got_command xs gs q (replied a) = got_request xs gs q (reading a)
got_command xs gs q not_taken = gs
got_command xs gs q powered = gs
got_command xs gs q (loaded n) = gs
got_command xs gs q (refused_host n) = gs

-- What is fetched after one call and its answer.
abbrev pub got : Ledger → (ℕ → Got) → Call → Answer → ℕ → Got
got l gs (load text) a = gs
got l gs power_on a = gs
got l gs power_off a = gs
got l gs (command c random buffer work) a = got_command l.book.links gs (request c) a

-- Whether a session holds an answer.
abbrev pub owes_standing : Standing → Bool
owes_standing at_rest = false
owes_standing (under_way b bs) = false
owes_standing (owing b o) = true

abbrev pub owes_dialogue : Option Dialogue → Bool
owes_dialogue None = false
owes_dialogue (Some d) = owes_standing d.standing

abbrev pub owes : Option Link → Bool
owes None = false
owes (Some x) = owes_dialogue x.dialogue
