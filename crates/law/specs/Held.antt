-- What a card holds: the ledger's rows, each within its limits, each resting on what is held, each key as its load wrote it.
use Rattle.std.specs.Prelude.{◌≡◌, ℕ, ◌≤◌, ◌⊎◌, List, [], ◌∷◌, map, Some, None, Option, slice_index_or}
use Rattle.byte_lists.specs.Bytes as bytes
use Rattle.personalise.specs.Load.{Lines}
use Rattle.personalise.specs.Written.{Good, written}
use Rattle.law.specs.Calls.{Entry, load, loaded}
use Rattle.law.specs.Associations.{Key, Master}
use Rattle.law.specs.Ledger.{Standing, at_rest, under_way, owing, Dialogue, Link, Book, joined}
use Rattle.law.specs.Tables.{Talk, idle, gathering, answered, Session, unstarted, started, Connection, Tables}

-- The session that a card has where the ledger has this.
abbrev pub talk_of : Standing → Talk
talk_of at_rest = idle
talk_of (under_way b bs) = gathering (joined (b ∷ bs)) b
talk_of (owing b o) = answered b

abbrev pub session_of : Option Dialogue → Session
session_of None = unstarted
session_of (Some d) = started d.size (talk_of d.standing)

-- The connection that a card has where the ledger has this.
abbrev pub held_as : Link → Connection
held_as x = record { id = x.id; master = x.master; suite = x.suite; mac = x.mac; keys = x.keys; count = x.count; session = session_of x.dialogue }

abbrev pub row_of : Option Link → Option Connection
row_of None = None
row_of (Some x) = Some (held_as x)

-- The card's rows are exactly the ledger's.
pub record SameRows (t : Tables) (b : Book) : Type 0 where
  pub keys : t.keys ≡ b.keys
  pub masters : t.masters ≡ b.masters
  pub connections : t.connections ≡ map row_of b.links

-- A master rests on a held key, and has yielded no more connections than that lets.
pub record MasterRests (t : Tables) (m : Master) : Type 0 where
  pub key : Key
  pub held : slice_index_or t.keys m.key None ≡ Some key
  pub within : m.count ≤ key.says.connections

-- A connection rests on a held master, and that on a held key; no more commands were accepted than that lets. Its keys for the
-- sealer are 40 bytes.
pub record ConnectionRests (t : Tables) (x : Connection) : Type 0 where
  pub master : Master
  pub held : slice_index_or t.masters x.master None ≡ Some master
  pub key : Key
  pub key_held : slice_index_or t.keys master.key None ≡ Some key
  pub within : x.count ≤ key.says.transactions
  pub sealer : bytes.Block 40 x.keys

pub record Sound (t : Tables) : Type 0 where
  pub keys : (i : ℕ) (k : Key) → slice_index_or t.keys i None ≡ Some k → k.count ≤ k.says.masters
  pub masters : (i : ℕ) (m : Master) → slice_index_or t.masters i None ≡ Some m → MasterRests t m
  pub connections : (i : ℕ) (x : Connection) → slice_index_or t.connections i None ≡ Some x → ConnectionRests t x

-- A load answered 0 whose text is the six lines that say this, each limit in decimal digits and none above its top.
pub record Writes (e : Entry) (k : Lines) : Type 0 where
  pub call : e.call ≡ load (written k)
  pub accepted : e.answer ≡ loaded 0
  pub good : Good k

-- One of the entries is such a load.
abbrev pub Wrote : List Entry → Lines → Type 0
Wrote [] k = ⊥
Wrote (e ∷ es) k = Writes e k ⊎ Wrote es k

-- Every held key has what an accepted load's text said, its three limits among it.
abbrev pub Written : List Entry → Tables → Type 0
Written es t = (i : ℕ) (k : Key) → slice_index_or t.keys i None ≡ Some k → Wrote es k.says
