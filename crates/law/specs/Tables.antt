-- What a card holds: four rows of keys, of masters and of connections, each connection with its session.
use Rattle.std.specs.Prelude.{ℕ, cond, List, map, Some, None, Option, ◌==◌, slice_index_or, slice_set}
use Rattle.sealing.specs.declared.suite.Suite.{Suite}
use Rattle.law.specs.Rows.{free_rows}
use Rattle.law.specs.Associations.{Key, Master}
use Rattle.law.specs.Request.{Block}

-- A started session is idle, or gathers: the joined bytes so far and the last block; or it is answered: the block that
-- completed the command. (The answer itself stands beside, since it depends on the application.) The last block answered 92
-- is kept, to know a repetition; an idle session has forgotten it.
pub data Talk : Type 0 where
  idle : Talk
  gathering : List ℕ → Block → Talk
  answered : Block → Talk

-- A session once started has its container's size.
pub data Session : Type 0 where
  unstarted : Session
  started : ℕ → Talk → Session

-- A connection: CSA_ID, the row of the master that it rests on, its suite, K_MAC, the sealer's 40 key bytes, how many
-- commands were accepted, and its session.
pub record Connection : Type 0 where
  pub id : List ℕ
  pub master : ℕ
  pub suite : Suite
  pub mac : List ℕ
  pub keys : List ℕ
  pub count : ℕ
  pub session : Session

pub record Tables : Type 0 where
  pub keys : List (Option Key)
  pub masters : List (Option Master)
  pub connections : List (Option Connection)

abbrev pub no_tables : Tables
no_tables = record { keys = free_rows; masters = free_rows; connections = free_rows }

abbrev pub put_connections : Tables → List (Option Connection) → Tables
put_connections t cs = record { keys = t.keys; masters = t.masters; connections = cs }

abbrev pub put_connection : Tables → ℕ → Connection → Tables
put_connection t i c = put_connections t (slice_set t.connections i (Some c))

-- A connection with its count and session as given.
abbrev pub with_session : Connection → ℕ → Session → Connection
with_session c n s = record { id = c.id; master = c.master; suite = c.suite; mac = c.mac; keys = c.keys; count = n; session = s }

-- What rests on a row leaves with it.
abbrev pub off_master : ℕ → Option Connection → Option Connection
off_master i None = None
off_master i (Some c) = cond (c.master == i) None (Some c)

abbrev pub off_key : ℕ → Option Master → Option Master
off_key i None = None
off_key i (Some m) = cond (m.key == i) None (Some m)

abbrev pub if_held : Connection → Option Master → Option Connection
if_held c None = None
if_held c (Some m) = Some c

abbrev pub on_held : List (Option Master) → Option Connection → Option Connection
on_held ms None = None
on_held ms (Some c) = if_held c (slice_index_or ms c.master None)

-- A connection leaves alone, a master takes its connections along, a key its masters and theirs.
abbrev pub without_connection : Tables → ℕ → Tables
without_connection t i = put_connections t (slice_set t.connections i None)

abbrev pub without_master : Tables → ℕ → Tables
without_master t i = record { keys = t.keys; masters = slice_set t.masters i None; connections = map (off_master i) t.connections }

abbrev pub without_key : Tables → ℕ → Tables
without_key t i =
    let left : List (Option Master) = map (off_key i) t.masters in
    record { keys = slice_set t.keys i None; masters = left; connections = map (on_held left) t.connections }
