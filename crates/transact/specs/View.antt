-- The card as the rules speak of it, by its core and what its application contains.
use Rattle.std.specs.Prelude.{◌≡◌, ℕ, ◌+◌, ◌*◌, true, false, [], Some, None, Option, slice_index_or}
use Rattle.apdu.specs.StatusWords.{status_bytes}
use Rattle.apdu.specs.declared.status.Status.{Status}
use Rattle.apdu.specs.declared.status.Status.TheVariants as sw
use Rattle.session.specs.declared.event.Heard.{Heard}
use Rattle.session.specs.declared.event.Heard.TheVariants.{Repeated, Joined, Gives, Discarded}
use Rattle.session.specs.declared.state.Session.{Session as Holding}
use Rattle.tables.specs.declared.rows.Connection.{Connection as Held}
use Rattle.tables.specs.View.{answers_of, connection_of, tables_of}
use Rattle.manage.specs.declared.card_core.Core.{Core}
use Rattle.manage.specs.declared.told.Told.{Told}
use Rattle.manage.specs.Told.{bytes_of}
use Rattle.manage.specs.View.{core_of}
use Rattle.transact.specs.declared.started.Started.{Started}
use Rattle.law.specs.Request.{Block}
use Rattle.law.specs.Tables.{Talk, idle, gathering, answered, Session, unstarted, Connection}
use Rattle.law.specs.Calls.{replied}
use Rattle.law.specs.Step.{State, Done, done, flag}

abbrev pub state_of : {M : Type 0} → Core → M → State M
state_of c m = record { core = core_of c; answers = answers_of c.tables; contents = m }

-- The card is left so, and a status word is its answer.
abbrev pub ended : {M : Type 0} → Core → M → Status → Done M
ended c m s = done (core_of c) (answers_of c.tables) m (replied (status_bytes s))

-- The card is left so, and this is told.
abbrev pub told : {M : Type 0} → Core → M → Told → Done M
told c m t = done (core_of c) (answers_of c.tables) m (replied (bytes_of t))

-- The session of a row; a free row has none.
abbrev pub session_at : Option Connection → Session
session_at None = unstarted
session_at (Some x) = x.session

-- A row of a core holds this connection, and its session is this one.
pub record StartedAt (c : Core) (row : ℕ) (s : Started) : Type 0 where
  pub row_is : s.row ≡ row
  pub held : Some s.connection ≡ slice_index_or c.tables.connections row None
  pub seen : Some (connection_of s.connection) ≡ slice_index_or (tables_of c.tables).connections row None
  pub is : s.connection.session ≡ Some s.session

-- A row of a core holds a connection with this session.
pub record LentAt (c : Core) (row : ℕ) (z : Holding) : Type 0 where
  pub connection : Held
  pub held : Some connection ≡ slice_index_or c.tables.connections row None
  pub is : connection.session ≡ Some z

-- The last block of a session; an idle one has none.
abbrev pub last_of : Talk → Block
last_of idle = record { p2 = 0; bytes = [] }
last_of (gathering j b) = b
last_of (answered b) = b

-- The status word to what a session made of an event. A joined block is taken, and so is a fetch, of which the block itself
-- tells whether more follow.
abbrev pub said : ℕ → Heard → Status
said row (Repeated b) = sw.Taken (row * 2 + flag b)
said row Joined = sw.Taken (row * 2 + flag false)
said row Gives = sw.Taken (row * 2 + flag true)
said row Discarded = sw.Done
