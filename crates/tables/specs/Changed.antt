-- A row after one of its fields changed, and the tables after something was entered.
use Rattle.std.specs.Prelude.{ℕ, ◌+◌, Some, slice_set}
use Rattle.session.specs.declared.state.Session.{Session}
use Rattle.law.specs.Associations as made
use Rattle.law.specs.Tables as law
use Rattle.tables.specs.declared.rows.Key.{Key}
use Rattle.tables.specs.declared.rows.Master.{Master}
use Rattle.tables.specs.declared.rows.Connection.{Connection}

-- One more is counted.
abbrev pub counted_key : Key → Key
counted_key k = record { load = k.load; count = k.count + 1 }

abbrev pub counted_master : Master → Master
counted_master m = record { id = m.id; secret = m.secret; key = m.key; count = m.count + 1 }

-- The connection with this session.
abbrev pub started_with : Connection → Session → Connection
started_with c s = record { id = c.id; master = c.master; suite = c.suite; mac = c.mac; keys = c.keys; count = c.count; session = Some s }

-- A key, a master and a connection in given rows; the last two count at the row that they rest on.
abbrev pub key_entered : law.Tables → ℕ → made.Key → law.Tables
key_entered t row k = record { keys = slice_set t.keys row (Some k); masters = t.masters; connections = t.connections }

abbrev pub master_entered : law.Tables → ℕ → made.Key → ℕ → made.Master → law.Tables
master_entered t key k row m = record {
  keys = slice_set t.keys key (Some (made.one_more_master k));
  masters = slice_set t.masters row (Some m);
  connections = t.connections;
}

abbrev pub connection_entered : law.Tables → ℕ → made.Master → ℕ → law.Connection → law.Tables
connection_entered t master m row c = record {
  keys = t.keys;
  masters = slice_set t.masters master (Some (made.one_more_connection m));
  connections = slice_set t.connections row (Some c);
}
