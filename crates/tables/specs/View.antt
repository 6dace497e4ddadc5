-- The card's tables as the rules speak of them.
use Rattle.std.specs.Prelude.{◌≡◌, ℕ, List, [], map, Some, None, Option}
use Rattle.std.specs.Option.{option_map}
use Rattle.personalise.specs.Says.{says}
use Rattle.session.specs.View as session
use Rattle.law.specs.Associations as made
use Rattle.law.specs.Tables as law
use Rattle.law.specs.Rows as rows
use Rattle.law.specs.Step.{kept}
use Rattle.tables.specs.declared.at.At.{At}
use Rattle.tables.specs.declared.rows.Key.{Key}
use Rattle.tables.specs.declared.rows.Master.{Master}
use Rattle.tables.specs.declared.rows.Connection.{Connection}
use Rattle.tables.specs.declared.rows.Tables.{Tables}

abbrev pub key_of : Key → made.Key
key_of k = record { says = says k.load; count = k.count }

abbrev pub master_of : Master → made.Master
master_of m = record { id = m.id; secret = m.secret; key = m.key; count = m.count }

abbrev pub connection_of : Connection → law.Connection
connection_of c = record {
  id = c.id;
  master = c.master;
  suite = c.suite;
  mac = c.mac;
  keys = c.keys;
  count = c.count;
  session = session.session_of c.session;
}

-- What rows hold, row by row.
abbrev pub keys_of : List (Option Key) → List (Option made.Key)
keys_of rows = map (option_map key_of) rows

abbrev pub masters_of : List (Option Master) → List (Option made.Master)
masters_of rows = map (option_map master_of) rows

abbrev pub connections_of : List (Option Connection) → List (Option law.Connection)
connections_of rows = map (option_map connection_of) rows

abbrev pub tables_of : Tables → law.Tables
tables_of t = record { keys = keys_of t.keys; masters = masters_of t.masters; connections = connections_of t.connections }

-- The answer that the session of a row holds, if any.
abbrev pub answer_at : Option Connection → List ℕ
answer_at None = []
answer_at (Some c) = session.answer_of c.session

abbrev pub answers_of : Tables → List (List ℕ)
answers_of t = map answer_at t.connections

-- Each answer is kept as long as its session holds it, and no other is there.
abbrev pub Keeps : Tables → Tables → Type 0
Keeps before after = answers_of after ≡ kept (connections_of after.connections) (answers_of before)

-- What a row holds, with the row's number.
abbrev pub at_of : {X Y : Type 0} → (X → Y) → At X → rows.At Y
at_of f a = record { row = a.row; item = f a.item }
