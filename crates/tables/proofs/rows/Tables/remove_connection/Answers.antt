use lib.Seq.{map-set}
use Rattle.tables.proofs.rows.Tables.remove_connection.Goals as goal

pub returns-clause-tables : goal.returns-clause-tables
returns-clause-tables c = simp (c.from.ensures, map-set)
