use lib.Seq.{map-set}
use Rattle.tables.proofs.rows.Tables.enter_key.Goals as goal

pub returns-clause-tables : goal.returns-clause-tables
returns-clause-tables c = simp (c.from.ensures, map-set)
