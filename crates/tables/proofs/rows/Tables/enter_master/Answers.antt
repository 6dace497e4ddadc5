use lib.Seq.{map-set}
use Rattle.tables.proofs.rows.Tables.enter_master.Goals as goal

pub returns-clause-tables : goal.returns-clause-tables
returns-clause-tables c = simp (c.from.ensures, c.from-2.ensures, map-set)
