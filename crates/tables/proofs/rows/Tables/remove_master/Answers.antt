use Rattle.std.proofs.Common.{◌≡◌, map, not, eqb, rules}
use lib.Seq.{map-set}
use Rattle.tables.specs.declared.rows.Connection.{Connection}
use Rattle.tables.specs.Retained.{retained}
use Rattle.tables.proofs.Leaving.{connections_off, left_kept}
use Rattle.tables.proofs.rows.Tables.remove_master.Goals as goal

pub returns : goal.returns
returns c =
    let t = c.args.self.now in
    let i = c.args.row in
    let left : c.retain.new.rows ≡ map (retained (λ (x : Connection). not (eqb x.master i))) t.connections = c.retain.ensures (λ x. not (eqb x.master i)) (λ x b k. search rules) in
    record {
      tables = simp (c.from-row.ensures, map-set, connections_off i t.connections c.retain.new.rows left);
      answers = left_kept (λ (x : Connection). not (eqb x.master i)) t.connections c.retain.new.rows left;
    }
