use Rattle.std.proofs.Common.{◌≡◌, List, map, not, eqb, get_or, is_some, None, Option, rules}
use lib.Seq.{map-set}
use Rattle.law.specs.Tables.{off_key}
use Rattle.tables.specs.declared.rows.Master.{Master}
use Rattle.tables.specs.declared.rows.Connection.{Connection}
use Rattle.tables.specs.View.{masters_of}
use Rattle.tables.specs.Retained.{retained}
use Rattle.tables.proofs.Leaving.{masters_off, connections_on, left_kept}
use Rattle.tables.proofs.rows.Tables.remove_key.Goals as goal

pub returns : goal.returns
returns c =
    let t = c.args.self.now in
    let i = c.args.row in
    let left : List (Option Master) = c.retain.new.rows in
    let off : left ≡ map (retained (λ (m : Master). not (eqb m.key i))) t.masters = c.retain.ensures (λ m. not (eqb m.key i)) (λ x b k. search rules) in
    let on : c.retain-2.new.rows ≡ map (retained (λ (x : Connection). is_some (get_or left x.master None))) t.connections
    = c.retain-2.ensures (λ x. is_some (get_or left x.master None)) (λ x b k. search rules) in
    let seen : masters_of left ≡ map (off_key i) (masters_of t.masters) = masters_off i t.masters left off in
    record {
      tables = simp (c.from-row.ensures, map-set, seen, connections_on left (map (off_key i) (masters_of t.masters)) t.connections c.retain-2.new.rows seen on);
      answers = left_kept (λ (x : Connection). is_some (get_or left x.master None)) t.connections c.retain-2.new.rows on;
    }
