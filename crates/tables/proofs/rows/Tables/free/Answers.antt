use Rattle.std.proofs.Common.{cond, Some, None, sym, ap, ◌∙◌, rules}
use Rattle.law.specs.Rows.{full, free}
use Rattle.tables.proofs.Smallest.{free_row_of}
use Rattle.tables.proofs.rows.Tables.free.Goals as goal

pub returns : goal.returns
returns g c =
    let t = c.args.self.now in
    free_row_of g.T.Named.seen (g.T.Named.held_in t) c.first_free.result c.and_then.result (search rules) (search rules) (λ i e lt. search rules) (λ e. search rules)
    ∙ ap (λ l. cond (full l) None (Some (free l))) (sym (g.met.T.Named.seen_rows t))
