use Rattle.std.proofs.Common.{◌≡◌, set, sym, ap, ◌∙◌, rules}
use Rattle.std.proofs.lemmas.List.Edits.{map_over_more}
use Rattle.tables.specs.Retained.{retained}
use Rattle.tables.proofs.Filtered.{filtered}
use Rattle.tables.proofs.retain.retain.Goals as goal

pub loop-row-preserved : goal.loop-row-preserved
loop-row-preserved g c = λ p h.
    let one : c.filter.result ≡ retained p c.row-item.result
    = filtered p _ (λ x b k. h k.0 b (search rules) ∙ ap p k.2) _ _ c.filter.ensures ∙ ap (retained p) (sym c.row-item.is) in
    ap (λ o. set c.loop-row.rows c.loop-row.row-index o) one
    ∙ map_over_more (retained p) c.args.rows.now c.loop-row.rows c.loop-row.row-index c.row-item.result c.loop-row-test.true (c.loop-row.invariant p h) c.row-item.is
