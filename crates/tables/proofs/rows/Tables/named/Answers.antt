use Rattle.std.proofs.Common.{◌≡◌, get_or, Some, None, sym, ap, ◌∙◌, rules}
use Rattle.std.specs.Option.{option_map}
use Rattle.std.specs.List.{position}
use Rattle.std.proofs.lemmas.List.{get_or_default}
use Rattle.std.proofs.lemmas.List.Quantifiers.{position-Some}
use Rattle.law.specs.Rows.{found}
use Rattle.tables.specs.View.{at_of}
use Rattle.tables.proofs.Found.{named_so, found_at, found_nowhere}
use Rattle.tables.proofs.rows.Tables.named.Goals as goal

pub returns-in_err-index-clause-found : goal.returns-in_err-index-clause-found
returns-in_err-index-clause-found g c =
    let t = c.args.self.now in
    let f = g.T.Named.seen in
    let p = g.T.Named.called c.args.name.now in
    ap (λ o. option_map (at_of f) o) c.from_residual.ensures
    ∙ sym (found_nowhere f p (g.T.Named.held_in t) (ap (λ l. position (named_so f p) l) (sym c.rows-rows.ensures.is) ∙ sym c.first_named.ensures ∙ c.in_err-index.was))
    ∙ ap (λ l. found p l) (sym (g.met.T.Named.seen_rows t))

pub returns-clause-found : goal.returns-clause-found
returns-clause-found g c =
    let t = c.args.self.now in
    let f = g.T.Named.seen in
    let p = g.T.Named.called c.args.name.now in
    let i = c.in_ok-index.index in
    let rows = c.rows-rows.result.now in
    let at : position (named_so f p) rows ≡ Some i = sym c.first_named.ensures ∙ c.in_ok-index.was in
    let item : get_or rows i None ≡ Some c.unwrap-2.result
    = get_or_default rows i None c.index-rows-index.result (position-Some (named_so f p) rows i None at).0 ∙ sym c.index-rows-index.is ∙ c.unwrap-2.ensures in
    found_at f p (g.T.Named.held_in t) i c.unwrap.result c.unwrap-2.result
    (ap (λ l. position (named_so f p) l) (sym c.rows-rows.ensures.is) ∙ at) (ap (λ l. get_or l i None) (sym c.rows-rows.ensures.is) ∙ item) (search rules)
    ∙ ap (λ l. found p l) (sym (g.met.T.Named.seen_rows t))
