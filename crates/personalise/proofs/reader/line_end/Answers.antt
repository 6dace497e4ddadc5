use Rattle.std.proofs.Common.{eqb, rules, tests, sym, subst}
use Rattle.std.proofs.lemmas.Iterator.Search.{position_from_yields_List}
use Rattle.std.proofs.lemmas.Iterator.{YieldsList-from_slice}
use Rattle.personalise.specs.Lines.{EndsAt}
use Rattle.personalise.proofs.Cuts.{ends_at}
use Rattle.personalise.proofs.reader.line_end.Goals as goal

pub returns : goal.returns
returns c =
    let is = position_from_yields_List (λ x. eqb x 10) _ _ c.position.result c.position.ensures.ran (YieldsList-from_slice c.args.text.now c.iter.ensures.rest) (λ x b q k. search (rules, tests)) in
    subst (EndsAt c.args.text.now) (sym is) (ends_at c.args.text.now)
