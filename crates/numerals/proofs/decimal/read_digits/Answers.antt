use Rattle.std.proofs.Common.{rules, ap, ◌∙◌, arith}
use Rattle.numerals.specs.Decimal.{digits, upto}
use Rattle.numerals.proofs.Digits.{all_read, upto_within}
use Rattle.numerals.proofs.decimal.read_digits.Goals as goal

pub returns-clause-value : goal.returns-clause-value
returns-clause-value c =
    all_read _ c.args.top _ _ c.iter.result c.try_fold.new.self 0 c.try_fold.result c.try_fold.ensures.ran (omega arith) (λ n x v q k. search rules) ∙ ap (λ cs. upto c.args.top (digits 0 cs)) c.iter.ensures.rest

pub returns-clause-within : goal.returns-clause-within
returns-clause-within c = upto_within c.args.top (digits 0 c.args.text.now) c.try_fold.result (returns-clause-value c)
