use Rattle.std.proofs.Common.{◌≡◌, ◌∙◌, Some, rules}
use Rattle.std.specs.Option.{option_map}
use Rattle.personalise.specs.Left.{left}
use Rattle.personalise.specs.Load.{malformed}
use Rattle.personalise.specs.Says.{answered, ref_of}
use Rattle.personalise.proofs.Loads.{told, no_reference, no_key, no_flag}
use Rattle.personalise.proofs.Law.{made_written}
use Rattle.personalise.proofs.load.read.Goals as goal

pub returns-in_err-reference-clause-meaning : goal.returns-in_err-reference-clause-meaning
returns-in_err-reference-clause-meaning c =
    let said : answered c.from_residual.result ≡ malformed = search rules in
    said ∙ no_reference c.args.text.now (left c.new-lines.result) c.if-not-is_ended.ensures c.new-lines.ensures (search rules)

pub returns-in_err-key-clause-meaning : goal.returns-in_err-key-clause-meaning
returns-in_err-key-clause-meaning c =
    let said : answered c.from_residual-in_err-key.result ≡ malformed = search rules in
    said ∙ no_key c.args.text.now (left c.new-lines.result) (left c.reference_line.new.lines) (ref_of c.in_ok-reference.reference) c.if-not-is_ended.ensures c.new-lines.ensures c.reference_line.ensures.past (search rules) (search rules)

pub returns-in_err-weak-clause-meaning : goal.returns-in_err-weak-clause-meaning
returns-in_err-weak-clause-meaning c =
    let said : answered c.from_residual-in_err-weak.result ≡ malformed = search rules in
    said ∙ no_flag c.args.text.now (left c.new-lines.result) (left c.reference_line.new.lines) (left c.key_line.new.lines) (ref_of c.in_ok-reference.reference) c.in_ok-key.key c.if-not-is_ended.ensures c.new-lines.ensures c.reference_line.ensures.past c.key_line.ensures.past (search rules) (search rules) (search rules)

pub returns-clause-meaning : goal.returns-clause-meaning
returns-clause-meaning c =
    let reference : Some (ref_of c.in_ok-reference.reference) ≡ option_map ref_of c.reference_line.result = search rules in
    let key : Some c.in_ok-key.key ≡ c.key_line.result = search rules in
    let weak : Some c.in_ok-weak.weak ≡ c.weak_line.result = search rules in
    let all = told c.args.text.now
    (left c.new-lines.result)
    (left c.reference_line.new.lines)
    (left c.key_line.new.lines)
    (left c.weak_line.new.lines)
    (left c.limit_line-masters.new.lines)
    (left c.limit_line-connections.new.lines)
    (left c.limit_line-transactions.new.lines)
    c.is_done.result (Some (ref_of c.in_ok-reference.reference)) (Some c.in_ok-key.key) (Some c.in_ok-weak.weak)
    c.limit_line-masters.result c.limit_line-connections.result c.limit_line-transactions.result
    c.if-not-is_ended.ensures c.new-lines.ensures
    c.reference_line.ensures.past c.key_line.ensures.past c.weak_line.ensures.past
    c.limit_line-masters.ensures.past c.limit_line-connections.ensures.past c.limit_line-transactions.ensures.past
    c.is_done.ensures
    (reference ∙ c.reference_line.ensures.value) (key ∙ c.key_line.ensures.value) (weak ∙ c.weak_line.ensures.value)
    c.limit_line-masters.ensures.value c.limit_line-connections.ensures.value c.limit_line-transactions.ensures.value in
    c.limited.ensures ∙ (simp c.if-not-is_done.false at all)

pub returns-clause-written : goal.returns-clause-written
returns-clause-written c = made_written c.limited.result c.args.text.now (returns-clause-meaning c)
