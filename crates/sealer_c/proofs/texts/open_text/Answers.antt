use Rattle.std.proofs.Common.{◌≡◌, ℕ, List, length, replicate, Some, sym, ap, ◌∙◌, subst, arith, rules}
use Rattle.std.proofs.lemmas.Result.{err_from_is_err_and}
use Rattle.std.specs.List.{PartMut}
use Rattle.std.specs.Option.{option_copied, ok_or}
use Rattle.std.specs.Result.{result_ok}
use Rattle.byte_lists.specs.Bytes.{Block}
use Rattle.byte_lists.proofs.Facts.{bytes_of}
use Rattle.sealing.specs.Lent.{OpensTo}
use Rattle.sealing.proofs.Body.{body_given}
use Rattle.sealing.specs.declared.sealer.Opened.{Opened}
use Rattle.sealer.specs.Sealers.{real}
use Rattle.sealer.specs.Lawful.{real_faithful}
use Rattle.sealer_c.specs.declared.refusal.Refusal.TheVariants.{Shut}
use Rattle.sealer_c.proofs.Opened.{shut, longer_shut, fits, handed}
use Rattle.sealer_c.proofs.texts.open_text.Goals as goal

pub returns-in_err-copy : goal.returns-in_err-copy
returns-in_err-copy c =
    let k : List ℕ = c.args.keys.now in
    let z : List ℕ = c.args.string.now in
    let keys : Block 40 k = (search rules, bytes_of k (λ i. search rules)) in
    let none = c.ok_or.ensures.ok_part ∙ ap result_ok c.in_err-copy.was in
    let long = (subst (PartMut (replicate 288 0) 0 (length z)) none c.get_mut.ensures.lookup).0 in
    let e = err_from_is_err_and c.from_residual.result c.from_residual.ensures.1 in
    let shut_it = c.ok_or.ensures.value ∙ ap (λ o. ok_or o Shut) none in
    let is : c.in_err-copy.field-0.0 ≡ Shut = cc (shut_it, c.in_err-copy.was) in
    rw (e.1, e.2, is)
    (shut (real.opened c.args.suite k z) c.args.out.now (longer_shut real real_faithful c.args.suite k keys z (omega (arith, long))))

pub invariant_of-text : goal.invariant_of-text
invariant_of-text c =
    let k : List ℕ = c.args.keys.now in
    let z : List ℕ = c.args.string.now in
    let r : Opened = c.in_ok-opened.opened in
    let after : List ℕ = c.open.new.string in
    let keys : Block 40 k = (search rules, bytes_of k (λ i. search rules)) in
    let some = c.ok_or-2.ensures.ok_part ∙ ap result_ok c.in_ok-opened.was in
    let was = c.copy_from_slice.ensures.after in
    let o : OpensTo (real.opened c.args.suite k z) z after (Some r) = subst (λ y. OpensTo (real.opened c.args.suite k y) y after (Some r)) was (subst (OpensTo _ _ after) some c.open.ensures) in
    let body = sym (ap option_copied c.unwrap.ensures) ∙ c.body.ensures ∙ body_given (real.opened c.args.suite k z) z after r (c.open.auto.string ∙ ap length was) o in
    let f = fits real real_faithful c.args.suite k keys z c.unwrap.result.now body in
    record { least = f.0; most = f.1 }

pub returns : goal.returns
returns c =
    let k : List ℕ = c.args.keys.now in
    let z : List ℕ = c.args.string.now in
    let r : Opened = c.in_ok-opened.opened in
    let after : List ℕ = c.open.new.string in
    let some = c.ok_or-2.ensures.ok_part ∙ ap result_ok c.in_ok-opened.was in
    let was = c.copy_from_slice.ensures.after in
    let o : OpensTo (real.opened c.args.suite k z) z after (Some r) = subst (λ y. OpensTo (real.opened c.args.suite k y) y after (Some r)) was (subst (OpensTo _ _ after) some c.open.ensures) in
    let body = sym (ap option_copied c.unwrap.ensures) ∙ c.body.ensures ∙ body_given (real.opened c.args.suite k z) z after r (c.open.auto.string ∙ ap length was) o in
    handed (real.opened c.args.suite k z) z after r c.unwrap.result.now c.args.out.now c.put_plain.new.out c.put_plain.result o body c.put_plain.ensures.len c.put_plain.ensures.bytes
