use Rattle.std.proofs.Common.{ℕ, List, length, sym, ap, ◌∙◌, ◌&&◌, rules}
use Rattle.std.specs.Option.{option_copied}
use Rattle.std.specs.Result.{result_ok}
use Rattle.byte_lists.specs.Bytes.{Block}
use Rattle.byte_lists.proofs.Facts.{bytes_of}
use Rattle.sealing.specs.Sealing.{Text, Good, text}
use Rattle.sealing.proofs.Known.{known}
use Rattle.sealer_c.specs.Calls.{roomy}
use Rattle.sealer_c.proofs.Fitting.{unfit, seals, body_bounds}
use Rattle.sealer_c.proofs.Long.{sealed_long}
use Rattle.sealer_c.proofs.calls.sealed.Goals.{then-not-is_body-via-then-not-is_body, then-not-is_body-via-else-not-is_body+then-not-is_roomy}
use Rattle.sealer_c.proofs.calls.sealed.Goals as goal

pub returns-then-not-is_body : goal.returns-then-not-is_body
returns-then-not-is_body c =
    let a = c.args in
    let suite = known _ _ _ c.try_from.ensures ∙ ap result_ok c.in_ok-suite.was in
    let named = sym c.keys_of.ensures ∙ ap option_copied (c.ok_or.ensures.ok_part ∙ ap result_ok c.in_ok-keys.was) in
    let way = known _ _ _ c.try_from-2.ensures ∙ ap result_ok c.in_ok-direction.was in
    unfit a.cipher a.mechanism a.keys.now c.in_ok-keys.keys.now c.in_ok-suite.suite suite named a.direction a.number a.body.now c.in_ok-direction.direction way a.out.now
    (elim c.then-not-is_body.branch [
      | then-not-is_body-via-then-not-is_body w ↦ ap (λ f. f && roomy (length a.out.now)) (sym w.if-not-is_body.ensures)
      | then-not-is_body-via-else-not-is_body+then-not-is_roomy w ↦ ap (λ f. f && roomy (length a.out.now)) (sym w.if-not-is_body.ensures) ∙ sym w.if-not-is_roomy.ensures
    ])

pub returns : goal.returns
returns c =
    let a = c.args in
    let suite = known _ _ _ c.try_from.ensures ∙ ap result_ok c.in_ok-suite.was in
    let named = sym c.keys_of.ensures ∙ ap option_copied (c.ok_or.ensures.ok_part ∙ ap result_ok c.in_ok-keys.was) in
    let way = known _ _ _ c.try_from-2.ensures ∙ ap result_ok c.in_ok-direction.was in
    let keys : List ℕ = c.in_ok-keys.keys.now in
    let forty : Block 40 keys = (search rules, bytes_of keys (λ i. search rules)) in
    let t : Text = text c.in_ok-direction.direction a.number a.body.now in
    let fits = body_bounds (length a.body.now) (sym c.if-not-is_body.ensures) in
    let good : Good t = record { number = search rules; least = fits.0; most = fits.1; bytes = bytes_of a.body.now (λ i. search rules) } in
    seals a.cipher a.mechanism a.keys.now keys c.in_ok-suite.suite suite named a.direction a.number a.body.now c.in_ok-direction.direction way a.out.now
    c.seal.new.out c.seal.result (sym c.if-not-is_body.ensures) (sym c.if-not-is_roomy.ensures) c.seal.ensures (sealed_long c.in_ok-suite.suite keys t forty good)
