use Rattle.std.proofs.Common.{sym, ◌∙◌}
use Rattle.sealing.proofs.Known.{known}
use Rattle.frame.proofs.Laws.{not_framed, not_directed, told_text}
use Rattle.frame.proofs.Tested.{is_not, is_so}
use Rattle.frame.proofs.read.read_frame.Goals as goal

pub returns-in_err-len : goal.returns-in_err-len
returns-in_err-len g c = c.from_residual.ensures ∙ sym (not_framed _ _ _ c.args.frame.now (is_not _ _ (sym c.in_err-len.was ∙ c.body_len.ensures)))

pub returns-in_err-direction : goal.returns-in_err-direction
returns-in_err-direction g c =
    let len = is_so _ _ _ (sym c.in_ok-len.was ∙ c.body_len.ensures) in
    let direction = known _ _ _ c.try_from.ensures ∙ sym c.ok.ensures.value ∙ c.in_err-direction.was in
    c.from_residual-in_err-direction.ensures ∙ sym (not_directed _ _ _ c.args.frame.now len.0 direction)

pub returns : goal.returns
returns g c =
    let len = is_so _ _ _ (sym c.in_ok-len.was ∙ c.body_len.ensures) in
    let direction = known _ _ _ c.try_from.ensures ∙ sym c.ok.ensures.value ∙ c.in_ok-direction.was in
    sym (told_text _ _ _ c.args.frame.now c.in_ok-direction.direction c.stated_number.result c.in_ok-len.len len.0 direction c.stated_number.ensures len.1)
