use Rattle.std.proofs.Common.{sym, ap, ◌∙◌}
use Rattle.std.specs.Option.{option_copied}
use Rattle.std.specs.Result.{result_ok}
use Rattle.sealing.proofs.Known.{known}
use Rattle.sealer_c.proofs.Fitting.{opens}
use Rattle.sealer_c.proofs.calls.opened.Goals as goal

pub returns : goal.returns
returns c =
    let a = c.args in
    let suite = known _ _ _ c.try_from.ensures ∙ ap result_ok c.in_ok-suite.was in
    let forty = sym c.keys_of.ensures ∙ ap option_copied (c.ok_or.ensures.ok_part ∙ ap result_ok c.in_ok-keys.was) in
    opens a.cipher a.mechanism a.keys.now c.in_ok-keys.keys.now c.in_ok-suite.suite suite forty a.string.now a.out.now c.open_text.new.out c.open_text.result
    (sym c.if-not-is_roomy.ensures) c.open_text.ensures
