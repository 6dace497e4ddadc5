use Rattle.std.proofs.Common.{◌≡◌, ℕ, ◌+◌, ◌-◌, ◌≤◌, List, length, take, drop, ap, ◌∙◌, arith, length-append, length-drop}
use Rattle.std.proofs.lemmas.List.{take_at}
use Rattle.frame.proofs.Tested.{tested}
use Rattle.frame.proofs.read.is_checked.Goals as goal

pub slice_bounds-same-end : goal.slice_bounds-same-end
slice_bounds-same-end g c =
    let s : g.I.Integrity.LEN ≤ 16 = g.met.I.Integrity.bounded.1 in
    simp (length-append, length-drop) (omega arith)

pub returns : goal.returns
returns g c =
    let n : ℕ = g.I.Integrity.LEN in
    let tag : ℕ = c.LEN-tag.result in
    let frame : List ℕ = c.args.frame.now in
    let end : ℕ = c.args.end in
    let e : tag ≡ n = c.LEN-tag.ensures in
    let from : end - 0 ≡ end = omega arith in
    let size : (end + tag) - end ≡ n = omega arith in
    let long : length c.write_check.new.out ≡ tag - 0 = omega (arith, c.write_check.auto.out) in
    tested c.same.result _ _ _ _ c.same.ensures
    (take_at c.write_check.new.out _ (tag - 0) long ∙ c.write_check.ensures ∙ ap (λ j. g.I.Integrity.check c.args.mechanism.now (take j frame)) from)
    (ap (λ j. take j (drop end frame)) size)
