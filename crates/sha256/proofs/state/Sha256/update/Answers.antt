use Rattle.std.proofs.Common.{◌≡◌, ◌++◌, take, ap, ◌∙◌, subst, append_assoc}
use Rattle.std.proofs.lemmas.List.{take-append-drop}
use Rattle.sha256.specs.Took.{Took}
use Rattle.sha256.proofs.state.Sha256.update.Goals as goal

pub loop-rest-preserved : goal.loop-rest-preserved
loop-rest-preserved c bytes t =
    let was = c.loop-rest.invariant bytes t in
    let n = c.piece_len.result in
    let rest = c.loop-rest.rest.now in
    let piece = c.split_at.result.0.now in
    let whole : piece ++ c.split_at.result.1.now ≡ c.loop-rest.rest.now =
    ap (λ y. y ++ c.split_at.result.1.now) c.split_at.ensures.front ∙ ap (λ y. take n rest ++ y) c.split_at.ensures.back ∙ take-append-drop n rest in (
      was.0 ++ piece,
      append_assoc was.0 piece c.split_at.result.1.now ∙ ap (λ y. was.0 ++ y) whole ∙ was.1,
      subst (Took c.absorb.new.self) (append_assoc bytes was.0 piece) (c.absorb.ensures (bytes ++ was.0) was.2),
    )
