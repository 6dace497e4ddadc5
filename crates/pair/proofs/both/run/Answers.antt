use Rattle.std.proofs.Common.{vec_items}
use Rattle.pair.specs.Followed.{Followed, LawfulRun}
use Rattle.pair.specs.View.{state_of}
use Rattle.pair.proofs.Continued.{made_both, lawful}
use Rattle.pair.proofs.both.run.Goals as goal

pub returns : goal.returns
returns g c =
    let 𝓢 = g.S.Sealer.seals in
    let 𝓛 = g.L.Application in
    let 𝓡 = g.R.Application in
    let cs = c.args.calls.now in
    let fill = c.args.fill in
    let s = state_of 𝓛.contents c.args.pair.left in
    let t = state_of 𝓡.contents c.args.pair.right in
    record {
      left = c.run_both.ensures.left;
      right = c.run_both.ensures.right;
      law = made_both
          (λ ran. Followed 𝓢 𝓛.acts fill s cs (vec_items ran.left) (state_of 𝓛.contents ran.pair.left))
          (λ ran. Followed 𝓢 𝓡.acts fill t cs (vec_items ran.right) (state_of 𝓡.contents ran.pair.right))
          (λ ran. LawfulRun 𝓢 𝓛.acts 𝓡.acts s t cs (vec_items ran.left) (vec_items ran.right) (state_of 𝓛.contents ran.pair.left) (state_of 𝓡.contents ran.pair.right))
          c.run_both.result
          (λ ran left right.
          lawful 𝓢 g.met.S.Sealer.faithful 𝓛.acts 𝓡.acts g.met.L.Application.bounded g.met.R.Application.bounded fill s t cs
          (vec_items ran.left) (vec_items ran.right) (state_of 𝓛.contents ran.pair.left) (state_of 𝓡.contents ran.pair.right) left right)
          c.run_both.ensures.left c.run_both.ensures.right;
    }
