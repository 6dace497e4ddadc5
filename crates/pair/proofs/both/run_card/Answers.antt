use Rattle.std.proofs.Common.{◌≡◌, [], ◌∷◌, ◌++◌, vec_items, rules}
use Rattle.pair.specs.View.{state_of}
use Rattle.pair.proofs.Following.{goes_on, followed}
use Rattle.pair.proofs.both.run_card.Goals as goal

pub loop-call-preserved : goal.loop-call-preserved
loop-call-preserved g c =
    let 𝓐 = g.A.Application in
    let ds = vec_items c.loop-call.dones in
    let d = c.in_ok-next.done in
    let pushed : vec_items c.push.new.self ≡ ds ++ (d ∷ []) = search rules in
    rw pushed
    (goes_on g.S.Sealer.seals 𝓐.acts c.args.host.fill (state_of 𝓐.contents c.args.card) c.args.calls.now c.loop-call.call-index ds
    (state_of 𝓐.contents c.loop-call.card) (state_of 𝓐.contents c.in_ok-next.next) _ d
    c.loop-call-test.true c.in_ok-next.ensures.said c.in_ok-next.ensures.memory c.loop-call.invariant)

pub returns : goal.returns
returns g c =
    let 𝓐 = g.A.Application in
    followed g.S.Sealer.seals 𝓐.acts c.args.host.fill (state_of 𝓐.contents c.args.card) c.args.calls.now c.loop-call.call-index (vec_items c.loop-call.dones)
    (state_of 𝓐.contents c.loop-call.card) c.loop-call-test.false c.loop-call.invariant
