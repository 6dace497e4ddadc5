use Rattle.std.proofs.Common.{vec_items}
use Rattle.pair.specs.View.{state_of}
use Rattle.pair.proofs.Following.{Following}
use Rattle.pair.proofs.both.run_card.Given as goal

abbrev pub invariant-loop-call : goal.invariant-loop-call
invariant-loop-call g l =
    Following g.S.Sealer.seals g.A.Application.acts l.host.fill (state_of g.A.Application.contents l.initial.card) l.calls l.call-index (vec_items l.dones) (state_of g.A.Application.contents l.card)
