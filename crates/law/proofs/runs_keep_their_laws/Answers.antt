use Rattle.law.proofs.Again.{sent_again_runs_nothing}
use Rattle.law.proofs.Empty.{new_connections_begin_empty}
use Rattle.law.proofs.Named.{sessions_are_named_by_row}
use Rattle.law.proofs.Power.{power_keeps_counts}
use Rattle.law.proofs.runs_keep_their_laws.Goals as goal

pub returns : goal.returns
returns g c = record {
  again = λ 𝓗. sent_again_runs_nothing 𝓗 g.S.Sealer.seals g.A.Application.acts;
  named = λ 𝓗. sessions_are_named_by_row 𝓗 g.S.Sealer.seals g.A.Application.acts;
  empty = λ 𝓗. new_connections_begin_empty 𝓗 g.S.Sealer.seals g.A.Application.acts;
  power = λ 𝓗. power_keeps_counts 𝓗 g.S.Sealer.seals g.A.Application.acts;
}
