use Rattle.law.proofs.Stand.{stands}
use Rattle.law.proofs.law_stands.Goals as goal

pub returns : goal.returns
returns g c = λ 𝓗 digests l r cs. stands 𝓗 digests g.S.Sealer.seals g.met.S.Sealer.faithful g.L.Application.acts g.R.Application.acts g.met.L.Application.bounded g.met.R.Application.bounded l r cs
