use Rattle.std.proofs.Common.{rules}
use Rattle.byte_lists.proofs.Facts.{bytes_of}
use Rattle.sealer.proofs.Suites.{read_is_opened}
use Rattle.sealer.proofs.bench.BenchSealerSealer.open.Goals as goal

pub returns : goal.returns
returns c = read_is_opened c.args.string.now c.args._suite c.args._keys.now c.read_frame.result (bytes_of _ (λ i. search rules)) c.read_frame.ensures
