use Rattle.sealing.specs.declared.suite.Cipher.TheVariants.{TwoKey, ThreeKey}
use Rattle.sealer.proofs.Suites.{sealed_by}
use Rattle.sealer.proofs.real.RealSealerSealer.seal.Goals as goal

pub returns-in-TwoKey : goal.returns-in-TwoKey
returns-in-TwoKey c = sealed_by c.args.suite TwoKey c.in-TwoKey.is c.args.keys.now _ _ _ _ _ c.two_key.ensures.encrypts c.seal_by.ensures

pub returns-in-ThreeKey : goal.returns-in-ThreeKey
returns-in-ThreeKey c = sealed_by c.args.suite ThreeKey c.in-ThreeKey.is c.args.keys.now _ _ _ _ _ c.three_key.ensures.encrypts c.seal_by-in-ThreeKey.ensures
