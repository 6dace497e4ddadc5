use Rattle.sealing.specs.declared.suite.Cipher.TheVariants.{TwoKey, ThreeKey}
use Rattle.sealer.proofs.Suites.{opened_by}
use Rattle.sealer.proofs.real.RealSealerSealer.open.Goals as goal

pub returns-in-TwoKey : goal.returns-in-TwoKey
returns-in-TwoKey c = opened_by c.args.suite TwoKey c.in-TwoKey.is c.args.keys.now _ c.args.string.now c.open_by.new.string c.open_by.result c.two_key.ensures.decrypts c.open_by.ensures

pub returns-in-ThreeKey : goal.returns-in-ThreeKey
returns-in-ThreeKey c = opened_by c.args.suite ThreeKey c.in-ThreeKey.is c.args.keys.now _ c.args.string.now c.open_by-in-ThreeKey.new.string c.open_by-in-ThreeKey.result c.three_key.ensures.decrypts c.open_by-in-ThreeKey.ensures
