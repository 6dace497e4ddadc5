use Rattle.std.proofs.Common.{◌≡◌}
use Rattle.aes.specs.Cipher.{rounds}
use Rattle.aes.specs.Columns.{state_bytes}
use Rattle.aes.specs.Words.{bytes_of}
use Rattle.aes.proofs.blocks.encrypt_block.Given as goal

abbrev pub invariant-loop-key : goal.invariant-loop-key
invariant-loop-key l = state_bytes l.s ≡ rounds (bytes_of l.keys) l.key-index (state_bytes l.initial.s)
