use Rattle.std.proofs.Common.{◌≡◌, ◌-◌, length}
use Rattle.aes.specs.Cipher.{inv_rounds}
use Rattle.aes.specs.Columns.{state_bytes}
use Rattle.aes.specs.Words.{bytes_of}
use Rattle.aes.proofs.blocks.decrypt_block.Given as goal

abbrev pub invariant-loop-key : goal.invariant-loop-key
invariant-loop-key l = inv_rounds (bytes_of l.keys) (9 - length l.yielded) (state_bytes l.s) ≡ inv_rounds (bytes_of l.keys) 9 (state_bytes l.initial.s)
