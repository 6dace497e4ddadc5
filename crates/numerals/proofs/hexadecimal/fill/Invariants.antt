use Rattle.std.proofs.Common.{◌≡◌, ◌*◌, take, drop}
use Rattle.numerals.specs.Hexadecimal.{unhex}
use Rattle.numerals.proofs.Pairs.{behind}
use Rattle.numerals.proofs.hexadecimal.fill.Given as goal

abbrev pub invariant-loop-i : goal.invariant-loop-i
invariant-loop-i l = behind (take l.i l.bytes) (unhex (drop (2 * l.i) l.text)) ≡ unhex l.text
