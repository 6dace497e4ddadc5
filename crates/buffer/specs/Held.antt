-- What a store holds.
use Rattle.std.specs.Prelude.{ℕ, List, take}
use Rattle.buffer.specs.declared.Store.{Store}

-- The bytes in use; those behind them are free.
abbrev pub held : {n : ℕ} → Store n → List ℕ
held b = take b.len b.bytes
