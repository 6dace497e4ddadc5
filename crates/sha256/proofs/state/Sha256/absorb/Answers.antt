use Rattle.std.proofs.Common.{◌≡◌, ℕ, ◌+◌, ◌-◌, ◌%◌, length, refl, arith, rules}
use Rattle.sha256.proofs.Taking.{counted_more, goes_on}
use Rattle.sha256.proofs.state.Sha256.absorb.Goals as goal

pub returns : goal.returns
returns c bytes t =
    let s = c.args.self.now in
    let piece = c.args.piece.now in
    let h : ℕ = s.count % 64 in
    let counted = t.counted in
    let eh : h ≡ length bytes % 64 = omega arith in
    let on = goes_on bytes piece s.block c.copy_from_slice.new.self s.chain c.settled-self.result h (h + length piece - h) eh c.requires (search rules) (omega arith) c.copy_from_slice.ensures.after (t.chained, t.held) c.settled-self.ensures in
    record { counted = counted_more bytes piece s.count _ (length piece) counted refl refl; chained = on.0; held = on.1 }
