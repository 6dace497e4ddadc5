use Rattle.std.proofs.Common.{◌≡◌, length, replicate, rules}
use Rattle.pair.proofs.Lends.{holds_written, lends}
use Rattle.pair.proofs.one.commanded.Goals as goal

pub returns-clause-memory : goal.returns-clause-memory
returns-clause-memory g c =
    let call = c.args.call in
    let fill = c.args.host.fill in
    let lent = c.deref_mut.result.now in
    let work = c.deref_mut-2.result.now in
    let written = c.command-result.new.reply in
    let after = c.command-result.new.work in
    let filled : lent ≡ replicate call.buffer fill = search rules in
    let cleared : work ≡ replicate call.work fill = search rules in
    let buffer-length : length written ≡ c.in_ok-buffer.buffer.len = search rules in
    let work-length : length after ≡ c.in_ok-work.work.len = search rules in
    lends fill call.buffer call.work c.command-result.result lent written _ work after _
    (holds_written c.in_ok-buffer.buffer.len written c.in_ok-buffer.buffer.items buffer-length)
    (holds_written c.in_ok-work.work.len after c.in_ok-work.work.items work-length) filled cleared c.command-result.ensures.memory
