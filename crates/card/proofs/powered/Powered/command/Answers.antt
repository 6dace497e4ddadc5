use Rattle.std.proofs.Common.{◌≡◌, ℕ, not, ◌||◌, eqb, ltb, List, length, Err, Result, sym, ap, ◌∙◌, rules}
use Rattle.tables.proofs.Kept.{all_kept}
use Rattle.manage.specs.View.{core_of}
use Rattle.law.specs.Hashes.{keyed}
use Rattle.law.specs.Calls.{refused_host, replied}
use Rattle.law.specs.Request.{request}
use Rattle.law.specs.Step.{carries, done, requests}
use Rattle.card.specs.Refusals.{host_number}
use Rattle.card.specs.View.{on_state, outcome, answered}
use Rattle.card.specs.declared.refusal.HostRefusal.{HostRefusal}
use Rattle.card.proofs.Hosts.{host_refused, host_taken, front, behind, inside}
use Rattle.card.proofs.powered.Powered.command.Goals as goal

pub returns-in_err-random-clause-said : goal.returns-in_err-random-clause-said
returns-in_err-random-clause-said g c =
    let p = c.args.self.now.parts in
    let st = on_state g.A.Application.contents c.args.self.now in
    let e = c.in_err-random.field-0.0 in
    let is : c.from_residual.result ≡ Err e = search rules in
    ap (carries g.S.Sealer.seals g.A.Application.acts st)
    (host_refused keyed g.S.Sealer.seals (core_of p.core) c.args.apdu.now c.args.random.now (ltb (length c.args.reply.now) 258 || ltb (length c.args.work.now) 64)
    (not (eqb (length c.args.random.now) 32)) e c.in_err-random.ensures.refusal)
    ∙ ap (λ (zs : List (List ℕ)). done (core_of p.core) zs (g.A.Application.contents p.application) (refused_host (host_number e))) (sym (all_kept p.core.tables.connections))
    ∙ ap (λ (r : Result ℕ HostRefusal). outcome st (answered r c.args.reply.now)) (sym is)

pub returns : goal.returns
returns g c =
    let d = c.args.self.now.parts.core in
    let st = on_state g.A.Application.contents c.args.self.now in
    let a = c.answer_guarded.ensures.said in
    let lent = c.args.reply.now in
    let written = c.answer_guarded.new.reply in
    record {
      said =
          ap (carries g.S.Sealer.seals g.A.Application.acts st)
          (host_taken keyed g.S.Sealer.seals (core_of d) c.args.apdu.now c.args.random.now (ltb (length c.args.reply.now) 258 || ltb (length c.args.work.now) 64)
          (not (eqb (length c.args.random.now) 32)) c.in_ok-random.ensures.refusal)
          ∙ ap (λ (r : List ℕ). carries g.S.Sealer.seals g.A.Application.acts st (requests keyed g.S.Sealer.seals (core_of d) c.args.apdu.now r (request c.args.apdu.now))) (sym c.in_ok-random.ensures.fits.2)
          ∙ a.is
          ∙ ap (λ (r : List ℕ). outcome (on_state g.A.Application.contents c.answer_guarded.new.self) (replied r)) (sym (front a.reply lent written c.answer_guarded.result a.len a.bytes));
      memory = record {
        inside = inside a.reply lent written c.answer_guarded.result a.len a.bytes c.answer_guarded.auto.reply;
        behind = behind a.reply lent written c.answer_guarded.result a.len a.bytes;
        size = c.answer_guarded.auto.reply;
        wiped = c.answer_guarded.ensures.wiped;
      };
      refused = c.in_ok-random.ensures.refusal;
    }
