use Rattle.std.proofs.Common.{◌≡◌, MatchOption, take, drop, ap, sym, ◌∙◌, subst, rules}
use Rattle.replies.specs.Reply.{reply_object}
use Rattle.replies.specs.declared.reply.MasterReply.{MasterReply}
use Rattle.replies.specs.declared.reply.Reply.TheVariants.{Master}
use Rattle.terminal.specs.Heard.{IsMaster}
use Rattle.terminal.proofs.Fields.{read_where, master_cut}
use Rattle.terminal.proofs.heard.read_master.Goals as goal

pub returns : goal.returns
returns c =
    let bs = c.in_ok-object.object.now in
    let whole : bs ≡ c.args.object.now = search rules in
    let id : c.unwrap.result.now ≡ take 16 (drop 4 bs) = search rules in
    let reply : MasterReply = record { id = c.unwrap.result.now } in
    let is : bs ≡ reply_object (Master reply) → IsMaster bs reply = λ e. record { id = search rules; written = e } in
    let written = λ (m : MasterReply) (h : IsMaster bs m). master_cut bs m h ∙ ap (λ i. reply_object (Master (record { id = i }))) (sym id) in
    subst (λ xs. MatchOption c.then_some.result ((m : MasterReply) → IsMaster xs m → ⊥) (IsMaster xs)) whole
    (read_where c.then_some.result c.is_reply.result reply (IsMaster bs) c.then_some.ensures (λ e. is (c.is_reply.ensures.0 e)) (λ m h. c.is_reply.ensures.1 (written m h)))
