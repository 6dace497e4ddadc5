use Rattle.std.proofs.Common.{◌≡◌, MatchOption, get_or, take, drop, ap, sym, ◌∙◌, subst, rules}
use Rattle.replies.specs.Reply.{reply_object}
use Rattle.replies.specs.declared.reply.ConnectionReply.{ConnectionReply}
use Rattle.replies.specs.declared.reply.Reply.TheVariants.{Connection}
use Rattle.terminal.specs.Heard.{IsConnection}
use Rattle.terminal.proofs.Fields.{read_where, cut_connection, connection_cut}
use Rattle.terminal.proofs.heard.read_connection.Goals as goal

pub returns : goal.returns
returns c =
    let bs = c.in_ok-object.object.now in
    let whole : bs ≡ c.args.object.now = search rules in
    let id : c.unwrap.result.now ≡ take 16 (drop 4 bs) = search rules in
    let nonce : c.unwrap-2.result.now ≡ take 16 (drop 22 bs) = search rules in
    let mac : c.unwrap-3.result.now ≡ take 16 (drop 46 bs) = search rules in
    let reply : ConnectionReply = record { id = c.unwrap.result.now; nonce = c.unwrap-2.result.now; cipher = get_or bs 40 0; mechanism = get_or bs 43 0; mac = c.unwrap-3.result.now } in
    let cut : cut_connection bs ≡ reply = λ i. record { id = sym id i; nonce = sym nonce i; cipher = get_or bs 40 0; mechanism = get_or bs 43 0; mac = sym mac i } in
    let is : bs ≡ reply_object (Connection reply) → IsConnection bs reply = λ e. record { id = search rules; nonce = search rules; mac = search rules; written = e } in
    let written = λ (r : ConnectionReply) (h : IsConnection bs r). connection_cut bs r h ∙ ap (λ q. reply_object (Connection q)) cut in
    subst (λ xs. MatchOption c.then_some.result ((r : ConnectionReply) → IsConnection xs r → ⊥) (IsConnection xs)) whole
    (read_where c.then_some.result c.is_reply.result reply (IsConnection bs) c.then_some.ensures (λ e. is (c.is_reply.ensures.0 e)) (λ r h. c.is_reply.ensures.1 (written r h)))
