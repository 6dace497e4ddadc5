-- Which objects are replies.
use Rattle.std.specs.Prelude.{◌≡◌, ℕ, List, length}
use Rattle.replies.specs.declared.reply.MasterReply.{MasterReply}
use Rattle.replies.specs.declared.reply.ConnectionReply.{ConnectionReply}
use Rattle.replies.specs.declared.reply.Reply.TheVariants.{Master, Connection, Session}
use Rattle.replies.specs.Reply.{reply_object}

-- The object is the reply of a new master, of a new connection, of a started session.
pub record IsMaster (bs : List ℕ) (m : MasterReply) : Type 0 where
  pub id : length m.id ≡ 16
  pub written : bs ≡ reply_object (Master m)

pub record IsConnection (bs : List ℕ) (c : ConnectionReply) : Type 0 where
  pub id : length c.id ≡ 16
  pub nonce : length c.nonce ≡ 16
  pub mac : length c.mac ≡ 16
  pub written : bs ≡ reply_object (Connection c)

pub record IsSession (bs : List ℕ) (s : ℕ) : Type 0 where
  pub written : bs ≡ reply_object (Session s)
