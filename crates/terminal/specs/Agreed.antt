-- What a terminal and a card agree on when they make a connection.
use Rattle.std.specs.Prelude.{◌≡◌, ℕ}
use Rattle.hmac.specs.Expansion.{mac_key, sealer_keys}
use Rattle.sealing.specs.declared.suite.Suite.{Suite}
use Rattle.sealing.specs.Suites.{cipher_byte, mechanism_byte}
use Rattle.replies.specs.declared.reply.ConnectionReply.{ConnectionReply}
use Rattle.terminal.specs.declared.offer.Offer.{Offer}
use Rattle.terminal.specs.declared.master.Master.{Master}
use Rattle.terminal.specs.declared.connection.Connection.{Connection}
use Rattle.terminal.specs.Macs.{mac_of, material, agreement}

-- The suite that these two bytes name.
pub record Named (s : Suite) (c m : ℕ) : Type 0 where
  pub cipher : cipher_byte s.cipher ≡ c
  pub mechanism : mechanism_byte s.mechanism ≡ m

-- The reply to an offer made under a master is authentic, and the connection is the one that it tells of, not used yet.
pub record Agreed (m : Master) (o : Offer) (r : ConnectionReply) (c : Connection) : Type 0 where
  pub id : c.id ≡ r.id
  pub suite : Named c.suite r.cipher r.mechanism
  pub macs : c.secrets.mac ≡ mac_key (material m.secret r.nonce o.nonce)
  pub keys : c.secrets.keys ≡ sealer_keys (material m.secret r.nonce o.nonce)
  pub authentic : r.mac ≡ mac_of c.secrets.mac (agreement m.id o r)
  pub unused : c.count ≡ 0

-- No suite is named, and no connection agreed on.
abbrev pub Unnamed : ℕ → ℕ → Type 0
Unnamed c m = (s : Suite) → Named s c m → ⊥

abbrev pub Unagreed : Master → Offer → ConnectionReply → Type 0
Unagreed m o r = (c : Connection) → Agreed m o r c → ⊥
