-- The MACs of the protocol, and what each is over.
use Rattle.std.specs.Prelude.{ℕ, List, [], ◌∷◌, ◌++◌, take}
use Rattle.hmac.specs.Hmac.{hmac}
use Rattle.hmac.specs.Expansion.{expanded}
use Rattle.replies.specs.declared.reply.ConnectionReply.{ConnectionReply}
use Rattle.terminal.specs.declared.offer.Offer.{Offer}

-- A MAC is the first 16 bytes of HMAC-SHA-256.
abbrev pub mac_of : List ℕ → List ℕ → List ℕ
mac_of key message = take 16 (hmac key message)

-- What the keys of a connection are cut from: the master's secret, expanded with the card's nonce, then the terminal's.
abbrev pub material : List ℕ → List ℕ → List ℕ → List ℕ
material secret unonce tnonce = expanded secret (unonce ++ tnonce)

-- All that both sides said of a connection: the master's identifier and what the terminal offered, then what the card replied.
abbrev pub agreement : List ℕ → Offer → ConnectionReply → List ℕ
agreement master o r =
    master ++ (o.nonce ++ (o.ciphers ∷ o.mechanisms ∷ (r.id ++ (r.nonce ++ (r.cipher ∷ r.mechanism ∷ [])))))
