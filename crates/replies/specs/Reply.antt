-- What the card replies: one object, with the values inside.
use Rattle.std.specs.Prelude.{ℕ, Bool, true, false, List, [], ◌∷◌, ◌++◌, length}
use Rattle.replies.specs.declared.reply.DiscoveryReply.{DiscoveryReply}
use Rattle.replies.specs.declared.reply.MasterReply.{MasterReply}
use Rattle.replies.specs.declared.reply.ConnectionReply.{ConnectionReply}
use Rattle.replies.specs.declared.reply.Reply.{Reply}
use Rattle.replies.specs.declared.reply.Reply.TheVariants.{Discovery, Master, Connection, Session}

-- Tag, length byte, value.
abbrev pub tagged : ℕ → List ℕ → List ℕ
tagged t v = t ∷ length v ∷ v

abbrev flag : Bool → ℕ
flag true = 1
flag false = 0

-- The card's endpoint FF; whether the channel is required; how many failures there were.
abbrev pub discovery_objects : DiscoveryReply → List ℕ
discovery_objects d = tagged 0x91 (0xFF ∷ []) ++ tagged 0x92 (flag d.required ∷ []) ++ tagged 0x8F (d.failures ∷ [])

-- The identifier, and the key mechanism 01, the only one.
abbrev pub master_objects : MasterReply → List ℕ
master_objects m = tagged 0x83 m.id ++ tagged 0x84 (1 ∷ [])

-- The identifier, the card's nonce, the cipher and the mechanism that it chose, and the MAC.
abbrev pub connection_objects : ConnectionReply → List ℕ
connection_objects c =
    tagged 0x88 c.id ++ tagged 0x89 c.nonce ++ tagged 0x8A (c.cipher ∷ []) ++ tagged 0x8B (c.mechanism ∷ []) ++ tagged 0x8C c.mac

-- The objects of each reply; a started session has its byte alone.
abbrev pub inside : Reply → List ℕ
inside (Discovery d) = discovery_objects d
inside (Master m) = master_objects m
inside (Connection c) = connection_objects c
inside (Session s) = tagged 0x53 (s ∷ [])

-- The reply as one object.
abbrev pub reply_object : Reply → List ℕ
reply_object r = tagged 0x73 (inside r)
