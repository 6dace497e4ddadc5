-- A new connection, and what both sides have said when it is established.
use Rattle.std.specs.Prelude.{ℕ, List, [], ◌∷◌, ◌++◌}
use Rattle.sealing.specs.declared.suite.Suite.{Suite}
use Rattle.sealing.specs.Suites.{cipher_byte, mechanism_byte}
use Rattle.objects.specs.declared.request.ConnectionRequest.{ConnectionRequest}
use Rattle.replies.specs.declared.reply.Reply.{Reply}
use Rattle.replies.specs.declared.reply.Reply.TheVariants as reply
use Rattle.law.specs.Associations.{id_of, nonce_of, mac_of}
use Rattle.law.specs.Hashes.{keyed}
use Rattle.law.specs.Tables.{Connection, unstarted}
use Rattle.hmac.specs.Expansion.{mac_key, sealer_keys}

-- MSA_ID ‖ Tnonce ‖ TSCA ‖ TSIM ‖ CSA_ID ‖ Unonce ‖ UCA ‖ UIM
abbrev pub said : ConnectionRequest → List ℕ → Suite → List ℕ
said q random u =
    q.master.now ++ q.nonce.now ++ q.ciphers ∷ q.mechanisms ∷ id_of random ++ nonce_of random ++ cipher_byte u.cipher ∷ mechanism_byte u.mechanism ∷ []

-- The reply of a connection with this identifier, suite and key for codes.
abbrev pub confirmed : List ℕ → Suite → List ℕ → ConnectionRequest → List ℕ → Reply
confirmed i u key q random =
    reply.Connection (record { id = i; nonce = nonce_of random; cipher = cipher_byte u.cipher; mechanism = mechanism_byte u.mechanism; mac = mac_of keyed key (said q random u) })

-- A connection that is not started, with its keys cut from the material.
abbrev pub cut : List ℕ → ℕ → Suite → List ℕ → Connection
cut i row u material = record {
  id = i;
  master = row;
  suite = u;
  mac = mac_key material;
  keys = sealer_keys material;
  count = 0;
  session = unstarted;
}
