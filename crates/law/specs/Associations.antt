-- What a key, a master and a connection are, and how their secrets are made.
use Rattle.std.specs.Prelude.{ℕ, ◌+◌, ◌/◌, ◌%◌, Bool, cond, List, ◌++◌, take, drop, Some, None, Option, ◌==◌, slice_index_or}
use Rattle.sealing.specs.declared.suite.Cipher.{Cipher}
use Rattle.sealing.specs.declared.suite.Cipher.TheVariants.{TwoKey, ThreeKey, Aes}
use Rattle.sealing.specs.declared.suite.Mechanism.{Mechanism}
use Rattle.sealing.specs.declared.suite.Mechanism.TheVariants.{Crc32, Cmac}
use Rattle.sealing.specs.declared.suite.Suite.{Suite}
use Rattle.byte_lists.specs.Bytes.{Block}
use Rattle.hmac.specs.Expansion as first
use Rattle.personalise.specs.Load.{Lines}

-- A key: what its text says, and how many masters it has yielded.
pub record Key : Type 0 where
  pub says : Lines
  pub count : ℕ

-- A master: its identifier MSA_ID, its secret MS, the row of the key that it rests on, and how many connections it has yielded.
pub record Master : Type 0 where
  pub id : List ℕ
  pub secret : List ℕ
  pub key : ℕ
  pub count : ℕ

abbrev pub new_key : Lines → Key
new_key l = record { says = l; count = 0 }

abbrev pub one_more_master : Key → Key
one_more_master k = record { says = k.says; count = k.count + 1 }

abbrev pub one_more_connection : Master → Master
one_more_connection m = record { id = m.id; secret = m.secret; key = m.key; count = m.count + 1 }

-- The limits that a key's text sets for what rests on the key: each master's connections, each connection's commands.
abbrev pub connections_of : Option Key → ℕ
connections_of None = 0
connections_of (Some k) = k.says.connections

abbrev pub transactions_of : Option Key → ℕ
transactions_of None = 0
transactions_of (Some k) = k.says.transactions

abbrev pub key_row : Option Master → ℕ
key_row None = 0
key_row (Some m) = m.key

-- The limit of a master's connections, and that of the commands of a connection that rests on the master of a row.
abbrev pub connections_limit : List (Option Key) → Master → ℕ
connections_limit ks m = connections_of (slice_index_or ks m.key None)

abbrev pub transactions_limit : List (Option Key) → List (Option Master) → ℕ → ℕ
transactions_limit ks ms row = transactions_of (slice_index_or ks (key_row (slice_index_or ms row None)) None)

-- The identifier (MSA_ID or CSA_ID) and the nonce (Unonce) that 32 random bytes make.
abbrev pub id_of : List ℕ → List ℕ
id_of random = take 16 random

abbrev pub nonce_of : List ℕ → List ℕ
nonce_of random = take 16 (drop 16 random)

-- Whether the bit of this weight is set.
abbrev pub bit : ℕ → ℕ → Bool
bit weight x = (x / weight) % 2 == 1

-- The highest common bit names the cipher, and the mechanism. Bits that the card does not have are passed over.
abbrev pub common_cipher : ℕ → Option Cipher
common_cipher x = cond (bit 4 x) (Some Aes) (cond (bit 2 x) (Some ThreeKey) (cond (bit 1 x) (Some TwoKey) None))

abbrev pub common_mechanism : ℕ → Option Mechanism
common_mechanism x = cond (bit 4 x) (Some Cmac) (cond (bit 1 x) (Some Crc32) None)

abbrev pub suite_of : Option Cipher → Option Mechanism → Option Suite
suite_of (Some c) (Some m) = Some (record { cipher = c; mechanism = m })
suite_of (Some c) None = None
suite_of None m = None

-- The suite of a terminal's ciphers (TSCA) and mechanisms (TSIM), where both sides have one in common.
abbrev pub common : ℕ → ℕ → Option Suite
common tsca tsim = suite_of (common_cipher tsca) (common_mechanism tsim)

-- What gives MACs and key material: HMAC-SHA-256, and its expansion of a key and a seed into 64 bytes.
pub record Hashing : Type 0 where
  pub hmac : List ℕ → List ℕ → List ℕ
  pub expanded : List ℕ → List ℕ → List ℕ

-- 64 bytes come of every key and seed.
abbrev pub Sized : Hashing → Type 0
Sized 𝓗 = (k s : List ℕ) → Block 64 (𝓗.expanded k s)

module _ (𝓗 : Hashing) where
  -- A MAC is the first 16 bytes.
  abbrev pub mac_of : List ℕ → List ℕ → List ℕ
  mac_of k m = take 16 (𝓗.hmac k m)

  -- What a connection's keys are cut from: the master's secret, expanded with Unonce, then Tnonce.
  abbrev pub material : Master → List ℕ → List ℕ → List ℕ
  material m random tnonce = 𝓗.expanded m.secret (nonce_of random ++ tnonce)

  -- K_MAC is the first 16 bytes, the sealer's keys the next 40.
  abbrev pub mac_key : Master → List ℕ → List ℕ → List ℕ
  mac_key m random tnonce = first.mac_key (material m random tnonce)

  abbrev pub sealer_keys : Master → List ℕ → List ℕ → List ℕ
  sealer_keys m random tnonce = first.sealer_keys (material m random tnonce)

  -- A new master under the key k of a row: MS = HMAC(key, MSA_ID).
  abbrev pub new_master : List ℕ → ℕ → Key → Master
  new_master random row k = record { id = id_of random; secret = 𝓗.hmac k.says.secret (id_of random); key = row; count = 0 }
