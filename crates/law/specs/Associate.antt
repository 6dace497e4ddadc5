-- Associating: the checks in their order, what is entered or leaves, and the reply.
use Rattle.std.specs.Prelude.{ℕ, ◌*◌, Bool, true, false, cond, not, ◌||◌, List, [], ◌∷◌, ◌++◌, Some, None, Option, nat_le, slice_set}
use Rattle.sealing.specs.declared.suite.Suite.{Suite}
use Rattle.sealing.specs.Suites.{cipher_byte, mechanism_byte}
use Rattle.apdu.specs.declared.status.Status.{Status}
use Rattle.apdu.specs.declared.status.Status.TheVariants.{NotPossible, NotNow, WrongData, NoRoom, NoSuchIdentifier}
use Rattle.replies.specs.Reply.{reply_object}
use Rattle.replies.specs.declared.reply.Reply.TheVariants as reply
use Rattle.objects.specs.Asked.{Asked, layout, ask_master, ask_connection, ask_start, end_master, end_connection}
use Rattle.law.specs.Rows.{same_bytes, At, found, full, free, is_some}
use Rattle.law.specs.Associations.{Hashing, Key, Master, one_more_master, one_more_connection, connections_limit, id_of, nonce_of, bit, common, mac_of, mac_key, sealer_keys, new_master}
use Rattle.law.specs.Tables.{Session, unstarted, started, idle, Connection, Tables, put_connection, with_session, without_connection, without_master, without_key}

abbrev pub has_ref : List ℕ → Key → Bool
has_ref r k = same_bytes k.says.ref r

abbrev pub has_msa : List ℕ → Master → Bool
has_msa i m = same_bytes m.id i

abbrev pub has_csa : List ℕ → Connection → Bool
has_csa i c = same_bytes c.id i

abbrev pub is_started : Session → Bool
is_started unstarted = false
is_started (started n t) = true

-- Why an object is refused without more, and the status word of each.
pub data Refusal : Type 0 where
  bad_layout : Refusal
  unknown : Refusal
  no_row : Refusal
  not_possible : Refusal
  already_started : Refusal

abbrev pub refusal_status : Refusal → Status
refusal_status bad_layout = WrongData
refusal_status unknown = NoSuchIdentifier
refusal_status no_row = NoRoom
refusal_status not_possible = NotPossible
refusal_status already_started = NotNow

-- What the checks say: refused, a wrong MAC, beyond a limit, or granted.
pub data Verdict : Type 0 where
  refused : Refusal → Verdict
  wrong_mac : Verdict
  spent : Verdict
  granted : Verdict

-- What stands in the smallest free row from now on.
abbrev pub taken : {X : Type 0} → List (Option X) → X → List (Option X)
taken rows x = slice_set rows (free rows) (Some x)

-- A row is free (else 6A 84), and the identifier is not in use in the table (else 64 00).
abbrev pub has_room : {X : Type 0} → List (Option X) → Option (At X) → Verdict
has_room rows used = cond (full rows) (refused no_row) (cond (is_some used) (refused not_possible) granted)

-- Master: ref, mechanism (bit 1 asked for, key not weak), limit, row, identifier.
abbrev pub master_verdict : Tables → List ℕ → ℕ → Option (At Key) → Verdict
master_verdict t random mechanisms None = refused not_possible
master_verdict t random mechanisms (Some k) =
    cond (not (bit 1 mechanisms) || k.item.says.weak) (refused not_possible)
    (cond (nat_le k.item.says.masters k.item.count) spent
    (has_room t.masters (found (has_msa (id_of random)) t.masters)))

-- Connection: MSA_ID, common cipher and mechanism, limit, row, identifier.
abbrev pub suite_verdict : Tables → List ℕ → At Master → Option Suite → Verdict
suite_verdict t random m None = refused not_possible
suite_verdict t random m (Some u) =
    cond (nat_le (connections_limit t.keys m.item) m.item.count) spent
    (has_room t.connections (found (has_csa (id_of random)) t.connections))

abbrev pub connection_verdict : Tables → List ℕ → Option Suite → Option (At Master) → Verdict
connection_verdict t random u None = refused unknown
connection_verdict t random u (Some m) = suite_verdict t random m u

-- A session starts idle, with no block.
abbrev pub enter_session : Tables → ℕ → Option (At Connection) → Tables
enter_session t size None = t
enter_session t size (Some c) = put_connection t c.row (with_session c.item c.item.count (started size idle))

abbrev pub remove_key : Tables → Option (At Key) → Tables
remove_key t None = t
remove_key t (Some k) = without_key t k.row

abbrev pub remove_master : Tables → Option (At Master) → Tables
remove_master t None = t
remove_master t (Some m) = without_master t m.row

abbrev pub remove_connection : Tables → Option (At Connection) → Tables
remove_connection t None = t
remove_connection t (Some c) = without_connection t c.row

-- Asked for more than its limit lets, a key or a master is removed with all that rests on it.
abbrev pub exhausted : Tables → Asked → Tables
exhausted t layout = t
exhausted t (ask_master ref mechanisms) = remove_key t (found (has_ref ref) t.keys)
exhausted t (ask_connection msa tnonce tsca tsim) = remove_master t (found (has_msa msa) t.masters)
exhausted t (ask_start csa size mac) = t
exhausted t (end_master id mac) = t
exhausted t (end_connection id mac) = t

-- The session byte: row × 64.
abbrev pub session_reply : Option (At Connection) → List ℕ
session_reply None = []
session_reply (Some c) = reply_object (reply.Session (c.row * 64))

module _ (𝓗 : Hashing) where
  -- A MAC as it must be.
  abbrev pub right_mac : List ℕ → List ℕ → List ℕ → Verdict
  right_mac key message mac = cond (same_bytes (mac_of 𝓗 key message) mac) granted wrong_mac

  -- Start: CSA_ID, already started, MAC over the identifier and the container's size.
  abbrev pub start_verdict : List ℕ → ℕ → List ℕ → Option (At Connection) → Verdict
  start_verdict csa size mac None = refused unknown
  start_verdict csa size mac (Some c) = cond (is_started c.item.session) (refused already_started) (right_mac c.item.mac (csa ++ size ∷ []) mac)

  -- Terminate: an unknown identifier has nothing to end; else the MAC over the identifier.
  abbrev pub end_master_verdict : List ℕ → Option (At Master) → Verdict
  end_master_verdict mac None = granted
  end_master_verdict mac (Some m) = right_mac m.item.secret m.item.id mac

  abbrev pub end_connection_verdict : List ℕ → Option (At Connection) → Verdict
  end_connection_verdict mac None = granted
  end_connection_verdict mac (Some c) = right_mac c.item.mac c.item.id mac

  -- What the checks say of a whole object, the layout first.
  abbrev pub verdict : Tables → List ℕ → Asked → Verdict
  verdict t random layout = refused bad_layout
  verdict t random (ask_master ref mechanisms) = master_verdict t random mechanisms (found (has_ref ref) t.keys)
  verdict t random (ask_connection msa tnonce tsca tsim) = connection_verdict t random (common tsca tsim) (found (has_msa msa) t.masters)
  verdict t random (ask_start csa size mac) = start_verdict csa size mac (found (has_csa csa) t.connections)
  verdict t random (end_master id mac) = end_master_verdict mac (found (has_msa id) t.masters)
  verdict t random (end_connection id mac) = end_connection_verdict mac (found (has_csa id) t.connections)

  -- A new connection is not started.
  abbrev pub new_connection : List ℕ → List ℕ → Suite → At Master → Connection
  new_connection random tnonce u m = record {
    id = id_of random;
    master = m.row;
    suite = u;
    mac = mac_key 𝓗 m.item random tnonce;
    keys = sealer_keys 𝓗 m.item random tnonce;
    count = 0;
    session = unstarted;
  }

  -- Entering: a master counts at its key, a connection at its master, and each takes the smallest free row.
  abbrev pub enter_master : Tables → List ℕ → Option (At Key) → Tables
  enter_master t random None = t
  enter_master t random (Some k) = record {
    keys = slice_set t.keys k.row (Some (one_more_master k.item));
    masters = taken t.masters (new_master 𝓗 random k.row k.item);
    connections = t.connections;
  }

  abbrev pub enter_with : Tables → List ℕ → List ℕ → At Master → Option Suite → Tables
  enter_with t random tnonce m None = t
  enter_with t random tnonce m (Some u) = record {
    keys = t.keys;
    masters = slice_set t.masters m.row (Some (one_more_connection m.item));
    connections = taken t.connections (new_connection random tnonce u m);
  }

  abbrev pub enter_connection : Tables → List ℕ → List ℕ → Option Suite → Option (At Master) → Tables
  enter_connection t random tnonce u None = t
  enter_connection t random tnonce u (Some m) = enter_with t random tnonce m u

  -- What a granted object makes of the tables.
  abbrev pub established : Tables → List ℕ → Asked → Tables
  established t random layout = t
  established t random (ask_master ref mechanisms) = enter_master t random (found (has_ref ref) t.keys)
  established t random (ask_connection msa tnonce tsca tsim) = enter_connection t random tnonce (common tsca tsim) (found (has_msa msa) t.masters)
  established t random (ask_start csa size mac) = enter_session t size (found (has_csa csa) t.connections)
  established t random (end_master id mac) = remove_master t (found (has_msa id) t.masters)
  established t random (end_connection id mac) = remove_connection t (found (has_csa id) t.connections)

  -- CSA_ID, Unonce, cipher, mechanism, and CSAMAC over all that both sides said.
  abbrev pub suite_reply : List ℕ → List ℕ → List ℕ → ℕ → ℕ → At Master → Option Suite → List ℕ
  suite_reply random msa tnonce tsca tsim m None = []
  suite_reply random msa tnonce tsca tsim m (Some u) =
      let uca : ℕ = cipher_byte u.cipher in
      let uim : ℕ = mechanism_byte u.mechanism in
      let mac : List ℕ = mac_of 𝓗 (mac_key 𝓗 m.item random tnonce) (msa ++ tnonce ++ tsca ∷ tsim ∷ id_of random ++ nonce_of random ++ uca ∷ uim ∷ []) in
      reply_object (reply.Connection (record { id = id_of random; nonce = nonce_of random; cipher = uca; mechanism = uim; mac = mac }))

  abbrev pub connection_reply : List ℕ → List ℕ → List ℕ → ℕ → ℕ → Option Suite → Option (At Master) → List ℕ
  connection_reply random msa tnonce tsca tsim u None = []
  connection_reply random msa tnonce tsca tsim u (Some m) = suite_reply random msa tnonce tsca tsim m u

  -- The reply that then waits. A master's has its MSA_ID.
  abbrev pub reply_to : Tables → List ℕ → Asked → List ℕ
  reply_to t random layout = []
  reply_to t random (ask_master ref mechanisms) = reply_object (reply.Master (record { id = id_of random }))
  reply_to t random (ask_connection msa tnonce tsca tsim) = connection_reply random msa tnonce tsca tsim (common tsca tsim) (found (has_msa msa) t.masters)
  reply_to t random (ask_start csa size mac) = session_reply (found (has_csa csa) t.connections)
  reply_to t random (end_master id mac) = []
  reply_to t random (end_connection id mac) = []
