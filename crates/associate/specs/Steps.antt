-- Each command as its checks in their order, each with what follows where it does not pass.
use Rattle.std.specs.Prelude.{ℕ, List, [], ◌∷◌, ◌++◌, Some, None, Ok, Err, Option}
use Rattle.apdu.specs.declared.status.Status.TheVariants.{NotPossible, NotNow, NoRoom, NoSuchIdentifier, NotAuthentic, LimitPassed}
use Rattle.objects.specs.declared.request.Named.{Named}
use Rattle.objects.specs.declared.request.Named.TheVariants as named
use Rattle.replies.specs.Reply.{reply_object}
use Rattle.replies.specs.declared.reply.Reply.TheVariants as reply
use Rattle.law.specs.Rows.{found}
use Rattle.law.specs.Associations.{Hashing, connections_limit, id_of, common, mac_of, new_master}
use Rattle.law.specs.Tables.{Tables, without_connection, without_master, without_key}
use Rattle.law.specs.Associate.{has_ref, has_msa, has_csa, enter_session, session_reply, suite_reply, new_connection}
use Rattle.tables.specs.Changed.{master_entered, connection_entered}
use Rattle.associate.specs.Checks.{agreed, below, room, unused, fresh, passes}
use Rattle.associate.specs.Outcome.{Outcome, done}

-- A check that may find nothing, and what follows it.
abbrev pub upon : {X Y : Type 0} → Option X → Y → (X → Y) → Y
upon None e f = e
upon (Some x) e f = f x

module _ (𝓗 : Hashing) where
  -- Master: ref, mechanism, limit, row, identifier.
  abbrev pub master_steps : Tables → List ℕ → List ℕ → ℕ → Outcome
  master_steps t random ref mechanisms =
      upon (found (has_ref ref) t.keys) (done t (Err NotPossible)) (λ k.
      upon (agreed mechanisms k.item.says.weak) (done t (Err NotPossible)) (λ _.
      upon (below k.item.count k.item.says.masters) (done (without_key t k.row) (Err LimitPassed)) (λ _.
      upon (room t.masters) (done t (Err NoRoom)) (λ row.
      upon (unused (found (has_msa (id_of random)) t.masters)) (done t (Err NotPossible)) (λ _.
      done (master_entered t k.row k.item row (new_master 𝓗 random k.row k.item)) (Ok (reply_object (reply.Master (record { id = id_of random })))))))))

  -- Connection: MSA_ID, common cipher and mechanism, limit, row, identifier.
  abbrev pub connection_steps : Tables → List ℕ → List ℕ → List ℕ → ℕ → ℕ → Outcome
  connection_steps t random msa tnonce tsca tsim =
      upon (found (has_msa msa) t.masters) (done t (Err NoSuchIdentifier)) (λ m.
      upon (common tsca tsim) (done t (Err NotPossible)) (λ u.
      upon (below m.item.count (connections_limit t.keys m.item)) (done (without_master t m.row) (Err LimitPassed)) (λ _.
      upon (room t.connections) (done t (Err NoRoom)) (λ row.
      upon (unused (found (has_csa (id_of random)) t.connections)) (done t (Err NotPossible)) (λ _.
      done (connection_entered t m.row m.item row (new_connection 𝓗 random tnonce u m)) (Ok (suite_reply 𝓗 random msa tnonce tsca tsim m (Some u))))))))

  -- Start: CSA_ID, already started, MAC.
  abbrev pub start_steps : Tables → List ℕ → ℕ → List ℕ → Outcome
  start_steps t csa size mac =
      upon (found (has_csa csa) t.connections) (done t (Err NoSuchIdentifier)) (λ c.
      upon (fresh c.item.session) (done t (Err NotNow)) (λ _.
      upon (passes (mac_of 𝓗 c.item.mac (csa ++ size ∷ [])) mac) (done t (Err NotAuthentic)) (λ _.
      done (enter_session t size (Some c)) (Ok (session_reply (Some c))))))

  -- Terminate: an unknown identifier has nothing to end; MAC.
  abbrev pub end_master_steps : Tables → List ℕ → List ℕ → Outcome
  end_master_steps t id mac =
      upon (found (has_msa id) t.masters) (done t (Ok [])) (λ m.
      upon (passes (mac_of 𝓗 m.item.secret m.item.id) mac) (done t (Err NotAuthentic)) (λ _.
      done (without_master t m.row) (Ok [])))

  abbrev pub end_connection_steps : Tables → List ℕ → List ℕ → Outcome
  end_connection_steps t id mac =
      upon (found (has_csa id) t.connections) (done t (Ok [])) (λ c.
      upon (passes (mac_of 𝓗 c.item.mac c.item.id) mac) (done t (Err NotAuthentic)) (λ _.
      done (without_connection t c.row) (Ok [])))

  abbrev pub end_steps : Tables → Named → List ℕ → Outcome
  end_steps t (named.Master id) mac = end_master_steps t id.now mac
  end_steps t (named.Connection id) mac = end_connection_steps t id.now mac
