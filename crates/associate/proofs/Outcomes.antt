-- The steps of each command come to what the law says.
use Rattle.std.proofs.Common.{◌≡◌, ℕ, Bool, true, false, cond, List, Some, None, Option, refl}
use Rattle.sealing.specs.declared.suite.Suite.{Suite}
use Rattle.objects.specs.declared.request.EndRequest.{EndRequest}
use Rattle.objects.specs.declared.request.Named.{Named}
use Rattle.objects.specs.declared.request.Named.TheVariants as named
use Rattle.objects.specs.Asked.{Asked, ask_master, ask_connection, ask_start, end_master, end_connection, seen_end}
use Rattle.law.specs.Rows.{At, found}
use Rattle.law.specs.Associations.{Hashing, Key, Master, common}
use Rattle.law.specs.Tables.{Connection, Tables}
use Rattle.law.specs.Associate.{has_ref, has_msa, has_csa, Verdict}
use Rattle.associate.specs.Outcome.{decided, outcome}
use Rattle.associate.specs.Steps.{upon, master_steps, connection_steps, start_steps, end_master_steps, end_connection_steps, end_steps}

upon_unless : {X Y : Type 0} (b : Bool) (x : X) (e : Y) (f : X → Y) → upon (cond b None (Some x)) e f ≡ cond b e (f x)
upon_unless true x e f = refl
upon_unless false x e f = refl

upon_if : {X Y : Type 0} (b : Bool) (x : X) (e : Y) (f : X → Y) → upon (cond b (Some x) None) e f ≡ cond b (f x) e
upon_if true x e f = refl
upon_if false x e f = refl

module _ (𝓗 : Hashing) (t : Tables) (random : List ℕ) where
  decided_cond : (a : Asked) (b : Bool) (v w : Verdict) → decided 𝓗 t random a (cond b v w) ≡ cond b (decided 𝓗 t random a v) (decided 𝓗 t random a w)
  decided_cond a true v w = refl
  decided_cond a false v w = refl

  pub master_is : (ref : List ℕ) (m : ℕ) → master_steps 𝓗 t random ref m ≡ outcome 𝓗 t random (ask_master ref m)
  master_is ref m = by (found (has_ref ref) t.keys) refl
    where
      by : (o : Option (At Key)) → found (has_ref ref) t.keys ≡ o → master_steps 𝓗 t random ref m ≡ outcome 𝓗 t random (ask_master ref m)
      by None e = simp e
      by (Some k) e = simp (e, upon_unless, decided_cond)

  pub connection_is : (msa tnonce : List ℕ) (tsca tsim : ℕ) → connection_steps 𝓗 t random msa tnonce tsca tsim ≡ outcome 𝓗 t random (ask_connection msa tnonce tsca tsim)
  connection_is msa tnonce tsca tsim = by (found (has_msa msa) t.masters) (common tsca tsim) refl refl
    where
      by : (o : Option (At Master)) (u : Option Suite) → found (has_msa msa) t.masters ≡ o → common tsca tsim ≡ u
          → connection_steps 𝓗 t random msa tnonce tsca tsim ≡ outcome 𝓗 t random (ask_connection msa tnonce tsca tsim)
      by None u e h = simp e
      by (Some m) None e h = simp (e, h)
      by (Some m) (Some u) e h = simp (e, h, upon_unless, decided_cond)

  pub start_is : (csa : List ℕ) (size : ℕ) (mac : List ℕ) → start_steps 𝓗 t csa size mac ≡ outcome 𝓗 t random (ask_start csa size mac)
  start_is csa size mac = by (found (has_csa csa) t.connections) refl
    where
      by : (o : Option (At Connection)) → found (has_csa csa) t.connections ≡ o → start_steps 𝓗 t csa size mac ≡ outcome 𝓗 t random (ask_start csa size mac)
      by None e = simp e
      by (Some c) e = simp (e, upon_unless, upon_if, decided_cond)

  pub end_master_is : (id mac : List ℕ) → end_master_steps 𝓗 t id mac ≡ outcome 𝓗 t random (end_master id mac)
  end_master_is id mac = by (found (has_msa id) t.masters) refl
    where
      by : (o : Option (At Master)) → found (has_msa id) t.masters ≡ o → end_master_steps 𝓗 t id mac ≡ outcome 𝓗 t random (end_master id mac)
      by None e = simp e
      by (Some m) e = simp (e, upon_if, decided_cond)

  pub end_connection_is : (id mac : List ℕ) → end_connection_steps 𝓗 t id mac ≡ outcome 𝓗 t random (end_connection id mac)
  end_connection_is id mac = by (found (has_csa id) t.connections) refl
    where
      by : (o : Option (At Connection)) → found (has_csa id) t.connections ≡ o → end_connection_steps 𝓗 t id mac ≡ outcome 𝓗 t random (end_connection id mac)
      by None e = simp e
      by (Some c) e = simp (e, upon_if, decided_cond)

  pub end_is : (q : EndRequest) → end_steps 𝓗 t q.named q.mac.now ≡ outcome 𝓗 t random (seen_end (Some q))
  end_is q = by q.named refl
    where
      by : (n : Named) → q.named ≡ n → end_steps 𝓗 t q.named q.mac.now ≡ outcome 𝓗 t random (seen_end (Some q))
      by (named.Master id) e = simp e (end_master_is id.now q.mac.now)
      by (named.Connection id) e = simp e (end_connection_is id.now q.mac.now)
