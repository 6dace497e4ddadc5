-- What keeps the tables sound, and which sessions still hold an answer.
use Rattle.std.proofs.Common.{◌≡◌, ℕ, ◌+◌, ◌<◌, ◌≤◌, Bool, true, false, cond, not, ◌||◌, eqb, leb, ◌⊎◌, List, map, get_or, set, Some, None, Option, sym, refl, ap, ◌∙◌, subst, inl, inr, arith, get_or-set_other, leb-false}
use lib.ListN.{get_or-map}
use borrow.Author.Tests.{eqb-false}
use Rattle.std.proofs.lemmas.Bool.{cases_eq}
use Rattle.sealing.specs.declared.suite.Suite.{Suite}
use Rattle.objects.specs.Asked.{Asked, layout, ask_master, ask_connection, ask_start, end_master, end_connection}
use Rattle.law.specs.Rows.{free_rows, At, found}
use Rattle.personalise.specs.Load.{Lines}
use Rattle.law.specs.Associations.{Hashing, Sized, Key, Master, new_key, one_more_master, one_more_connection, connections_of, transactions_of, key_row, connections_limit, transactions_limit, bit, common, new_master}
use Rattle.law.specs.Tables.{Session, started, idle, Connection, Tables, no_tables, put_connections, put_connection, with_session, off_master, off_key, if_held, on_held, without_connection, without_master, without_key}
use Rattle.law.specs.Associate.{taken, Refusal, not_possible, Verdict, refused, spent, granted, verdict, master_verdict, suite_verdict, connection_verdict, established, exhausted, has_ref, has_msa, has_csa, new_connection, enter_master, enter_with, enter_connection, enter_session, remove_key, remove_master, remove_connection}
use Rattle.law.specs.Held.{Sound, MasterRests, ConnectionRests}
use Rattle.law.proofs.Rows.{no_some, some_same, set_some, set_here, taken_some, taken_keeps, found_at, none_free}
use Rattle.law.proofs.Derived.{sealer_bytes}

-- Where keys keep their lines, and masters their keys, what rests on them still does.
abbrev KeysKept : Tables → Tables → Type 0
KeysKept t u = (i : ℕ) (k : Key) → get_or t.keys i None ≡ Some k → (k' : Key) × (get_or u.keys i None ≡ Some k') × (k'.says ≡ k.says)

master_on : (t u : Tables) → KeysKept t u → (m : Master) → MasterRests t m → MasterRests u m
master_on t u kk m r =
    let k = kk m.key r.key r.held in
    record { key = k.0; held = k.1; within = subst (λ (l : Lines). m.count ≤ l.connections) (sym k.2) r.within }

abbrev MastersKept : Tables → Tables → Type 0
MastersKept t u = (i : ℕ) (m : Master) → get_or t.masters i None ≡ Some m → (m' : Master) × (get_or u.masters i None ≡ Some m') × (m'.key ≡ m.key)

connection_on : (t u : Tables) → KeysKept t u → MastersKept t u → (x : Connection) → ConnectionRests t x → ConnectionRests u x
connection_on t u kk mk x r =
    let m = mk x.master r.master r.held in
    let k = kk r.master.key r.key r.key_held in
    record {
      master = m.0;
      held = m.1;
      key = k.0;
      key_held = ap (λ (i : ℕ). get_or u.keys i None) m.2 ∙ k.1;
      within = subst (λ (l : Lines). x.count ≤ l.transactions) (sym k.2) r.within;
      sealer = r.sealer;
    }

same_keys : (t u : Tables) → u.keys ≡ t.keys → KeysKept t u
same_keys t u q i k e = (k, ap (λ (ks : List (Option Key)). get_or ks i None) q ∙ e, refl)

same_masters : (t u : Tables) → u.masters ≡ t.masters → MastersKept t u
same_masters t u q i m e = (m, ap (λ (ms : List (Option Master)). get_or ms i None) q ∙ e, refl)

pub sound_none : Sound no_tables
sound_none = record {
  keys = λ i k e. no_some (sym (none_free i) ∙ e);
  masters = λ i m e. no_some (sym (none_free i) ∙ e);
  connections = λ i x e. no_some (sym (none_free i) ∙ e);
}

-- other connections, each resting
sound_with : (t : Tables) (xs : List (Option Connection)) → Sound t → ((i : ℕ) (x : Connection) → get_or xs i None ≡ Some x → ConnectionRests t x) → Sound (put_connections t xs)
sound_with t xs s h =
    let u : Tables = put_connections t xs in
    record {
      keys = s.keys;
      masters = λ i m e. master_on t u (same_keys t u refl) m (s.masters i m e);
      connections = λ i x e. connection_on t u (same_keys t u refl) (same_masters t u refl) x (h i x e);
    }

abbrev with_keys : Tables → List (Option Key) → Tables
with_keys t ks = record { keys = ks; masters = t.masters; connections = t.connections }

pub sound_loaded : (t : Tables) (k : Lines) → Sound t → Sound (record { keys = taken t.keys (new_key k); masters = t.masters; connections = t.connections })
sound_loaded t k s = record {
  keys = λ i y e. new_at y i (taken_some t.keys (new_key k) i y e);
  masters = λ i m e. master_on t (with_keys t (taken t.keys (new_key k))) kk m (s.masters i m e);
  connections = λ i x e. connection_on t (with_keys t (taken t.keys (new_key k))) kk (same_masters t (with_keys t (taken t.keys (new_key k))) refl) x (s.connections i x e);
}
  where
    kk : KeysKept t (with_keys t (taken t.keys (new_key k)))
    kk i y e = (y, taken_keeps t.keys (new_key k) i y e, refl)

    new_at : (y : Key) (i : ℕ) → (new_key k ≡ y) ⊎ (get_or t.keys i None ≡ Some y) → y.count ≤ y.says.masters
    new_at y i (inl q) = subst (λ (z : Key). z.count ≤ z.says.masters) q (omega arith)
    new_at y i (inr q) = s.keys i y q

pub sound_off : (t : Tables) → Sound t → Sound (put_connections t free_rows)
sound_off t s = sound_with t free_rows s (λ i x e. no_some (sym (none_free i) ∙ e))

sound_put : (t : Tables) (row : ℕ) (y : Option Connection) → ((x : Connection) → y ≡ Some x → ConnectionRests t x) → Sound t → Sound (put_connections t (set t.connections row y))
sound_put t row y h s = sound_with t (set t.connections row y) s (λ i x e. by i x (set_some t.connections row y i x e))
  where
    by : (i : ℕ) (x : Connection) → ((i ≡ row) × (y ≡ Some x)) ⊎ ((i ≡ row → ⊥) × (get_or t.connections i None ≡ Some x)) → ConnectionRests t x
    by i x (inl p) = h x p.1
    by i x (inr p) = s.connections i x p.1

pub sound_talk : (t : Tables) (row : ℕ) (x : Connection) (y : Session) → get_or t.connections row None ≡ Some x → Sound t → Sound (put_connection t row (with_session x x.count y))
sound_talk t row x y h s = sound_put t row (Some (with_session x x.count y)) (λ z e. subst (λ (c : Connection). ConnectionRests t c) (some_same e) rests) s
  where
    rests : ConnectionRests t (with_session x x.count y)
    rests = let r = s.connections row x h in record { master = r.master; held = r.held; key = r.key; key_held = r.key_held; within = r.within; sealer = r.sealer }

transactions_are : (t : Tables) (x : Connection) (r : ConnectionRests t x) → transactions_limit t.keys t.masters x.master ≡ r.key.says.transactions
transactions_are t x r = ap (λ (o : Option Master). transactions_of (get_or t.keys (key_row o) None)) r.held ∙ ap transactions_of r.key_held

pub sound_ran : (t : Tables) (row : ℕ) (x : Connection) (y : Session) → get_or t.connections row None ≡ Some x → x.count < transactions_limit t.keys t.masters x.master → Sound t → Sound (put_connection t row (with_session x (x.count + 1) y))
sound_ran t row x y h lt s = sound_put t row (Some (with_session x (x.count + 1) y)) (λ z e. subst (λ (c : Connection). ConnectionRests t c) (some_same e) rests) s
  where
    rests : ConnectionRests t (with_session x (x.count + 1) y)
    rests =
        let r = s.connections row x h in
        let lt' : x.count < r.key.says.transactions = subst (λ (n : ℕ). x.count < n) (transactions_are t x r) lt in
        record { master = r.master; held = r.held; key = r.key; key_held = r.key_held; within = omega arith; sealer = r.sealer }

pub sound_without : (t : Tables) (row : ℕ) → Sound t → Sound (without_connection t row)
sound_without t row s = sound_put t row None (λ x e. no_some e) s

-- What leaves with a row.
off_master_some : (i : ℕ) (o : Option Connection) (x : Connection) → off_master i o ≡ Some x → (o ≡ Some x) × (x.master ≡ i → ⊥)
off_master_some i None x e = no_some e
off_master_some i (Some y) x e = by (eqb y.master i) refl e
  where
    by : (b : Bool) → eqb y.master i ≡ b → cond b None (Some y) ≡ Some x → (Some y ≡ Some x) × (x.master ≡ i → ⊥)
    by true q e = no_some e
    by false q e = (e, λ h. eqb-false y.master i q (ap (λ (z : Connection). z.master) (some_same e) ∙ h))

off_key_some : (i : ℕ) (o : Option Master) (x : Master) → off_key i o ≡ Some x → (o ≡ Some x) × (x.key ≡ i → ⊥)
off_key_some i None x e = no_some e
off_key_some i (Some y) x e = by (eqb y.key i) refl e
  where
    by : (b : Bool) → eqb y.key i ≡ b → cond b None (Some y) ≡ Some x → (Some y ≡ Some x) × (x.key ≡ i → ⊥)
    by true q e = no_some e
    by false q e = (e, λ h. eqb-false y.key i q (ap (λ (z : Master). z.key) (some_same e) ∙ h))

held_some : (ms : List (Option Master)) (o : Option Connection) (x : Connection) → on_held ms o ≡ Some x → (o ≡ Some x) × (m : Master) × (get_or ms x.master None ≡ Some m)
held_some ms None x e = no_some e
held_some ms (Some y) x e = by (get_or ms y.master None) refl e
  where
    by : (o : Option Master) → get_or ms y.master None ≡ o → if_held y o ≡ Some x → (Some y ≡ Some x) × (m : Master) × (get_or ms x.master None ≡ Some m)
    by None q e = no_some e
    by (Some m) q e = (e, m, ap (λ (z : Connection). get_or ms z.master None) (sym (some_same e)) ∙ q)

pub mapped_master : (i j : ℕ) (xs : List (Option Connection)) (x : Connection) → get_or (map (off_master i) xs) j None ≡ Some x → (get_or xs j None ≡ Some x) × (x.master ≡ i → ⊥)
mapped_master i j xs x e = off_master_some i (get_or xs j None) x (sym (get_or-map (off_master i) xs j None) ∙ e)

mapped_key : (i j : ℕ) (ms : List (Option Master)) (m : Master) → get_or (map (off_key i) ms) j None ≡ Some m → (get_or ms j None ≡ Some m) × (m.key ≡ i → ⊥)
mapped_key i j ms m e = off_key_some i (get_or ms j None) m (sym (get_or-map (off_key i) ms j None) ∙ e)

pub mapped_rests : (ms : List (Option Master)) (j : ℕ) (xs : List (Option Connection)) (x : Connection) → get_or (map (on_held ms) xs) j None ≡ Some x → (get_or xs j None ≡ Some x) × (m : Master) × (get_or ms x.master None ≡ Some m)
mapped_rests ms j xs x e = held_some ms (get_or xs j None) x (sym (get_or-map (on_held ms) xs j None) ∙ e)

pub set_none : {X : Type 0} (l : List (Option X)) (i j : ℕ) (x : X) → get_or (set l i None) j None ≡ Some x → get_or l j None ≡ Some x
set_none l i j x e = by (set_some l i None j x e)
  where
    by : ((j ≡ i) × (None ≡ Some x)) ⊎ ((j ≡ i → ⊥) × (get_or l j None ≡ Some x)) → get_or l j None ≡ Some x
    by (inl p) = no_some p.1
    by (inr p) = p.1

pub sound_without_master : (t : Tables) (i : ℕ) → Sound t → Sound (without_master t i)
sound_without_master t i s = record {
  keys = s.keys;
  masters = λ j m e. master_on t (without_master t i) (same_keys t (without_master t i) refl) m (s.masters j m (set_none t.masters i j m e));
  connections = λ j x e.
      let o = mapped_master i j t.connections x e in
      let r = s.connections j x o.0 in
      record { master = r.master; held = get_or-set_other t.masters i x.master None None o.1 ∙ r.held; key = r.key; key_held = r.key_held; within = r.within; sealer = r.sealer };
}

pub sound_without_key : (t : Tables) (i : ℕ) → Sound t → Sound (without_key t i)
sound_without_key t i s = record {
  keys = λ j k e. s.keys j k (set_none t.keys i j k e);
  masters = λ j m e.
      let o = mapped_key i j t.masters m e in
      let r = s.masters j m o.0 in
      record { key = r.key; held = get_or-set_other t.keys i m.key None None o.1 ∙ r.held; within = r.within };
  connections = λ j x e.
      let o = mapped_rests (map (off_key i) t.masters) j t.connections x e in
      let w = mapped_key i x.master t.masters o.1 o.2 in
      let r = s.connections j x o.0 in
      let same : r.master ≡ o.1 = some_same (sym r.held ∙ w.0) in
      record {
        master = o.1;
        held = o.2;
        key = r.key;
        key_held = get_or-set_other t.keys i o.1.key None None w.1 ∙ ap (λ (m : Master). get_or t.keys m.key None) (sym same) ∙ r.key_held;
        within = r.within;
        sealer = r.sealer;
      };
}

-- What a granted asking found out.
granted_past : (b : Bool) (v w : Verdict) → (v ≡ granted → ⊥) → cond b v w ≡ granted → (b ≡ false) × (w ≡ granted)
granted_past true v w h e = absurd (h e)
granted_past false v w h e = (refl, e)

not_refused : (c : Refusal) → refused c ≡ granted → ⊥
not_refused c e = let z : ◌≡◌ {A = ℕ} 0 1 = cc in omega arith

not_spent : spent ≡ granted → ⊥
not_spent e = let z : ◌≡◌ {A = ℕ} 0 1 = cc in omega arith

master_lt : (t : Tables) (random : List ℕ) (mechanisms : ℕ) (k : At Key) → master_verdict t random mechanisms (Some k) ≡ granted → k.item.count < k.item.says.masters
master_lt t random mechanisms k e =
    let a = granted_past (not (bit 1 mechanisms) || k.item.says.weak) (refused not_possible) _ (not_refused not_possible) e in
    let b = granted_past (leb k.item.says.masters k.item.count) spent _ not_spent a.1 in
    leb-false k.item.says.masters k.item.count b.0

connection_lt : (t : Tables) (random : List ℕ) (u : Suite) (m : At Master) → suite_verdict t random m (Some u) ≡ granted → m.item.count < connections_limit t.keys m.item
connection_lt t random u m e =
    let b = granted_past (leb (connections_limit t.keys m.item) m.item.count) spent _ not_spent e in
    leb-false (connections_limit t.keys m.item) m.item.count b.0

module _ (𝓗 : Hashing) (digests : Sized 𝓗) where
  enter_master_sound : (t : Tables) (random : List ℕ) (mech : ℕ) (o : Option (At Key)) → ((k : At Key) → o ≡ Some k → get_or t.keys k.row None ≡ Some k.item)
      → master_verdict t random mech o ≡ granted → Sound t → Sound (enter_master 𝓗 t random o)
  enter_master_sound t random mech None at e s = s
  enter_master_sound t random mech (Some k) at e s = record {
    keys = λ i y q. by_key y i (set_some t.keys k.row (Some (one_more_master k.item)) i y q);
    masters = λ i m q. by_master m i (taken_some t.masters (new_master 𝓗 random k.row k.item) i m q);
    connections = λ i x q. connection_on t u kk mk x (s.connections i x q);
  }
    where
      u : Tables
      u = enter_master 𝓗 t random (Some k)

      held : get_or t.keys k.row None ≡ Some k.item
      held = at k refl

      kk_at : (i : ℕ) (y : Key) → get_or t.keys i None ≡ Some y → (i ≡ k.row) ⊎ (i ≡ k.row → ⊥) → (k' : Key) × (get_or (set t.keys k.row (Some (one_more_master k.item))) i None ≡ Some k') × (k'.says ≡ y.says)
      kk_at i y q (inl w) = (
        one_more_master k.item,
        ap (λ (n : ℕ). get_or (set t.keys k.row (Some (one_more_master k.item))) n None) w ∙ set_here t.keys k.row (Some (one_more_master k.item)) k.item held,
        ap (λ (z : Key). z.says) (some_same (sym held ∙ ap (λ (n : ℕ). get_or t.keys n None) (sym w) ∙ q)),
      )
      kk_at i y q (inr w) = (y, get_or-set_other t.keys k.row i (Some (one_more_master k.item)) None w ∙ q, refl)

      kk : KeysKept t (enter_master 𝓗 t random (Some k))
      kk i y q = kk_at i y q (cases_eq i k.row)

      mk : MastersKept t (enter_master 𝓗 t random (Some k))
      mk i m q = (m, taken_keeps t.masters (new_master 𝓗 random k.row k.item) i m q, refl)

      by_key : (y : Key) (i : ℕ) → ((i ≡ k.row) × (Some (one_more_master k.item) ≡ Some y)) ⊎ ((i ≡ k.row → ⊥) × (get_or t.keys i None ≡ Some y)) → y.count ≤ y.says.masters
      by_key y i (inl p) = let lt = master_lt t random mech k e in subst (λ (z : Key). z.count ≤ z.says.masters) (some_same p.1) (omega arith)
      by_key y i (inr p) = s.keys i y p.1

      by_master : (m : Master) (i : ℕ) → (new_master 𝓗 random k.row k.item ≡ m) ⊎ (get_or t.masters i None ≡ Some m) → MasterRests (enter_master 𝓗 t random (Some k)) m
      by_master m i (inl q) = subst (λ (z : Master). MasterRests (enter_master 𝓗 t random (Some k)) z) q
          (record { key = one_more_master k.item; held = set_here t.keys k.row (Some (one_more_master k.item)) k.item held; within = omega arith })
      by_master m i (inr q) = master_on t (enter_master 𝓗 t random (Some k)) kk m (s.masters i m q)

  enter_with_sound : (t : Tables) (random tnonce : List ℕ) (m : At Master) (u : Option Suite) → get_or t.masters m.row None ≡ Some m.item
      → suite_verdict t random m u ≡ granted → Sound t → Sound (enter_with 𝓗 t random tnonce m u)
  enter_with_sound t random tnonce m None held e s = s
  enter_with_sound t random tnonce m (Some u) held e s = record {
    keys = s.keys;
    masters = λ i y q. by_master y i (set_some t.masters m.row (Some (one_more_connection m.item)) i y q);
    connections = λ i x q. by_connection x i (taken_some t.connections (new_connection 𝓗 random tnonce u m) i x q);
  }
    where
      rests : MasterRests t m.item
      rests = s.masters m.row m.item held

      kk : KeysKept t (enter_with 𝓗 t random tnonce m (Some u))
      kk i k q = (k, q, refl)

      mk_at : (i : ℕ) (y : Master) → get_or t.masters i None ≡ Some y → (i ≡ m.row) ⊎ (i ≡ m.row → ⊥) → (m' : Master) × (get_or (set t.masters m.row (Some (one_more_connection m.item))) i None ≡ Some m') × (m'.key ≡ y.key)
      mk_at i y q (inl w) = (
        one_more_connection m.item,
        ap (λ (n : ℕ). get_or (set t.masters m.row (Some (one_more_connection m.item))) n None) w ∙ set_here t.masters m.row (Some (one_more_connection m.item)) m.item held,
        ap (λ (z : Master). z.key) (some_same (sym held ∙ ap (λ (n : ℕ). get_or t.masters n None) (sym w) ∙ q)),
      )
      mk_at i y q (inr w) = (y, get_or-set_other t.masters m.row i (Some (one_more_connection m.item)) None w ∙ q, refl)

      mk : MastersKept t (enter_with 𝓗 t random tnonce m (Some u))
      mk i y q = mk_at i y q (cases_eq i m.row)

      by_master : (y : Master) (i : ℕ) → ((i ≡ m.row) × (Some (one_more_connection m.item) ≡ Some y)) ⊎ ((i ≡ m.row → ⊥) × (get_or t.masters i None ≡ Some y)) → MasterRests (enter_with 𝓗 t random tnonce m (Some u)) y
      by_master y i (inl p) =
          let lt : m.item.count < rests.key.says.connections = subst (λ (n : ℕ). m.item.count < n) (ap connections_of rests.held) (connection_lt t random u m e) in
          subst (λ (z : Master). MasterRests (enter_with 𝓗 t random tnonce m (Some u)) z) (some_same p.1)
          (record { key = rests.key; held = rests.held; within = omega arith })
      by_master y i (inr p) = master_on t (enter_with 𝓗 t random tnonce m (Some u)) kk y (s.masters i y p.1)

      by_connection : (x : Connection) (i : ℕ) → (new_connection 𝓗 random tnonce u m ≡ x) ⊎ (get_or t.connections i None ≡ Some x) → ConnectionRests (enter_with 𝓗 t random tnonce m (Some u)) x
      by_connection x i (inl q) = subst (λ (z : Connection). ConnectionRests (enter_with 𝓗 t random tnonce m (Some u)) z) q
          (record {
            master = one_more_connection m.item;
            held = set_here t.masters m.row (Some (one_more_connection m.item)) m.item held;
            key = rests.key;
            key_held = rests.held;
            within = omega arith;
            sealer = sealer_bytes 𝓗 digests m.item random tnonce;
          })
      by_connection x i (inr q) = connection_on t (enter_with 𝓗 t random tnonce m (Some u)) kk mk x (s.connections i x q)

  enter_connection_sound : (t : Tables) (random tnonce : List ℕ) (u : Option Suite) (o : Option (At Master)) → ((m : At Master) → o ≡ Some m → get_or t.masters m.row None ≡ Some m.item)
      → connection_verdict t random u o ≡ granted → Sound t → Sound (enter_connection 𝓗 t random tnonce u o)
  enter_connection_sound t random tnonce u None at e s = s
  enter_connection_sound t random tnonce u (Some m) at e s = enter_with_sound t random tnonce m u (at m refl) e s

  enter_session_sound : (t : Tables) (size : ℕ) (o : Option (At Connection)) → ((c : At Connection) → o ≡ Some c → get_or t.connections c.row None ≡ Some c.item) → Sound t → Sound (enter_session t size o)
  enter_session_sound t size None at s = s
  enter_session_sound t size (Some c) at s = sound_talk t c.row c.item (started size idle) (at c refl) s

  remove_master_sound : (t : Tables) (o : Option (At Master)) → Sound t → Sound (remove_master t o)
  remove_master_sound t None s = s
  remove_master_sound t (Some m) s = sound_without_master t m.row s

  remove_connection_sound : (t : Tables) (o : Option (At Connection)) → Sound t → Sound (remove_connection t o)
  remove_connection_sound t None s = s
  remove_connection_sound t (Some c) s = sound_without t c.row s

  remove_key_sound : (t : Tables) (o : Option (At Key)) → Sound t → Sound (remove_key t o)
  remove_key_sound t None s = s
  remove_key_sound t (Some k) s = sound_without_key t k.row s

  pub sound_established : (t : Tables) (random : List ℕ) (a : Asked) → verdict 𝓗 t random a ≡ granted → Sound t → Sound (established 𝓗 t random a)
  sound_established t random layout e s = s
  sound_established t random (ask_master ref mech) e s = enter_master_sound t random mech (found (has_ref ref) t.keys) (λ k q. found_at (has_ref ref) t.keys k q) e s
  sound_established t random (ask_connection msa tn tsca tsim) e s = enter_connection_sound t random tn (common tsca tsim) (found (has_msa msa) t.masters) (λ k q. found_at (has_msa msa) t.masters k q) e s
  sound_established t random (ask_start csa size mac) e s = enter_session_sound t size (found (has_csa csa) t.connections) (λ k q. found_at (has_csa csa) t.connections k q) s
  sound_established t random (end_master id mac) e s = remove_master_sound t (found (has_msa id) t.masters) s
  sound_established t random (end_connection id mac) e s = remove_connection_sound t (found (has_csa id) t.connections) s

  pub sound_exhausted : (t : Tables) (a : Asked) → Sound t → Sound (exhausted t a)
  sound_exhausted t layout s = s
  sound_exhausted t (ask_master ref mech) s = remove_key_sound t (found (has_ref ref) t.keys) s
  sound_exhausted t (ask_connection msa tn tsca tsim) s = remove_master_sound t (found (has_msa msa) t.masters) s
  sound_exhausted t (ask_start csa size mac) s = s
  sound_exhausted t (end_master id mac) s = s
  sound_exhausted t (end_connection id mac) s = s
