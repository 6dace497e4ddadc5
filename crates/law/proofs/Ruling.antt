-- What the checks say of a whole object is what the ledger says of it.
use Rattle.std.proofs.Common.{◌≡◌, ℕ, ◌<◌, ◌≤◌, Bool, true, false, cond, not, ◌&&◌, ◌||◌, eqb, ltb, leb, ◌↔◌, List, [], ◌∷◌, ◌++◌, map, take, Some, None, Option, sym, refl, ap, ◌∙◌, subst, arith, ltb-false, ltb-true, eq-eqb, eqb-true, leb-false, leb-true}
use Rattle.sealing.specs.declared.suite.Suite.{Suite}
use Rattle.apdu.specs.declared.status.Status.{Status}
use Rattle.apdu.specs.declared.status.Status.TheVariants as sw
use Rattle.apdu.specs.StatusWords.{status_bytes}
use Rattle.objects.specs.Asked.{Asked, layout, ask_master, ask_connection, ask_start, end_master, end_connection}
use Rattle.law.specs.Rows.{same_bytes, At, full, is_some}
use Rattle.law.specs.Request.{Kind, discovery, master, connection, start, terminate}
use Rattle.law.specs.Associations.{Hashing, Key, Master, connections_limit, bit, common, id_of, mac_of}
use Rattle.law.specs.Associate.{is_started, no_row, not_possible, already_started, refusal_status, Verdict, refused, wrong_mac, spent, granted, has_room, master_verdict, suite_verdict, connection_verdict, right_mac, start_verdict, end_master_verdict, end_connection_verdict, verdict}
use Rattle.law.specs.Ledger.{Reading, onto, reading, Dialogue, Link, Book, key_named, master_named, link_named}
use Rattle.law.specs.Ruled.{shown, Shows, Ruled, KeyAsked, MasterInOrder, MasterSpent, MasterAsked, ConnectionInOrder, ConnectionSpent, StartAsked, StartInOrder, StartForged, MasterEndForged, ConnectionEndForged, RuledAsked}
use Rattle.law.specs.Held.{row_of, session_of}
use Rattle.law.proofs.Rows.{never, no_some, some_same}
use Rattle.law.proofs.Agree.{tables_of, placed, found_link}

-- A reply with data and a status word, as it is read.
pub reads : (d : List ℕ) (a b : ℕ) → reading (d ++ a ∷ b ∷ []) ≡ record { bytes = d; sw1 = a; sw2 = b }
reads [] a b = refl
reads (x ∷ []) a b = refl
reads (x ∷ y ∷ []) a b = refl
reads (x ∷ y ∷ z ∷ d) a b = ap (λ (r : Reading). onto x r) (reads (y ∷ z ∷ d) a b)

-- The status word of a verdict.
abbrev pub said : Kind → Verdict → Status
said k (refused r) = refusal_status r
said k wrong_mac = sw.NotAuthentic
said k spent = sw.LimitPassed
said terminate granted = sw.Done
said discovery granted = sw.ReplyWaits
said master granted = sw.ReplyWaits
said connection granted = sw.ReplyWaits
said start granted = sw.ReplyWaits

yes : {P : Type 0} → P → (true ≡ true) ↔ P
yes p = (λ _. p, λ _. refl)

no : {P : Type 0} → (P → ⊥) → (false ≡ true) ↔ P
no n = (λ e. never (sym e), λ p. absurd (n p))

module _ {G S W : Type 0} where
  ruled_granted : (k : Kind) → G → (S → ⊥) → (W → ⊥) → Ruled (reading (status_bytes (said k granted))) G S W
  ruled_granted discovery g s w = record { granted = yes g; spent = no s; forged = no w }
  ruled_granted master g s w = record { granted = yes g; spent = no s; forged = no w }
  ruled_granted connection g s w = record { granted = yes g; spent = no s; forged = no w }
  ruled_granted start g s w = record { granted = yes g; spent = no s; forged = no w }
  ruled_granted terminate g s w = record { granted = yes g; spent = no s; forged = no w }

  ruled_spent : (G → ⊥) → S → (W → ⊥) → Ruled (reading (status_bytes sw.LimitPassed)) G S W
  ruled_spent g s w = record { granted = no g; spent = yes s; forged = no w }

  ruled_forged : (G → ⊥) → (S → ⊥) → W → Ruled (reading (status_bytes sw.NotAuthentic)) G S W
  ruled_forged g s w = record { granted = no g; spent = no s; forged = yes w }

  ruled_no_room : (G → ⊥) → (S → ⊥) → (W → ⊥) → Ruled (reading (status_bytes sw.NoRoom)) G S W
  ruled_no_room g s w = record { granted = no g; spent = no s; forged = no w }

  ruled_not_possible : (G → ⊥) → (S → ⊥) → (W → ⊥) → Ruled (reading (status_bytes sw.NotPossible)) G S W
  ruled_not_possible g s w = record { granted = no g; spent = no s; forged = no w }

  ruled_unknown : (G → ⊥) → (S → ⊥) → (W → ⊥) → Ruled (reading (status_bytes sw.NoSuchIdentifier)) G S W
  ruled_unknown g s w = record { granted = no g; spent = no s; forged = no w }

  ruled_not_now : (G → ⊥) → (S → ⊥) → (W → ⊥) → Ruled (reading (status_bytes sw.NotNow)) G S W
  ruled_not_now g s w = record { granted = no g; spent = no s; forged = no w }

-- Equality of bytes, as a test and as a fact.
and_parts : (a b : Bool) → (a && b) ≡ true → (a ≡ true) × (b ≡ true)
and_parts true b e = (refl, e)
and_parts false b e = never (sym e)

pub same_true : (xs ys : List ℕ) → same_bytes xs ys ≡ true → xs ≡ ys
same_true [] [] e = refl
same_true [] (y ∷ ys) e = never (sym e)
same_true (x ∷ xs) [] e = never (sym e)
same_true (x ∷ xs) (y ∷ ys) e =
    let p = and_parts (eqb x y) (same_bytes xs ys) e in
    ap (λ (z : ℕ). z ∷ xs) (eqb-true x y p.0) ∙ ap (λ (zs : List ℕ). y ∷ zs) (same_true xs ys p.1)

pub same_itself : (xs : List ℕ) → same_bytes xs xs ≡ true
same_itself [] = refl
same_itself (x ∷ xs) = ap (λ (b : Bool). b && same_bytes xs xs) (eq-eqb x x refl) ∙ same_itself xs

same_false : (xs ys : List ℕ) → same_bytes xs ys ≡ false → xs ≡ ys → ⊥
same_false xs ys e q = never (sym (same_itself xs) ∙ ap (λ (zs : List ℕ). same_bytes xs zs) q ∙ e)

-- Rows of links are as full as their connections' rows.
full_links : (xs : List (Option Link)) → full (map row_of xs) ≡ full xs
full_links [] = refl
full_links (None ∷ xs) = refl
full_links (Some x ∷ xs) = full_links xs

-- Masters.
module _ (l : Book) (random ref : List ℕ) (mechanisms : ℕ) (k : Kind) where
  abbrev MasterRuled : Verdict → Type 0
  MasterRuled v = Ruled (reading (status_bytes (said k v))) (MasterInOrder l random ref mechanisms) (MasterSpent l ref mechanisms) ⊥

  module _ (x : At Key) (named : key_named l ref ≡ Some x) where
    same_key : (q : KeyAsked l ref mechanisms) → q.key ≡ x
    same_key q = some_same (sym q.named ∙ named)

    master_used : (asked : KeyAsked l ref mechanisms) → x.item.count < x.item.says.masters → full l.masters ≡ false
        → (o : Option (At Master)) → master_named l (id_of random) ≡ o → MasterRuled (cond (is_some o) (refused not_possible) granted)
    master_used asked lt room None e =
        ruled_granted k (record { asked = asked; within = rw (same_key asked) lt; room = room; fresh = e })
        (λ s. let h : s.asked.key.item.says.masters ≤ s.asked.key.item.count = s.spent in let h' : x.item.says.masters ≤ x.item.count = rw (same_key s.asked) at h in omega arith) (λ w. w)
    master_used asked lt room (Some m) e =
        ruled_not_possible (λ g. no_some (sym g.fresh ∙ e))
        (λ s. let h : s.asked.key.item.says.masters ≤ s.asked.key.item.count = s.spent in let h' : x.item.says.masters ≤ x.item.count = rw (same_key s.asked) at h in omega arith) (λ w. w)

    master_room : (asked : KeyAsked l ref mechanisms) → x.item.count < x.item.says.masters → (b : Bool) → full l.masters ≡ b
        → MasterRuled (cond b (refused no_row) (cond (is_some (master_named l (id_of random))) (refused not_possible) granted))
    master_room asked lt true e =
        ruled_no_room (λ g. never (sym e ∙ g.room))
        (λ s. let h : s.asked.key.item.says.masters ≤ s.asked.key.item.count = s.spent in let h' : x.item.says.masters ≤ x.item.count = rw (same_key s.asked) at h in omega arith) (λ w. w)
    master_room asked lt false e = master_used asked lt e (master_named l (id_of random)) refl

    master_limit : (asked : KeyAsked l ref mechanisms) → (b : Bool) → leb x.item.says.masters x.item.count ≡ b
        → MasterRuled (cond b spent (has_room l.masters (master_named l (id_of random))))
    master_limit asked true e =
        let le : x.item.says.masters ≤ x.item.count = leb-true x.item.says.masters x.item.count e in
        ruled_spent (λ g. let h : g.asked.key.item.count < g.asked.key.item.says.masters = g.within in let h' : x.item.count < x.item.says.masters = rw (same_key g.asked) at h in omega arith)
        (record { asked = asked; spent = rw (same_key asked) le }) (λ w. w)
    master_limit asked false e = master_room asked (leb-false x.item.says.masters x.item.count e) (full l.masters) refl

    master_common : (b w : Bool) → bit 1 mechanisms ≡ b → x.item.says.weak ≡ w
        → MasterRuled (cond (not b || w) (refused not_possible) (cond (leb x.item.says.masters x.item.count) spent (has_room l.masters (master_named l (id_of random)))))
    master_common false w eb ew = ruled_not_possible (λ g. never (sym g.asked.common ∙ eb)) (λ s. never (sym s.asked.common ∙ eb)) (λ w. w)
    master_common true true eb ew =
        ruled_not_possible (λ g. never (sym ew ∙ ap (λ (y : At Key). y.item.says.weak) (sym (same_key g.asked)) ∙ g.asked.strong))
        (λ s. never (sym ew ∙ ap (λ (y : At Key). y.item.says.weak) (sym (same_key s.asked)) ∙ s.asked.strong)) (λ w. w)
    master_common true false eb ew = master_limit (record { key = x; named = named; common = eb; strong = ew }) (leb x.item.says.masters x.item.count) refl

  master_ruling : (o : Option (At Key)) → key_named l ref ≡ o → MasterRuled (master_verdict (tables_of l) random mechanisms o)
  master_ruling None e = ruled_not_possible (λ g. no_some (sym e ∙ g.asked.named)) (λ s. no_some (sym e ∙ s.asked.named)) (λ w. w)
  master_ruling (Some x) e = master_common x e (bit 1 mechanisms) x.item.says.weak refl refl

-- Connections.
module _ (l : Book) (random msa : List ℕ) (tsca tsim : ℕ) (k : Kind) where
  abbrev ConnectionRuled : Verdict → Type 0
  ConnectionRuled v = Ruled (reading (status_bytes (said k v))) (ConnectionInOrder l random msa tsca tsim) (ConnectionSpent l msa tsca tsim) ⊥

  module _ (x : At Master) (named : master_named l msa ≡ Some x) where
    same_master : (q : MasterAsked l msa tsca tsim) → q.master ≡ x
    same_master q = some_same (sym q.named ∙ named)

    not_spent : x.item.count < connections_limit l.keys x.item → ConnectionSpent l msa tsca tsim → ⊥
    not_spent lt s =
        let h : connections_limit l.keys s.asked.master.item ≤ s.asked.master.item.count = s.spent in
        let h' : connections_limit l.keys x.item ≤ x.item.count = rw (same_master s.asked) at h in omega arith

    connection_used : (asked : MasterAsked l msa tsca tsim) → x.item.count < connections_limit l.keys x.item → full l.links ≡ false
        → (o : Option (At Link)) → link_named l (id_of random) ≡ o → ConnectionRuled (cond (is_some (placed o)) (refused not_possible) granted)
    connection_used asked lt room None e =
        ruled_granted k (record { asked = asked; within = rw (same_master asked) lt; room = room; fresh = e }) (not_spent lt) (λ w. w)
    connection_used asked lt room (Some y) e = ruled_not_possible (λ g. no_some (sym g.fresh ∙ e)) (not_spent lt) (λ w. w)

    connection_room : (asked : MasterAsked l msa tsca tsim) → x.item.count < connections_limit l.keys x.item → (b : Bool) → full l.links ≡ b
        → ConnectionRuled (cond b (refused no_row) (cond (is_some (placed (link_named l (id_of random)))) (refused not_possible) granted))
    connection_room asked lt true e = ruled_no_room (λ g. never (sym e ∙ g.room)) (not_spent lt) (λ w. w)
    connection_room asked lt false e = connection_used asked lt e (link_named l (id_of random)) refl

    connection_limit : (asked : MasterAsked l msa tsca tsim) → (b : Bool) → leb (connections_limit l.keys x.item) x.item.count ≡ b
        → ConnectionRuled (cond b spent (cond (full l.links) (refused no_row) (cond (is_some (placed (link_named l (id_of random)))) (refused not_possible) granted)))
    connection_limit asked true e =
        let le : connections_limit l.keys x.item ≤ x.item.count = leb-true (connections_limit l.keys x.item) x.item.count e in
        ruled_spent (λ g. let h : g.asked.master.item.count < connections_limit l.keys g.asked.master.item = g.within in
        let h' : x.item.count < connections_limit l.keys x.item = rw (same_master g.asked) at h in omega arith)
        (record { asked = asked; spent = rw (same_master asked) le }) (λ w. w)
    connection_limit asked false e = connection_room asked (leb-false (connections_limit l.keys x.item) x.item.count e) (full l.links) refl

    connection_suite : (u : Option Suite) → common tsca tsim ≡ u → ConnectionRuled (suite_verdict (tables_of l) random x u)
    connection_suite None e = ruled_not_possible (λ g. no_some (sym e ∙ g.asked.agreed)) (λ s. no_some (sym e ∙ s.asked.agreed)) (λ w. w)
    connection_suite (Some u) e =
        rw (full_links l.links, found_link (id_of random) l.links)
        (connection_limit (record { master = x; named = named; suite = u; agreed = e }) (leb (connections_limit l.keys x.item) x.item.count) refl)

  connection_ruling : (o : Option (At Master)) → master_named l msa ≡ o → ConnectionRuled (connection_verdict (tables_of l) random (common tsca tsim) o)
  connection_ruling None e = ruled_unknown (λ g. no_some (sym e ∙ g.asked.named)) (λ s. no_some (sym e ∙ s.asked.named)) (λ w. w)
  connection_ruling (Some x) e = connection_suite x e (common tsca tsim) refl

-- MACs.
module _ (𝓗 : Hashing) (l : Book) (k : Kind) where
  module _ (csa : List ℕ) (size : ℕ) (mac : List ℕ) where
    abbrev StartRuled : Verdict → Type 0
    StartRuled v = Ruled (reading (status_bytes (said k v))) (StartInOrder 𝓗 l csa size mac) ⊥ (StartForged 𝓗 l csa size mac)

    module _ (x : At Link) (named : link_named l csa ≡ Some x) where
      same_link : (q : StartAsked l csa) → q.link ≡ x
      same_link q = some_same (sym q.named ∙ named)

      start_mac : x.item.dialogue ≡ None → (b : Bool) → same_bytes (mac_of 𝓗 x.item.mac (csa ++ size ∷ [])) mac ≡ b → StartRuled (cond b granted wrong_mac)
      start_mac fresh true e =
          let right = same_true (mac_of 𝓗 x.item.mac (csa ++ size ∷ [])) mac e in
          ruled_granted k (record { asked = record { link = x; named = named; new = fresh }; right = right }) (λ s. s)
          (λ w. w.wrong (ap (λ (y : At Link). mac_of 𝓗 y.item.mac (csa ++ size ∷ [])) (same_link w.asked) ∙ right))
      start_mac fresh false e =
          let wrong = same_false (mac_of 𝓗 x.item.mac (csa ++ size ∷ [])) mac e in
          ruled_forged (λ g. wrong (ap (λ (y : At Link). mac_of 𝓗 y.item.mac (csa ++ size ∷ [])) (sym (same_link g.asked)) ∙ g.right)) (λ s. s)
          (record { asked = record { link = x; named = named; new = fresh }; wrong = wrong })

      start_new : (d : Option Dialogue) → x.item.dialogue ≡ d → StartRuled (cond (is_started (session_of d)) (refused already_started) (right_mac 𝓗 x.item.mac (csa ++ size ∷ []) mac))
      start_new None e = start_mac e (same_bytes (mac_of 𝓗 x.item.mac (csa ++ size ∷ [])) mac) refl
      start_new (Some d) e =
          ruled_not_now (λ g. no_some (sym g.asked.new ∙ ap (λ (y : At Link). y.item.dialogue) (same_link g.asked) ∙ e)) (λ s. s)
          (λ w. no_some (sym w.asked.new ∙ ap (λ (y : At Link). y.item.dialogue) (same_link w.asked) ∙ e))

    start_ruling : (o : Option (At Link)) → link_named l csa ≡ o → StartRuled (start_verdict 𝓗 csa size mac (placed o))
    start_ruling None e = ruled_unknown (λ g. no_some (sym e ∙ g.asked.named)) (λ s. s) (λ w. no_some (sym e ∙ w.asked.named))
    start_ruling (Some x) e = start_new x e x.item.dialogue refl

  module _ (msa mac : List ℕ) where
    abbrev MasterEndRuled : Verdict → Type 0
    MasterEndRuled v = Ruled (reading (status_bytes (said k v))) (MasterEndForged 𝓗 l msa mac → ⊥) ⊥ (MasterEndForged 𝓗 l msa mac)

    master_end_mac : (x : At Master) → master_named l msa ≡ Some x → (b : Bool) → same_bytes (mac_of 𝓗 x.item.secret x.item.id) mac ≡ b → MasterEndRuled (cond b granted wrong_mac)
    master_end_mac x named true e =
        let right = same_true (mac_of 𝓗 x.item.secret x.item.id) mac e in
        let kept : MasterEndForged 𝓗 l msa mac → ⊥ = λ w. w.wrong (ap (λ (y : At Master). mac_of 𝓗 y.item.secret y.item.id) (some_same (sym w.named ∙ named)) ∙ right) in
        ruled_granted k kept (λ s. s) kept
    master_end_mac x named false e =
        let forged : MasterEndForged 𝓗 l msa mac = record { master = x; named = named; wrong = same_false (mac_of 𝓗 x.item.secret x.item.id) mac e } in
        ruled_forged (λ g. g forged) (λ s. s) forged

    master_end_ruling : (o : Option (At Master)) → master_named l msa ≡ o → MasterEndRuled (end_master_verdict 𝓗 mac o)
    master_end_ruling None e = ruled_granted k (λ w. no_some (sym e ∙ w.named)) (λ s. s) (λ w. no_some (sym e ∙ w.named))
    master_end_ruling (Some x) e = master_end_mac x e (same_bytes (mac_of 𝓗 x.item.secret x.item.id) mac) refl

  module _ (csa mac : List ℕ) where
    abbrev ConnectionEndRuled : Verdict → Type 0
    ConnectionEndRuled v = Ruled (reading (status_bytes (said k v))) (ConnectionEndForged 𝓗 l csa mac → ⊥) ⊥ (ConnectionEndForged 𝓗 l csa mac)

    connection_end_mac : (x : At Link) → link_named l csa ≡ Some x → (b : Bool) → same_bytes (mac_of 𝓗 x.item.mac x.item.id) mac ≡ b → ConnectionEndRuled (cond b granted wrong_mac)
    connection_end_mac x named true e =
        let right = same_true (mac_of 𝓗 x.item.mac x.item.id) mac e in
        let kept : ConnectionEndForged 𝓗 l csa mac → ⊥ = λ w. w.wrong (ap (λ (y : At Link). mac_of 𝓗 y.item.mac y.item.id) (some_same (sym w.named ∙ named)) ∙ right) in
        ruled_granted k kept (λ s. s) kept
    connection_end_mac x named false e =
        let forged : ConnectionEndForged 𝓗 l csa mac = record { link = x; named = named; wrong = same_false (mac_of 𝓗 x.item.mac x.item.id) mac e } in
        ruled_forged (λ g. g forged) (λ s. s) forged

    connection_end_ruling : (o : Option (At Link)) → link_named l csa ≡ o → ConnectionEndRuled (end_connection_verdict 𝓗 mac (placed o))
    connection_end_ruling None e = ruled_granted k (λ w. no_some (sym e ∙ w.named)) (λ s. s) (λ w. no_some (sym e ∙ w.named))
    connection_end_ruling (Some x) e = connection_end_mac x e (same_bytes (mac_of 𝓗 x.item.mac x.item.id) mac) refl

  pub ruling : (random : List ℕ) (a : Asked) → RuledAsked 𝓗 l random a (reading (status_bytes (said k (verdict 𝓗 (tables_of l) random a))))
  ruling random layout = refl
  ruling random (ask_master ref mechanisms) = master_ruling l random ref mechanisms k (key_named l ref) refl
  ruling random (ask_connection msa tnonce tsca tsim) = connection_ruling l random msa tsca tsim k (master_named l msa) refl
  ruling random (ask_start csa size mac) = rw (found_link csa l.links) (start_ruling csa size mac (link_named l csa) refl)
  ruling random (end_master msa mac) = master_end_ruling msa mac (master_named l msa) refl
  ruling random (end_connection csa mac) = rw (found_link csa l.links) (connection_end_ruling csa mac (link_named l csa) refl)

-- A discovery.
pub discovered : (f n : ℕ) (b : Bool) → ltb n 11 ≡ b → Shows f n (reading (take n (shown f) ++ cond b (status_bytes sw.MoreToFetch) (status_bytes sw.Done)))
discovered f n true e =
    let lt = ltb-true n 11 e in
    subst (λ (a : Reading). Shows f n a) (sym (reads (take n (shown f)) 0x62 0xF1)) (record { bytes = refl; all = no (λ h. omega arith); part = yes lt })
discovered f n false e =
    let ge = ltb-false n 11 e in
    subst (λ (a : Reading). Shows f n a) (sym (reads (take n (shown f)) 0x90 0x00)) (record { bytes = refl; all = yes ge; part = no (λ h. omega arith) })
