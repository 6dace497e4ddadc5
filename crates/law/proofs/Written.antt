-- Every key in the ledger was written by a load that was answered 0.
use Rattle.std.proofs.Common.{◌≡◌, ℕ, Bool, true, false, cond, ◌||◌, eqb, ◌⊎◌, List, [], ◌∷◌, ◌++◌, get_or, set, Some, None, Option, sym, refl, ap, ◌∙◌, subst, inl, inr, eqb-true}
use Rattle.sealing.specs.declared.suite.Suite.{Suite}
use Rattle.sealing.specs.Sealing.{Sealing}
use Rattle.apdu.specs.Command.{Shape, bare, le, alone, both, data_of}
use Rattle.objects.specs.Asked.{Asked, layout, ask_master, ask_connection, ask_start, end_master, end_connection}
use Rattle.personalise.specs.Load as text_of
use Rattle.personalise.specs.Load.{Lines, Loading, loading}
use Rattle.law.specs.Rows.{At}
use Rattle.law.specs.Request.{Kind, Block, Request, malformed, other, unlisted, begin, continue, discover, answer, go_on, block, fetch, discard, request}
use Rattle.law.specs.Calls.{Entry, Call, load, power_on, power_off, command, Answer, not_taken, powered, loaded, refused_host, replied}
use Rattle.law.specs.Associations.{Hashing, Key, Master, new_key, one_more_master, common}
use Rattle.law.specs.Ledger.{Reading, reading, is, Dialogue, Link, Parts, Book, Ledger, blank, rewrites, strikes_key, strikes_master, strikes_link, starts, key_named, master_named, link_named, enters_master, enters_link, enters_connection, carried_out, beyond_limit, asks, enters_object, enters_next, enters_discovery, is_joined, in_hand, joined, opens_to, enters_complete, enters_joined, enters_dialogue, enters_block, enters_discard_in, enters_discard, enters_key, enters_load, enters_power_off, enters_request, enters_command, enters, ledger}
use Rattle.personalise.proofs.OnlyWritten.{written_if_loaded}
use Rattle.law.specs.Held.{Writes, Wrote}
use Rattle.law.proofs.Rows.{no_some, some_same, set_some, entered_some, found_at, none_free}

-- Each key of the second rows has what one of the first says.
abbrev SaysKept : List (Option Key) → List (Option Key) → Type 0
SaysKept ks ks' = (i : ℕ) (k : Key) → get_or ks' i None ≡ Some k → (j : ℕ) × (k' : Key) × (get_or ks j None ≡ Some k') × (k'.says ≡ k.says)

same_keys : (ks : List (Option Key)) → SaysKept ks ks
same_keys ks i k e = (i, k, e, refl)

-- a key struck, a key counted
key_struck : (ks : List (Option Key)) (row : ℕ) → SaysKept ks (set ks row None)
key_struck ks row i k e = by (set_some ks row None i k e)
  where
    by : ((i ≡ row) × (None ≡ Some k)) ⊎ ((i ≡ row → ⊥) × (get_or ks i None ≡ Some k)) → (j : ℕ) × (k' : Key) × (get_or ks j None ≡ Some k') × (k'.says ≡ k.says)
    by (inl p) = no_some p.1
    by (inr p) = (i, k, p.1, refl)

key_counted : (ks : List (Option Key)) (x : At Key) → get_or ks x.row None ≡ Some x.item → SaysKept ks (set ks x.row (Some (one_more_master x.item)))
key_counted ks x h i k e = by (set_some ks x.row (Some (one_more_master x.item)) i k e)
  where
    by : ((i ≡ x.row) × (Some (one_more_master x.item) ≡ Some k)) ⊎ ((i ≡ x.row → ⊥) × (get_or ks i None ≡ Some k)) → (j : ℕ) × (k' : Key) × (get_or ks j None ≡ Some k') × (k'.says ≡ k.says)
    by (inl p) = (x.row, x.item, h, ap (λ (y : Key). y.says) (some_same p.1))
    by (inr p) = (i, k, p.1, refl)

module _ (b : Book) where
  strikes_key_says : (o : Option (At Key)) → SaysKept b.keys (strikes_key b o).keys
  strikes_key_says None = same_keys b.keys
  strikes_key_says (Some k) = key_struck b.keys k.row

  strikes_master_says : (o : Option (At Master)) → SaysKept b.keys (strikes_master b o).keys
  strikes_master_says None = same_keys b.keys
  strikes_master_says (Some m) = same_keys b.keys

  strikes_link_says : (o : Option (At Link)) → SaysKept b.keys (strikes_link b o).keys
  strikes_link_says None = same_keys b.keys
  strikes_link_says (Some x) = same_keys b.keys

  starts_says : (size : ℕ) (o : Option (At Link)) → SaysKept b.keys (starts b size o).keys
  starts_says size None = same_keys b.keys
  starts_says size (Some x) = same_keys b.keys

  limit_says : (a : Asked) → SaysKept b.keys (beyond_limit b a).keys
  limit_says layout = same_keys b.keys
  limit_says (ask_master ref mechanisms) = strikes_key_says (key_named b ref)
  limit_says (ask_connection msa tnonce tsca tsim) = strikes_master_says (master_named b msa)
  limit_says (ask_start csa size mac) = same_keys b.keys
  limit_says (end_master msa mac) = same_keys b.keys
  limit_says (end_connection csa mac) = same_keys b.keys

  module _ (𝓗 : Hashing) (random : List ℕ) where
    enters_master_says : (o : Option (At Key)) → ((x : At Key) → o ≡ Some x → get_or b.keys x.row None ≡ Some x.item) → SaysKept b.keys (enters_master 𝓗 b random o).keys
    enters_master_says None h = same_keys b.keys
    enters_master_says (Some x) h = key_counted b.keys x (h x refl)

    enters_link_says : (tnonce : List ℕ) (m : At Master) (u : Option Suite) → SaysKept b.keys (enters_link 𝓗 b random tnonce m u).keys
    enters_link_says tnonce m None = same_keys b.keys
    enters_link_says tnonce m (Some u) = same_keys b.keys

    enters_connection_says : (tnonce : List ℕ) (u : Option Suite) (o : Option (At Master)) → SaysKept b.keys (enters_connection 𝓗 b random tnonce u o).keys
    enters_connection_says tnonce u None = same_keys b.keys
    enters_connection_says tnonce u (Some m) = enters_link_says tnonce m u

    carried_says : (a : Asked) → SaysKept b.keys (carried_out 𝓗 b random a).keys
    carried_says layout = same_keys b.keys
    carried_says (ask_master ref mechanisms) = enters_master_says (key_named b ref) (λ x e. found_at _ b.keys x e)
    carried_says (ask_connection msa tnonce tsca tsim) = enters_connection_says tnonce (common tsca tsim) (master_named b msa)
    carried_says (ask_start csa size mac) = starts_says size (link_named b csa)
    carried_says (end_master msa mac) = strikes_master_says (master_named b msa)
    carried_says (end_connection csa mac) = strikes_link_says (link_named b csa)

module _ (𝓗 : Hashing) (𝓢 : Sealing) where
  module _ (l : Ledger) where
    abbrev KeptBy : Ledger → Type 0
    KeptBy l' = SaysKept l.book.keys l'.book.keys

    one_of : (c : Bool) (a b : Ledger) → KeptBy a → KeptBy b → KeptBy (cond c a b)
    one_of true a b ka kb = ka
    one_of false a b ka kb = kb

    object_says : (random : List ℕ) (k : Kind) (j : List ℕ) (a : Reading) → KeptBy (enters_object 𝓗 l random k j a)
    object_says random k j a =
        one_of (is 0x67 0x00 a || is 0x6A 0x86 a) _ _ (same_keys l.book.keys)
        (one_of (is 0x63 0xF1 a) _ _ (same_keys l.book.keys)
        (one_of (is 0x62 0xF3 a || is 0x90 0x00 a) _ _ (carried_says l.book 𝓗 random (asks k j))
        (one_of (is 0x69 0x83 a) _ _ (limit_says l.book (asks k j)) (same_keys l.book.keys))))

    next_says : (random : List ℕ) (k : Kind) (s : Shape) (o : Option Parts) (a : Reading) → KeptBy (enters_next 𝓗 l random k s o a)
    next_says random k s None a = same_keys l.book.keys
    next_says random k s (Some p) a = object_says random k (p.bytes ++ data_of s) a

    discovery_says : (s : Shape) → KeptBy (enters_discovery l s)
    discovery_says bare = same_keys l.book.keys
    discovery_says (le n) = same_keys l.book.keys
    discovery_says (alone d) = same_keys l.book.keys
    discovery_says (both d n) = same_keys l.book.keys

    book_of : (c : Bool) (a b : Book) → SaysKept l.book.keys a.keys → SaysKept l.book.keys b.keys → KeptBy (rewrites l (cond c a b))
    book_of true a b ka kb = ka
    book_of false a b ka kb = kb

    complete_says : (row : ℕ) (x : Link) (size : ℕ) (b : Block) (a : Reading) (o : Option (List ℕ)) → KeptBy (enters_complete 𝓢 l row x size b a o)
    complete_says row x size b a (Some body) = same_keys l.book.keys
    complete_says row x size b a None = book_of (is 0x69 0x83 a) _ _ (same_keys l.book.keys) (same_keys l.book.keys)

    joined_says : (row : ℕ) (x : Link) (size : ℕ) (b : Block) (bs : List Block) (a : Reading) (c : Bool) → KeptBy (enters_joined 𝓢 l row x size b bs a c)
    joined_says row x size b bs a true = complete_says row x size b a (opens_to 𝓢 l.book x (joined (b ∷ bs)))
    joined_says row x size b bs a false = same_keys l.book.keys

    dialogue_says : (row : ℕ) (x : Link) (p2 : ℕ) (s : Shape) (a : Reading) (o : Option Dialogue) → KeptBy (enters_dialogue 𝓢 l row x p2 s a o)
    dialogue_says row x p2 s a None = same_keys l.book.keys
    dialogue_says row x p2 s a (Some d) =
        one_of (is_joined d.standing p2 s a) _ _ (joined_says row x d.size (record { p2 = p2; bytes = data_of s }) (in_hand d.standing) a (eqb p2 0)) (same_keys l.book.keys)

    block_says : (row p2 : ℕ) (s : Shape) (a : Reading) (o : Option Link) → KeptBy (enters_block 𝓢 l row p2 s a o)
    block_says row p2 s a None = same_keys l.book.keys
    block_says row p2 s a (Some x) = dialogue_says row x p2 s a x.dialogue

    discard_in_says : (row : ℕ) (x : Link) (a : Reading) (o : Option Dialogue) → KeptBy (enters_discard_in l row x a o)
    discard_in_says row x a None = same_keys l.book.keys
    discard_in_says row x a (Some d) = one_of (is 0x90 0x00 a) _ _ (same_keys l.book.keys) (same_keys l.book.keys)

    discard_says : (row : ℕ) (a : Reading) (o : Option Link) → KeptBy (enters_discard l row a o)
    discard_says row a None = same_keys l.book.keys
    discard_says row a (Some x) = discard_in_says row x a x.dialogue

    request_says : (random : List ℕ) (q : Request) (a : Reading) → KeptBy (enters_request 𝓗 𝓢 l random q a)
    request_says random malformed a = same_keys l.book.keys
    request_says random other a = same_keys l.book.keys
    request_says random unlisted a = same_keys l.book.keys
    request_says random (begin k s) a = object_says random k (data_of s) a
    request_says random (continue k s) a = next_says random k s l.object a
    request_says random (discover s) a = discovery_says s
    request_says random (answer k s) a = same_keys l.book.keys
    request_says random (go_on k s) a = same_keys l.book.keys
    request_says random (block row p2 s) a = block_says row p2 s a (get_or l.book.links row None)
    request_says random (fetch row n s) a = same_keys l.book.keys
    request_says random (discard row s) a = discard_says row a (get_or l.book.links row None)

    command_says : (random : List ℕ) (q : Request) (a : Answer) → KeptBy (enters_command 𝓗 𝓢 l random q a)
    command_says random q (replied a) = request_says random q (reading a)
    command_says random q not_taken = same_keys l.book.keys
    command_says random q powered = same_keys l.book.keys
    command_says random q (loaded n) = same_keys l.book.keys
    command_says random q (refused_host n) = same_keys l.book.keys

    off_says : (a : Answer) → KeptBy (enters_power_off l a)
    off_says not_taken = same_keys l.book.keys
    off_says powered = same_keys l.book.keys
    off_says (loaded n) = same_keys l.book.keys
    off_says (refused_host n) = same_keys l.book.keys
    off_says (replied a) = same_keys l.book.keys

    -- A key is as it was, or the call wrote it.
    abbrev OldOrWritten : Call → Answer → Ledger → Type 0
    OldOrWritten c a l' = (i : ℕ) (k : Key) → get_or l'.book.keys i None ≡ Some k
        → ((j : ℕ) × (k' : Key) × (get_or l.book.keys j None ≡ Some k') × (k'.says ≡ k.says)) ⊎ Writes (record { call = c; answer = a }) k.says

    old : (c : Call) (a : Answer) (l' : Ledger) → KeptBy l' → OldOrWritten c a l'
    old c a l' h i k e = inl (h i k e)

    key_written : (text : List ℕ) (o : Loading) → loading text ≡ o → OldOrWritten (load text) (loaded 0) (enters_key l o)
    key_written text text_of.malformed q i k e = inl (i, k, e, refl)
    key_written text text_of.unset q i k e = inl (i, k, e, refl)
    key_written text (text_of.loads says) q i k e = by (entered_some l.book.keys (new_key says) i k e)
      where
        by : (new_key says ≡ k) ⊎ (get_or l.book.keys i None ≡ Some k)
            → ((j : ℕ) × (k' : Key) × (get_or l.book.keys j None ≡ Some k') × (k'.says ≡ k.says)) ⊎ Writes (record { call = load text; answer = loaded 0 }) k.says
        by (inl p) =
            let w = written_if_loaded text says q in
            inr (subst (λ (y : Key). Writes (record { call = load text; answer = loaded 0 }) y.says) p (record { call = ap load w.1; accepted = refl; good = w.0 }))
        by (inr p) = inl (i, k, p, refl)

    loaded_says : (text : List ℕ) (n : ℕ) (b : Bool) → eqb n 0 ≡ b → OldOrWritten (load text) (loaded n) (cond b (enters_key l (loading text)) l)
    loaded_says text n true e = subst (λ (n : ℕ). OldOrWritten (load text) (loaded n) (enters_key l (loading text))) (sym (eqb-true n 0 e)) (key_written text (loading text) refl)
    loaded_says text n false e = old (load text) (loaded n) l (same_keys l.book.keys)

    load_says : (text : List ℕ) (a : Answer) → OldOrWritten (load text) a (enters_load l (loading text) a)
    load_says text (loaded n) = loaded_says text n (eqb n 0) refl
    load_says text not_taken = old (load text) not_taken l (same_keys l.book.keys)
    load_says text powered = old (load text) powered l (same_keys l.book.keys)
    load_says text (refused_host n) = old (load text) (refused_host n) l (same_keys l.book.keys)
    load_says text (replied a) = old (load text) (replied a) l (same_keys l.book.keys)

    call_says : (c : Call) (a : Answer) → OldOrWritten c a (enters 𝓗 𝓢 l c a)
    call_says (load text) a = load_says text a
    call_says power_on a = old power_on a l (same_keys l.book.keys)
    call_says power_off a = old power_off a (enters_power_off l a) (off_says a)
    call_says (command c r b w) a = old (command c r b w) a (enters_command 𝓗 𝓢 l r (request c) a) (command_says r (request c) a)

  -- Over a run: as it was at first, or one of the entries wrote it.
  run_says : (es : List Entry) (l : Ledger) (i : ℕ) (k : Key) → get_or (ledger 𝓗 𝓢 l es).book.keys i None ≡ Some k
      → ((j : ℕ) × (k' : Key) × (get_or l.book.keys j None ≡ Some k') × (k'.says ≡ k.says)) ⊎ Wrote es k.says
  run_says [] l i k e = inl (i, k, e, refl)
  run_says (e ∷ es) l i k h = by (run_says es (enters 𝓗 𝓢 l e.call e.answer) i k h)
    where
      back : (j : ℕ) (k' : Key) → k'.says ≡ k.says
          → ((j' : ℕ) × (k'' : Key) × (get_or l.book.keys j' None ≡ Some k'') × (k''.says ≡ k'.says)) ⊎ Writes e k'.says
          → ((j' : ℕ) × (k'' : Key) × (get_or l.book.keys j' None ≡ Some k'') × (k''.says ≡ k.says)) ⊎ Wrote (e ∷ es) k.says
      back j k' q (inl p) = inl (p.0, p.1, p.2, p.3 ∙ q)
      back j k' q (inr p) = inr (inl (subst (λ (s : Lines). Writes e s) q p))

      by : ((j : ℕ) × (k' : Key) × (get_or (enters 𝓗 𝓢 l e.call e.answer).book.keys j None ≡ Some k') × (k'.says ≡ k.says)) ⊎ Wrote es k.says
          → ((j' : ℕ) × (k'' : Key) × (get_or l.book.keys j' None ≡ Some k'') × (k''.says ≡ k.says)) ⊎ Wrote (e ∷ es) k.says
      by (inl p) = back p.0 p.1 p.3 (call_says l e.call e.answer p.0 p.1 p.2)
      by (inr p) = inr (inr p)

  pub written_law : (es : List Entry) (i : ℕ) (k : Key) → get_or (ledger 𝓗 𝓢 blank es).book.keys i None ≡ Some k → Wrote es k.says
  written_law es i k e = by (run_says es blank i k e)
    where
      by : ((j : ℕ) × (k' : Key) × (get_or blank.book.keys j None ≡ Some k') × (k'.says ≡ k.says)) ⊎ Wrote es k.says → Wrote es k.says
      by (inl p) = no_some (sym (none_free p.0) ∙ p.2)
      by (inr p) = p
