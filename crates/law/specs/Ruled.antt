-- A whole object is granted exactly when it is in order, 69 83 is answered exactly beyond a limit, and 69 88 exactly to a wrong
-- MAC; and a discovery shows the ledger's failure count.
use Rattle.std.specs.Prelude.{◌≡◌, ℕ, ◌<◌, ◌≤◌, Bool, true, false, cond, ◌||◌, ◌↔◌, List, [], ◌∷◌, ◌++◌, take, Some, None, Option}
use Rattle.sealing.specs.declared.suite.Suite.{Suite}
use Rattle.apdu.specs.Command.{Shape, bare, le, alone, both}
use Rattle.objects.specs.Joined.{Object, incomplete, bad, value, object}
use Rattle.objects.specs.Asked.{Asked, layout, ask_master, ask_connection, ask_start, end_master, end_connection}
use Rattle.law.specs.Request.{Kind, same_kind, asked}
use Rattle.law.specs.Associations.{Hashing, Key, Master, connections_limit, bit, common, id_of, mac_of}
use Rattle.law.specs.Rows.{At, full, is_some}
use Rattle.personalise.specs.Load.{Loading, malformed, unset, loads}
use Rattle.law.specs.Calls.{Answer, not_taken, powered, loaded, refused_host, replied}
use Rattle.law.specs.Ledger.{Reading, is, Link, Parts, Book, key_named, master_named, link_named}

-- 62 F3, or 90 00 to a termination.
abbrev pub grants : Reading → Bool
grants a = is 0x62 0xF3 a || is 0x90 0x00 a

pub record Ruled (a : Reading) (InOrder Spent Forged : Type 0) : Type 0 where
  pub granted : (grants a ≡ true) ↔ InOrder
  pub spent : (is 0x69 0x83 a ≡ true) ↔ Spent
  pub forged : (is 0x69 0x88 a ≡ true) ↔ Forged

-- A key of this ref is held, is not weak, and the mechanism is asked for.
pub record KeyAsked (l : Book) (ref : List ℕ) (mechanisms : ℕ) : Type 0 where
  pub key : At Key
  pub named : key_named l ref ≡ Some key
  pub common : bit 1 mechanisms ≡ true
  pub strong : key.item.says.weak ≡ false

-- It has yielded fewer masters than its limit lets, a master row is free, and the identifier is new.
pub record MasterInOrder (l : Book) (random ref : List ℕ) (mechanisms : ℕ) : Type 0 where
  pub asked : KeyAsked l ref mechanisms
  pub within : asked.key.item.count < asked.key.item.says.masters
  pub room : full l.masters ≡ false
  pub fresh : master_named l (id_of random) ≡ None

pub record MasterSpent (l : Book) (ref : List ℕ) (mechanisms : ℕ) : Type 0 where
  pub asked : KeyAsked l ref mechanisms
  pub spent : asked.key.item.says.masters ≤ asked.key.item.count

-- A master of this identifier is held, and there is a common suite.
pub record MasterAsked (l : Book) (msa : List ℕ) (tsca tsim : ℕ) : Type 0 where
  pub master : At Master
  pub named : master_named l msa ≡ Some master
  pub suite : Suite
  pub agreed : common tsca tsim ≡ Some suite

-- It has yielded fewer connections than its key lets, a connection row is free, and the identifier is new.
pub record ConnectionInOrder (l : Book) (random msa : List ℕ) (tsca tsim : ℕ) : Type 0 where
  pub asked : MasterAsked l msa tsca tsim
  pub within : asked.master.item.count < connections_limit l.keys asked.master.item
  pub room : full l.links ≡ false
  pub fresh : link_named l (id_of random) ≡ None

pub record ConnectionSpent (l : Book) (msa : List ℕ) (tsca tsim : ℕ) : Type 0 where
  pub asked : MasterAsked l msa tsca tsim
  pub spent : connections_limit l.keys asked.master.item ≤ asked.master.item.count

-- A connection of this identifier is held, and its session is not started.
pub record StartAsked (l : Book) (csa : List ℕ) : Type 0 where
  pub link : At Link
  pub named : link_named l csa ≡ Some link
  pub new : link.item.dialogue ≡ None

module _ (𝓗 : Hashing) where
  pub record StartInOrder (l : Book) (csa : List ℕ) (size : ℕ) (mac : List ℕ) : Type 0 where
    pub asked : StartAsked l csa
    pub right : mac_of 𝓗 asked.link.item.mac (csa ++ size ∷ []) ≡ mac

  pub record StartForged (l : Book) (csa : List ℕ) (size : ℕ) (mac : List ℕ) : Type 0 where
    pub asked : StartAsked l csa
    pub wrong : mac_of 𝓗 asked.link.item.mac (csa ++ size ∷ []) ≡ mac → ⊥

  -- A termination is in order unless what it names is held and the MAC is wrong.
  pub record MasterEndForged (l : Book) (msa mac : List ℕ) : Type 0 where
    pub master : At Master
    pub named : master_named l msa ≡ Some master
    pub wrong : mac_of 𝓗 master.item.secret master.item.id ≡ mac → ⊥

  pub record ConnectionEndForged (l : Book) (csa mac : List ℕ) : Type 0 where
    pub link : At Link
    pub named : link_named l csa ≡ Some link
    pub wrong : mac_of 𝓗 link.item.mac link.item.id ≡ mac → ⊥

  -- Each thing that an object can ask for. Another layout is 6A 80.
  abbrev pub RuledAsked : Book → List ℕ → Asked → Reading → Type 0
  RuledAsked l random layout a = is 0x6A 0x80 a ≡ true
  RuledAsked l random (ask_master ref mechanisms) a = Ruled a (MasterInOrder l random ref mechanisms) (MasterSpent l ref mechanisms) ⊥
  RuledAsked l random (ask_connection msa tnonce tsca tsim) a = Ruled a (ConnectionInOrder l random msa tsca tsim) (ConnectionSpent l msa tsca tsim) ⊥
  RuledAsked l random (ask_start csa size mac) a = Ruled a (StartInOrder l csa size mac) ⊥ (StartForged l csa size mac)
  RuledAsked l random (end_master msa mac) a = Ruled a (MasterEndForged l msa mac → ⊥) ⊥ (MasterEndForged l msa mac)
  RuledAsked l random (end_connection csa mac) a = Ruled a (ConnectionEndForged l csa mac → ⊥) ⊥ (ConnectionEndForged l csa mac)

  -- A bad header or a byte too many is 6A 80, an incomplete object 63 F1.
  abbrev pub RuledObject : Book → List ℕ → Kind → Object → Reading → Type 0
  RuledObject l random k bad a = is 0x6A 0x80 a ≡ true
  RuledObject l random k incomplete a = is 0x63 0xF1 a ≡ true
  RuledObject l random k (value v) a = RuledAsked l random (asked k v) a

  -- Blocks joined before, and one with data alone; any other shape is 67 00.
  abbrev pub RuledBlock : Book → List ℕ → Kind → List ℕ → Shape → Reading → Type 0
  RuledBlock l random k j (alone d) a = RuledObject l random k (object (j ++ d)) a
  RuledBlock l random k j bare a = is 0x67 0x00 a ≡ true
  RuledBlock l random k j (le n) a = is 0x67 0x00 a ≡ true
  RuledBlock l random k j (both d n) a = is 0x67 0x00 a ≡ true

  -- A next block goes with those in hand; where there are none, it is 69 85, and with those of another kind 6A 86.
  abbrev pub RuledAs : Book → List ℕ → Kind → List ℕ → Shape → Reading → Bool → Type 0
  RuledAs l random k j s a true = RuledBlock l random k j s a
  RuledAs l random k j s a false = is 0x6A 0x86 a ≡ true

  abbrev pub RuledNext : Book → List ℕ → Kind → Shape → Reading → Option Parts → Type 0
  RuledNext l random k s a None = is 0x69 0x85 a ≡ true
  RuledNext l random k s a (Some p) = RuledAs l random k p.bytes s a (same_kind p.kind k)

-- What a card that requires the channel says of itself, with this failure count.
abbrev pub shown : ℕ → List ℕ
shown failures = 0x73 ∷ 0x09 ∷ 0x91 ∷ 0x01 ∷ 0xFF ∷ 0x92 ∷ 0x01 ∷ 0x01 ∷ 0x8F ∷ 0x01 ∷ failures ∷ []

-- The first n bytes of that, with 90 00 where these are all and 62 F1 where they are not.
pub record Shows (failures n : ℕ) (a : Reading) : Type 0 where
  pub bytes : a.bytes ≡ take n (shown failures)
  pub all : (is 0x90 0x00 a ≡ true) ↔ (11 ≤ n)
  pub part : (is 0x62 0xF1 a ≡ true) ↔ (n < 11)

-- A discovery carries Le alone.
abbrev pub Discovered : ℕ → Shape → Reading → Type 0
Discovered failures (le n) a = Shows failures n a
Discovered failures bare a = is 0x67 0x00 a ≡ true
Discovered failures (alone d) a = is 0x67 0x00 a ≡ true
Discovered failures (both d n) a = is 0x67 0x00 a ≡ true

-- What a load answers, where it is taken: 1 malformed, 2 limit unset, 3 ref already held, 4 no key row, 0 accepted.
abbrev pub load_answer : Book → Loading → ℕ
load_answer b malformed = 1
load_answer b unset = 2
load_answer b (loads k) = cond (is_some (key_named b k.ref)) 3 (cond (full b.keys) 4 0)

abbrev pub LoadedAs : ℕ → Answer → Type 0
LoadedAs n (loaded k) = k ≡ n
LoadedAs n not_taken = Unit {0}
LoadedAs n powered = Unit {0}
LoadedAs n (refused_host k) = Unit {0}
LoadedAs n (replied a) = Unit {0}
