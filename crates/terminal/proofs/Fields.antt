-- Where the values of a reply stand in its object.
use Rattle.std.proofs.Common.{◌≡◌, ℕ, Bool, true, false, Option, MatchOption, List, [], ◌∷◌, ◌++◌, length, get_or, take, drop, sym, refl, ap, ◌∙◌, subst, arith}
use Rattle.std.specs.Bool.{then_some}
use Rattle.std.proofs.lemmas.Bool.{false≢true}
use Rattle.std.proofs.lemmas.List.{length-append, take_at, take_all, append_assoc, drop_at, drop-drop, get_or-drop}
use Rattle.replies.specs.Reply.{tagged, inside, reply_object}
use Rattle.replies.specs.declared.reply.MasterReply.{MasterReply}
use Rattle.replies.specs.declared.reply.ConnectionReply.{ConnectionReply}
use Rattle.replies.specs.declared.reply.Reply.TheVariants.{Master, Connection}
use Rattle.terminal.specs.Heard.{IsMaster, IsConnection}

-- A value is read where a test finds it written, and where it does not, no other value of its kind is.
read_if : {X : Type 0} (b : Bool) (x : X) (Is : X → Type 0) → (b ≡ true → Is x) → ((y : X) → Is y → b ≡ true) → MatchOption (then_some b x) ((y : X) → Is y → ⊥) Is
read_if true x Is written alone = written refl
read_if false x Is written alone = λ y h. false≢true (alone y h)

pub read_where : {X : Type 0} (o : Option X) (b : Bool) (x : X) (Is : X → Type 0) → o ≡ then_some b x → (b ≡ true → Is x) → ((y : X) → Is y → b ≡ true) → MatchOption o ((y : X) → Is y → ⊥) Is
read_where {X = X} o b x Is e written alone = subst (λ p. MatchOption p ((y : X) → Is y → ⊥) Is) (sym e) (read_if b x Is written alone)

pub master_long : (bs : List ℕ) (m : MasterReply) → IsMaster bs m → length bs ≡ 23
master_long bs m h = ap length h.written ∙ simp length-append (omega (arith, h.id))

master_id : (bs : List ℕ) (m : MasterReply) → IsMaster bs m → take 16 (drop 4 bs) ≡ m.id
master_id bs m h = ap (λ xs. take 16 (drop 4 xs)) h.written ∙ take_at m.id (tagged 0x84 (1 ∷ [])) 16 h.id

-- The object that is written with what stands at a reply's places is the reply's.
pub master_cut : (bs : List ℕ) (m : MasterReply) → IsMaster bs m → bs ≡ reply_object (Master (record { id = take 16 (drop 4 bs) }))
master_cut bs m h = h.written ∙ ap (λ i. reply_object (Master (record { id = i }))) (sym (master_id bs m h))

-- What stands behind the nonce, and behind the identifier.
abbrev behind_nonce : ConnectionReply → List ℕ
behind_nonce c = tagged 0x8A (c.cipher ∷ []) ++ (tagged 0x8B (c.mechanism ∷ []) ++ tagged 0x8C c.mac)

abbrev behind_id : ConnectionReply → List ℕ
behind_id c = tagged 0x89 c.nonce ++ behind_nonce c

-- The object as it lies, from its front to its back.
laid : (bs : List ℕ) (c : ConnectionReply) → IsConnection bs c → bs ≡ 0x73 ∷ length (inside (Connection c)) ∷ (tagged 0x88 c.id ++ behind_id c)
laid bs c h =
    let a = tagged 0x88 c.id in
    let n = tagged 0x89 c.nonce in
    let u = tagged 0x8A (c.cipher ∷ []) in
    let m = tagged 0x8B (c.mechanism ∷ []) in
    let k = tagged 0x8C c.mac in
    h.written ∙ ap (λ xs. 0x73 ∷ length (inside (Connection c)) ∷ xs) (append_assoc ((a ++ n) ++ u) m k ∙ append_assoc (a ++ n) u (m ++ k) ∙ append_assoc a n (u ++ (m ++ k)))

pub connection_long : (bs : List ℕ) (c : ConnectionReply) → IsConnection bs c → length bs ≡ 62
connection_long bs c h = ap length h.written ∙ simp length-append (omega (arith, h.id, h.nonce, h.mac))

connection_id : (bs : List ℕ) (c : ConnectionReply) → IsConnection bs c → take 16 (drop 4 bs) ≡ c.id
connection_id bs c h = ap (λ xs. take 16 (drop 4 xs)) (laid bs c h) ∙ take_at c.id (behind_id c) 16 h.id

-- From the place 20 on stands what is behind the identifier, and from 38 on what is behind the nonce.
from_20 : (bs : List ℕ) (c : ConnectionReply) → IsConnection bs c → drop 20 bs ≡ behind_id c
from_20 bs c h = ap (drop 20) (laid bs c h) ∙ drop_at c.id (behind_id c) 16 h.id

from_38 : (bs : List ℕ) (c : ConnectionReply) → IsConnection bs c → drop 38 bs ≡ behind_nonce c
from_38 bs c h = sym (drop-drop 18 20 bs) ∙ ap (drop 18) (from_20 bs c h) ∙ drop_at c.nonce (behind_nonce c) 16 h.nonce

connection_nonce : (bs : List ℕ) (c : ConnectionReply) → IsConnection bs c → take 16 (drop 22 bs) ≡ c.nonce
connection_nonce bs c h = ap (take 16) (sym (drop-drop 2 20 bs) ∙ ap (drop 2) (from_20 bs c h)) ∙ take_at c.nonce (behind_nonce c) 16 h.nonce

connection_cipher : (bs : List ℕ) (c : ConnectionReply) → IsConnection bs c → get_or bs 40 0 ≡ c.cipher
connection_cipher bs c h = sym (get_or-drop 38 bs 2 0) ∙ ap (λ xs. get_or xs 2 0) (from_38 bs c h)

connection_mechanism : (bs : List ℕ) (c : ConnectionReply) → IsConnection bs c → get_or bs 43 0 ≡ c.mechanism
connection_mechanism bs c h = sym (get_or-drop 38 bs 5 0) ∙ ap (λ xs. get_or xs 5 0) (from_38 bs c h)

connection_mac : (bs : List ℕ) (c : ConnectionReply) → IsConnection bs c → take 16 (drop 46 bs) ≡ c.mac
connection_mac bs c h = ap (take 16) (sym (drop-drop 8 38 bs) ∙ ap (drop 8) (from_38 bs c h)) ∙ take_all 16 c.mac (omega (arith, h.mac))

-- The values that stand at the places of a connection's reply.
abbrev pub cut_connection : List ℕ → ConnectionReply
cut_connection bs = record { id = take 16 (drop 4 bs); nonce = take 16 (drop 22 bs); cipher = get_or bs 40 0; mechanism = get_or bs 43 0; mac = take 16 (drop 46 bs) }

pub connection_cut : (bs : List ℕ) (c : ConnectionReply) → IsConnection bs c → bs ≡ reply_object (Connection (cut_connection bs))
connection_cut bs c h =
    let id = sym (connection_id bs c h) in
    let nonce = sym (connection_nonce bs c h) in
    let cipher = sym (connection_cipher bs c h) in
    let mechanism = sym (connection_mechanism bs c h) in
    let mac = sym (connection_mac bs c h) in
    h.written ∙ (λ i. reply_object (Connection (record { id = id i; nonce = nonce i; cipher = cipher i; mechanism = mechanism i; mac = mac i })))
