-- What an object's value asks for, by the kind of request that it came with.
use Rattle.std.specs.Prelude.{ℕ, cond, List, [], ◌∷◌, Some, None, Option, nat_lt, slice_index, slice_index_or}
use Rattle.objects.specs.declared.request.MasterRequest.{MasterRequest}
use Rattle.objects.specs.declared.request.ConnectionRequest.{ConnectionRequest}
use Rattle.objects.specs.declared.request.StartRequest.{StartRequest}
use Rattle.objects.specs.declared.request.EndRequest.{EndRequest}
use Rattle.objects.specs.declared.request.Named.{Named}
use Rattle.objects.specs.declared.request.Named.TheVariants as named
use Rattle.objects.specs.Fields.{field, sixteen, one_byte, taken, values}

-- A request with its values; `layout` stands for bytes that are not its objects, in order, with nothing behind.
pub data Asked : Type 0 where
  layout : Asked
  ask_master : (reference : List ℕ) (mechanisms : ℕ) → Asked
  ask_connection : (master nonce : List ℕ) (ciphers mechanisms : ℕ) → Asked
  ask_start : (connection : List ℕ) (container : ℕ) (mac : List ℕ) → Asked
  end_master : (master mac : List ℕ) → Asked
  end_connection : (connection mac : List ℕ) → Asked

-- A request made of the values that were read, or its layout is wrong.
abbrev made : (List (List ℕ) → Asked) → Option (List (List ℕ)) → Asked
made f None = layout
made f (Some vs) = f vs

abbrev nth : List (List ℕ) → ℕ → List ℕ
nth vs i = slice_index_or vs i []

abbrev byte : List (List ℕ) → ℕ → ℕ
byte vs i = slice_index (nth vs i) 0

-- Establish a master: the key's reference and the terminal's mechanisms.
abbrev pub asked_master : List ℕ → Asked
asked_master bs = made (λ vs. ask_master (nth vs 0) (byte vs 1)) (values (field 0x81 22 68 ∷ one_byte 0x82 ∷ []) bs)

-- Establish a connection: the master's identifier, the terminal's nonce, ciphers and mechanisms.
abbrev pub asked_connection : List ℕ → Asked
asked_connection bs =
    made (λ vs. ask_connection (nth vs 0) (nth vs 1) (byte vs 2) (byte vs 3))
    (values (sixteen 0x83 ∷ sixteen 0x85 ∷ one_byte 0x86 ∷ one_byte 0x87 ∷ []) bs)

-- A container of fewer than 10 bytes is no container.
abbrev contained : List ℕ → ℕ → List ℕ → Asked
contained connection container mac = cond (nat_lt container 10) layout (ask_start connection container mac)

-- Start a session: the connection's identifier, the container's size and a MAC over both.
abbrev pub asked_start : List ℕ → Asked
asked_start bs =
    made (λ vs. contained (nth vs 0) (byte vs 1) (nth vs 2)) (values (sixteen 0x88 ∷ one_byte 0x90 ∷ sixteen 0x8D ∷ []) bs)

-- Terminate a master if its identifier stands first, else a connection: the identifier and a MAC over it.
abbrev ends : Option (List ℕ) → List ℕ → Asked
ends (Some _) bs = made (λ vs. end_master (nth vs 0) (nth vs 1)) (values (sixteen 0x83 ∷ sixteen 0x8E ∷ []) bs)
ends None bs = made (λ vs. end_connection (nth vs 0) (nth vs 1)) (values (sixteen 0x88 ∷ sixteen 0x8E ∷ []) bs)

abbrev pub asked_end : List ℕ → Asked
asked_end bs = ends (taken (sixteen 0x83) bs) bs

-- What the code's answers say.
abbrev pub seen_master : Option MasterRequest → Asked
seen_master None = layout
seen_master (Some q) = ask_master q.reference.now q.mechanisms

abbrev pub seen_connection : Option ConnectionRequest → Asked
seen_connection None = layout
seen_connection (Some q) = ask_connection q.master.now q.nonce.now q.ciphers q.mechanisms

abbrev pub seen_start : Option StartRequest → Asked
seen_start None = layout
seen_start (Some q) = ask_start q.connection.now q.container q.mac.now

abbrev ended : Named → List ℕ → Asked
ended (named.Master id) mac = end_master id.now mac
ended (named.Connection id) mac = end_connection id.now mac

abbrev pub seen_end : Option EndRequest → Asked
seen_end None = layout
seen_end (Some q) = ended q.named q.mac.now

-- The identifier that a termination names.
abbrev pub identifier : Named → List ℕ
identifier (named.Master id) = id.now
identifier (named.Connection id) = id.now
