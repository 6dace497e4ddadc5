-- The expansion of a key and a seed into as many bytes as are wanted, and the parts that are used of it.
use Rattle.std.specs.Prelude.{ℕ, zero, suc, List, [], ◌∷◌, ◌++◌, take, drop}
use Rattle.hmac.specs.Hmac.{hmac}

-- The string number n: T1 = HMAC(key, seed ‖ 01), T2 = HMAC(key, T1 ‖ seed ‖ 02), and so on, up to 255.
unfoldable pub turn : ℕ → List ℕ → List ℕ → List ℕ
turn zero key seed = []
turn (suc n) key seed = hmac key (turn n key seed ++ (seed ++ suc n ∷ []))

-- T1 ‖ T2 ‖ .. ‖ Tn
unfoldable pub stream : ℕ → List ℕ → List ℕ → List ℕ
stream zero key seed = []
stream (suc n) key seed = stream n key seed ++ turn (suc n) key seed

-- The 64 bytes that a connection expands: T1 ‖ T2. 58 of them are key material, the last 2 of those unused.
abbrev pub expanded : List ℕ → List ℕ → List ℕ
expanded key seed = stream 2 key seed

-- The first 16 bytes: the key of the connection's MACs.
abbrev pub mac_key : List ℕ → List ℕ
mac_key material = take 16 material

-- The next 40 bytes: the sealer's keys.
abbrev pub sealer_keys : List ℕ → List ℕ
sealer_keys material = take 40 (drop 16 material)
