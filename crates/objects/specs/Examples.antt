-- Either side of a line, worked.
use Rattle.std.specs.Prelude.{◌≡◌, ℕ, List, [], ◌∷◌, ◌++◌, replicate}
use Rattle.objects.specs.Joined.{incomplete, bad, value, object}
use Rattle.objects.specs.Asked.{layout, ask_master, ask_start, end_master, end_connection, asked_master, asked_start, asked_end}

-- Tag, length byte, and a value of one byte repeated.
abbrev filling : ℕ → ℕ → ℕ → List ℕ
filling t n x = t ∷ n ∷ replicate n x

abbrev start_of : ℕ → List ℕ
start_of container = filling 0x88 16 0xC1 ++ (0x90 ∷ 1 ∷ container ∷ []) ++ filling 0x8D 16 0xAA

pub record Worked : Type 0 where
  pub tag_alone : object (0x73 ∷ []) ≡ incomplete
  pub other_tag : object (0x72 ∷ []) ≡ bad
  pub long_form_alone : object (0x73 ∷ 0x81 ∷ []) ≡ incomplete
  pub other_form : object (0x73 ∷ 0x82 ∷ []) ≡ bad
  pub no_value : object (0x73 ∷ 0x00 ∷ []) ≡ value []
  pub long_form_of_one : object (0x73 ∷ 0x81 ∷ 0x01 ∷ 0x55 ∷ []) ≡ value (0x55 ∷ [])
  pub byte_short : object (0x73 ∷ 0x02 ∷ 0x55 ∷ []) ≡ incomplete
  pub byte_over : object (0x73 ∷ 0x01 ∷ 0x55 ∷ 0x55 ∷ []) ≡ bad
  pub container_9 : asked_start (start_of 9) ≡ layout
  pub container_10 : asked_start (start_of 10) ≡ ask_start (replicate 16 0xC1) 10 (replicate 16 0xAA)
  pub reference_21 : asked_master (filling 0x81 21 0xEE ++ (0x82 ∷ 1 ∷ 1 ∷ [])) ≡ layout
  pub reference_22 : asked_master (filling 0x81 22 0xEE ++ (0x82 ∷ 1 ∷ 1 ∷ [])) ≡ ask_master (replicate 22 0xEE) 1
  pub reference_68 : asked_master (filling 0x81 68 0xEE ++ (0x82 ∷ 1 ∷ 1 ∷ [])) ≡ ask_master (replicate 68 0xEE) 1
  pub reference_69 : asked_master (filling 0x81 69 0xEE ++ (0x82 ∷ 1 ∷ 1 ∷ [])) ≡ layout
  pub a_master_ends : asked_end (filling 0x83 16 0xA1 ++ filling 0x8E 16 0xAA) ≡ end_master (replicate 16 0xA1) (replicate 16 0xAA)
  pub a_connection_ends : asked_end (filling 0x88 16 0xC1 ++ filling 0x8E 16 0xAA) ≡ end_connection (replicate 16 0xC1) (replicate 16 0xAA)
  pub byte_behind : asked_end (filling 0x88 16 0xC1 ++ filling 0x8E 16 0xAA ++ (0x00 ∷ [])) ≡ layout
