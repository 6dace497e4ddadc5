-- The same steps on whole words, as the code takes them: what each is equal to is proved from the printed tables.
use Rattle.std.specs.Prelude.{ℕ, ◌*◌, ◌/◌, ◌%◌, ◌^◌, bit_and, bit_xor}

-- In a word of 64 bits, the bits that the mask m marks change places with those s higher.
unfoldable pub exchanged : ℕ → ℕ → ℕ → ℕ
exchanged s m x = bit_xor (bit_xor x (bit_and (bit_xor (x / 2 ^ s) x) m)) (bit_and (bit_xor (x / 2 ^ s) x) m * 2 ^ s % 2 ^ 64)

-- The initial permutation of a word.
abbrev pub initial_word : ℕ → ℕ
initial_word x =
    exchanged 33 0x55555555 (exchanged 24 0xff00ff00 (exchanged 30 0xcccccccc (exchanged 48 0x0000ffff (exchanged 36 0x0f0f0f0f x))))

-- Its inverse.
abbrev pub final_word : ℕ → ℕ
final_word x =
    exchanged 36 0x0f0f0f0f (exchanged 48 0x0000ffff (exchanged 30 0xcccccccc (exchanged 24 0xff00ff00 (exchanged 33 0x55555555 x))))

-- A half of 32 bits between its last bit and its first: the expansion's eight groups are windows of six of these 34 bits.
abbrev pub wrapped : ℕ → ℕ
wrapped x = bit_xor (bit_xor (x % 2 * 2 ^ 33) (x * 2)) (x / 2 ^ 31)
