-- Constraints as rows of bits: a row has 16 words of 64 bits, one bit for each code from 2 to 1025. Assumes nothing.
use Rattle.std.specs.Prelude.{ℕ, zero, suc, ◌+◌, ◌*◌, ◌/◌, ◌%◌, ◌^◌, List, [], ◌∷◌, ◌++◌, map, slice_index}
use Rattle.std.specs.List.{range_with_len}

-- the binary digit of a number at a place, counted from 0
abbrev pub digit : ℕ → ℕ → ℕ
digit w p = w / 2 ^ p % 2

-- the bit b, from 0 to 1023, of the row k
abbrev pub bit : List ℕ → ℕ → ℕ → ℕ
bit words k b = digit (slice_index words (16 * k + b / 64)) (b % 64)

-- the code where its bit is set, and nothing where it is not
abbrev pub once : ℕ → ℕ → List ℕ
once zero l = []
once (suc d) l = l ∷ []

-- The codes whose bits are set among the first n bits, in order: bit b stands for the code b + 2.
unfoldable pub chosen : (ℕ → ℕ) → ℕ → List ℕ
chosen f zero = []
chosen f (suc n) = chosen f n ++ once (f n) (n + 2)

-- the constraint that the row k stands for
abbrev pub row : List ℕ → ℕ → List ℕ
row words k = chosen (bit words k) 1024

-- the constraints of the first n rows
abbrev pub rows : List ℕ → ℕ → List (List ℕ)
rows words n = map (row words) (range_with_len 0 n)
