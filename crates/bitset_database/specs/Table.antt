-- A table of rows of bits, and what a call leaves of its words. Assumes nothing.
use Rattle.std.specs.Prelude.{◌≡◌, ℕ, ◌+◌, ◌-◌, ◌*◌, ◌<◌, ◌≤◌, true, List, length, slice_index}
use Rattle.qbf.specs.Qbf.{formed}
use Rattle.bitset_rows.specs.Rows.{row, rows}
use Rattle.database.specs.Meaning.{Meaning}

-- Each row in use stands for a well formed constraint: no variable has both its bits set.
abbrev pub WellFormed : List ℕ → ℕ → Type 0
WellFormed words count = (k : ℕ) → k < count → formed (row words k) ≡ true

-- A constraint costs one cell, whatever its length.
abbrev pub table_meaning : List ℕ → ℕ → ℕ → Meaning
table_meaning words total count = record { list = rows words count; cells = total; left = total - count; cost = λ _. 1 }

-- All words but those of the row k are as they were.
pub record Beside (before after : List ℕ) (k : ℕ) : Type 0 where
  pub front : (i : ℕ) → i < 16 * k → slice_index after i ≡ slice_index before i
  pub back : (i : ℕ) → 16 * k + 16 ≤ i → slice_index after i ≡ slice_index before i
  pub long : length after ≡ length before

-- The row k stands for C; all other words are as they were.
pub record Stored (before after : List ℕ) (k : ℕ) (C : List ℕ) : Type 0 where
  pub codes : row after k ≡ C
  pub beside : Beside before after k
