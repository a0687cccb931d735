-- How constraints lie in cells: codes from the front, and from the back two cells for each constraint. Assumes nothing.
use Rattle.std.specs.Prelude.{◌≡◌, ℕ, ◌+◌, ◌-◌, ◌*◌, ◌<◌, ◌≤◌, true, List, map, length, take, drop, ◌≢◌, slice_index}
use Rattle.std.specs.List.{range_with_len}
use Rattle.qbf.specs.Qbf.{formed}
use Rattle.database.specs.Meaning.{Meaning}

-- Where the constraint k, counted from 0, starts. At the back of the first `total` cells stand two for each constraint: its start and its length.
abbrev pub start : List ℕ → ℕ → ℕ → ℕ
start cells total k = slice_index cells (total - 2 * k - 2)

-- how many codes it has
abbrev pub size : List ℕ → ℕ → ℕ → ℕ
size cells total k = slice_index cells (total - 2 * k - 1)

-- its codes
abbrev pub held : List ℕ → ℕ → ℕ → List ℕ
held cells total k = take (size cells total k) (drop (start cells total k) cells)

-- the first `count` constraints
abbrev pub listed : List ℕ → ℕ → ℕ → List (List ℕ)
listed cells total count = map (held cells total) (range_with_len 0 count)

-- Each constraint lies among the cells used at the front,
abbrev pub Lies : List ℕ → ℕ → ℕ → ℕ → Type 0
Lies cells total used count = (k : ℕ) → k < count → start cells total k + size cells total k ≤ used

-- and is well formed.
abbrev pub WellFormed : List ℕ → ℕ → ℕ → Type 0
WellFormed cells total count = (k : ℕ) → k < count → formed (held cells total k) ≡ true

-- A constraint costs its length, and two cells more.
abbrev pub page_meaning : List ℕ → ℕ → ℕ → ℕ → Meaning
page_meaning cells total used count = record { list = listed cells total count; cells = total; left = total - used - 2 * count; cost = λ n. n + 2 }

-- The first n codes of C are written from the cell `used` on; all other cells are as they were.
pub record Wrote (before after : List ℕ) (used : ℕ) (C : List ℕ) (n : ℕ) : Type 0 where
  pub codes : (k : ℕ) → k < n → slice_index after (used + k) ≡ slice_index C k
  pub front : (k : ℕ) → k < used → slice_index after k ≡ slice_index before k
  pub back : (k : ℕ) → used + n ≤ k → slice_index after k ≡ slice_index before k
  pub long : length after ≡ length before

-- The codes of C are written from the cell `used` on, and its start and length before those of the others; all other cells are as they were.
pub record Stored (before after : List ℕ) (total used count : ℕ) (C : List ℕ) : Type 0 where
  pub codes : (k : ℕ) → k < length C → slice_index after (used + k) ≡ slice_index C k
  pub starts : start after total count ≡ used
  pub sizes : size after total count ≡ length C
  pub front : (k : ℕ) → k < used → slice_index after k ≡ slice_index before k
  pub others : (k : ℕ) → used + length C ≤ k → (k ≢ total - 2 * count - 2) → (k ≢ total - 2 * count - 1) → slice_index after k ≡ slice_index before k
  pub long : length after ≡ length before
