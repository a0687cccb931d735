-- What a constraint database means, and what its calls do to that. Assumes nothing.
use Rattle.std.specs.Prelude.{◌≡◌, ℕ, ◌-◌, ◌^◌, ◌<◌, ◌≤◌, true, cond, ◌&&◌, List, [], ◌∷◌, ◌++◌, length, is_ok, Some, None, Ok, Err, Option, Result, nat_le, slice_index_or}
use Rattle.std.specs.Option.{option_map}
use Rattle.database.specs.declared.database.Full.{Full}
use Rattle.qbf.specs.Qbf.{In, formed as is_formed}
use Rattle.qbf.specs.Constraints.{code_at as placed}

-- The constraints in the order of adding, the cells in all and left, and the cost of each length.
pub record Meaning : Type 0 where
  pub list : List (List ℕ)
  pub cells : ℕ
  pub left : ℕ
  pub cost : ℕ → ℕ

-- Cells and costs are below 2^32, a cost is at least 1, and every listed constraint is well formed. No more is asked.
pub record Lawful (m : Meaning) : Type 0 where
  pub cells : m.cells < 2 ^ 32
  pub left : m.left < 2 ^ 32
  pub costs : (n : ℕ) → n ≤ 512 → (1 ≤ m.cost n) × (m.cost n < 2 ^ 32)
  pub formed : (C : List ℕ) → In C m.list → is_formed C ≡ true

abbrev pub emptied : Meaning → Meaning
emptied m = record { list = []; cells = m.cells; left = m.cells; cost = m.cost }

-- The constraint goes to the end of the list, and the cells left fall by its cost.
abbrev pub added : Meaning → List ℕ → Meaning
added m C = record { list = m.list ++ (C ∷ []); cells = m.cells; left = m.left - m.cost (length C); cost = m.cost }

-- Adding is refused as full exactly if the cells left are below the cost of the length, and then nothing changes.
pub record Adds (m : Meaning) (C : List ℕ) (answer : Result (Unit {0}) Full) (n : Meaning) : Type 0 where
  pub answers : answer ≡ cond (nat_le (m.cost (length C)) m.left) (Ok tt) (Err (record {}))
  pub after : n ≡ cond (is_ok answer) (added m C) m

-- The constraint of a number, counted from 1.
abbrev pub numbered : List (List ℕ) → ℕ → Option (List ℕ)
numbered T n = cond (nat_le 1 n && nat_le n (length T)) (Some (slice_index_or T (n - 1) [])) None

abbrev pub length_at : List (List ℕ) → ℕ → Option ℕ
length_at T n = option_map length (numbered T n)

-- the code at a place, counted from 1, of a constraint that there may be
abbrev pub placed_in : Option (List ℕ) → ℕ → Option ℕ
placed_in None p = None
placed_in (Some C) p = placed C p

abbrev pub code_at : List (List ℕ) → ℕ → ℕ → Option ℕ
code_at T n p = placed_in (numbered T n) p

-- The cost of a length from 0 to 512.
abbrev pub cost_at : (ℕ → ℕ) → ℕ → Option ℕ
cost_at cost n = cond (nat_le n 512) (Some (cost n)) None
