-- What the methods of a constraint do to its list of codes. Assumes nothing.
use Rattle.std.specs.Prelude.{◌≡◌, ℕ, ◌-◌, false, cond, ◌&&◌, List, [], ◌∷◌, ◌++◌, length, is_ok, Some, None, Ok, Err, vec_items, Option, Result, nat_le, nat_lt, slice_index}
use Rattle.qbf.specs.declared.constraint.Constraint.{Constraint}
use Rattle.qbf.specs.declared.constraint.NotPushed.{NotPushed}
use Rattle.qbf.specs.declared.constraint.NotPushed.TheVariants.{NoCode, NotAbove}
use Rattle.qbf.specs.Qbf.{variable, is_code}

-- the codes that a constraint holds
abbrev pub codes_of : Constraint → List ℕ
codes_of c = vec_items c.codes

-- the code at a place, counted from 1
abbrev pub code_at : List ℕ → ℕ → Option ℕ
code_at C p = cond (nat_le 1 p && nat_le p (length C)) (Some (slice_index C (p - 1))) None

-- the variable of the last code, 0 before the first
abbrev pub last_variable : List ℕ → ℕ
last_variable [] = 0
last_variable (l ∷ []) = variable l
last_variable (l ∷ m ∷ C) = last_variable (m ∷ C)

-- A code may follow if it is one and its variable is above the last.
abbrev pub may_follow : List ℕ → ℕ → Result (Unit {0}) NotPushed
may_follow C l = cond (is_code l) (cond (nat_lt (last_variable C) (variable l)) (Ok tt) (Err NotAbove)) (Err NoCode)

-- Pushing answers that, and adds the code at the end where it is taken; a refusal leaves the whole value as it was.
pub record Pushes (before : Constraint) (l : ℕ) (answer : Result (Unit {0}) NotPushed) (after : Constraint) : Type 0 where
  pub answers : answer ≡ may_follow (codes_of before) l
  pub codes : codes_of after ≡ cond (is_ok answer) (codes_of before ++ (l ∷ [])) (codes_of before)
  pub refused : is_ok answer ≡ false → after ≡ before
