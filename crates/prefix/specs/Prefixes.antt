-- What the methods of a prefix do. Assumes nothing.
use Rattle.std.specs.Prelude.{◌≡◌, false, cond, List, [], ◌∷◌, ◌++◌, length, is_ok, Ok, Err, vec_items, Result, nat_le}
use Rattle.qbf.specs.declared.quantifier.Quantifier.{Quantifier}
use Rattle.faults.specs.declared.refusal.Refusal.{Refusal}
use Rattle.faults.specs.declared.refusal.Refusal.TheVariants.{TooManyVariables}
use Rattle.prefix.specs.declared.prefix.Prefix.{Prefix}

abbrev pub quantifiers_of : Prefix → List Quantifier
quantifiers_of p = vec_items p.quantifiers

-- A variable is named unless there are 512; a refusal leaves the whole value as it was.
pub record Names (before : Prefix) (q : Quantifier) (answer : Result (Unit {0}) Refusal) (after : Prefix) : Type 0 where
  pub answers : answer ≡ cond (nat_le 512 (length (quantifiers_of before))) (Err TooManyVariables) (Ok tt)
  pub quantifiers : quantifiers_of after ≡ cond (is_ok answer) (quantifiers_of before ++ (q ∷ [])) (quantifiers_of before)
  pub refused : is_ok answer ≡ false → after ≡ before
