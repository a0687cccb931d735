-- What the answers by number and place are, where there is one and where there is none. Assumes nothing.
use Rattle.std.proofs.Common.{◌≡◌, ℕ, ◌-◌, ◌<◌, ◌≤◌, ◌&&◌, leb, ◌⊎◌, List, [], length, get_or, Some, None, ap}
use Rattle.std.specs.Option.{option_map}
use Rattle.std.proofs.lemmas.Bool.{cond-true, cond-false}
use Rattle.qbf.proofs.Places.{there, not_there}
use Rattle.database.specs.Meaning.{numbered, length_at}

pub numbered_there : (T : List (List ℕ)) (n : ℕ) → 1 ≤ n → n ≤ length T → numbered T n ≡ Some (get_or T (n - 1) [])
numbered_there T n a b = cond-true (leb 1 n && leb n (length T)) (Some (get_or T (n - 1) [])) None (there n (length T) a b)

pub numbered_none : (T : List (List ℕ)) (n : ℕ) → (n ≡ 0) ⊎ (length T < n) → numbered T n ≡ None
numbered_none T n h = cond-false (leb 1 n && leb n (length T)) (Some (get_or T (n - 1) [])) None (not_there n (length T) h)

pub length_there : (T : List (List ℕ)) (n : ℕ) → 1 ≤ n → n ≤ length T → length_at T n ≡ Some (length (get_or T (n - 1) []))
length_there T n a b = ap (option_map length) (numbered_there T n a b)
