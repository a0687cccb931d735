-- The items of a list by their numbers, counted from 1. Assumes nothing.
use Rattle.std.specs.Prelude.{◌≡◌, ℕ, zero, suc, ◌+◌, ◌<◌, ◌⊎◌, List, None, Option, MatchOption, slice_get}

-- the item with a number
abbrev pub item_at : {X : Type 0} → List X → ℕ → Option X
item_at xs zero = None
item_at xs (suc k) = slice_get xs k

-- Of so many items, a number's index is the one below it; there is none where the number is 0 or above the count.
abbrev pub Indexes : ℕ → ℕ → Option ℕ → Type 0
Indexes number count answer = MatchOption answer ((number ≡ 0) ⊎ (count < number)) (λ i. (i + 1 ≡ number) × (i < count))
