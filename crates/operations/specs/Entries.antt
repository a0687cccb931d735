-- The entries of a trail, as the program keeps them. Assumes nothing.
use Rattle.std.specs.Prelude.{◌≡◌, ℕ, Bool, true, false, not, ◌&&◌, List, [], ◌∷◌, map, Option, slice_index_or}
use Rattle.qbf.specs.Items.{item_at}
use Rattle.qbf.specs.Qbf.{variable, has, is_code, is_set}
use Rattle.calculus.specs.State.{Entry, decision, implication, literal_of, literals}
use Rattle.operations.specs.declared.entry.Cause.{Cause}
use Rattle.operations.specs.declared.entry.Cause.TheVariants.{Decided, Implied}
use Rattle.operations.specs.declared.entry.Entry.{Entry as Kept}

-- the entry of the calculus that a kept one stands for
abbrev pub caused : ℕ → Cause → Entry
caused l Decided = decision l
caused l (Implied s n) = implication l s n

-- whether the cause is a decision
abbrev pub decides : Cause → Bool
decides Decided = true
decides (Implied s n) = false

abbrev pub entry_of : Kept → Entry
entry_of e = caused e.code e.cause

abbrev pub entries_of : List Kept → List Entry
entries_of es = map entry_of es

-- The table says of each code whether it is set.
abbrev pub Tied : List Bool → List Entry → Type 0
Tied table t = (l : ℕ) → slice_index_or table l false ≡ has (literals t) l

-- No variable is set twice.
abbrev pub apart : List Entry → Bool
apart [] = true
apart (e ∷ t) = not (is_set (literals t) (variable (literal_of e))) && apart t

-- All literals are codes.
abbrev pub InRange : List Entry → Type 0
InRange t = (l : ℕ) → has (literals t) l ≡ true → is_code l ≡ true

-- the entry at a place, counted from 1
abbrev pub entry_at : List Kept → ℕ → Option Kept
entry_at es p = item_at es p
