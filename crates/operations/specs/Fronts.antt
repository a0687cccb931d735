-- What comes first in two constraints. Assumes nothing.
use Rattle.std.specs.Prelude.{◌≡◌, ℕ, ◌<◌, List, [], ◌∷◌, Some, None, Option, slice_get}
use Rattle.qbf.specs.Qbf.{variable, complement}
use Rattle.operations.specs.declared.merge.Front.{Front}
use Rattle.operations.specs.declared.merge.Front.TheVariants.{Left, Right, Both, Opposite}

-- The variable of l is before that of the other constraint's first code, if that has one.
abbrev pub Before : ℕ → Option ℕ → Type 0
Before l None = Unit {0}
Before l (Some m) = variable l < variable m

-- From the first codes of the two; none where both have ended.
abbrev pub Fronts : Option ℕ → Option ℕ → Option Front → Type 0
Fronts a b None = (a ≡ None) × (b ≡ None)
Fronts a b (Some (Left l)) = (a ≡ Some l) × Before l b
Fronts a b (Some (Right l)) = (b ≡ Some l) × Before l a
Fronts a b (Some (Both l)) = (a ≡ Some l) × (b ≡ Some l)
Fronts a b (Some (Opposite l)) = (a ≡ Some l) × (b ≡ Some (complement l))

-- A step from X and Y by what comes first in them, which leaves M and N.
abbrev pub Steps : List ℕ → List ℕ → Option Front → List ℕ → List ℕ → Type 0
Steps X Y None M N = (X ≡ []) × (Y ≡ [])
Steps X Y (Some (Left l)) M N = (X ≡ l ∷ M) × (Y ≡ N) × Before l (slice_get N 0)
Steps X Y (Some (Right l)) M N = (X ≡ M) × (Y ≡ l ∷ N) × Before l (slice_get M 0)
Steps X Y (Some (Both l)) M N = (X ≡ l ∷ M) × (Y ≡ l ∷ N)
Steps X Y (Some (Opposite l)) M N = (X ≡ l ∷ M) × (Y ≡ complement l ∷ N)

-- A constraint of which the first code was read ahead, if it has one, and the codes behind it.
abbrev pub with_first : Option ℕ → List ℕ → List ℕ
with_first None N = []
with_first (Some c) N = c ∷ N
