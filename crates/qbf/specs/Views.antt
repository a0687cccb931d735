-- The codes that a lent constraint shows. Assumes nothing.
use Rattle.std.specs.Prelude.{ℕ, Bool, true, false, List, map}
use Rattle.qbf.specs.declared.view.ConstraintView.{ConstraintView}
use Rattle.qbf.specs.declared.view.codes.Codes.{Codes}
use Rattle.qbf.specs.Qbf.{complement}

-- one code as it stands, or complemented
abbrev pub shown_code : Bool → ℕ → ℕ
shown_code true l = complement l
shown_code false l = l

-- the codes as they stand, or complemented
abbrev pub shown : Bool → List ℕ → List ℕ
shown true C = map complement C
shown false C = C

abbrev pub viewed : ConstraintView → List ℕ
viewed v = shown v.complemented v.codes.now

-- the codes that an iterator over them has left
abbrev pub codes_left : Codes → List ℕ
codes_left s = viewed s.rest
