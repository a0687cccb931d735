-- What comes of a constraint of a database, code by code. Assumes nothing.
use Rattle.std.specs.Prelude.{ℕ, ◌-◌, List, [], drop}
use Rattle.std.specs.Option.{unwrap_or}
use Rattle.database.specs.declared.codes.Codes.{Codes}
use Rattle.database.specs.declared.database.Database.{Ghosts}
use Rattle.database.specs.Meaning.{numbered}

-- The codes of the constraint of a number; none where no constraint has it.
abbrev pub codes_at : List (List ℕ) → ℕ → List ℕ
codes_at T n = unwrap_or (numbered T n) []

-- Those of them from a place on, counted from 1.
abbrev pub codes_from : List (List ℕ) → ℕ → ℕ → List ℕ
codes_from T n p = drop (p - 1) (codes_at T n)

-- What an iterator over them has left.
abbrev pub codes_left : {D : Type 0} {g : Ghosts D} → Codes D g → List ℕ
codes_left {g = g} c = codes_from (g.meaning c.database.now).list c.number c.place
