-- The code of a setting, where there is one. Assumes nothing.
use Rattle.std.specs.Prelude.{ℕ, Bool, cond, ◌&&◌, Some, None, Option, nat_le}
use Rattle.qbf.specs.Qbf.{setting}

-- Variables are from 1 to 512.
abbrev pub setting_of : ℕ → Bool → Option ℕ
setting_of v b = cond (nat_le 1 v && nat_le v 512) (Some (setting v b)) None
