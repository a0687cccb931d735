-- The line that tells a fault. Assumes nothing.
use Rattle.std.specs.Prelude.{ℕ, List, ◌++◌, codes, decimal}
use Rattle.faults.specs.declared.fault.Fault.{Fault}
use Rattle.faults.specs.Refusals.{number_of, layer_of, layer_name}

-- "refused", the number, the layer, then the record and the byte.
abbrev pub fault_line : Fault → List ℕ
fault_line f =
    codes "refused " ++ (decimal (number_of f.refusal) ++ (codes " " ++ (layer_name (layer_of f.refusal)
    ++ (codes " record " ++ (decimal f.«record» ++ (codes " byte " ++ decimal f.byte))))))
