-- What adding does to a database when every code is complemented, and that two layers undo each other. Assumes nothing.
use Rattle.std.proofs.Common.{◌≡◌, ℕ, Bool, true, false, cond, leb, List, map, length, Ok, Err, is_ok, Result, ap, ◌∙◌}
use Rattle.std.proofs.lemmas.List.{length-map, map_push}
use Rattle.qbf.specs.Qbf.{complement}
use Rattle.qbf.proofs.Complements.{complements_twice, complemented_twice}
use Rattle.database.specs.declared.database.Full.{Full}
use Rattle.database.specs.Meaning.{Meaning, Adds, added}
use Rattle.database.specs.Complemented.{complemented_meaning, TwoLayers}

after_complemented : (m n : Meaning) (C D : List ℕ) (b : Bool) → D ≡ map complement C → n ≡ cond b (added m D) m
    → complemented_meaning n ≡ cond b (added (complemented_meaning m) C) (complemented_meaning m)
after_complemented m n C D true e a =
    let l : length D ≡ length C = ap length e ∙ length-map C complement in
    let k : map complement D ≡ C = ap (map complement) e ∙ complements_twice C in
    let p = map_push (map complement) m.list D in
    ap complemented_meaning a ∙ rw (p, k, l)
after_complemented m n C D false e a = ap complemented_meaning a

-- adding the complements below adds the constraint to the layer
pub adds_complemented : (m n : Meaning) (C D : List ℕ) (answer : Result (Unit {0}) Full) → D ≡ map complement C → Adds m D answer n
    → Adds (complemented_meaning m) C answer (complemented_meaning n)
adds_complemented m n C D answer e s =
    let l : length D ≡ length C = ap length e ∙ length-map C complement in
    record {
      answers = s.answers ∙ ap (λ (k : ℕ). cond (leb (m.cost k) m.left) (Ok tt) (Err (record {}))) l;
      after = after_complemented m n C D (is_ok answer) e s.after;
    }

pub two_layers : TwoLayers
two_layers m = ap {B = Meaning} (λ (T : List (List ℕ)). record { list = T; cells = m.cells; left = m.left; cost = m.cost }) (complemented_twice m.list)
