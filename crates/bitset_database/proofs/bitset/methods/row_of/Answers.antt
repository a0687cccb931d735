use Rattle.std.proofs.Common.{◌≡◌, ℕ, ◌+◌, ◌*◌, ◌++◌, List, [], ◌∷◌, replicate, refl, ap, ◌∙◌, arith}
use Rattle.std.proofs.lemmas.Grind.{common_steps}
use Rattle.std.proofs.lemmas.List.{get_or-replicate, length-set}
use Rattle.qbf.specs.Views.{viewed, codes_left}
use Rattle.qbf.proofs.Views.{code_left, formed_shown}
use Rattle.bitset_rows.specs.Rows.{row}
use Rattle.bitset_rows.proofs.Rows.{row_clear}
use Rattle.bitset_database.proofs.Tables.{row_next}
use Rattle.bitset_database.proofs.bitset.methods.row_of.Goals as goal

pub loop-code-init : goal.loop-code-init
loop-code-init c =
    let z : row (replicate 16 0) 0 ≡ [] = row_clear (replicate 16 0) 0 (λ i h. get_or-replicate 16 (16 * 0 + i) 0 0 (omega arith)) in
    let k : viewed c.args.constraint ≡ codes_left c.into_iter-code-iterator.result = grind (arith, common_steps) in
    (rw z k, refl)

pub loop-code-preserved : goal.loop-code-preserved
loop-code-preserved c =
    let v = c.args.constraint in
    let l = c.loop-code in
    let code : ℕ = c.in-Some.code in
    let R : List ℕ = codes_left c.next.new.self in
    let s = c.in-Some.ensures.steps in
    let r = code_left l.code-iterator code R s in
    let e : viewed v ≡ row l.words 0 ++ code ∷ R = l.invariant.0 ∙ ap (λ (D : List ℕ). row l.words 0 ++ D) s in
    (rw c.from-bit.ensures (row_next l.words (viewed v) R code (formed_shown v.complemented v.codes.now v.formed) e r.0 r.1 (omega arith)), omega (arith, length-set {A = ℕ}))
