use Rattle.std.proofs.Common.{◌≡◌, ℕ, ◌+◌, ◌*◌, List, length, Option, sym, ap, ◌∙◌, inr, arith}
use Rattle.qbf.proofs.Places.{code_none}
use Rattle.bitset_rows.specs.Rows.{bit, chosen, row}
use Rattle.bitset_rows.proofs.Rows.{row_none}
use Rattle.database.specs.Meaning.{placed_in}
use Rattle.bitset_database.proofs.Tables.{bits_more, code_here}
use Rattle.bitset_database.proofs.bitset.methods.BitsetDatabaseDatabase.code.Goals as goal

pub loop-i-init : goal.loop-i-init
loop-i-init c = let e = row_none c.in_ok-words.words.now 0 in omega arith

pub returns-then-left-ones : goal.returns-then-left-ones
returns-then-left-ones c =
    let l = c.loop-i in
    let s = c.select.ensures in
    code_here c.in_ok-words.words.now l.i c.select.result (l.left + 1) c.args.place (omega arith) s.place s.set (omega arith) (omega arith) (omega arith)
    ∙ ap (λ (o : Option (List ℕ)). placed_in o c.args.place) c.in_ok-words.ensures

pub loop-i-preserved : goal.loop-i-preserved
loop-i-preserved c =
    let m = bits_more c.in_ok-words.words.now c.loop-i.i (omega arith) in
    omega arith

pub returns : goal.returns
returns c =
    let ws : List ℕ = c.in_ok-words.words.now in
    let e : 64 * c.loop-i.i ≡ 1024 = omega arith in
    let q : length (chosen (bit ws 0) (64 * c.loop-i.i)) ≡ length (row ws 0) = ap (λ (x : ℕ). length (chosen (bit ws 0) x)) e in
    sym (code_none (row ws 0) c.args.place (inr (omega arith))) ∙ ap (λ (o : Option (List ℕ)). placed_in o c.args.place) c.in_ok-words.ensures
