use Rattle.std.proofs.Common.{ℕ, ◌+◌, List, set, ◌∙◌, arith}
use Rattle.qbf.specs.Views.{viewed, codes_left}
use Rattle.qbf.proofs.Views.{next_code}
use Rattle.list_database.specs.Page.{Wrote}
use Rattle.list_database.proofs.Pages.{wrote_more}
use Rattle.list_database.proofs.list.methods.write.Goals as goal

pub loop-i-preserved : goal.loop-i-preserved
loop-i-preserved c =
    let C : List ℕ = viewed c.args.constraint in
    let l = c.loop-i in
    let i : ℕ = l.i-iterator.count in
    let s = c.in-Some.ensures.steps in
    let n = next_code C (codes_left c.next.new.self.iter) i c.in-Some.code (l.invariant.rest ∙ s.0) in
    let w : Wrote c.args.cells.now (set l.cells (c.args.start + i) c.in-Some.code) c.args.start C (i + 1) = wrote_more c.args.cells.now l.cells c.args.start C i c.in-Some.code l.invariant.wrote (omega arith) n.1 in
    record { wrote = rw (s.1, s.2) w; rest = rw s.2 n.2; within = omega arith }
