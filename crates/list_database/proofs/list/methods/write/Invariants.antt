use Rattle.std.proofs.Common.{◌≡◌, ◌≤◌, length, drop}
use Rattle.qbf.specs.Views.{viewed, codes_left}
use Rattle.list_database.specs.Page.{Wrote}
use Rattle.list_database.proofs.list.methods.write.Given as goal

abbrev pub invariant-loop-i : goal.invariant-loop-i
invariant-loop-i l =
    record {
      wrote : Wrote l.initial.cells l.cells l.start (viewed l.constraint) l.i-iterator.count;
      rest : drop l.i-iterator.count (viewed l.constraint) ≡ codes_left l.i-iterator.iter;
      within : l.i-iterator.count ≤ length (viewed l.constraint);
    }
