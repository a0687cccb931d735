use Rattle.std.proofs.Common.{◌+◌, ◌-◌, ◌*◌, ◌≤◌, ℕ, List, length, leb, sym, arith}
use Rattle.std.proofs.lemmas.Bool.{cond-true, le-leb}
use Rattle.qbf.specs.Views.{viewed}
use Rattle.qbf.proofs.Views.{formed_shown}
use Rattle.list_database.proofs.Pages.{meaning_added, lies_new, formed_new}
use Rattle.list_database.proofs.list.methods.ListDatabaseDatabase.add.Goals as goal

pub invariant_of-self : goal.invariant_of-self
invariant_of-self c =
    let v = c.args.self.now in
    let xs : List ℕ = v.cells.now in
    let ys : List ℕ = c.store.new.cells in
    let C : List ℕ = viewed c.args.constraint in
    let fit : v.used + 2 * v.count + length C + 2 ≤ v.total = omega arith in
    let whole : v.total ≤ length xs = omega arith in
    let formed = formed_shown c.args.constraint.complemented c.args.constraint.codes.now c.args.constraint.formed in
    let news = lies_new xs ys v.total v.used v.count C c.store.ensures whole fit v.lies in
    record {
      whole = omega arith;
      within = omega arith;
      lies = λ k h. omega (arith, news k h);
      formed = formed_new xs ys v.total v.used v.count C c.store.ensures whole fit v.lies v.formed formed;
    }

pub returns-clause-adds : goal.returns-clause-adds
returns-clause-adds c =
    let v = c.args.self.now in
    let C : List ℕ = viewed c.args.constraint in
    let m = meaning_added v.cells.now c.store.new.cells v.total v.used v.count C c.store.ensures (omega arith) (omega arith) v.lies in
    record { answers = sym (cond-true (leb (length C + 2) (v.total - v.used - 2 * v.count)) _ _ (le-leb (length C + 2) (v.total - v.used - 2 * v.count) (omega arith))); after = rw c.len-2.ensures.value m }
