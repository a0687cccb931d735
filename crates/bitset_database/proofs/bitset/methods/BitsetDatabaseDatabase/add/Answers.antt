use Rattle.std.proofs.Common.{leb, sym, refl, ◌-◌, arith}
use Rattle.std.proofs.lemmas.Bool.{cond-true, le-leb}
use Rattle.qbf.specs.Views.{viewed}
use Rattle.qbf.proofs.Views.{formed_shown}
use Rattle.bitset_database.proofs.Tables.{stored_part, formed_new, meaning_added}
use Rattle.bitset_database.proofs.bitset.methods.BitsetDatabaseDatabase.add.Goals as goal

pub invariant_of-self : goal.invariant_of-self
invariant_of-self c =
    let v = c.args.self.now in
    let a = c.args.constraint in
    let n = c.copy_from_slice.ensures in
    let s = stored_part v.words.now _ _ v.count (viewed a) (omega arith) n.len n.after c.row_of.ensures in
    record {
      whole = omega (arith, s.beside.long);
      within = omega arith;
      formed = formed_new v.words.now _ v.count (viewed a) s v.formed (formed_shown a.complemented a.codes.now a.formed);
    }

pub returns-clause-stored : goal.returns-clause-stored
returns-clause-stored c =
    let v = c.args.self.now in
    let n = c.copy_from_slice.ensures in
    λ _. stored_part v.words.now _ _ v.count _ (omega arith) n.len n.after c.row_of.ensures

pub returns-clause-adds : goal.returns-clause-adds
returns-clause-adds c =
    let v = c.args.self.now in
    record {
      answers = sym (cond-true (leb 1 (v.total - v.count)) _ _ (le-leb 1 (v.total - v.count) (omega arith)));
      after = meaning_added v.words.now _ v.count (viewed c.args.constraint) (returns-clause-stored c refl) v.total;
    }
