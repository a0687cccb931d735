use Rattle.std.proofs.Common.{sym, div-one, arith}
use Rattle.bitset_rows.proofs.Digits.{ones_below_none, found, within, nothing, shifted, counted}
use Rattle.bitset_database.proofs.select.select.Goals as goal

pub loop-init : goal.loop-init
loop-init c =
    let e = ones_below_none c.args.word in
    (sym (div-one c.args.word), omega arith, omega arith)

pub overflow_shr-rest : goal.overflow_shr-rest
overflow_shr-rest c =
    let l = c.loop in
    let h = within c.args.word l.passed l.rest l.invariant.0 (omega arith) (omega arith) in
    omega arith

pub loop-preserved : goal.loop-preserved
loop-preserved c =
    let l = c.loop in
    let h = within c.args.word l.passed l.rest l.invariant.0 (omega arith) (omega arith) in
    let k = counted c.args.word l.passed l.rest l.invariant.0 (omega arith) (omega arith) in
    (shifted c.args.word l.passed l.rest l.invariant.0 (omega arith) (omega arith), omega arith, omega arith)

pub returns : goal.returns
returns c =
    let l = c.loop in
    let n = nothing c.args.word l.passed l.rest l.invariant.0 (omega arith) (omega arith) in
    record {
      place = within c.args.word l.passed l.rest l.invariant.0 (omega arith) (omega arith);
      set = found c.args.word l.passed l.rest l.invariant.0 (omega arith) (omega arith);
      before = rw n (omega arith);
    }
