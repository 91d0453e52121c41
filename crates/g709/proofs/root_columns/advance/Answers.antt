use native.Mathlib.Omega.{arith}
use Rattle.g709.proofs.PowerColumns.{no_columns, one_column}
use Rattle.g709.proofs.root_columns.advance.Goals as goal

pub returns : goal.returns
returns c =
    let t0 = one_column c.args.terms.now _ _ 0 (omega arith) (no_columns _) c.scale.ensures in
    let t1 = one_column c.args.terms.now _ _ 1 (omega arith) t0 c.scale-2.ensures in
    let t2 = one_column c.args.terms.now _ _ 2 (omega arith) t1 c.scale-3.ensures in
    let t3 = one_column c.args.terms.now _ _ 3 (omega arith) t2 c.scale-4.ensures in
    let t4 = one_column c.args.terms.now _ _ 4 (omega arith) t3 c.scale-5.ensures in
    let t5 = one_column c.args.terms.now _ _ 5 (omega arith) t4 c.scale-6.ensures in
    let t6 = one_column c.args.terms.now _ _ 6 (omega arith) t5 c.scale-7.ensures in
    let t7 = one_column c.args.terms.now _ _ 7 (omega arith) t6 c.scale-8.ensures in
    t7
