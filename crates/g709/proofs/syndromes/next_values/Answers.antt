use native.Mathlib.Omega.{arith}
use Rattle.g709.proofs.ColumnSyndromes.{no_values, one_value}
use Rattle.g709.proofs.syndromes.next_values.Goals as goal

pub returns : goal.returns
returns c =
    let s0 = one_value c.args.s.now _ _ _ _ 0 (omega arith) (no_values _ _ _) c.next_value.ensures in
    let s1 = one_value c.args.s.now _ _ _ _ 1 (omega arith) s0 c.next_value-2.ensures in
    let s2 = one_value c.args.s.now _ _ _ _ 2 (omega arith) s1 c.next_value-3.ensures in
    let s3 = one_value c.args.s.now _ _ _ _ 3 (omega arith) s2 c.next_value-4.ensures in
    let s4 = one_value c.args.s.now _ _ _ _ 4 (omega arith) s3 c.next_value-5.ensures in
    let s5 = one_value c.args.s.now _ _ _ _ 5 (omega arith) s4 c.next_value-6.ensures in
    let s6 = one_value c.args.s.now _ _ _ _ 6 (omega arith) s5 c.next_value-7.ensures in
    let s7 = one_value c.args.s.now _ _ _ _ 7 (omega arith) s6 c.next_value-8.ensures in
    let s8 = one_value c.args.s.now _ _ _ _ 8 (omega arith) s7 c.next_value-9.ensures in
    let s9 = one_value c.args.s.now _ _ _ _ 9 (omega arith) s8 c.next_value-10.ensures in
    let s10 = one_value c.args.s.now _ _ _ _ 10 (omega arith) s9 c.next_value-11.ensures in
    let s11 = one_value c.args.s.now _ _ _ _ 11 (omega arith) s10 c.next_value-12.ensures in
    let s12 = one_value c.args.s.now _ _ _ _ 12 (omega arith) s11 c.next_value-13.ensures in
    let s13 = one_value c.args.s.now _ _ _ _ 13 (omega arith) s12 c.next_value-14.ensures in
    let s14 = one_value c.args.s.now _ _ _ _ 14 (omega arith) s13 c.next_value-15.ensures in
    let s15 = one_value c.args.s.now _ _ _ _ 15 (omega arith) s14 c.next_value-16.ensures in
    s15
