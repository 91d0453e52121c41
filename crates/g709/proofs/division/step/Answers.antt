use Rattle.g709.proofs.Lanes.{no_cells, one_cell, of_leading}
use Rattle.g709.proofs.division.step.Goals as goal

pub returns : goal.returns
returns c =
    let r0 = one_cell c.args.r.now _ _ _ 0 (no_cells _ _) c.store.ensures in
    let r1 = one_cell c.args.r.now _ _ _ 1 r0 c.store-2.ensures in
    let r2 = one_cell c.args.r.now _ _ _ 2 r1 c.store-3.ensures in
    let r3 = one_cell c.args.r.now _ _ _ 3 r2 c.store-4.ensures in
    let r4 = one_cell c.args.r.now _ _ _ 4 r3 c.store-5.ensures in
    let r5 = one_cell c.args.r.now _ _ _ 5 r4 c.store-6.ensures in
    let r6 = one_cell c.args.r.now _ _ _ 6 r5 c.store-7.ensures in
    let r7 = one_cell c.args.r.now _ _ _ 7 r6 c.store-8.ensures in
    let r8 = one_cell c.args.r.now _ _ _ 8 r7 c.store-9.ensures in
    let r9 = one_cell c.args.r.now _ _ _ 9 r8 c.store-10.ensures in
    let r10 = one_cell c.args.r.now _ _ _ 10 r9 c.store-11.ensures in
    let r11 = one_cell c.args.r.now _ _ _ 11 r10 c.store-12.ensures in
    let r12 = one_cell c.args.r.now _ _ _ 12 r11 c.store-13.ensures in
    let r13 = one_cell c.args.r.now _ _ _ 13 r12 c.store-14.ensures in
    let r14 = one_cell c.args.r.now _ _ _ 14 r13 c.store-15.ensures in
    let r15 = one_cell c.args.r.now _ _ _ 15 r14 c.store-16.ensures in
    of_leading _ _ _ _ c.leading-f.ensures r15
