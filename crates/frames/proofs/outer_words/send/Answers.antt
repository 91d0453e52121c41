use native.Mathlib.Omega.{arith}
use lib.Seq.{get_or-take, length-take-le}
use Rattle.frames.proofs.OuterSymbols.Writing.{sent_start, sent_next, sent_end}
use Rattle.frames.proofs.outer_words.send.Goals as goal

pub slice_bounds-write_bytes-end-3 : goal.slice_bounds-write_bytes-end-3
slice_bounds-write_bytes-end-3 c = omega (arith, length-take-le 15595 c.args.out.now (omega arith))

pub write_bytes-requires : goal.write_bytes-requires
write_bytes-requires c =
    let a = length-take-le 12476 c.args.outer.now (omega arith) in
    let b = length-take-le 15595 c.args.out.now (omega arith) in
    (omega arith, omega arith)

pub loop-k-init : goal.loop-k-init
loop-k-init c =
    sent_start c.args.outer.now c.args.out.now _ _ c.requires (length-take-le 15595 c.args.out.now (omega arith)) (λ i l. get_or-take 12476 c.args.outer.now i 0 l)
    c.write_bytes.ensures

pub loop-k-preserved : goal.loop-k-preserved
loop-k-preserved c = sent_next _ c.loop-k.invariant c.loop-k-test.true c.outer_place.ensures c.outer_byte.ensures

pub returns : goal.returns
returns c = sent_end _ c.loop-k.invariant c.loop-k-test.false
