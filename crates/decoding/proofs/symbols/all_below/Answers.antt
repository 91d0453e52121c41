use borrow.Author.Rules.{rules}
use Prim.Native.Nat.{◌<◌}
use Rattle.std.specs.Prelude.{◌↔◌, IsTrue, EachIndex, slice_index}
use Rattle.decoding.proofs.Steps.Symbols.{below_each}
use Rattle.decoding.proofs.symbols.all_below.Goals as goal

pub returns : goal.returns
returns c =
    let each : IsTrue c.all.result ↔ EachIndex c.args.word.now (λ k. slice_index c.args.word.now k < c.args.q) = search rules in
    below_each c.args.q c.args.word.now c.all.result each
