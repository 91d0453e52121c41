use Rattle.std.proofs.Common.{◌*◌}
use Rattle.fields.proofs.Places.Placing.{Placing}
use Rattle.inner_words.specs.Steps.BitSliced.{parity_bytes}
use Rattle.inner_words.proofs.store.Given as goal

abbrev pub invariant-loop-q : goal.invariant-loop-q
invariant-loop-q l = Placing 15616 (parity_bytes l.cells) (8 * l.q) l.initial.out l.out
