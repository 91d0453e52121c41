use Prim.Native.Nat.{◌*◌, ◌%◌, ◌^◌, ◌≤◌}
use Rattle.words.specs.Steps.SixSymbols.{Packs, six_parity}
use Rattle.words.proofs.packed.six_parity.Given as goal

abbrev pub invariant-loop-d : goal.invariant-loop-d
invariant-loop-d l = (l.d ≤ 10) × Packs l.p.high l.p.middle l.p.low (six_parity (l.x % 2 ^ (6 * l.d)))
