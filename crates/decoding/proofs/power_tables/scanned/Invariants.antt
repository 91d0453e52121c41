use Prim.Native.Nat.{◌*◌}
use Rattle.decoding.specs.Steps.PowerTables.{bases_of, starts_of}
use Rattle.decoding.proofs.Steps.TableRoots.{Scanning}
use Rattle.decoding.proofs.power_tables.scanned.Given as goal

abbrev pub invariant-loop-k : goal.invariant-loop-k
invariant-loop-k l = Scanning l.field.exp.now l.field.log.now l.n l.tables (bases_of l.terms) (starts_of l.terms) l.x (40 * l.k) l.p
