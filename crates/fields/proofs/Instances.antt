-- The three fields, that their tables are tables of a field, and the products that pin field C. Assumes nothing.
use mathlib.Core.Path.{refl}
use lib.Dec.{lit<}
use Rattle.fields.specs.Elements.{xor, scale, doubled, times, times_from, powers_a, exponents_a, powers_b, exponents_b, powers_c, exponents_c}
use Rattle.fields.specs.Field.{Field, PinnedC}
use Rattle.fields.specs.Steps.ByTables.{FieldTables}
use Rattle.fields.proofs.Cycle.{Cyclic, cyclic}
use Rattle.fields.proofs.Laws.{field}

cyclic_a : Cyclic 10 1033
unfolding doubled scale xor
cyclic_a = cyclic 10 1033 (lit< tt) tt refl

pub field_a : Field 10 1033
field_a = field 10 1033 cyclic_a

pub field_tables_a : FieldTables 10 1033 powers_a exponents_a
field_tables_a = record { field = field_a; exp = refl; log = refl }

cyclic_b : Cyclic 11 2053
unfolding doubled scale xor
cyclic_b = cyclic 11 2053 (lit< tt) tt refl

pub field_b : Field 11 2053
field_b = field 11 2053 cyclic_b

pub field_tables_b : FieldTables 11 2053 powers_b exponents_b
field_tables_b = record { field = field_b; exp = refl; log = refl }

cyclic_c : Cyclic 8 285
unfolding doubled scale xor
cyclic_c = cyclic 8 285 (lit< tt) tt refl

pub field_c : Field 8 285
field_c = field 8 285 cyclic_c

pub field_tables_c : FieldTables 8 285 powers_c exponents_c
field_tables_c = record { field = field_c; exp = refl; log = refl }

pub pinned_c : PinnedC
unfolding times times_from doubled scale xor
pinned_c = record { carry = refl; square = refl; half = refl }
