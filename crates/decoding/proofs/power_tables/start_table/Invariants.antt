use Rattle.decoding.proofs.Steps.PowerTables.{TableStarted}
use Rattle.decoding.proofs.power_tables.start_table.Given as goal

abbrev pub invariant-loop-m : goal.invariant-loop-m
invariant-loop-m l = TableStarted l.field.exp.now l.initial.tables l.d l.k l.m l.tables
