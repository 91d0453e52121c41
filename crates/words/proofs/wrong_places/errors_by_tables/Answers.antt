use borrow.Author.Rules.{rules}
use Rattle.words.proofs.Steps.Inner.{tables_given, places_fit, powers_are}
use Rattle.words.proofs.wrong_places.errors_by_tables.Goals as goal

pub decode_bits_by_tables-requires : goal.decode_bits_by_tables-requires
decode_bits_by_tables-requires c = search (rules, tables_given, places_fit, powers_are)
