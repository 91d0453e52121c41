use borrow.Author.Rules.{rules}
use Rattle.words.proofs.Steps.Inner.{tables_given, places_fit, powers_fit}
use Rattle.words.proofs.wrong_places.errors_of.Goals as goal

pub decode_bits-requires : goal.decode_bits-requires
decode_bits-requires c = search (rules, tables_given, places_fit, powers_fit)
