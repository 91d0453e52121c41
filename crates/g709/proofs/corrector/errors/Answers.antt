use Rattle.g709.proofs.Correcting.{tables_given, word_fits}
use Rattle.g709.proofs.Locating.{located}
use borrow.Author.Rules.{rules}
use Rattle.g709.proofs.corrector.errors.Goals as goal

pub valued-requires : goal.valued-requires
valued-requires c =
    let l = rw c.in-Some.is at c.requires.located in
    record {
      tables = tables_given _ _ c.field_c-field.ensures.exp c.field_c-field.ensures.log;
      n_in_bounds = (word_fits _ c.field_c-field.ensures.exp, search rules);
      located = located _ _ l.0 _ _ _ _ _ c.field_c-field.ensures.exp c.field_c-field.ensures.log c.requires.k_bound l.1 l.2 c.places.ensures;
    }

pub decode-requires : goal.decode-requires
decode-requires c = record {
  tables = tables_given _ _ c.field_c-field.ensures.exp c.field_c-field.ensures.log;
  n_in_bounds = (word_fits _ c.field_c-field.ensures.exp, search rules);
}
