use Rattle.g709.proofs.Correcting.{tables_given}
use Rattle.g709.proofs.Locating.{byte_coefficients, locator_set}
use borrow.Author.Rules.{rules}
use Rattle.g709.proofs.locators.set_locator.Goals as goal

pub annihilator-polynomial-requires : goal.annihilator-polynomial-requires
annihilator-polynomial-requires c = tables_given _ _ c.field_c-field.ensures.exp c.field_c-field.ensures.log

pub set_polynomial-requires-clause-by_index : goal.set_polynomial-requires-clause-by_index
set_polynomial-requires-clause-by_index c = byte_coefficients _ _ _ _ c.field_c-field.ensures.log c.annihilator-polynomial.ensures

pub returns : goal.returns
returns c = locator_set _ _ _ _ _ _ _ _ c.field_c-field.ensures.exp c.field_c-field.ensures.log c.requires (search rules) c.lane.ensures c.annihilator-polynomial.ensures c.set_polynomial.ensures (search rules) (search rules)
