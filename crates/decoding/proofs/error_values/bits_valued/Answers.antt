use borrow.Author.Rules.{rules}
use Rattle.decoding.proofs.Decoding.Flips.{flips_right}
use Rattle.decoding.proofs.error_values.bits_valued.Goals as goal

pub returns-then-all_below : goal.returns-then-all_below
returns-then-all_below c = search (rules, flips_right)
