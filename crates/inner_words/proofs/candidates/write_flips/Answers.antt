use borrow.Author.Rules.{rules}
use Rattle.inner_words.proofs.Passes.FlippedPlaces.{writing_start, writing_next, writing_end}
use Rattle.inner_words.proofs.Passes.TooMany.{raising_start, raising_next, raising_end}
use Rattle.inner_words.proofs.candidates.write_flips.Goals as goal

pub loop-p-init : goal.loop-p-init
loop-p-init c = record { block = search (rules, writing_start); many = search (rules, raising_start) }

pub loop-p-preserved : goal.loop-p-preserved
loop-p-preserved c = record { block = search (rules, writing_next); many = search (rules, raising_next) }

pub returns : goal.returns
returns c = record {
  block = search (rules, writing_end);
  many = search (rules, raising_end);
}
