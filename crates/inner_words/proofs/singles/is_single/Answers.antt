use borrow.Author.Rules.{rules}
use Rattle.std.proofs.Common.{refl, tests}
use Rattle.std.proofs.lemmas.Iterator.{cases_from_all, YieldsList-from_range}
use Rattle.fields.specs.Elements.{powers_b}
use Rattle.inner_words.proofs.Passes.SingleErrors.{Single, single_all}
use Rattle.inner_words.proofs.singles.is_single.Goals as goal

pub returns : goal.returns
returns c =
    let S = Single powers_b c.args.residues.now c.args.k c.args.e in
    single_all _ _ _ _ c.all.result c.requires.k_value
    (cases_from_all _ _ _ S (λ j. S j → ⊥) c.all.ensures.ran (YieldsList-from_range 1 8 7 (cc) refl) (λ x q h. search (rules, tests)) (λ x q h. search (rules, tests)))
