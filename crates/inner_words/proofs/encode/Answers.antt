use Rattle.std.proofs.Common.{◌∙◌}
use Rattle.inner_words.proofs.Interleaving.LentBlock.{lent_whole, lent_back}
use Rattle.inner_words.proofs.ParityPlaces.Stored.{encoded_lent}
use Rattle.inner_words.proofs.encode.Goals as goal

pub returns : goal.returns
returns c =
    let long = c.requires in
    let whole = lent_whole _ _ c.in-Some.ensures.cases long in
    let back = lent_back _ c.store.new.out long in
    back ∙ encoded_lent _ _ whole _ c.parity_places-cells.ensures c.store.ensures long (λ i. rw back at (c.type_inv.out i))
