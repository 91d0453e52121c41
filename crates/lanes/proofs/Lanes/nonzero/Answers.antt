use Rattle.std.proofs.Common.{rules, refl, sym, ◌≡◌, ◌∙◌, ap, ℕ, bit_or}
use Rattle.std.proofs.lemmas.Fn.{fold_over, slice_gives, fronts}
use Rattle.lanes.proofs.Lanewise.{some, some_more, nonzero_is}
use Rattle.lanes.proofs.Lanes.nonzero.Goals as goal

pub returns : goal.returns
returns c =
    let s = c.iter.result in
    let folded : c.fold.result ≡ some 0 s.rest.now =
    fold_over fronts (λ y. y.now) _ (λ ys a. a ≡ some 0 ys) _
    (λ ys a x b f' so_far k.
    let e : b ≡ bit_or a x.now = search rules in
    (e ∙ ap (λ (n : ℕ). bit_or n x.now) so_far ∙ sym (some_more 0 ys x.now), refl))
    s s.rest.now 0 c.fold.result (slice_gives s) refl c.fold.ensures.ran in
    λ k. nonzero_is k c.args.self (folded ∙ ap (some 0) c.iter.ensures.rest)
