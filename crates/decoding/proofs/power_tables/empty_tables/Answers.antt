use mathlib.Core.Path.{◌≡◌, refl}
use native.Mathlib.Omega.{arith}
use lib.ListN.{length, take, replicate}
use borrow.Author.Rules.{rules}
use Rattle.std.proofs.lemmas.List.{length-take-le}
use Rattle.decoding.proofs.Steps.PowerTables.{emptied}
use Rattle.decoding.proofs.power_tables.empty_tables.Goals as goal

pub slice_bounds-fill-end-2 : goal.slice_bounds-fill-end-2
slice_bounds-fill-end-2 c = omega (arith, c.requires, length-take-le 2087 c.args.tables.now (omega (arith, c.requires)))

pub returns : goal.returns
returns c =
    let long : length (take 2087 c.args.tables.now) ≡ 2087 = length-take-le 2087 c.args.tables.now (omega (arith, c.requires)) in
    let zeros : c.fill.new.self ≡ replicate 2087 0 = rw long at (c.fill.ensures.after (search rules)) in
    emptied 2087 c.args.tables.now c.fill.new.self refl c.requires zeros
