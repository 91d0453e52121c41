use mathlib.Core.Path.{◌≡◌, ap, ◌∙◌}
use mathlib.Core.List.{List}
use Prim.Native.Nat.{ℕ, ◌+◌, ◌-◌, ◌/◌}
use native.Mathlib.Omega.{arith}
use borrow.Author.Rules.{rules}
use lib.ListN.{take, drop}
use Rattle.fields.specs.Places.{at}
use Rattle.frames.proofs.Numbers.Slices.{part_at}
use Rattle.frames.proofs.Numbers.Groups.{eight_joined}
use Rattle.frames.proofs.OuterSymbols.Tested.{symbols_read}
use Rattle.frames.proofs.bits.symbols.Goals as goal

pub returns : goal.returns
returns c =
    let k = c.args.i / 8 in
    let e : c.unwrap.result ≡ take (k + 8 - k) (drop k c.args.bytes.now) = search rules in
    rw c.from-ninth.ensures (symbols_read c.args.bytes.now c.args.i c.args.n c.from_be_bytes-eight.result (omega arith) (omega arith) c.type_inv.bytes
    (c.from_be_bytes-eight.ensures ∙ eight_joined c.args.bytes.now k c.type_inv.bytes c.unwrap.result (λ j l.
    ap (λ (xs : List ℕ). at xs j) e ∙ part_at c.args.bytes.now k (k + 8 - k) j (omega arith))))
