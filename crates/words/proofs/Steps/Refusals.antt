-- A law for each way through the refusals of an outer word. Assumes nothing.
use mathlib.Core.Path.{◌≡◌}
use mathlib.Core.Bool.{Bool, true, false, not}
use Prim.Native.Nat.{ℕ, ◌≤◌, ◌<◌}
use borrow.Author.Tests.{le-leb, lt-leb, not-false, not-true}
use Rattle.words.specs.Answers.{refusal, within}

module _ (low high n : ℕ) (fits symbols : Bool) where
  pub refused_short : n < low → 6 ≡ refusal (within low high n) fits symbols
  unfolding refusal within
  refused_short h = rw (lt-leb low n h)

  module _ (enough : low ≤ n) where
    pub refused_long : high < n → 6 ≡ refusal (within low high n) fits symbols
    unfolding refusal within
    refused_long h = rw (le-leb low n enough, lt-leb n high h)

    module _ (few : n ≤ high) where
      pub refused_space : not fits ≡ true → 3 ≡ refusal (within low high n) fits symbols
      unfolding refusal within
      refused_space e = rw (le-leb low n enough, le-leb n high few, not-true fits e)

      module _ (space : not fits ≡ false) (b : Bool) (tested : b ≡ symbols) where
        pub refused_symbol : b ≡ false → 7 ≡ refusal (within low high n) fits symbols
        unfolding refusal within
        refused_symbol e = rw (le-leb low n enough, le-leb n high few, not-false fits space, ← tested, e)

        pub not_refused : b ≡ true → 0 ≡ refusal (within low high n) fits symbols
        unfolding refusal within
        not_refused e = rw (le-leb low n enough, le-leb n high few, not-false fits space, ← tested, e)
