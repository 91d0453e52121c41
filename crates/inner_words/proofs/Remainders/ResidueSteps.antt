-- What the functions on residues compute. Assumes nothing.
use mathlib.Core.Path.{◌≡◌, refl, sym, ap, ◌∙◌}
use mathlib.Core.List.{List, [], ◌∷◌}
use Prim.Native.Nat.{ℕ, zero, suc, ◌+◌, ◌-◌, ◌/◌, ◌%◌, ◌^◌, ◌≤◌, ◌<◌}
use native.Mathlib.Decide.{dec_lt}
use native.Mathlib.Numerals.{add-one}
use native.Mathlib.Omega.{arith}
use lib.Bits.{bit_and, bit_or, bit_xor, and_mask}
use lib.ListN.{length, get_or}
use Rattle.std.specs.Int.{swap_bytes}
use mir.Syntax.{w64}
use Rattle.fields.specs.Elements.{xor, scale}
use Rattle.fields.specs.Places.{at}
use Rattle.fields.specs.Steps.Buffers.{Placed}
use Rattle.fields.proofs.Places.Filling.{Filled, filled_end}
use Rattle.lanes.specs.Steps.Sliced.{or_to}
use Rattle.words.specs.Bits.{number_of}
use Rattle.words.specs.InnerCode.{factors}
use Rattle.inner_words.specs.Steps.InnerResidues.{coefficient, word_residue, swapped, loaded_at, residue_of, residues_of, sum_at, advanced}
use Rattle.inner_words.proofs.Interleaving.EightBytes.{swapped_made}
use Rattle.inner_words.proofs.Remainders.InnerResidues.{residue_next, turned_cell}

-- ---- one place more

-- f where the factor p has a coefficient at z^i, else 0
pub taken_whole : (p i f : ℕ) → bit_and (p / 2 ^ i) 1 ≡ 1 → f ≡ scale (coefficient i p) f
unfolding scale
taken_whole p i f e = rw (sym (and_mask (p / 2 ^ i) 1) ∙ e)

pub taken_none : (p i f : ℕ) → (bit_and (p / 2 ^ i) 1 ≡ 1 → ⊥) → 0 ≡ scale (coefficient i p) f
unfolding scale
taken_none p i f n =
    let h : p / 2 ^ i % 2 ≡ 0 = omega (arith, and_mask (p / 2 ^ i) 1) in
    rw h

pub residue_step : (j n m : ℕ) (b : List ℕ) {p : ℕ} {s t : List ℕ} → at factors j ≡ p → t ≡ advanced p s (loaded_at b n) → s ≡ residue_of j b n → m ≡ suc n →
    t ≡ residue_of j b m
residue_step j n m b {p} ep et es em = rw em (et ∙ ap (λ (s : List ℕ). advanced p s (loaded_at b n)) es ∙ rw (← ep) (residue_next j b n))

-- ---- the residues by all factors

-- the numbers modulo each factor, as the function has them before they are turned round
pub record Each (b : List ℕ) (n : ℕ) (each : List (List ℕ)) : Type 0 where
  pub has : (j : ℕ) → j < 8 → get_or each j [] ≡ residue_of j b n

pub each_factor : (b : List ℕ) (n : ℕ) {s0 s1 s2 s3 s4 s5 s6 s7 : List ℕ} → ((j : ℕ) → at factors j ≡ 2053 → s0 ≡ residue_of j b n) →
    ((j : ℕ) → at factors j ≡ 2341 → s1 ≡ residue_of j b n) → ((j : ℕ) → at factors j ≡ 2189 → s2 ≡ residue_of j b n) →
    ((j : ℕ) → at factors j ≡ 2093 → s3 ≡ residue_of j b n) → ((j : ℕ) → at factors j ≡ 3085 → s4 ≡ residue_of j b n) →
    ((j : ℕ) → at factors j ≡ 3851 → s5 ≡ residue_of j b n) → ((j : ℕ) → at factors j ≡ 2147 → s6 ≡ residue_of j b n) →
    ((j : ℕ) → at factors j ≡ 2419 → s7 ≡ residue_of j b n) → Each b n (s0 ∷ s1 ∷ s2 ∷ s3 ∷ s4 ∷ s5 ∷ s6 ∷ s7 ∷ [])
unfolding factors
each_factor b n {s0} {s1} {s2} {s3} {s4} {s5} {s6} {s7} e0 e1 e2 e3 e4 e5 e6 e7 = record { has = go }
  where
    go : (j : ℕ) → j < 8 → get_or (s0 ∷ s1 ∷ s2 ∷ s3 ∷ s4 ∷ s5 ∷ s6 ∷ s7 ∷ []) j [] ≡ residue_of j b n
    go zero h = e0 0 refl
    go (suc zero) h = e1 1 refl
    go (suc (suc zero)) h = e2 2 refl
    go (suc (suc (suc zero))) h = e3 3 refl
    go (suc (suc (suc (suc zero)))) h = e4 4 refl
    go (suc (suc (suc (suc (suc zero))))) h = e5 5 refl
    go (suc (suc (suc (suc (suc (suc zero)))))) h = e6 6 refl
    go (suc (suc (suc (suc (suc (suc (suc zero))))))) h = e7 7 refl
    go (suc (suc (suc (suc (suc (suc (suc (suc j)))))))) h = absurd (omega arith)

-- number c of all of them, turned round
unfoldable pub residue_number : List ℕ → ℕ → ℕ → ℕ
residue_number b n c = number_of 64 (λ k. coefficient (c % 11) (word_residue (c / 11) b n k))

pub residue_cell : (b : List ℕ) (n c : ℕ) (each : List (List ℕ)) {x : ℕ} → Each b n each → c < 88 → x ≡ swap_bytes w64 (get_or (get_or each (c / 11) []) (c % 11) 0) →
    x ≡ residue_number b n c
unfolding residue_number
residue_cell b n c each e h ex = ex ∙ swapped_made _ ∙ ap (λ (s : List ℕ). swapped (at s (c % 11))) (e.has (c / 11) (omega arith)) ∙ turned_cell (c / 11) b n (c % 11) (omega arith)

pub residues_end : (b : List ℕ) (n c : ℕ) (out : List ℕ) → Filled 88 (residue_number b n) c out → 88 ≤ c → out ≡ residues_of b n
unfolding residue_number residues_of
residues_end b n c out f h = filled_end f h

-- a list stored where others were stored before it
pub filled_placed : {n i : ℕ} {f : ℕ → ℕ} {xs before after : List ℕ} → Filled n f i before → Placed i xs before after → i + length xs ≤ n →
    ((k : ℕ) → k < length xs → at xs k ≡ f (i + k)) → Filled n f (i + length xs) after
filled_placed {n} {i} {f} {xs} {before} {after} h p room e =
    record { long = p.long ∙ h.long; within = room; done = λ c l. go c l (dec_lt c i) }
  where
    go : (c : ℕ) → c < i + length xs → Dec (c < i) → get_or after c 0 ≡ f c
    go c l (yes m) = p.below c m ∙ h.done c m
    go c l (no m) =
        let q : i + (c - i) ≡ c = omega arith in
        rw q at (p.inside (c - i) (omega arith) ∙ e (c - i) (omega arith))

-- ---- sums of residues

pub sums_next : (xs ys : List ℕ) (i x : ℕ) → x ≡ or_to i (sum_at xs ys) → bit_or x (bit_xor (get_or xs i 0) (get_or ys i 0)) ≡ or_to (i + 1) (sum_at xs ys)
unfolding or_to sum_at xor
sums_next xs ys i x so_far = rw (add-one, so_far)
