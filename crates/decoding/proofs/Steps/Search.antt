-- The search for the next root: a law for each way through a function and for each step of a loop. Assumes nothing.
use mathlib.Core.Path.{◌≡◌, refl, sym, ap, ◌∙◌}
use mathlib.Core.Bool.{Bool, true, false, cond}
use mathlib.Core.List.{List}
use Prim.Native.Nat.{ℕ, ◌+◌, ◌-◌, ◌≤◌, ◌<◌, zero-le}
use native.Mathlib.Decide.{ℕ_discrete}
use native.Mathlib.Nat.{le_refl}
use native.Mathlib.Numerals.{add-one}
use native.Mathlib.Omega.{arith}
use borrow.Author.Tests.{eq-eqb, ne_eqb, lt-ltb, le-ltb}
use lib.Dec.{eqb}
use lib.ListN.{length, get_or, set, replicate, length-set}
use Rattle.fields.specs.Elements.{xor}
use Rattle.fields.specs.Steps.ByTables.{table_product, table_power}
use Rattle.fields.specs.Places.{at}
use Rattle.decoding.specs.declared.root_search.Term.{Term}
use Rattle.decoding.specs.declared.root_search.Terms.{Terms}
use Rattle.std.proofs.lemmas.List.{map-set, set-get_or}
use Rattle.decoding.specs.Steps.Decoder.{Tables, locator, xor_to, times_power}
use Rattle.decoding.specs.Steps.RootSearch.{add_term, with_term, terms_to, exponents_of, steps_of, Exponents, powers_to, less_modulo, lowered, RootAt, FirstRoot}
use Rattle.decoding.proofs.Decoding.Search.{no_term, exponent_at, step_at, lowered_long, lowered_other, lowered_in, Walk, walk_value, walk_single, walk_next, terms_long, exponents_in, steps_in, walk_start}
use Rattle.decoding.proofs.Steps.Errors.{power_next}

-- ---- the terms

module _ (ls : List ℕ) (t : Terms) (value power : ℕ) where
  pub term_zero : value ≡ 0 → t ≡ with_term ls value power t
  unfolding with_term
  term_zero z = rw (eq-eqb value 0 z)

  pub term_new : (value ≡ 0 → ⊥) → (e s : ℕ) → e ≡ at ls value → s ≡ at ls power → add_term e s t ≡ with_term ls value power t
  unfolding with_term
  term_new z e s ee es = rw (ne_eqb value 0 z, ee, es)

  term_count : (d : ℕ) (r : Terms) → t.count ≤ d → r ≡ with_term ls value power t → r.count ≤ d + 1
  unfolding with_term
  term_count d r h e = rw e (go (eqb value 0))
    where
      go : (b : Bool) → (cond b t (add_term (at ls value) (at ls power) t)).count ≤ d + 1
      go true = omega arith
      go false = omega arith

-- the terms of degree below d are there, and the power is x^d
pub record TermsBelow (es ls v : List ℕ) (x d : ℕ) (t : Terms) (power : ℕ) : Type 0 where
  pub within : d ≤ 9
  pub terms : t ≡ terms_to es ls v x d
  pub few : t.count ≤ d
  pub power_is : power ≡ times_power (table_product es ls) x 1 d

module _ (es ls v : List ℕ) (x : ℕ) where
  pub terms_none : TermsBelow es ls v x 0 (record { terms = replicate 9 no_term; count = 0 }) 1
  unfolding terms_to times_power
  terms_none = record { within = zero-le; terms = refl; few = zero-le; power_is = refl }

  module _ (d : ℕ) (t : Terms) (power : ℕ) (so_far : TermsBelow es ls v x d t power) where
    pub terms_next : (value p w : ℕ) (r : Terms) → d < 9 → value ≡ table_product es ls power (get_or v (8 - d) 0) → p ≡ table_power es d → r ≡ with_term ls value p t →
        w ≡ table_product es ls x power → TermsBelow es ls v x (d + 1) r w
    unfolding terms_to
    terms_next value p w r h ev ep er ew =
        record {
          within = omega arith;
          terms = rw (add-one, ← so_far.terms, ← so_far.power_is, ← ev, ← ep) er;
          few = term_count ls t value p d r so_far.few er;
          power_is = power_next es ls x 1 power d w so_far.power_is ew;
        }

    pub terms_end : 9 ≤ d → t ≡ terms_to es ls v x 9
    terms_end h = let q : d ≡ 9 = omega (arith, so_far.within) in rw q at so_far.terms

-- ---- from place to place

module _ (n e d : ℕ) where
  pub less_low : e < d → e + (n - d) ≡ less_modulo n e d
  unfolding less_modulo
  less_low h = rw (lt-ltb e d h)

  pub less_high : d ≤ e → e - d ≡ less_modulo n e d
  unfolding less_modulo
  less_high h = rw (le-ltb e d h)

-- the first l exponents are lowered, and v is the sum of the powers that they had
pub record Moved (es e₀ s : List ℕ) (count l : ℕ) (e : List ℕ) (v : ℕ) : Type 0 where
  pub within : l ≤ count
  pub long : length e ≡ length e₀
  pub moved : e ≡ lowered (length es) e₀ s l
  pub sum : v ≡ powers_to es e₀ l

pub moved_none : {es e s : List ℕ} {count : ℕ} → Moved es e s count 0 e 0
unfolding lowered powers_to xor_to
moved_none = record { within = zero-le; long = refl; moved = refl; sum = refl }

module _ {es e₀ s : List ℕ} {count l : ℕ} {e : List ℕ} {v : ℕ} (so_far : Moved es e₀ s count l e v) where
  same : get_or e l 0 ≡ get_or e₀ l 0
  same = rw so_far.moved (lowered_other (length es) e₀ s l l (le_refl l))

  pub moved_inside : Exponents es count e₀ → l < count → get_or e l 0 < length es
  moved_inside E h = rw same (E.inside l h)

  pub moved_next : (w r : ℕ) → l < count → w ≡ xor v (get_or es (get_or e l 0) 0) → r ≡ less_modulo (length es) (get_or e l 0) (get_or s l 0) →
      Moved es e₀ s count (l + 1) (set e l r) w
  unfolding lowered powers_to xor_to
  moved_next w r h ew er =
      record {
        within = omega arith;
        long = length-set e l r ∙ so_far.long;
        moved = rw (add-one, er, same, ← so_far.moved);
        sum = rw (add-one, ← so_far.sum) (rw same at ew);
      }

  pub moved_end : count ≤ l → e ≡ lowered (length es) e₀ s count
  moved_end h = let q : l ≡ count = omega (arith, so_far.within) in rw q at so_far.moved

  pub moved_sum : count ≤ l → v ≡ powers_to es e₀ count
  moved_sum h = let q : l ≡ count = omega (arith, so_far.within) in rw q at so_far.sum

-- the same of terms
module _ {es e₀ s : List ℕ} {count l : ℕ} (terms : List Term) {v : ℕ} (so_far : Moved es e₀ s count l (exponents_of terms) v) where
  pub term_inside : Exponents es count e₀ → l < count → (get_or terms l no_term).exponent < length es
  term_inside E h = rw (exponent_at terms l) at (moved_inside so_far E h)

  pub term_step_inside : Exponents es count s → l < count → steps_of terms ≡ s → (get_or terms l no_term).step < length es
  term_step_inside E h same = rw (← same, step_at terms l) at (E.inside l h)

  pub term_moved : (w r : ℕ) → l < count → steps_of terms ≡ s → w ≡ xor v (get_or es (get_or terms l no_term).exponent 0) →
      r ≡ less_modulo (length es) (get_or terms l no_term).exponent (get_or terms l no_term).step →
      Moved es e₀ s count (l + 1) (exponents_of (set terms l (record { exponent = r; step = (get_or terms l no_term).step }))) w
  term_moved w r h same ew er =
      rw (map-set (λ (t : Term). t.exponent) terms l (record { exponent = r; step = (get_or terms l no_term).step }))
      (moved_next so_far w r h (rw (exponent_at terms l) ew) (rw (exponent_at terms l, ← same, step_at terms l) er))

pub term_steps : (terms : List Term) (s : List ℕ) (l r : ℕ) → steps_of terms ≡ s → steps_of (set terms l (record { exponent = r; step = (get_or terms l no_term).step })) ≡ s
term_steps terms s l r same =
    map-set (λ (t : Term). t.step) terms l (record { exponent = r; step = (get_or terms l no_term).step }) ∙ ap (set (steps_of terms) l) (sym (step_at terms l))
    ∙ set-get_or (steps_of terms) l 0 ∙ same

-- ---- the next root

-- from place i, where the terms had the exponents e₀, the search has come to place j; whatever polynomial v they are the terms of, it passed no root
pub record Passed (es ls : List ℕ) (n i : ℕ) (e₀ s : List ℕ) (count j : ℕ) (e : List ℕ) : Type 0 where
  pub from : i ≤ j
  pub most : j ≤ n
  pub long : length e ≡ 9
  pub exponents_are : Exponents es count e
  pub steps_are : Exponents es count s
  pub walk : (v : List ℕ) → Walk es ls v n i e₀ s count → Walk es ls v n j e s count
  pub free : (v : List ℕ) → Walk es ls v n i e₀ s count → (k : ℕ) → i ≤ k → k < j → RootAt es ls v n k → ⊥

pub passed_next : (es ls : List ℕ) (n i : ℕ) (e₀ s : List ℕ) (count j : ℕ) (e e' : List ℕ) (r : ℕ) → Tables es ls → Passed es ls n i e₀ s count j e → j < n →
    r ≡ powers_to es e count → (r ≡ 0 → ⊥) → e' ≡ lowered (length es) e s count → Passed es ls n i e₀ s count (j + 1) e'
passed_next es ls n i e₀ s count j e e' r T so_far h er nz q =
    rw q (record {
      from = omega (arith, so_far.from);
      most = omega arith;
      long = lowered_long (length es) e s count ∙ so_far.long;
      exponents_are = lowered_in es e s count so_far.exponents_are so_far.steps_are;
      steps_are = so_far.steps_are;
      walk = λ v W. walk_next es ls T n v j e s count (so_far.walk v W) so_far.exponents_are so_far.steps_are;
      free = λ v W k lo hi. go v W k lo hi (ℕ_discrete k j);
    })
  where
    go : (v : List ℕ) → Walk es ls v n i e₀ s count → (k : ℕ) → i ≤ k → k < j + 1 → Dec (k ≡ j) → RootAt es ls v n k → ⊥
    go v W k lo hi (yes b) z = nz (walk_value es ls T n v j e s count (so_far.walk v W) r h er ∙ rw b at z)
    go v W k lo hi (no b) z = so_far.free v W k lo (omega arith) z

-- where the steps are those that they were
pub passed_on : (es ls : List ℕ) (n i : ℕ) (e₀ s : List ℕ) (count j : ℕ) (e s' e' s'' : List ℕ) (r : ℕ) → Tables es ls → (Passed es ls n i e₀ s count j e) × (s' ≡ s) → j < n →
    r ≡ powers_to es e count → (r ≡ 0 → ⊥) → e' ≡ lowered (length es) e s' count → s'' ≡ s' → Passed es ls n i e₀ s count (j + 1) e' × (s'' ≡ s)
passed_on es ls n i e₀ s count j e s' e' s'' r T (so_far, same) h er nz q k =
    (passed_next es ls n i e₀ s count j e e' r T so_far h er nz (q ∙ ap (λ (u : List ℕ). lowered (length es) e u count) same), k ∙ same)

module _ (es ls v : List ℕ) (n i x : ℕ) (t : Terms) (T : Tables es ls) (elements : (k : ℕ) → at v k < length ls) (nine : length v ≡ 9) (ex : x ≡ locator es n i)
    (et : t ≡ terms_to es ls v x 9) where
  all : t ≡ terms_to es ls v (locator es n i) 9
  all = rw ex at et

  start : Walk es ls v n i (exponents_of t.terms) (steps_of t.terms) t.count
  start = walk_start es ls T n v elements nine i t all

  pub passed_none : i ≤ n → Passed es ls n i (exponents_of t.terms) (steps_of t.terms) t.count i (exponents_of t.terms)
  passed_none h =
      record {
        from = le_refl i;
        most = h;
        long = terms_long es ls T n v elements nine i t all;
        exponents_are = exponents_in es ls T n v elements nine i t all;
        steps_are = steps_in es ls T n v elements nine i t all;
        walk = λ v W. W;
        free = λ v W k lo hi. absurd (omega arith);
      }

  pub single_none : i ≤ n → t.count ≡ 1 → FirstRoot es ls v n i n
  single_none h one =
      record {
        from = h;
        most = le_refl n;
        before = walk_single es ls T n v i (exponents_of t.terms) (steps_of t.terms) t.count start one (exponents_in es ls T n v elements nine i t all) (steps_in es ls T n v elements nine i t all);
        here = λ b. absurd (omega arith);
      }

  module _ (j : ℕ) (e : List ℕ) (so_far : Passed es ls n i (exponents_of t.terms) (steps_of t.terms) t.count j e) where
    pub passed_found : (r : ℕ) → j < n → r ≡ powers_to es e t.count → r ≡ 0 → FirstRoot es ls v n i j
    passed_found r h er z =
        record {
          from = so_far.from;
          most = so_far.most;
          before = so_far.free v start;
          here = λ b. sym (walk_value es ls T n v j e (steps_of t.terms) t.count (so_far.walk v start) r h er) ∙ z;
        }

    pub passed_end : n ≤ j → FirstRoot es ls v n i n
    passed_end h =
        record {
          from = omega (arith, so_far.from, so_far.most);
          most = le_refl n;
          before = λ k lo hi. so_far.free v start k lo (omega arith);
          here = λ b. absurd (omega arith);
        }
