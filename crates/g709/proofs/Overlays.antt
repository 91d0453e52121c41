-- Lists with a part stored over them (`over`), place by place. Assumes nothing.
use mathlib.Core.Path.{◌≡◌, refl, sym, ap, ◌∙◌}
use mathlib.Core.Bool.{cond}
use mathlib.Core.List.{List}
use Prim.Native.Nat.{ℕ, ◌+◌, ◌-◌, ◌≤◌, ◌<◌, zero-le}
use native.Mathlib.Decide.{ℕ_discrete, dec_lt}
use native.Mathlib.Nat.{not-suc-le-zero}
use native.Mathlib.Omega.{arith}
use borrow.Author.Tests.{le-ltb, lt-ltb}
use lib.Dec.{ltb}
use borrow.Rule.Slice.PartMut.{put_mid, same_len_mid}
use Rattle.std.proofs.lemmas.List.{get_or-drop, get_or-take, length-drop, length-take-le}
use Rattle.std.proofs.lemmas.Slice.{between-put_mid, take-put_mid_below, drop-put_mid}
use lib.ListN.{length, take, drop, set, length-set, get_or-eq_default}
use lib.Seq.{get_or-set_same, get_or-set_other}
use Rattle.fields.proofs.Lists.{tabulate_at, tabulate_is, tabulate_length, tabulate_same}
use Rattle.fields.specs.Places.{at}
use Rattle.g709.specs.Steps.Registers.{over}

module _ (l : List ℕ) (b n : ℕ) (f : ℕ → ℕ) where
  pub over_length : length (over l b n f) ≡ length l
  unfolding over
  over_length = tabulate_length (length l) _

  -- a place of the part, one before it, and one after it
  pub over_in : (i : ℕ) → i < n → b + i < length l → at (over l b n f) (b + i) ≡ f i
  unfolding over
  over_in i h k =
      let e : b + i - b ≡ i = omega arith in
      tabulate_at (length l) _ (b + i) 0 k ∙ rw (le-ltb (b + i) b (omega arith), e, lt-ltb i n h)

  past : (i : ℕ) → length l ≤ i → at (over l b n f) i ≡ at l i
  past i h = get_or-eq_default (over l b n f) 0 {n = i} (omega (arith, over_length)) ∙ sym (get_or-eq_default l 0 {n = i} h)

  front_in : (i : ℕ) → i < b → i < length l → at (over l b n f) i ≡ at l i
  unfolding over
  front_in i h k = tabulate_at (length l) _ i 0 k ∙ rw (lt-ltb i b h)

  behind_in : (i : ℕ) → b + n ≤ i → i < length l → at (over l b n f) i ≡ at l i
  unfolding over
  behind_in i h k = tabulate_at (length l) _ i 0 k ∙ rw (le-ltb i b (omega arith), le-ltb (i - b) n (omega arith))

  pub over_front : (i : ℕ) → i < b → at (over l b n f) i ≡ at l i
  over_front i h = go (dec_lt i (length l))
    where
      go : Dec (i < length l) → at (over l b n f) i ≡ at l i
      go (yes k) = front_in i h k
      go (no k) = past i (omega arith)

  pub over_behind : (i : ℕ) → b + n ≤ i → at (over l b n f) i ≡ at l i
  over_behind i h = go (dec_lt i (length l))
    where
      go : Dec (i < length l) → at (over l b n f) i ≡ at l i
      go (yes k) = behind_in i h k
      go (no k) = past i (omega arith)

  -- a list that has all that is the list
  pub over_is : (o : List ℕ) → length o ≡ length l → ((i : ℕ) → i < n → at o (b + i) ≡ f i) → ((i : ℕ) → i < b → at o i ≡ at l i) → ((i : ℕ) → b + n ≤ i → at o i ≡ at l i) →
      o ≡ over l b n f
  unfolding over
  over_is o long inn front behind = tabulate_is (length l) _ o 0 long (λ i k. go i k (dec_lt i b) (dec_lt i (b + n)))
    where
      go : (i : ℕ) → i < length l → Dec (i < b) → Dec (i < b + n) → at o i ≡ cond (ltb i b) (at l i) (cond (ltb (i - b) n) (f (i - b)) (at l i))
      go i k (yes h) y = rw (lt-ltb i b h) (front i h)
      go i k (no h) (yes g) =
          let e : b + (i - b) ≡ i = omega arith in
          rw (le-ltb i b (omega arith), lt-ltb (i - b) n (omega arith)) (ap (at o) (sym e) ∙ inn (i - b) (omega arith))
      go i k (no h) (no g) = rw (le-ltb i b (omega arith), le-ltb (i - b) n (omega arith)) (behind i (omega arith))

-- the part is told by what is stored
pub over_same : (l : List ℕ) (b n : ℕ) (f g : ℕ → ℕ) → ((i : ℕ) → i < n → f i ≡ g i) → over l b n f ≡ over l b n g
unfolding over
over_same l b n f g h = tabulate_same (length l) _ _ (λ i k. go i (dec_lt (i - b) n))
  where
    go : (i : ℕ) → Dec (i - b < n) → cond (ltb i b) (at l i) (cond (ltb (i - b) n) (f (i - b)) (at l i)) ≡ cond (ltb i b) (at l i) (cond (ltb (i - b) n) (g (i - b)) (at l i))
    go i (yes q) = ap (λ (x : ℕ). cond (ltb i b) (at l i) (cond (ltb (i - b) n) x (at l i))) (h (i - b) q)
    go i (no q) = rw (le-ltb (i - b) n (omega arith))

-- ---- parts

-- a byte of a part of n bytes from place m on
pub part_at : (n m : ℕ) (l : List ℕ) (i : ℕ) → i < n → at (take n (drop m l)) i ≡ at l (m + i)
part_at n m l i h = get_or-take n (drop m l) i 0 h ∙ get_or-drop m l i 0

pub part_length : (n m : ℕ) (l : List ℕ) → m + n ≤ length l → length (take n (drop m l)) ≡ n
part_length n m l room = length-take-le n (drop m l) (omega (arith, length-drop m l))

-- a part that is written
pub part_written : (l : List ℕ) (b n : ℕ) (p : List ℕ) → length p ≡ n → b + n ≤ length l → put_mid b n l p ≡ over l b n (at p)
part_written l b n p long room = over_is l b n (at p) (put_mid b n l p) (same_len_mid b n l p (long ∙ sym (part_length n b l room))) inside front behind
  where
    inside : (i : ℕ) → i < n → at (put_mid b n l p) (b + i) ≡ at p i
    inside i h = sym (part_at n b (put_mid b n l p) i h) ∙ ap (λ (k : ℕ). at (take k (drop b (put_mid b n l p))) i) (omega arith) ∙ ap (λ (q : List ℕ). at q i) (between-put_mid b n l p (b + n) (omega arith) (omega arith))

    front : (i : ℕ) → i < b → at (put_mid b n l p) i ≡ at l i
    front i h = sym (get_or-take b (put_mid b n l p) i 0 h) ∙ ap (λ (q : List ℕ). at q i) (take-put_mid_below b n l p b (omega arith) (omega arith)) ∙ get_or-take b l i 0 h

    behind : (i : ℕ) → b + n ≤ i → at (put_mid b n l p) i ≡ at l i
    behind i h =
        let e : i ≡ b + n + (i - (b + n)) = omega arith in
        ap (at (put_mid b n l p)) e ∙ sym (get_or-drop (b + n) (put_mid b n l p) (i - (b + n)) 0)
        ∙ ap (λ (q : List ℕ). at q (i - (b + n))) (drop-put_mid b n l p (b + n) (omega arith) (omega arith) long) ∙ get_or-drop (b + n) l (i - (b + n)) 0 ∙ ap (at l) (sym e)

pub part_copied : (l : List ℕ) (b n k : ℕ) (p from : List ℕ) (m h : ℕ) → p ≡ take h (drop m from) → k ≡ n → h ≡ n → m + n ≤ length from → b + n ≤ length l →
    put_mid b k l p ≡ over l b n (λ i. at from (m + i))
part_copied l b n k p from m h e ek eh room space =
    let e' : p ≡ take n (drop m from) = e ∙ ap (λ (h : ℕ). take h (drop m from)) eh in
    ap (λ (k : ℕ). put_mid b k l p) ek ∙ part_written l b n p (ap length e' ∙ part_length n m from room) space
    ∙ over_same l b n (at p) (λ i. at from (m + i)) (λ i q. ap (λ (p : List ℕ). at p i) e' ∙ part_at n m from i q)

-- the invariant of a loop that stores the part: the first k places of it are stored, and all others hold what they held
pub record OverTo (l : List ℕ) (b n : ℕ) (f : ℕ → ℕ) (k : ℕ) (o : List ℕ) : Type 0 where
  pub long : length o ≡ length l
  pub within : k ≤ n
  pub done : (i : ℕ) → i < k → at o (b + i) ≡ f i
  pub front : (i : ℕ) → i < b → at o i ≡ at l i
  pub behind : (i : ℕ) → b + k ≤ i → at o i ≡ at l i

pub over_start : (l : List ℕ) (b n : ℕ) (f : ℕ → ℕ) → OverTo l b n f 0 l
over_start l b n f = record { long = refl; within = zero-le; done = λ i h. absurd (not-suc-le-zero h); front = λ i h. refl; behind = λ i h. refl }

pub over_next : (l : List ℕ) (b n : ℕ) (f : ℕ → ℕ) (k v : ℕ) (o : List ℕ) → OverTo l b n f k o → k < n → b + k < length l → v ≡ f k → OverTo l b n f (k + 1) (set o (b + k) v)
over_next l b n f k v o h lt room e =
    record {
      long = length-set o (b + k) v ∙ h.long;
      within = omega arith;
      done = λ i g. go i g (ℕ_discrete i k);
      front = λ i g. get_or-set_other o (b + k) i v 0 (λ q. omega arith) ∙ h.front i g;
      behind = λ i g. get_or-set_other o (b + k) i v 0 (λ q. omega arith) ∙ h.behind i (omega arith);
    }
  where
    go : (i : ℕ) → i < k + 1 → Dec (i ≡ k) → at (set o (b + k) v) (b + i) ≡ f i
    go i g (yes q) = rw q (get_or-set_same o (b + k) v 0 (omega (arith, h.long)) ∙ e)
    go i g (no q) = get_or-set_other o (b + k) (b + i) v 0 (λ z. q (omega arith)) ∙ h.done i (omega (arith, q))

pub over_end : (l : List ℕ) (b n : ℕ) (f : ℕ → ℕ) (k : ℕ) (o : List ℕ) → OverTo l b n f k o → n ≤ k → o ≡ over l b n f
over_end l b n f k o h le = over_is l b n f o h.long (λ i g. h.done i (omega arith)) h.front (λ i g. h.behind i (omega (arith, h.within)))
