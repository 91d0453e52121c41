-- Document 03's two passes and ours: its passes have one outcome, and the passes of this library give it. Assumes nothing.
use mathlib.Core.Path.{◌≡◌, refl, sym, ap, ap₂, ◌∙◌}
use mathlib.Core.Bool.{Bool, true, false, ◌&&◌, cond, and-eq-true_iff}
use mathlib.Core.List.{List, [], ◌∷◌}
use mathlib.Core.Logic.{◌⊎◌, inl, inr}
use mathlib.Core.Option.{Option, none, some}
use Prim.Native.Nat.{ℕ, zero, suc, ◌+◌, ◌%◌, ◌≤◌, ◌<◌}
use native.Mathlib.Decide.{dec_le}
use native.Mathlib.Omega.{arith}
use borrow.Author.Tests.{eq-eqb, eqb-true}
use lib.Dec.{eqb, ltb}
use lib.ListN.{length, get_or}
use lib.Seq.{ext_get_or}
use Rattle.fields.specs.Lists.{tabulate}
use Rattle.fields.specs.Places.{at, apart}
use Rattle.fields.proofs.Lists.{tabulate_length, tabulate_at}
use Rattle.words.specs.InnerCode as Inner
use Rattle.words.specs.Nearest.{nearest}
use Rattle.words.specs.InnerWords as InnerWords
use Rattle.words.specs.InnerWords.{inner_pass}
use Rattle.words.proofs.Codes.Proved.{codes}
use Rattle.inner_words.proofs.Interleaving.InterleavedBits.{word_to_bit, inner_word_length}
use Rattle.frames.specs.Frames.{data_in}
use Rattle.frames.specs.Correction.{received_word, is_padded}
use Rattle.frames.specs.Correction as Correction
use Rattle.frames.specs.Demands.{Uncorrectable, Restored}
use Rattle.frames.proofs.Frames.FrameBits.{data_in_le}
use Rattle.frames.proofs.OuterSymbols.Received.{received_length}
use Rattle.frames.proofs.OuterSymbols.Permitted.{permitted_is, is_permitted_lem, permitted_nearest}
use Rattle.frames.proofs.Demands.{two_passes}
use Rattle.document03.proofs.Fields.{pick}
use Rattle.document03.proofs.Words.Statements.{is_outer, is_inner, is_near}
use Rattle.document03.proofs.Words.WordsAgree.{same_refl, same_is}
use Rattle.document03.proofs.Words.OuterAgrees.{outer_agrees}
use Rattle.document03.proofs.Words.InnerAgrees.{inner_length, inner_agrees}
use Rattle.document03.proofs.Words.SaysHold.{near_says, far_says, near_is, far_is}
use Rattle.document03.proofs.Frames.Statements.{inner_word, outer_of, frame_of_words}
use Rattle.document03.proofs.Frames.Menders.{InnerDone, InnerPass, fill_zero, is_permitted, nth_w, count_w, OuterPass, Mends, Beyond, symbols_in}
use Rattle.document03.proofs.Frames.BlocksAgree.{inner_word_agrees, outer_of_agrees}

-- ---- words

pub symbols_in_lem : (w : ℕ) → symbols_in w ≡ data_in w + 16
unfolding data_in
symbols_in_lem w = go (ltb w 15)
  where
    go : (t : Bool) → ◌≡◌ {A = ℕ} (pick t 781 778) (cond t 765 762 + 16)
    go true = refl
    go false = refl

-- a permitted word in the document's sense is one in ours, and has its length
module _ (w : ℕ) (c : List ℕ) where
  abbrev long : Bool
  long = eqb (length c) (symbols_in w)

  permitted_from : is_permitted w c ≡ true → (Correction.is_permitted w c ≡ true) × (length c ≡ data_in w + 16)
  unfolding is_padded
  permitted_from h =
      let a = (and-eq-true_iff (is_outer c) (long && fill_zero w c)).0 h in
      let b = (and-eq-true_iff long (fill_zero w c)).0 a.1 in
      (is_permitted_lem w c (sym (outer_agrees c) ∙ a.0) b.1, eqb-true (length c) (symbols_in w) b.0 ∙ symbols_in_lem w)

  permitted_to : Correction.is_permitted w c ≡ true → length c ≡ data_in w + 16 → is_permitted w c ≡ true
  unfolding is_padded
  permitted_to h l =
      let p = permitted_is w c h in
      (and-eq-true_iff (is_outer c) (long && fill_zero w c)).1
      (outer_agrees c ∙ p.0, (and-eq-true_iff long (fill_zero w c)).1 (eq-eqb (length c) (symbols_in w) (l ∙ sym (symbols_in_lem w)), p.1))

-- a list of words
count_agrees : (ws : List (List ℕ)) → count_w ws ≡ length ws
count_agrees [] = refl
count_agrees (x ∷ ws) = ap suc (count_agrees ws)

nth_agrees : (ws : List (List ℕ)) (i : ℕ) → nth_w ws i ≡ get_or ws i []
nth_agrees [] i = refl
nth_agrees (x ∷ ws) zero = refl
nth_agrees (x ∷ ws) (suc i) = nth_agrees ws i

done_same : {w w' x x' : List ℕ} → w ≡ w' → x ≡ x' → InnerDone w' x' → InnerDone w x
done_same e f h = rw (e, f) h

-- what our outer pass comes to on the bits b
abbrev pub Outcome : (ℕ → ℕ) → Type 0
Outcome b = ((words : List (List ℕ)) × Restored b words) ⊎ ((w : ℕ) × (w < 16) × Uncorrectable b w)

-- ---- the inner pass, word by word: ours is what the document asks for, and nothing else is

module _ (b : ℕ → ℕ) (k : ℕ) (l : k < 64) where
  abbrev w : List ℕ
  w = InnerWords.inner_word b k

  w_long : length w ≡ 2040
  w_long = inner_word_length b k

  word_done : InnerDone w (InnerWords.inner_word (inner_pass b) k)
  word_done = go (nearest Inner.is_inner 2 8 w) refl
    where
      go : (o : Option (List ℕ)) → nearest Inner.is_inner 2 8 w ≡ o → InnerDone w (InnerWords.inner_word (inner_pass b) k)
      go none e =
          let far : (c : List ℕ) → Inner.is_inner c ≡ true → 8 < apart w c =
          λ c h. codes.inner_nearest.none_means_none w c w_long e (inner_length c (inner_agrees c ∙ h)) h in
          done_same refl (two_passes.inner_lost b k l far)
          (inr (record { as_received = same_refl w; none_near = λ c h. far_says w c (λ n. far c (sym (inner_agrees c) ∙ h)) }))
      go (some c) e =
          let s = codes.inner_nearest.sound w c w_long e in
          done_same refl (two_passes.inner_near b k c l s.1 s.2) (inl (inner_agrees c ∙ s.1, near_says w c (s.0 ∙ sym w_long) s.2))

  done_word : (x : List ℕ) → InnerDone w x → x ≡ InnerWords.inner_word (inner_pass b) k
  done_word x (inl (code, near)) = sym (two_passes.inner_near b k x l (sym (inner_agrees x) ∙ code) (near_is w x near).1)
  done_word x (inr kept) =
      let far : (c : List ℕ) → Inner.is_inner c ≡ true → 8 < apart w c =
      λ c h. let t : is_inner c ≡ true = inner_agrees c ∙ h in far_is w c (kept.none_near c t) (inner_length c t ∙ sym w_long) in
      same_is x w kept.as_received ∙ sym (two_passes.inner_lost b k l far)

-- ---- one outcome

-- every outcome of the inner pass has the bits of ours
mid_at : (block mid : List ℕ) → InnerPass block mid → (i : ℕ) → i < 130560 → at mid i ≡ inner_pass (at block) i
mid_at block mid h i l =
    let k = i % 64 in
    let m : k < 64 = omega arith in
    let own = inner_word_agrees block (at block) (λ i l. refl) k m in
    word_to_bit (at mid) (inner_pass (at block)) i l
    (sym (inner_word_agrees mid (at mid) (λ i l. refl) k m) ∙ done_word (at block) k m (inner_word k mid) (done_same (sym own) refl (h.words k m)))

-- so they have the same outer words, with one permitted word within eight of each
module _ (block m n : List ℕ) (hm : InnerPass block m) (hn : InnerPass block n) where
  outer_same : (w : ℕ) → w < 16 → outer_of w m ≡ outer_of w n
  outer_same w l = go (dec_le 130560 (length block))
    where
      go : Dec (130560 ≤ length block) → outer_of w m ≡ outer_of w n
      go (yes g) =
          outer_of_agrees m (inner_pass (at block)) (mid_at block m hm) (omega (arith, hm.as_long)) w l
          ∙ sym (outer_of_agrees n (inner_pass (at block)) (mid_at block n hn) (omega (arith, hn.as_long)) w l)
      go (no g) =
          ap (outer_of w) (ext_get_or 0 m n (hm.as_long ∙ sym hn.as_long)
          (λ i j. let s : i < 130560 = omega (arith, hm.as_long) in mid_at block m hm i s ∙ sym (mid_at block n hn i s)))

  module _ (vs us : List (List ℕ)) (hv : OuterPass m vs) (hu : OuterPass n us) where
    word_same : (w : ℕ) → w < 16 → nth_w vs w ≡ nth_w us w
    word_same w l =
        let c = nth_w vs w in
        let d = nth_w us w in
        let x = outer_of w m in
        let pc = permitted_from w c (hv.words w l).0 in
        let pd = permitted_from w d (hu.words w l).0 in
        let nc = near_is x c (hv.words w l).1 in
        let nd = near_is x d (ap (λ (y : List ℕ). is_near y d) (outer_same w l) ∙ (hu.words w l).1) in
        let long : length x ≡ data_in w + 16 = sym nc.0 ∙ pc.1 in
        let D = permitted_nearest w (data_in w + 16) (omega (arith, data_in_le w)) in
        let ec : nearest (Correction.is_permitted w) 1024 8 x ≡ some c = D.complete x c long pc.1 pc.0 nc.1 in
        let ed : nearest (Correction.is_permitted w) 1024 8 x ≡ some d = D.complete x d long pd.1 pd.0 nd.1 in
        cc

    words_same : vs ≡ us
    words_same =
        ext_get_or [] vs us (sym (count_agrees vs) ∙ hv.sixteen ∙ sym hu.sixteen ∙ count_agrees us)
        (λ w l. sym (nth_agrees vs w) ∙ word_same w (omega (arith, count_agrees vs, hv.sixteen)) ∙ nth_agrees us w)

pub one_frame : (block f g : List ℕ) → Mends block f → Mends block g → f ≡ g
one_frame block f g m n =
    m.restored ∙ ap frame_of_words (words_same block m.mid n.mid m.inner n.inner m.ws n.ws m.outer n.outer) ∙ sym n.restored

pub not_both : (block f : List ℕ) → Mends block f → Beyond block → true ≡ false
not_both block f m b =
    let w = b.which in
    let c = nth_w m.ws w in
    let t = m.outer.words w b.below in
    sym t.1 ∙ ap (λ (x : List ℕ). is_near x c) (outer_same block m.mid b.mid m.inner b.inner w b.below) ∙ b.none_near c t.0

-- ---- what our passes come to on a block with the bits b

module _ (block : List ℕ) (b : ℕ → ℕ) (block_long_lem : length block ≡ 130560) (same : (i : ℕ) → at block i ≡ b i) where
  mid : List ℕ
  mid = tabulate 130560 (inner_pass b)

  mid_long : length mid ≡ 130560
  unfolding mid
  mid_long = tabulate_length 130560 (inner_pass b)

  mid_bits : (i : ℕ) → i < 130560 → at mid i ≡ inner_pass b i
  unfolding mid
  mid_bits i l = tabulate_at 130560 (inner_pass b) i 0 l

  passed : InnerPass block mid
  passed =
      record {
        as_long = mid_long ∙ sym block_long_lem;
        words = λ k l. done_same (inner_word_agrees block b (λ i l. same i) k l) (inner_word_agrees mid (inner_pass b) mid_bits k l) (word_done b k l);
      }

  received : (w : ℕ) → w < 16 → outer_of w mid ≡ received_word (inner_pass b) w
  received = outer_of_agrees mid (inner_pass b) mid_bits (omega (arith, mid_long))

  pub restored_mends : (ws : List (List ℕ)) → Restored (inner_pass b) ws → Mends block (frame_of_words ws)
  restored_mends ws r =
      record {
        mid = mid;
        inner = passed;
        ws = ws;
        outer = record {
          sixteen = count_agrees ws ∙ r.sixteen;
          words = λ w l. (
            ap (is_permitted w) (nth_agrees ws w) ∙ permitted_to w (get_or ws w []) (r.permitted w l) (r.long w l),
            ap₂ is_near (received w l) (nth_agrees ws w)
                ∙ near_says (received_word (inner_pass b) w) (get_or ws w []) (r.long w l ∙ sym (received_length (inner_pass b) w)) (r.near w l),
          );
        };
        restored = refl;
      }

  pub uncorrectable_beyond : (w : ℕ) → w < 16 → Uncorrectable (inner_pass b) w → Beyond block
  uncorrectable_beyond w l far =
      record {
        mid = mid;
        inner = passed;
        which = w;
        below = l;
        none_near = λ c h. let p = permitted_from w c h in
            ap (λ (x : List ℕ). is_near x c) (received w l) ∙ far_says (received_word (inner_pass b) w) c (λ n. far c p.0 p.1);
      }
