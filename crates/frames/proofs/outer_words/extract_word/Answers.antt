use mathlib.Core.Path.{refl, sym, ◌∙◌}
use Prim.Native.Nat.{◌+◌, ◌-◌, ◌*◌, ◌/◌, ◌%◌, ◌≤◌}
use native.Mathlib.Omega.{arith}
use borrow.Author.Rules.{rules}
use lib.ListN.{length}
use borrow.Rule.Slice.PartMut.{put_mid}
use Rattle.frames.proofs.Frames.FrameBits.{data_in_is}
use Rattle.frames.proofs.Numbers.Slices.{part_at, part_long, placed_slice}
use Rattle.frames.proofs.OuterSymbols.Writing.{data_fours, groups_room, bytes_room, word_extracted}
use Rattle.frames.proofs.outer_words.extract_word.Goals as goal

pub overflow_sub-groups : goal.overflow_sub-groups
overflow_sub-groups c = search (rules, data_fours)

pub overflow_add-t : goal.overflow_add-t
overflow_add-t c =
    let room = groups_room c.args.outer.now c.args.w _ _ c.requires.0 c.data_in.ensures.0 refl _ c.data_place-t.ensures (omega arith) in
    record { fits = omega (arith, room) }

pub offset_bounds-outer-t : goal.offset_bounds-outer-t
offset_bounds-outer-t c =
    let room = groups_room c.args.outer.now c.args.w _ _ c.requires.0 c.data_in.ensures.0 refl _ c.data_place-t.ensures (omega arith) in
    record { fits = omega (arith, room) }

pub slice_bounds-write_bytes-end : goal.slice_bounds-write_bytes-end
slice_bounds-write_bytes-end c =
    let room = groups_room c.args.outer.now c.args.w _ _ c.requires.0 c.data_in.ensures.0 refl _ c.data_place-t.ensures (omega arith) in
    omega (arith, room)

pub slice_bounds-write_bytes-end-2 : goal.slice_bounds-write_bytes-end-2
slice_bounds-write_bytes-end-2 c =
    let room = bytes_room c.args.w _ _ c.requires.0 c.data_in.ensures.0 refl in
    omega (arith, room)

pub returns : goal.returns
returns c =
    let w = c.args.w in
    let s = 5 * (765 * w / 4) in
    let k = 5 * ((765 * w + 3 * w % 4) / 4) in
    let g = (c.data_in.result - 3 * w % 4) / 4 in
    let n = data_in_is w c.requires.0 in
    let room : s + (k - s) ≤ length c.args.out.now = omega arith in
    let first = part_long c.args.out.now s (k - s) room in
    let mid = placed_slice s (k - s) c.extract_each.new.out c.args.out.now (c.extract_each.auto.out ∙ first) room in
    let last : k + (k + 5 * g - k) ≤ length (put_mid s (k - s) c.args.out.now c.extract_each.new.out) = omega (arith, mid.long) in
    let groups = part_long (put_mid s (k - s) c.args.out.now c.extract_each.new.out) k (k + 5 * g - k) last in
    word_extracted c.args.outer.now _ w _ _ _ _ _ _ _ c.requires.0 c.data_in.ensures.0 refl c.data_place-t.ensures c.requires.1
    (λ i l. part_at c.args.outer.now _ _ i (omega arith)) c.extract_each.ensures first (sym first) c.write_bytes.ensures (groups ∙ omega arith) (sym groups)
