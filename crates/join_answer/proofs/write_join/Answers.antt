-- The parts are written one behind the other where there is room for all of them; otherwise 12. Assumes nothing.
use Prim.Native.Nat.{ℕ, ◌+◌, ◌-◌, ◌≤◌}
use mathlib.Core.Path.{◌≡◌, refl, sym, ap, ◌∙◌}
use mathlib.Core.Bool.{Bool}
use mathlib.Core.List.{List}
use native.Mathlib.Omega.{arith}
use lib.ListN.{length, take, drop, length-take, length-drop}
use Rattle.sheet.specs.Sheet.{sheet_of}
use Rattle.class_state.proofs.SizeLaws.{class_count_below}
use Rattle.class_state.proofs.CountLaws.{counts_returned}
use Rattle.equality_pairs.specs.NonNull.{marked_columns}
use Rattle.equality_pairs.proofs.MarkedLaws.{marked_below}
use Rattle.answers.proofs.AnswerLaws.{fitting, too_short}
use Rattle.join.specs.Join.{join_selectivity_from_conjuncts}
use Rattle.join_answer.specs.Join.{join_bytes}
use Rattle.join_answer.proofs.JoinLaws.{front_put, front_put_length, coverages_below, join_size, coverages_within, cut_length, classes_put_length, all_put}
use Rattle.join_answer.proofs.write_join.Goals as goal

-- room in a slice is room in the part of it behind `at`
room_behind : (n k at m : ℕ) (l : List ℕ) → k ≡ length l - at → length l ≡ m → at + n ≤ m → n ≤ length (take k (drop at l))
room_behind n k at m l e f h =
    let d = length-drop at l in
    let t = length-take k (drop at l) in
    omega arith

pub overflow_mul-covered : goal.overflow_mul-covered
overflow_mul-covered c =
    let j = c.join_selectivity_from_conjuncts-joined in
    let n = coverages_below (sheet_of c.args.sheet.now.bytes.now c.args.sheet.now.sections) c.args.conjuncts.now j.result j.ensures.value c.requires in
    omega arith

pub overflow_add-size-2 : goal.overflow_add-size-2
overflow_add-size-2 c =
    let j = c.join_selectivity_from_conjuncts-joined in
    let n = coverages_below (sheet_of c.args.sheet.now.bytes.now c.args.sheet.now.sections) c.args.conjuncts.now j.result j.ensures.value c.requires in
    let b = c.counts_size-classes.ensures.upper_bound in
    omega arith

pub overflow_mul-size : goal.overflow_mul-size
overflow_mul-size c =
    let k = marked_below c.join_selectivity_from_conjuncts-joined.result.marks in
    let m = c.of-marked.ensures.1 in
    omega arith

pub overflow_add-size-3 : goal.overflow_add-size-3
overflow_add-size-3 c =
    let j = c.join_selectivity_from_conjuncts-joined in
    let n = coverages_below (sheet_of c.args.sheet.now.bytes.now c.args.sheet.now.sections) c.args.conjuncts.now j.result j.ensures.value c.requires in
    let b = c.counts_size-classes.ensures.upper_bound in
    let k = marked_below j.result.marks in
    let m = c.of-marked.ensures.1 in
    omega arith

pub returns-then-out-size : goal.returns-then-out-size
returns-then-out-size c =
    let j = c.join_selectivity_from_conjuncts-joined in
    let size = join_size (sheet_of c.args.sheet.now.bytes.now c.args.sheet.now.sections) c.args.conjuncts.now j.result j.ensures.value _ c.member_counts-counts.ensures _ _ c.counts_size-classes.ensures.value c.of-marked.ensures.1 in
    let short = c.if-out-size.true in
    let k = too_short (join_bytes (join_selectivity_from_conjuncts (sheet_of c.args.sheet.now.bytes.now c.args.sheet.now.sections) c.args.conjuncts.now)) c.args.out.now (omega arith) in
    record { value = k.0; out_after = k.1 }

pub overflow_cast-returned_count : goal.overflow_cast-returned_count
overflow_cast-returned_count c =
    let roots = c.join_selectivity_from_conjuncts-joined.result.classes.roots in
    let b = class_count_below roots in
    let e = c.returned_count.ensures ∙ counts_returned roots _ c.member_counts-counts.ensures in
    omega arith

pub put_classes-requires : goal.put_classes-requires
put_classes-requires c =
    let r = c.join_selectivity_from_conjuncts-joined.result in
    let room = c.if-out-size.false in
    let z = c.counts_size-classes.ensures.value in
    let l = front_put_length r.selectivity r.match_probability r.residual_selectivity _ c.args.out.now _ _ _ (omega arith) c.put_figures_part.ensures refl c.put_u16.ensures in
    (c.member_counts-counts.ensures, z, room_behind _ _ _ _ _ refl l (omega arith))

pub slice_bounds-coverages-end : goal.slice_bounds-coverages-end
slice_bounds-coverages-end c =
    let j = c.join_selectivity_from_conjuncts-joined in
    coverages_within (sheet_of c.args.sheet.now.bytes.now c.args.sheet.now.sections) c.args.conjuncts.now j.result j.ensures.value _ _ j.ensures.coverages_after

pub slice_bounds-put_behind_classes-end : goal.slice_bounds-put_behind_classes-end
slice_bounds-put_behind_classes-end c =
    let j = c.join_selectivity_from_conjuncts-joined in
    sym (cut_length (sheet_of c.args.sheet.now.bytes.now c.args.sheet.now.sections) c.args.conjuncts.now j.result j.ensures.value _ _ j.ensures.coverages_after)

pub put_behind_classes-requires : goal.put_behind_classes-requires
put_behind_classes-requires c =
    let sheet = sheet_of c.args.sheet.now.bytes.now c.args.sheet.now.sections in
    let conjuncts = c.args.conjuncts.now in
    let lent = c.args.out.now in
    let j = c.join_selectivity_from_conjuncts-joined in
    let r = j.result in
    let counts = c.member_counts-counts.ensures in
    let z = c.counts_size-classes.ensures.value in
    let m = c.of-marked.ensures.1 in
    let cut = cut_length sheet conjuncts r j.ensures.value _ _ j.ensures.coverages_after in
    let few = coverages_below sheet conjuncts r j.ensures.value c.requires in
    let same = ap (λ (ms : List Bool). length (marked_columns ms)) c.of-marked.ensures.0 in
    let size = join_size sheet conjuncts r j.ensures.value _ counts _ _ z m in
    let room = c.if-out-size.false in
    let front = front_put r.selectivity r.match_probability r.residual_selectivity _ lent _ _ _ (omega arith) c.put_figures_part.ensures refl c.put_u16.ensures in
    let kept = classes_put_length sheet conjuncts r j.ensures.value _ _ j.ensures.coverages_after _ counts _ c.returned_count.ensures lent _ _ _ (omega arith) front refl c.put_classes.ensures in
    (omega arith, room_behind _ _ _ _ _ refl kept (omega arith))

pub returns : goal.returns
returns c =
    let sheet = sheet_of c.args.sheet.now.bytes.now c.args.sheet.now.sections in
    let conjuncts = c.args.conjuncts.now in
    let lent = c.args.out.now in
    let j = c.join_selectivity_from_conjuncts-joined in
    let r = j.result in
    let counts = c.member_counts-counts.ensures in
    let z = c.counts_size-classes.ensures.value in
    let size = join_size sheet conjuncts r j.ensures.value _ counts _ _ z c.of-marked.ensures.1 in
    let room = c.if-out-size.false in
    let front = front_put r.selectivity r.match_probability r.residual_selectivity _ lent _ _ _ (omega arith) c.put_figures_part.ensures refl c.put_u16.ensures in
    let k = fitting _ lent _ _ size room (all_put sheet conjuncts r j.ensures.value _ _ j.ensures.coverages_after _ counts _ c.returned_count.ensures lent _ _ _ (omega arith) front refl c.put_classes.ensures _ _ _ _ c.of-marked.ensures.0 (omega arith) refl c.put_behind_classes.ensures) in
    record { value = k.0; out_after = k.1 }
