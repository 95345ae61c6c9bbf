use Rattle.std.proofs.Common.{◌≡◌, ◌+◌, ◌-◌, ◌<◌, ℕ, List, [], ◌∷◌, ◌++◌, length, take, drop, get_or, slice_index, sym, ap, ◌∙◌, refl, arith}
use Rattle.std.proofs.lemmas.List.{get_or_default, get_or_read_under, length-take-le}
use Rattle.std.proofs.Common.{length-append}
use Rattle.vm_field.specs.Field.{field_sub, field_mul}
use Rattle.air_core.specs.First.{bit}
use Rattle.air_core.specs.Ring.{field, cells}
use Rattle.air_core.specs.lemmas.Cells.{cells_take, length-cells}
use Rattle.gadget_limbs.specs.Less.{less_constraints, differences, marks_sum, top_constraint}
use Rattle.gadget_limbs.proofs.LessSteps.{less_by_parts}
use Rattle.gadget_limbs.proofs.OrderFilled.{differences_end}
use Rattle.gadget_limbs.proofs.less.less_broken.Goals as goal

pub returns : goal.returns
unfolding less_constraints
returns g c =
    let n = g.row.N in
    let row = c.args.columns.now in
    let xs = c.args.left.now in
    let ys = c.args.right.now in
    let at = slice_index row in
    let ms = cells at 2 n in
    let wide = c.requires.wide in
    let some = c.requires.some in
    let part : take (n + 2 - 2) (drop 2 row) ≡ ms = ap (λ (k : ℕ). take k (drop 2 row)) (omega arith) ∙ sym (cells_take row 2 n (omega (arith, wide))) in
    let left = take (n - 1) xs ++ (at 0 ∷ []) in
    let right = take (n - 1) ys ++ (at 1 ∷ []) in
    let ds : differences field left right ≡ differences field (take (n - 1) xs) (take (n - 1) ys) ++ (field_sub (at 1) (at 0) ∷ []) =
    differences_end (take (n - 1) xs) (take (n - 1) ys) (at 0) (at 1) (length-take-le (n - 1) xs (omega (arith, c.told-left)) ∙ sym (length-take-le (n - 1) ys (omega (arith, c.told-right)))) in
    let read : (i j x : ℕ) → i ≡ j → i < n + 4 → x ≡ get_or row i x → x ≡ at j = λ i j x same low is. get_or_read_under row i (n + 4) x 0 is low (sym wide) ∙ ap at same in
    let long : (zs : List ℕ) (z : ℕ) → length zs ≡ n → length (take (n - 1) zs ++ (z ∷ [])) ≡ n = λ zs z e. omega (arith, length-append (take (n - 1) zs) (z ∷ []), length-take-le (n - 1) zs (omega (arith, e)), some) in
    let top : (zs : List ℕ) (d : ℕ) → length zs ≡ n → get_or zs (n - 1) d ≡ slice_index zs (n - 1) = λ zs d long. get_or_default zs (n - 1) d 0 (omega (arith, long, some)) in
    rw (
      c.first-3.ensures,
      c.first-2.ensures,
      c.first.ensures,
      c.first-differ.ensures,
      c.first_nonzero-tops.ensures,
      c.top_constraint-left_top.ensures,
      c.top_constraint-right_top.ensures,
      c.bits_broken-bits.ensures,
      c.first_nonzero-answers.ensures,
      c.bit.ensures,
      c.bit-2.ensures,
      c.mul-unmarked.ensures,
      c.sub.ensures,
      c.marks_broken-broken.ensures.sum,
      c.marks_broken-broken.ensures.above,
      c.marks_broken-broken.ensures.marked,
      c.with_top.ensures,
      c.with_top-2.ensures,
      part,
      top xs c.index-left.result c.told-left,
      top ys c.index-right.result c.told-right,
      read 0 0 c.index-columns-0.result refl (omega arith) c.index-columns-0.is,
      read 1 1 c.index-columns-1.result refl (omega arith) c.index-columns-1.is,
      read (n + 3) (3 + n) c.index-columns.result (omega arith) (omega arith) c.index-columns.is,
      read (n + 2) (2 + n) c.index-columns-2.result (omega arith) (omega arith) c.index-columns-2.is,
      read 0 0 c.index-columns-0-2.result refl (omega arith) c.index-columns-0-2.is,
      read 1 1 c.index-columns-1-2.result refl (omega arith) c.index-columns-1-2.is,
      ← ds,
    )
    (sym (less_by_parts c.args.from n (top_constraint field (slice_index xs (n - 1)) (at 0)) (top_constraint field (slice_index ys (n - 1)) (at 1)) (bit field (marks_sum field ms)) (bit field (at (3 + n)))
    (field_mul (at (3 + n)) (field_sub 1 (marks_sum field ms))) (at (2 + n)) (at (3 + n)) ms left right (length-cells at 2 n) (long xs (at 0) c.told-left) (long ys (at 1) c.told-right)))
