-- A row by its parts: read, written, and the constraints and events of each.
use Rattle.std.proofs.Common.{◌≡◌, ℕ, zero, suc, ◌+◌, ◌≤◌, ◌<◌, List, [], ◌∷◌, ◌++◌, length, map, replicate, take, slice_index, None, All, refl, sym, ap, ◌∙◌, arith, length-append}
use Rattle.std.specs.Prelude.{slice_set}
use Rattle.std.proofs.lemmas.List.{length-map}
use Rattle.std.proofs.lemmas.List.Elements.{All-head, All-tail}
use Rattle.air_core.specs.Ring.{field}
use Rattle.air_core.specs.First.{first_from, or_else, bit}
use Rattle.air_core.specs.Flags.{flag_constraints, sum_from, weighted_from, one_hot}
use Rattle.air_core.specs.Path.{path_lines}
use Rattle.air_core.specs.Sheet.{AllZero, counted}
use Rattle.air_core.specs.FlagLaws.{sum_none}
use Rattle.air_core.proofs.FirstLemmas.{first_from-part, first_from-none}
use Rattle.gadget_time.specs.Told.{touch_constraint, touches_lines, told_lines}
use Rattle.gadget_time.specs.FormLaws.{FormLaws}
use Rattle.gadget_time.specs.lemmas.FormSound.{silent}
use Rattle.gadget_time.specs.Form.{Form, Columns, columns, columns_by, parts_of, form_constraints, told_by}

pub set_one : (n k : ℕ) → k < n → slice_set (replicate n 0) k 1 ≡ one_hot n k
set_one zero k h = absurd (omega arith)
set_one (suc n) zero h = refl
set_one (suc n) (suc k) h = ap (λ (xs : List ℕ). 0 ∷ xs) (set_one n k (omega arith))

pub set_two : (xs : List ℕ) (a b : ℕ) → 2 ≤ length xs → take 2 (slice_set (slice_set xs 0 a) 1 b) ≡ a ∷ b ∷ []
set_two [] a b h = absurd (omega arith)
set_two (x ∷ []) a b h = absurd (omega arith)
set_two (x ∷ y ∷ xs) a b h = refl

all_zero : (xs : List ℕ) → All (λ x. x ≡ 0) xs → AllZero xs
all_zero [] h = tt
all_zero (x ∷ xs) h = (All-head (λ y. y ≡ 0) x xs h, all_zero xs (All-tail (λ y. y ≡ 0) x xs h))

pub none_broken : (xs : List ℕ) → first_from 0 xs ≡ None → AllZero xs
none_broken xs h = all_zero xs (first_from-none 0 xs h)

pub length-path : (valid pc time next slots : ℕ) (numbers : List ℕ) → length (path_lines field valid pc time next slots numbers) ≡ 3
unfolding path_lines
length-path valid pc time next slots numbers = refl

length-flags : (flags : List ℕ) → length (flag_constraints field flags) ≡ length flags + 1
unfolding flag_constraints
length-flags flags = omega (arith, length-append (map (bit field) flags) (bit field (sum_from field 0 flags) ∷ []), length-map flags (bit field))

-- the parts that the code is given are those of the row
module _ (f : Form) (row flags rest : List ℕ) (pc time : ℕ)
    (is_pc : pc ≡ slice_index row 0) (is_time : time ≡ slice_index row 1) (is_flags : flags ≡ (columns f row).flags) (is_rest : rest ≡ (columns f row).rest) where
  pub parts_are : parts_of pc time flags rest ≡ columns f row
  unfolding columns_by
  parts_are = rw (is_pc, is_time, is_flags, is_rest) refl

  pub first_by_parts : (i j n : ℕ) → length flags + 1 ≡ i → i + n ≡ j → length (f.parts.constraints (parts_of pc time flags rest)) ≡ n
      → or_else (first_from 0 (flag_constraints field flags)) (or_else (first_from i (f.parts.constraints (parts_of pc time flags rest)))
      (first_from j (map (touch_constraint field time) (f.parts.touches (parts_of pc time flags rest))))) ≡ first_from 0 (form_constraints field f.parts (columns f row))
  unfolding form_constraints
  first_by_parts i j n p q many =
      let c = parts_of pc time flags rest in
      let own = f.parts.constraints c in
      let times = map (touch_constraint field time) (f.parts.touches c) in
      let whole : first_from 0 (form_constraints field f.parts c) ≡ or_else (first_from 0 (flag_constraints field flags)) (or_else (first_from i own) (first_from j times))
      = first_from-part 0 i (flag_constraints field flags) (own ++ times) (omega (arith, length-flags flags))
      ∙ ap (or_else (first_from 0 (flag_constraints field flags))) (first_from-part i j own times (omega (arith, many))) in
      sym whole ∙ ap (λ (x : Columns ℕ). first_from 0 (form_constraints field f.parts x)) parts_are

  pub lines_by_parts : (hi valid op next slots : ℕ) (numbers : List ℕ) → valid ≡ sum_from field 0 flags → op ≡ weighted_from field 0 flags f.opcodes
      → next ≡ f.parts.next (parts_of pc time flags rest) → slots ≡ f.slots → numbers ≡ pc ∷ op ∷ f.parts.numbers (parts_of pc time flags rest)
      → (path_lines field valid pc time next slots numbers ++ touches_lines field hi time (f.parts.touches (parts_of pc time flags rest))) ++ f.parts.others (parts_of pc time flags rest)
      ≡ told_lines field hi (told_by f (columns f row))
  lines_by_parts hi valid op next slots numbers is_valid is_op is_next is_slots is_numbers =
      let c = parts_of pc time flags rest in
      let whole : (path_lines field valid pc time next slots numbers ++ touches_lines field hi time (f.parts.touches c)) ++ f.parts.others c ≡ told_lines field hi (told_by f c)
      = rw (is_numbers, is_next, is_slots, is_valid, is_op) refl in
      whole ∙ ap (λ (x : Columns ℕ). told_lines field hi (told_by f x)) parts_are

-- a row without a flag says nothing
pub flagless : (f : Form) (hi : ℕ) → FormLaws f → (row : List ℕ) → AllZero (columns f row).flags → counted (told_lines field hi (told_by f (columns f row))) ≡ []
flagless f hi laws row none = silent f hi laws (columns f row) (sum_none (columns f row).flags none) none
