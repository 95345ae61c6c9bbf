-- The laws of the core of SLT and SLTU.
use Rattle.std.proofs.Common.{◌≡◌, ◌≢◌, ℕ, zero, suc, ◌<◌, ◌≤◌, Bool, true, false, nat_eq, List, length, slice_index, refl, sym, ap, subst, ◌∙◌, arith, lit≤}
use Rattle.std.specs.Int.{from_bool}
use Rattle.std.specs.List.{AllByRecursion, list_any}
use Rattle.vm_field.specs.declared.limbs.Limbs.{Limbs}
use Rattle.vm_field.specs.Limbs.{list_of}
use Rattle.vm_word.specs.Word.{word_of_limbs}
use Rattle.vm_isa.specs.Words.{IsBytes}
use Rattle.vm_word.specs.Operations.{word_of_test}
use Rattle.vm_isa.specs.Results.{result, alu}
use Rattle.air_core.specs.First.{bit}
use Rattle.air_core.specs.Flags.{sum_from, one_hot, opcode_place}
use Rattle.air_core.specs.FlagLaws.{sum_none}
use Rattle.air_core.specs.ListLemmas.{by_zero_test, zero_test}
use Rattle.air_core.specs.Lookups.{GoodEvent}
use Rattle.air_core.specs.Ring.{field, cell}
use Rattle.air_core.specs.Sheet.{AllZero}
use Rattle.air_core.specs.lemmas.OneHot.{is_place, sum_one}
use Rattle.gadget_limbs.specs.Less.{less_columns, less_constraints, less_ranges, marks_sum, equal_above, marked_differs, differences, top_constraint}
use Rattle.gadget_limbs.specs.OrderLaws.{LessMeets, digits_of, word_less}
use Rattle.gadget_limbs.proofs.WordOrder.{word_order, filled_cells, filled_order}
use Rattle.gadget_limbs.proofs.RangeLaws.{ranges_good, good_ranges, ranges_count, ranges_silent}
use Rattle.adapter_regs.specs.Core.{Operands, CoreLaws, IsCoreAt, IsResult, IsGoodCore, IsPlaced, IsLookup, no_operands}
use Rattle.chip_less.specs.Less.{less_core, less_opcodes, result_of, signed_at}

-- which order the place of a flag asks for
abbrev signed_place : ℕ → Bool
signed_place place = nat_eq place 0

bool_small : (b : Bool) → from_bool b ≤ 1
bool_small true = lit≤ tt
bool_small false = lit≤ tt

test_is : (b : Bool) → from_bool b ≡ word_of_test b
test_is true = refl
test_is false = refl

test_small : (b : Bool) → word_of_test b ≤ 1
test_small true = lit≤ tt
test_small false = lit≤ tt

result_is : (k a b : ℕ) → k < 2 → result (slice_index less_opcodes k) a b ≡ word_of_test (word_less (signed_place k) a b)
unfolding result alu
result_is zero a b low = refl
result_is (suc zero) a b low = refl
result_is (suc (suc k)) a b low = absurd (omega arith)

flag_is : (k : ℕ) → k < 2 → slice_index (one_hot 2 k) 0 ≡ signed_at k
flag_is zero low = refl
flag_is (suc zero) low = refl
flag_is (suc (suc k)) low = absurd (omega arith)

signed_small : (k : ℕ) → signed_at k ≤ 1
signed_small k = bool_small (nat_eq k 0)

small_word : (r : ℕ) (own : List ℕ) → slice_index own 7 ≡ r → r ≤ 1 → IsBytes (list_of (result_of field own)) × (word_of_limbs (list_of (result_of field own)) ≡ r)
unfolding list_of
small_word r own e small = ((omega (arith, e), (omega arith, (omega arith, (omega arith, tt)))), omega (arith, e))

sound : (k : ℕ) (o : Operands ℕ) → IsCoreAt less_core k o → AllZero (less_core.parts.constraints o) → AllByRecursion (λ e. e.count ≢ 0 → GoodEvent e) (less_core.parts.lookups o)
    → IsResult (slice_index less_opcodes k) o (less_core.parts.new o)
sound k o at zero_all good =
    let c = less_columns 4 0 (cell field o.own) in
    let valid : sum_from field 0 o.flags ≡ 1 = ap (sum_from field 0) at.flags ∙ sum_one 2 k at.below in
    let flag : cell field o.flags 0 ≡ signed_at k = ap (λ (fs : List ℕ). slice_index fs 0) at.flags ∙ flag_is k at.below in
    let ranges = ranges_good (sum_from field 0 o.flags) 8 (less_ranges field (cell field o.flags 0) c) (λ none. absurd (omega (arith, valid, none))) good in
    let order = word_order (signed_place k) o.left o.right o.own at.left at.right at.own_below
    (record { zero = zero_all; ranges = subst (λ (s : ℕ). AllByRecursion (λ n. n < 256) (less_ranges field s c)) flag ranges }) in
    let test = word_less (signed_place k) (word_of_limbs (list_of o.left)) (word_of_limbs (list_of o.right)) in
    let w = small_word (word_of_test test) o.own (order ∙ test_is test) (test_small test) in
    record { bytes = w.0; result_is = w.1 ∙ sym (result_is k (word_of_limbs (list_of o.left)) (word_of_limbs (list_of o.right)) at.below) }

-- ---- complete

complete_at : (k : ℕ) (o : Operands ℕ) → IsCoreAt less_core k o → o.own ≡ filled_cells (signed_at k) o.left o.right → IsGoodCore less_core o
complete_at k o at filled =
    let c = less_columns 4 0 (cell field o.own) in
    let valid : sum_from field 0 o.flags ≡ 1 = ap (sum_from field 0) at.flags ∙ sum_one 2 k at.below in
    let flag : cell field o.flags 0 ≡ signed_at k = ap (λ (fs : List ℕ). slice_index fs 0) at.flags ∙ flag_is k at.below in
    let meets : LessMeets (signed_at k) (digits_of o.left) (digits_of o.right) c = rw filled (filled_order (signed_at k) o.left o.right (signed_small k) at.left at.right).meets in
    let ranges : AllByRecursion (λ n. n < 256) (less_ranges field (cell field o.flags 0) c) = rw flag meets.ranges in
    record {
      zero = meets.zero;
      small = ranges_count (sum_from field 0 o.flags) 1 8 (less_ranges field (cell field o.flags 0) c) (omega (arith, valid));
      good = good_ranges (sum_from field 0 o.flags) 8 (less_ranges field (cell field o.flags 0) c) (lit≤ tt) ranges;
    }

silent : (o : Operands ℕ) → AllZero o.flags → AllByRecursion (λ e. e.count ≡ 0) (less_core.parts.lookups o)
silent o none = ranges_silent (sum_from field 0 o.flags) 8 (less_ranges field (cell field o.flags 0) (less_columns 4 0 (cell field o.own))) (sum_none o.flags none)

zeros : AllZero (less_core.parts.constraints (no_operands less_core))
unfolding less_constraints marks_sum equal_above marked_differs differences top_constraint bit list_of zero_test
zeros = by_zero_test (less_core.parts.constraints (no_operands less_core)) refl

placed : (op : ℕ) (left right new : Limbs ℕ) → list_any (nat_eq op) less_opcodes ≡ true → IsBytes (list_of left) → IsBytes (list_of right) → IsPlaced less_core op left right new
placed op left right new own p q =
    let place = is_place less_opcodes op own in
    let filled = filled_order (signed_at (opcode_place less_opcodes op)) left right (signed_small (opcode_place less_opcodes op)) p q in
    record {
      below = place.below;
      opcode = place.is;
      long = filled.long;
      own_below = filled.below;
    }

lookups_are : (o : Operands ℕ) → AllByRecursion IsLookup (less_core.parts.lookups o)
unfolding less_ranges
lookups_are o = (record { low = lit≤ tt; high = lit≤ tt; side = refl }, (record { low = lit≤ tt; high = lit≤ tt; side = refl }, (record { low = lit≤ tt; high = lit≤ tt; side = refl }, tt)))

lookups_few : (o : Operands ℕ) → length (less_core.parts.lookups o) ≤ 240
unfolding less_ranges
lookups_few o = lit≤ tt

pub less_laws : CoreLaws less_core
less_laws = record {
  some = lit≤ tt;
  few_flags = lit≤ tt;
  narrow = lit≤ tt;
  registers = (refl, (refl, tt));
  products = λ e. absurd (cc);
  lookups = lookups_are;
  few_lookups = lookups_few;
  silent = silent;
  zeros = zeros;
  sound = sound;
  placed = λ op left right new own p q word. placed op left right new own p q;
  complete = λ op o new at word is filled. complete_at (opcode_place less_opcodes op) o at filled;
}
