-- The laws of the two conditions.
use Rattle.std.proofs.Common.{◌≡◌, ℕ, ◌≤◌, Bool, true, false, not, refl, lit≤, ◌≢◌, zero, suc, ◌/◌, ◌%◌, ◌<◌, nat_eq, List, [], ◌∷◌, length, slice_index, sym, ap, subst, ◌∙◌, arith, inl, inr, nat_lt}
use Rattle.std.specs.Int.{from_bool}
use Rattle.std.specs.List.{AllByRecursion}
use Rattle.std.proofs.Math.Nat.{mod-lt}
use Rattle.std.proofs.lemmas.Bool.{cases_eq, eq-eqb, ne_eqb}
use Rattle.vm_field.specs.Field.{modulus, field_add, field_sub, field_mul, field_neg}
use Rattle.vm_field.specs.declared.limbs.Limbs.{Limbs}
use Rattle.vm_field.specs.Limbs.{list_of}
use Rattle.vm_field.proofs.Constraints.{boolean_at_most, gated_equal}
use Rattle.vm_field.proofs.Inverse.{inverse-step}
use Rattle.vm_field.proofs.Prime.{no_divisor}
use Rattle.vm_field.proofs.Ring.{field_mul-one, field_mul_comm}
use Rattle.vm_word.specs.Word.{word_of_limbs}
use Rattle.vm_word.specs.Arithmetic.{signed_less}
use Rattle.vm_isa.specs.Results.{is_taken}
use Rattle.vm_isa.specs.Words.{IsBytes}
use Rattle.air_core.specs.Ring.{field, cell}
use Rattle.air_core.specs.First.{bit, gated_difference}
use Rattle.air_core.specs.Flags.{sum_from, one_hot}
use Rattle.air_core.specs.ListLemmas.{by_zero_test, zero_test, below_at}
use Rattle.air_core.specs.Sheet.{AllZero, AllBelow}
use Rattle.air_core.specs.lemmas.OneHot.{sum_one}
use Rattle.air_core.specs.FlagLaws.{sum_none}
use Rattle.air_core.specs.Lookups.{GoodEvent}
use Rattle.gadget_limbs.specs.Less.{less_columns, less_constraints, less_ranges, marks_sum, equal_above, marked_differs, differences, top_constraint}
use Rattle.gadget_limbs.specs.OrderLaws.{word_less}
use Rattle.gadget_limbs.proofs.WordOrder.{word_order, filled_cells, filled_order}
use Rattle.gadget_limbs.proofs.RangeLaws.{ranges_good, good_ranges, ranges_count, ranges_silent}
use Rattle.adapter_regs.specs.Core.{Operands, IsLookup}
use Rattle.chip_branch.specs.Conditions.{either_way, equal_condition, equal_constraints, equal_cells, apart_by, inverse_by, inverse_of, order_condition, signed_by, signed_at}
use Rattle.chip_branch.specs.Branch.{ConditionLaws, IsConditionAt, IsFilled, taken_at, no_operands}

-- ---- a test as a number, straight and turned

straight : (t : Bool) → either_way field 1 0 (from_bool t) ≡ from_bool t
unfolding either_way
straight true = refl
straight false = refl

turned : (t : Bool) → either_way field 0 1 (from_bool t) ≡ from_bool (not t)
unfolding either_way
turned true = refl
turned false = refl

bool_small : (b : Bool) → from_bool b ≤ 1
bool_small true = lit≤ tt
bool_small false = lit≤ tt

-- ---- BEQ and BNE

same_word : (x y : Limbs ℕ) → IsBytes (list_of x) → IsBytes (list_of y) → word_of_limbs (list_of x) ≡ word_of_limbs (list_of y) → (x.x0 ≡ y.x0) × (x.x1 ≡ y.x1) × (x.x2 ≡ y.x2) × (x.x3 ≡ y.x3)
unfolding list_of
same_word x y p q e = (omega (arith, p, q, e), omega (arith, p, q, e), omega (arith, p, q, e), omega (arith, p, q, e))

word_same : (x y : Limbs ℕ) → x.x0 ≡ y.x0 → x.x1 ≡ y.x1 → x.x2 ≡ y.x2 → x.x3 ≡ y.x3 → word_of_limbs (list_of x) ≡ word_of_limbs (list_of y)
unfolding list_of
word_same x y a b c d = rw (a, b, c, d) refl

-- where the limbs are the same there is nothing to multiply
none_apart : (own : List ℕ) (x y : Limbs ℕ) → IsBytes (list_of x) → x.x0 ≡ y.x0 → x.x1 ≡ y.x1 → x.x2 ≡ y.x2 → x.x3 ≡ y.x3 → apart_by field own x y ≡ 0
unfolding apart_by list_of
none_apart own x y p a b c d =
    let z0 : field_sub x.x0 y.x0 ≡ 0 = omega (arith, p.0, a) in
    let z1 : field_sub x.x1 y.x1 ≡ 0 = omega (arith, p.1.0, b) in
    let z2 : field_sub x.x2 y.x2 ≡ 0 = omega (arith, p.1.1.0, c) in
    let z3 : field_sub x.x3 y.x3 ≡ 0 = omega (arith, p.1.1.1.0, d) in
    rw (z0, z1, z2, z3) (omega arith)

limb_is : (same x y : ℕ) → same ≡ 1 → x < 256 → y < 256 → gated_difference field same x y ≡ 0 → x ≡ y
unfolding gated_difference
limb_is same x y one p q h = gated_equal same x y one (omega (arith, p)) (omega (arith, q)) h

-- the column says whether the words are the same
same_is : (own : List ℕ) (x y : Limbs ℕ) → AllBelow own → IsBytes (list_of x) → IsBytes (list_of y) → AllZero (equal_constraints field 1 own x y)
    → cell field own 0 ≡ from_bool (nat_eq (word_of_limbs (list_of x)) (word_of_limbs (list_of y)))
unfolding equal_constraints bit list_of
same_is own x y below p q h =
    let same = cell field own 0 in
    let small : same ≤ 1 = boolean_at_most same (below_at own 0 below) h.0 in
    let a = word_of_limbs (list_of x) in
    let b = word_of_limbs (list_of y) in
    elim (cases_eq a b) [
      | inl equal ↦
          let limbs = same_word x y p q equal in
          let none = none_apart own x y p limbs.0 limbs.1 limbs.2 limbs.3 in
          let one : same ≡ 1 = let last = h.1.1.1.1.1.0 in omega (arith, last, none, small) in
          one ∙ ap from_bool (sym (eq-eqb a b equal))
      | inr other ↦
          let off : same ≡ 0 = elim (cases_eq same 1) [
            | inl on ↦ absurd (other (word_same x y (limb_is same x.x0 y.x0 on p.0 q.0 h.1.0) (limb_is same x.x1 y.x1 on p.1.0 q.1.0 h.1.1.0) (limb_is same x.x2 y.x2 on p.1.1.0 q.1.1.0 h.1.1.1.0)
                (limb_is same x.x3 y.x3 on p.1.1.1.0 q.1.1.1.0 h.1.1.1.1.0)))
            | inr un ↦ omega (arith, small, un)
          ] in
          off ∙ ap from_bool (sym (ne_eqb a b other))
    ]

equal_taken : (k same a b : ℕ) → k < 2 → same ≡ from_bool (nat_eq a b) → either_way field (slice_index (one_hot 2 k) 0) (slice_index (one_hot 2 k) 1) same ≡ from_bool (is_taken (slice_index equal_condition.opcodes k) a b)
unfolding is_taken
equal_taken zero same a b low e = rw e (straight (nat_eq a b))
equal_taken (suc zero) same a b low e = rw e (turned (nat_eq a b))
equal_taken (suc (suc k)) same a b low e = absurd (omega arith)

valid_is : (k : ℕ) → k < 2 → sum_from field 0 (one_hot 2 k) ≡ 1
valid_is k low = sum_one 2 k low

equal_sound : (k : ℕ) (o : Operands ℕ) → IsConditionAt equal_condition k o → AllZero (equal_condition.parts.constraints o) → equal_condition.parts.taken o ≡ taken_at (slice_index equal_condition.opcodes k) o
equal_sound k o at zero_all =
    let valid : sum_from field 0 o.flags ≡ 1 = ap (sum_from field 0) at.flags ∙ valid_is k at.below in
    let is = same_is o.own o.left o.right at.own_below at.left at.right (rw valid at zero_all) in
    ap (λ (fs : List ℕ). either_way field (cell field fs 0) (cell field fs 1) (cell field o.own 0)) at.flags ∙ equal_taken k (cell field o.own 0) _ _ at.below is

-- the columns that are filled

inverse_law : (n x f r : ℕ) → r ≤ n → field_mul x f ≡ r → f < modulus → 0 < r → r < modulus → (inverse_by n f r < modulus) × (field_mul x (inverse_by n f r) ≡ 1)
unfolding inverse_by
inverse_law zero x f r bound h low pos small = absurd (omega arith)
inverse_law (suc n) x f r bound h low pos small =
    elim (cases_eq r 1) [
      | inl one ↦ rw (eq-eqb r 1 one) (low, h ∙ one)
      | inr more ↦
          let rest : modulus % r < r = mod-lt modulus pos in
          let some : modulus % r ≢ 0 = no_divisor r (omega arith) small in
          rw (ne_eqb r 1 more) (inverse_law n x (field_neg (field_mul (modulus / r) f)) (modulus % r) (omega arith) (inverse-step x f r h pos small) (omega arith) (omega arith) (omega arith))
    ]

pub inverse_is : (x : ℕ) → x < modulus → x ≢ 0 → (inverse_of x < modulus) × (field_mul x (inverse_of x) ≡ 1)
unfolding inverse_of
inverse_is x small some = inverse_law x x 1 x (omega arith) (field_mul-one x small) (omega arith) (omega arith) small

-- the inverse of what two limbs are apart
apart_inverse : (x y : ℕ) → x < 256 → y < 256 → x ≢ y → (inverse_of (field_sub x y) < modulus) × (field_mul (inverse_of (field_sub x y)) (field_sub x y) ≡ 1)
apart_inverse x y p q other =
    let is = inverse_is (field_sub x y) (omega arith) (λ e. other (omega (arith, e, p, q))) in
    (is.0, field_mul_comm (inverse_of (field_sub x y)) (field_sub x y) ∙ is.1)

-- columns that say that the words differ
off_holds : (w0 w1 w2 w3 : ℕ) (x y : Limbs ℕ) → apart_by field (0 ∷ w0 ∷ w1 ∷ w2 ∷ w3 ∷ []) x y ≡ 1 → AllZero (equal_constraints field 1 (0 ∷ w0 ∷ w1 ∷ w2 ∷ w3 ∷ []) x y)
unfolding equal_constraints bit gated_difference
off_holds w0 w1 w2 w3 x y e = (refl, (omega arith, (omega arith, (omega arith, (omega arith, (rw e refl, tt))))))

on_holds : (x y : Limbs ℕ) → IsBytes (list_of x) → x.x0 ≡ y.x0 → x.x1 ≡ y.x1 → x.x2 ≡ y.x2 → x.x3 ≡ y.x3 → AllZero (equal_constraints field 1 (1 ∷ 0 ∷ 0 ∷ 0 ∷ 0 ∷ []) x y)
unfolding equal_constraints bit gated_difference list_of
on_holds x y p a b c d = (
  refl,
  (
    omega (arith, p.0, a),
    (omega (arith, p.1.0, b), (omega (arith, p.1.1.0, c), (omega (arith, p.1.1.1.0, d), (rw (none_apart (1 ∷ 0 ∷ 0 ∷ 0 ∷ 0 ∷ []) x y p a b c d) refl, tt)))),
  ),
)

-- a factor at one limb alone
apart_alone : (w : ℕ) (x y : Limbs ℕ) → (field_mul w (field_sub x.x0 y.x0) ≡ 1 → apart_by field (0 ∷ w ∷ 0 ∷ 0 ∷ 0 ∷ []) x y ≡ 1) × (field_mul w (field_sub x.x1 y.x1) ≡ 1 → apart_by field (0 ∷ 0 ∷ w ∷ 0 ∷ 0 ∷ []) x y ≡ 1)
    × (field_mul w (field_sub x.x2 y.x2) ≡ 1 → apart_by field (0 ∷ 0 ∷ 0 ∷ w ∷ 0 ∷ []) x y ≡ 1) × (field_mul w (field_sub x.x3 y.x3) ≡ 1 → apart_by field (0 ∷ 0 ∷ 0 ∷ 0 ∷ w ∷ []) x y ≡ 1)
unfolding apart_by
apart_alone w x y = (λ e. rw e (omega arith), λ e. rw e (omega arith), λ e. rw e (omega arith), λ e. rw e (omega arith))

record Holds (x y : Limbs ℕ) (own : List ℕ) : Type 0 where
  long : length own ≡ 5
  below : AllBelow own
  zero : AllZero (equal_constraints field 1 own x y)

zero_low : 0 < modulus
zero_low = omega arith

equal_holds : (x y : Limbs ℕ) → IsBytes (list_of x) → IsBytes (list_of y) → Holds x y (equal_cells x y)
unfolding equal_cells list_of
equal_holds x y p q =
    elim (cases_eq x.x0 y.x0) [
      | inr other ↦
          let i = apart_inverse x.x0 y.x0 p.0 q.0 other in
          rw (ne_eqb x.x0 y.x0 other) (record { long = refl; below = (zero_low, (i.0, (zero_low, (zero_low, (zero_low, tt))))); zero = off_holds _ 0 0 0 x y ((apart_alone _ x y).0 i.1) })
      | inl a ↦ elim (cases_eq x.x1 y.x1) [
        | inr other ↦
            let i = apart_inverse x.x1 y.x1 p.1.0 q.1.0 other in
            rw (eq-eqb x.x0 y.x0 a, ne_eqb x.x1 y.x1 other) (record { long = refl; below = (zero_low, (zero_low, (i.0, (zero_low, (zero_low, tt))))); zero = off_holds 0 _ 0 0 x y ((apart_alone _ x y).1 i.1) })
        | inl b ↦ elim (cases_eq x.x2 y.x2) [
          | inr other ↦
              let i = apart_inverse x.x2 y.x2 p.1.1.0 q.1.1.0 other in
              rw (eq-eqb x.x0 y.x0 a, eq-eqb x.x1 y.x1 b, ne_eqb x.x2 y.x2 other)
              (record { long = refl; below = (zero_low, (zero_low, (zero_low, (i.0, (zero_low, tt))))); zero = off_holds 0 0 _ 0 x y ((apart_alone _ x y).2 i.1) })
          | inl c ↦ elim (cases_eq x.x3 y.x3) [
            | inr other ↦
                let i = apart_inverse x.x3 y.x3 p.1.1.1.0 q.1.1.1.0 other in
                rw (eq-eqb x.x0 y.x0 a, eq-eqb x.x1 y.x1 b, eq-eqb x.x2 y.x2 c, ne_eqb x.x3 y.x3 other)
                (record { long = refl; below = (zero_low, (zero_low, (zero_low, (zero_low, (i.0, tt))))); zero = off_holds 0 0 0 _ x y ((apart_alone _ x y).3 i.1) })
            | inl d ↦
                rw (eq-eqb x.x0 y.x0 a, eq-eqb x.x1 y.x1 b, eq-eqb x.x2 y.x2 c, eq-eqb x.x3 y.x3 d)
                (record { long = refl; below = (omega arith, (zero_low, (zero_low, (zero_low, (zero_low, tt))))); zero = on_holds x y p a b c d })
          ]
        ]
      ]
    ]

equal_complete : (k : ℕ) (left right : Limbs ℕ) → k < 2 → IsBytes (list_of left) → IsBytes (list_of right) → IsFilled equal_condition k left right
equal_complete k left right low p q =
    let h = equal_holds left right p q in
    record { long = h.long; below = h.below; good = record { zero = rw (valid_is k low) h.zero; small = tt; good = tt } }

equal_zeros : AllZero (equal_condition.parts.constraints (no_operands equal_condition))
unfolding equal_constraints apart_by bit gated_difference zero_test
equal_zeros = by_zero_test (equal_condition.parts.constraints (no_operands equal_condition)) refl

pub equal_laws : ConditionLaws equal_condition
equal_laws = record {
  some = lit≤ tt;
  few_flags = lit≤ tt;
  narrow = lit≤ tt;
  branches = (refl, (refl, tt));
  lookups = λ o. tt;
  few_lookups = λ o. lit≤ tt;
  silent = λ o none. tt;
  zeros = equal_zeros;
  sound = λ k o at zero good. equal_sound k o at zero;
  complete = equal_complete;
}

-- ---- BLT, BLTU, BGE and BGEU

-- which order the place of a flag asks for
abbrev signed_place : ℕ → Bool
signed_place k = nat_eq (k % 2) 0

signed_is : (k : ℕ) → k < 4 → signed_by field (one_hot 4 k) ≡ signed_at k
signed_is zero low = refl
signed_is (suc zero) low = refl
signed_is (suc (suc zero)) low = refl
signed_is (suc (suc (suc zero))) low = refl
signed_is (suc (suc (suc (suc k)))) low = absurd (omega arith)

signed_small : (k : ℕ) → signed_at k ≤ 1
signed_small k = bool_small (signed_place k)

order_taken : (k less a b : ℕ) → k < 4 → less ≡ from_bool (word_less (signed_place k) a b)
    → either_way field (field_add (slice_index (one_hot 4 k) 0) (slice_index (one_hot 4 k) 1)) (field_add (slice_index (one_hot 4 k) 2) (slice_index (one_hot 4 k) 3)) less ≡ from_bool (is_taken (slice_index order_condition.opcodes k) a b)
unfolding is_taken
order_taken zero less a b low e = rw e (straight (signed_less a b))
order_taken (suc zero) less a b low e = rw e (straight (nat_lt a b))
order_taken (suc (suc zero)) less a b low e = rw e (turned (signed_less a b))
order_taken (suc (suc (suc zero))) less a b low e = rw e (turned (nat_lt a b))
order_taken (suc (suc (suc (suc k)))) less a b low e = absurd (omega arith)

abbrev taken_by : List ℕ → ℕ → ℕ
taken_by fs less = either_way field (field_add (cell field fs 0) (cell field fs 1)) (field_add (cell field fs 2) (cell field fs 3)) less

order_sound : (k : ℕ) (o : Operands ℕ) → IsConditionAt order_condition k o → AllZero (order_condition.parts.constraints o) → AllByRecursion (λ e. e.count ≢ 0 → GoodEvent e) (order_condition.parts.lookups o)
    → order_condition.parts.taken o ≡ taken_at (slice_index order_condition.opcodes k) o
order_sound k o at zero_all good =
    let c = less_columns 4 0 (cell field o.own) in
    let valid : sum_from field 0 o.flags ≡ 1 = ap (sum_from field 0) at.flags ∙ sum_one 4 k at.below in
    let signed : signed_by field o.flags ≡ signed_at k = ap (signed_by field) at.flags ∙ signed_is k at.below in
    let ranges = ranges_good (sum_from field 0 o.flags) 8 (less_ranges field (signed_by field o.flags) c) (λ none. absurd (omega (arith, valid, none))) good in
    let order = word_order (signed_place k) o.left o.right o.own at.left at.right at.own_below
    (record { zero = zero_all; ranges = subst (λ (s : ℕ). AllByRecursion (λ n. n < 256) (less_ranges field s c)) signed ranges }) in
    ap (λ (fs : List ℕ). taken_by fs (cell field o.own 7)) at.flags ∙ order_taken k (cell field o.own 7) _ _ at.below order

order_complete : (k : ℕ) (left right : Limbs ℕ) → k < 4 → IsBytes (list_of left) → IsBytes (list_of right) → IsFilled order_condition k left right
order_complete k left right low p q =
    let filled = filled_order (signed_at k) left right (signed_small k) p q in
    let own = filled_cells (signed_at k) left right in
    let c = less_columns 4 0 (cell field own) in
    let valid : sum_from field 0 (one_hot 4 k) ≡ 1 = sum_one 4 k low in
    let ranges : AllByRecursion (λ n. n < 256) (less_ranges field (signed_by field (one_hot 4 k)) c) = rw (signed_is k low) filled.meets.ranges in
    record {
      long = filled.long;
      below = filled.below;
      good = record {
        zero = filled.meets.zero;
        small = ranges_count (sum_from field 0 (one_hot 4 k)) 1 8 (less_ranges field (signed_by field (one_hot 4 k)) c) (omega (arith, valid));
        good = good_ranges (sum_from field 0 (one_hot 4 k)) 8 (less_ranges field (signed_by field (one_hot 4 k)) c) (lit≤ tt) ranges;
      };
    }

order_silent : (o : Operands ℕ) → AllZero o.flags → AllByRecursion (λ e. e.count ≡ 0) (order_condition.parts.lookups o)
order_silent o none = ranges_silent (sum_from field 0 o.flags) 8 (less_ranges field (signed_by field o.flags) (less_columns 4 0 (cell field o.own))) (sum_none o.flags none)

order_zeros : AllZero (order_condition.parts.constraints (no_operands order_condition))
unfolding less_constraints marks_sum equal_above marked_differs differences top_constraint bit zero_test
order_zeros = by_zero_test (order_condition.parts.constraints (no_operands order_condition)) refl

lookups_are : (o : Operands ℕ) → AllByRecursion IsLookup (order_condition.parts.lookups o)
unfolding less_ranges
lookups_are o = (record { low = lit≤ tt; high = lit≤ tt; side = refl }, (record { low = lit≤ tt; high = lit≤ tt; side = refl }, (record { low = lit≤ tt; high = lit≤ tt; side = refl }, tt)))

lookups_few : (o : Operands ℕ) → length (order_condition.parts.lookups o) ≤ 240
unfolding less_ranges
lookups_few o = lit≤ tt

pub order_laws : ConditionLaws order_condition
order_laws = record {
  some = lit≤ tt;
  few_flags = lit≤ tt;
  narrow = lit≤ tt;
  branches = (refl, (refl, (refl, (refl, tt))));
  lookups = lookups_are;
  few_lookups = lookups_few;
  silent = order_silent;
  zeros = order_zeros;
  sound = order_sound;
  complete = order_complete;
}
