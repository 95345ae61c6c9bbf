-- The filled columns of a division meet its constraints and lookups.
use Rattle.std.proofs.Common.{◌≡◌, ◌≢◌, ℕ, ◌+◌, ◌*◌, ◌/◌, ◌%◌, ◌^◌, ◌<◌, ◌≤◌, ◌⊎◌, ◌&&◌, nat_eq, nat_lt, mod-lt, Bool, true, false, List, ◌++◌, slice_index, refl, sym, ap, subst, ◌∙◌, arith, lit≤, inl, inr}
use Rattle.std.proofs.lemmas.Bool.{cases_eq, ne_eqb}
use Rattle.std.proofs.lemmas.Bool.Decides.{nat_tests}
use Rattle.std.specs.Prelude.{if◌then◌else◌}
use Rattle.std.proofs.lemmas.Nat.{div-add-mod'}
use Rattle.std.proofs.Math.Nat.{div-le_self}
use Rattle.std.specs.Int.{from_bool}
use Rattle.std.specs.List.{AllByRecursion}
use Rattle.vm_field.specs.Field.{modulus, field_sub, field_mul}
use Rattle.vm_field.specs.declared.limbs.Limbs.{Limbs}
use Rattle.vm_field.specs.Limbs.{list_of, limbs_from}
use Rattle.vm_field.proofs.Constraints.{boolean_holds, gate_off}
use Rattle.vm_field.proofs.LimbLemmas.{list_of-from}
use Rattle.vm_word.specs.Word.{word_of_limbs, limbs_of}
use Rattle.vm_word.specs.Arithmetic.{is_negative, negated_if}
use Rattle.vm_word.proofs.WordLemmas.{word_of_limbs-limbs_of}
use Rattle.vm_isa.specs.Words.{IsBytes}
use Rattle.air_core.specs.declared.event.Event.{Event}
use Rattle.air_core.specs.First.{bit}
use Rattle.air_core.specs.ListLemmas.{all_append}
use Rattle.air_core.proofs.LookupLemmas.{good_xor}
use Rattle.air_core.specs.Ring.{field}
use Rattle.air_core.specs.Sheet.{AllZero, AllBelow}
use Rattle.gadget_limbs.specs.Less.{less_ranges, less_filled, marks_of}
use Rattle.gadget_limbs.specs.OrderLaws.{LessMeets, digits_of}
use Rattle.gadget_limbs.proofs.LimbsLaws.{word_below, limbs_word, bytes_below}
use Rattle.gadget_limbs.proofs.RangeLaws.{good_ranges, ranges_count}
use Rattle.gadget_limbs.proofs.SignLaws.{sign_full_zero, sign_full_row, from_bool_small, negative_holds}
use Rattle.gadget_limbs.proofs.WordOrder.{word_order, filled_order}
use Rattle.gadget_divide.specs.Divided.{Divided, divided_of, order_of, zero_constraints, not_below, operand_constraints, result_constraints, divided_bytes, divided_lookups, quotient_by, remainder_by, cells_of, order_cells, divided_filled}
use Rattle.gadget_divide.specs.Laws.{word, DividedMeets, FilledDivided}
use Rattle.gadget_divide.proofs.DividedSays.{Zero, Byte, either, either_is, twice}

abbrev Few : Event → Type 0
Few e = e.count ≤ 1

-- ---- the numbers of a division

record Numbers (s : Bool) (b d c q r : ℕ) : Type 0 where
  whole : d * q + r ≡ b
  quotient_below : q < 2 ^ 32
  remainder_below : r < 2 ^ 32
  less : c ≢ 0 → r < d

negated_some : (s : Bool) (c : ℕ) → c < 2 ^ 32 → c ≢ 0 → 0 < negated_if s c
negated_some true c p h = omega arith
negated_some false c p h = omega arith

negated_below : (s : Bool) (c : ℕ) → c < 2 ^ 32 → negated_if s c < 2 ^ 32
negated_below true c p = omega arith
negated_below false c p = p

pick : (c x y : ℕ) → c ≡ 0 → (if nat_eq c 0 then x else y) ≡ x
pick c x y e = rw e refl

pick_other : (c x y : ℕ) → c ≢ 0 → (if nat_eq c 0 then x else y) ≡ y
pick_other c x y h = rw (ne_eqb c 0 h) refl

numbers : (s : Bool) (b d c : ℕ) → d ≡ negated_if s c → c < 2 ^ 32 → b < 2 ^ 32 → Numbers s b d c (quotient_by b d) (remainder_by b d)
unfolding quotient_by remainder_by
numbers s b d c e p o =
    elim (cases_eq d 0) [
      | inl none ↦
          let q = pick d 0 (b / d) none in
          let r = pick d b (b % d) none in
          record { whole = rw (q, r) (omega (arith, none)); quotient_below = omega (arith, q); remainder_below = omega (arith, r, o); less = λ h. absurd (omega (arith, e, none, negated_some s c p h)) }
      | inr some ↦
          let d_some : 0 < d = omega (arith, some) in
          let q = pick_other d 0 (b / d) some in
          let r = pick_other d b (b % d) some in
          let low = mod-lt b d_some in
          let under = div-le_self b d in
          record { whole = rw (q, r) (omega (arith, div-add-mod' b d)); quotient_below = omega (arith, q, under, o); remainder_below = omega (arith, r, low, negated_below s c p, e); less = λ h. omega (arith, r, low) }
    ]

-- ---- limbs of a number

abbrev made : ℕ → Limbs ℕ
made n = limbs_from (limbs_of n)

record IsMade (w : Limbs ℕ) (n : ℕ) : Type 0 where
  bytes : IsBytes (list_of w)
  number : word w ≡ n

of_made : (w : Limbs ℕ) (n : ℕ) → w ≡ made n → n < 2 ^ 32 → IsMade w n
of_made w n e low =
    let are : list_of w ≡ limbs_of n = ap (λ (x : Limbs ℕ). list_of x) e ∙ list_of-from (limbs_of n) refl in
    record { bytes = subst IsBytes (sym are) (limbs_word n).bytes; number = ap word_of_limbs are ∙ word_of_limbs-limbs_of n low }

record Filled (t s z : Bool) (b d q r : ℕ) (c : Divided ℕ) : Type 0 where
  left_sign : c.left_sign ≡ from_bool t
  right_sign : c.right_sign ≡ from_bool s
  by_zero : c.by_zero ≡ from_bool z
  dividend : c.dividend ≡ made b
  divisor : c.divisor ≡ made d
  quotient : c.quotient ≡ made q
  remainder : c.remainder ≡ made r
  signed_quotient : c.signed_quotient ≡ made (negated_if t (negated_if s q))
  signed_remainder : c.signed_remainder ≡ made (negated_if t r)
  less : c.less ≡ order_cells r d

-- ---- each constraint

times_zero : (z x : ℕ) → (z ≡ 0) ⊎ (x ≡ 0) → field_mul z x ≡ 0
times_zero z x (inl e) = gate_off z x e
times_zero z x (inr e) = rw e (omega arith)

no_limbs : (w : Limbs ℕ) → IsBytes (list_of w) → word w ≡ 0 → (w.x0 ≡ 0) × (w.x1 ≡ 0) × (w.x2 ≡ 0) × (w.x3 ≡ 0)
unfolding list_of
no_limbs w p e = (omega arith, omega arith, omega arith, omega arith)

test_none : (n : ℕ) → n ≡ 0 → from_bool (nat_eq n 0) ≡ 1
test_none n e = rw e refl

test_some : (n : ℕ) → n ≢ 0 → from_bool (nat_eq n 0) ≡ 0
test_some n h = rw (ne_eqb n 0 h) refl

bit_zero : (x : ℕ) → x ≤ 1 → bit field x ≡ 0
unfolding bit
bit_zero x h = boolean_holds x h

zero_holds : (z : ℕ) (w : Limbs ℕ) → IsBytes (list_of w) → z ≡ from_bool (nat_eq (word w) 0) → AllZero (zero_constraints field z w)
unfolding zero_constraints
zero_holds z w p e =
    let small : z ≤ 1 = omega (arith, e, from_bool_small (nat_eq (word w) 0)) in
    elim (cases_eq (word w) 0) [
      | inl none ↦ let k = no_limbs w p none in (bit_zero z small, (times_zero z w.x0 (inr k.0), (times_zero z w.x1 (inr k.1), (times_zero z w.x2 (inr k.2), (times_zero z w.x3 (inr k.3), tt)))))
      | inr some ↦ let off : z ≡ 0 = e ∙ test_some (word w) some in (bit_zero z small, (times_zero z w.x0 (inl off), (times_zero z w.x1 (inl off), (times_zero z w.x2 (inl off), (times_zero z w.x3 (inl off), tt)))))
    ]

test_up : (x y : ℕ) → x < y → from_bool (nat_lt x y) ≡ 1
test_up x y h = grind (arith, nat_tests)

last_zero : (z e : ℕ) → (z ≡ 1) ⊎ (e ≡ 1) → not_below field 1 z e ≡ 0
unfolding not_below
last_zero z e (inl one) = let none : field_sub 1 z ≡ 0 = rw one refl in gate_off (field_mul 1 (field_sub 1 z)) (field_sub e 1) (rw none (omega arith))
last_zero z e (inr one) = let none : field_sub e 1 ≡ 0 = rw one refl in rw none (omega arith)

-- what LT has, of the limbs of two numbers
record Ordered (c : Divided ℕ) (r d : ℕ) : Type 0 where
  meets : LessMeets 0 (digits_of c.remainder) (digits_of c.divisor) (order_of field c)
  less : (order_of field c).less ≡ from_bool (nat_lt r d)

ordered : (c : Divided ℕ) (r d : ℕ) → r < 2 ^ 32 → d < 2 ^ 32 → c.remainder ≡ made r → c.divisor ≡ made d → c.less ≡ order_cells r d → Ordered c r d
ordered c r d low under e f g =
    let x = of_made (made r) r refl low in
    let y = of_made (made d) d refl under in
    let filled = filled_order 0 (made r) (made d) (lit≤ tt) x.bytes y.bytes in
    let order = word_order false (made r) (made d) (order_cells r d) x.bytes y.bytes filled.below filled.meets in
    record {
      meets = rw (e, f, g) filled.meets;
      less = ap (λ (xs : List ℕ). slice_index xs 7) g ∙ order ∙ ap (λ (n : ℕ). from_bool (nat_lt n (word (made d)))) x.number ∙ ap (λ (n : ℕ). from_bool (nat_lt r n)) y.number;
    }

-- ---- where the columns are those of the words

holds : (sign : Bool) (gate : ℕ) (c : Divided ℕ) (left right : Limbs ℕ) (b d q r : ℕ) → IsBytes (list_of left) → IsBytes (list_of right) → gate ≡ from_bool sign
    → b ≡ negated_if (sign && is_negative (word left)) (word left) → d ≡ negated_if (sign && is_negative (word right)) (word right)
    → Numbers (sign && is_negative (word right)) b d (word right) q r → Filled (sign && is_negative (word left)) (sign && is_negative (word right)) (nat_eq (word right) 0) b d q r c → DividedMeets gate c left right
unfolding operand_constraints result_constraints divided_lookups divided_bytes
holds sign gate c left right b d q r p o e is_b is_d n f =
    let t = sign && is_negative (word left) in
    let s = sign && is_negative (word right) in
    let b_low : b < 2 ^ 32 = omega (arith, is_b, negated_below t (word left) (word_below left p)) in
    let d_low : d < 2 ^ 32 = omega (arith, is_d, negated_below s (word right) (word_below right o)) in
    let dividend = of_made c.dividend b f.dividend b_low in
    let divisor = of_made c.divisor d f.divisor d_low in
    let quotient = of_made c.quotient q f.quotient n.quotient_below in
    let remainder = of_made c.remainder r f.remainder n.remainder_below in
    let signed_q = of_made c.signed_quotient _ f.signed_quotient (negated_below t (negated_if s q) (negated_below s q n.quotient_below)) in
    let signed_r = of_made c.signed_remainder _ f.signed_remainder (negated_below t r n.remainder_below) in
    let order = ordered c r d n.remainder_below d_low f.remainder f.divisor f.less in
    let last : (c.by_zero ≡ 1) ⊎ ((order_of field c).less ≡ 1) = elim (cases_eq (word right) 0) [
      | inl none ↦ inl (f.by_zero ∙ test_none (word right) none)
      | inr some ↦ inr (order.less ∙ test_up r d (n.less some))
    ] in
    let count : gate ≤ 1 = omega (arith, e, from_bool_small sign) in
    let ranges = less_ranges field 0 (order_of field c) in
    let bytes : AllByRecursion Byte (divided_bytes field c) =
    all_append Byte (list_of c.dividend) _ dividend.bytes
    (all_append Byte (list_of c.divisor) _ divisor.bytes
    (all_append Byte (list_of c.signed_quotient) _ signed_q.bytes
    (all_append Byte (list_of c.signed_remainder) ranges signed_r.bytes order.meets.ranges))) in
    let quotient_is : word c.signed_quotient ≡ negated_if (either t s) (word c.quotient) = signed_q.number ∙ sym (twice t s q n.quotient_below) ∙ ap (negated_if (either t s)) (sym quotient.number) in
    record {
      operands =
          all_append Zero _ _ (sign_full_zero sign c.left_sign gate left e f.left_sign)
          (all_append Zero _ _ (sign_full_zero sign c.right_sign gate right e f.right_sign)
          (all_append Zero _ _ (zero_holds c.by_zero right o f.by_zero)
          (all_append Zero _ _ (negative_holds t c.left_sign left c.dividend f.left_sign p dividend.bytes (dividend.number ∙ is_b))
          (negative_holds s c.right_sign right c.divisor f.right_sign o divisor.bytes (divisor.number ∙ is_d)))));
      results =
          all_append Zero _ _ (negative_holds (either t s) _ c.quotient c.signed_quotient (either_is t s c.left_sign c.right_sign f.left_sign f.right_sign) quotient.bytes signed_q.bytes quotient_is)
          (all_append Zero _ _ (negative_holds t c.left_sign c.remainder c.signed_remainder f.left_sign remainder.bytes signed_r.bytes (signed_r.number ∙ ap (negated_if t) (sym remainder.number)))
          (all_append Zero _ _ order.meets.zero (last_zero c.by_zero (order_of field c).less last, tt)));
      small = (count, (count, ranges_count 1 1 8 (divided_bytes field c) (lit≤ tt)));
      good = (λ m. good_xor _ refl (sign_full_row sign c.left_sign gate left e p f.left_sign m), (λ m. good_xor _ refl (sign_full_row sign c.right_sign gate right e o f.right_sign m), good_ranges 1 8 (divided_bytes field c) (lit≤ tt) bytes));
      bytes = record { dividend = dividend.bytes; divisor = divisor.bytes; signed_quotient = signed_q.bytes; signed_remainder = signed_r.bytes };
      parts = record { quotient = quotient.bytes; remainder = remainder.bytes };
      whole = rw (dividend.number, divisor.number, quotient.number, remainder.number) n.whole;
    }

in_place : (t s z : Bool) (b d q r : ℕ) → Filled t s z b d q r (divided_of field (cells_of t s z b d q r (negated_if t (negated_if s q)) (negated_if t r) ++ order_cells r d))
unfolding divided_of limbs_from less_filled marks_of
in_place t s z b d q r =
    record { left_sign = refl; right_sign = refl; by_zero = refl; dividend = refl; divisor = refl; quotient = refl; remainder = refl; signed_quotient = refl; signed_remainder = refl; less = refl }

-- ---- the columns are elements

abbrev Low : ℕ → Type 0
Low x = x < modulus

with_limbs : (n : ℕ) (xs : List ℕ) → AllBelow xs → AllBelow (limbs_of n ++ xs)
with_limbs n xs h = all_append Low (limbs_of n) xs (bytes_below (limbs_of n) (limbs_word n).bytes) h

order_low : (r d : ℕ) → r < 2 ^ 32 → d < 2 ^ 32 → AllBelow (order_cells r d)
order_low r d low under = (filled_order 0 (made r) (made d) (lit≤ tt) (of_made (made r) r refl low).bytes (of_made (made d) d refl under).bytes).below

cells_low : (t s z : Bool) (b d q r u v : ℕ) (xs : List ℕ) → AllBelow xs → AllBelow (cells_of t s z b d q r u v ++ xs)
cells_low t s z b d q r u v xs h =
    let xu : List ℕ = limbs_of u ++ limbs_of v in
    let xr : List ℕ = limbs_of r ++ xu in
    let xq : List ℕ = limbs_of q ++ xr in
    let xd : List ℕ = limbs_of d ++ xq in
    let low : AllBelow (limbs_of b ++ xd) = with_limbs b xd (with_limbs d xq (with_limbs q xr (with_limbs r xu (with_limbs u (limbs_of v) (bytes_below (limbs_of v) (limbs_word v).bytes))))) in
    (omega (arith, from_bool_small t), (omega (arith, from_bool_small s), (omega (arith, from_bool_small z), all_append Low (limbs_of b ++ xd) xs low h)))

pub filled_divided_holds : (sign : Bool) (left right : Limbs ℕ) → IsBytes (list_of left) → IsBytes (list_of right) → FilledDivided sign left right
unfolding divided_filled less_filled marks_of limbs_from
filled_divided_holds sign left right p o =
    let t = sign && is_negative (word left) in
    let s = sign && is_negative (word right) in
    let b : ℕ = negated_if t (word left) in
    let d : ℕ = negated_if s (word right) in
    let b_low = negated_below t (word left) (word_below left p) in
    let d_low = negated_below s (word right) (word_below right o) in
    let n = numbers s b d (word right) refl (word_below right o) b_low in
    record {
      long = refl;
      below = cells_low t s (nat_eq (word right) 0) b d (quotient_by b d) (remainder_by b d) _ _ (order_cells (remainder_by b d) d) (order_low (remainder_by b d) d n.remainder_below d_low);
      meets = λ gate e. holds sign gate _ left right b d (quotient_by b d) (remainder_by b d) p o e refl refl n (in_place t s (nat_eq (word right) 0) b d (quotient_by b d) (remainder_by b d));
    }
