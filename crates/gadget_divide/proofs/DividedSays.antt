-- What the columns of a division say.
use Rattle.std.proofs.Common.{◌≡◌, ◌≢◌, ℕ, ◌^◌, ◌<◌, ◌≤◌, ◌&&◌, not, nat_lt, Bool, true, false, List, refl, sym, ◌∙◌, arith, inl, inr}
use Rattle.std.specs.Prelude.{if◌then◌else◌}
use Rattle.std.proofs.lemmas.Bool.{cases_eq}
use Rattle.std.proofs.lemmas.Bool.Decides.{nat_tests}
use Rattle.std.specs.Int.{from_bool}
use Rattle.std.specs.List.{AllByRecursion}
use Rattle.vm_field.specs.Field.{modulus, field_sub, field_mul}
use Rattle.vm_field.specs.declared.limbs.Limbs.{Limbs}
use Rattle.vm_field.specs.Limbs.{list_of}
use Rattle.vm_field.proofs.Constraints.{boolean_at_most, gated}
use Rattle.vm_word.specs.Arithmetic.{is_negative, negated_if}
use Rattle.vm_isa.specs.Words.{IsBytes}
use Rattle.air_core.specs.declared.event.Event.{Event}
use Rattle.air_core.specs.First.{bit}
use Rattle.air_core.specs.ListLemmas.{all_left, all_right, below_at}
use Rattle.air_core.specs.Lookups.{GoodEvent}
use Rattle.air_core.specs.Ring.{field}
use Rattle.air_core.specs.Sheet.{AllZero, AllBelow}
use Rattle.air_core.specs.lemmas.Cells.{cells_below}
use Rattle.gadget_limbs.specs.Less.{less_constraints, less_ranges}
use Rattle.gadget_limbs.specs.OrderLaws.{digits_of}
use Rattle.gadget_limbs.specs.Sign.{sign_constraints, negative_constraints}
use Rattle.gadget_limbs.proofs.LimbsLaws.{word_below}
use Rattle.gadget_limbs.proofs.RangeLaws.{ranges_good}
use Rattle.gadget_limbs.proofs.SignLaws.{sign_full, from_bool_small, negative_law}
use Rattle.gadget_limbs.proofs.WordOrder.{word_order}
use Rattle.gadget_divide.specs.Divided.{Divided, divided_of, order_of, signs_differ, zero_constraints, not_below, operand_constraints, result_constraints, divided_bytes, divided_lookups}
use Rattle.gadget_divide.specs.Laws.{word, AreGood, BytesOfParts, BytesOfDivided, IsDivided}

abbrev pub MaySend : Event → Type 0
MaySend e = e.count ≢ 0 → GoodEvent e

abbrev pub Zero : ℕ → Type 0
Zero x = x ≡ 0

abbrev pub Byte : ℕ → Type 0
Byte x = x < 256

-- ---- the parts of constraints and lookups

record Operands (gate : ℕ) (c : Divided ℕ) (left right : Limbs ℕ) : Type 0 where
  left_sign : AllZero (sign_constraints field c.left_sign gate)
  right_sign : AllZero (sign_constraints field c.right_sign gate)
  by_zero : AllZero (zero_constraints field c.by_zero right)
  dividend : AllZero (negative_constraints field c.left_sign (list_of left) (list_of c.dividend))
  divisor : AllZero (negative_constraints field c.right_sign (list_of right) (list_of c.divisor))

operands : (gate : ℕ) (c : Divided ℕ) (left right : Limbs ℕ) → AllZero (operand_constraints field gate c left right) → Operands gate c left right
unfolding operand_constraints
operands gate c left right h =
    let h1 = all_right Zero (sign_constraints field c.left_sign gate) _ h in
    let h2 = all_right Zero (sign_constraints field c.right_sign gate) _ h1 in
    let h3 = all_right Zero (zero_constraints field c.by_zero right) _ h2 in
    let dividend = negative_constraints field c.left_sign (list_of left) (list_of c.dividend) in
    record {
      left_sign = all_left Zero (sign_constraints field c.left_sign gate) _ h;
      right_sign = all_left Zero (sign_constraints field c.right_sign gate) _ h1;
      by_zero = all_left Zero (zero_constraints field c.by_zero right) _ h2;
      dividend = all_left Zero dividend _ h3;
      divisor = all_right Zero dividend _ h3;
    }

record Results (valid : ℕ) (c : Divided ℕ) : Type 0 where
  quotient : AllZero (negative_constraints field (signs_differ field c.left_sign c.right_sign) (list_of c.quotient) (list_of c.signed_quotient))
  remainder : AllZero (negative_constraints field c.left_sign (list_of c.remainder) (list_of c.signed_remainder))
  less : AllZero (less_constraints field (digits_of c.remainder) (digits_of c.divisor) (order_of field c))
  below : not_below field valid c.by_zero (order_of field c).less ≡ 0

results : (valid : ℕ) (c : Divided ℕ) → AllZero (result_constraints field valid c) → Results valid c
unfolding result_constraints
results valid c h =
    let quotient = negative_constraints field (signs_differ field c.left_sign c.right_sign) (list_of c.quotient) (list_of c.signed_quotient) in
    let remainder = negative_constraints field c.left_sign (list_of c.remainder) (list_of c.signed_remainder) in
    let less = less_constraints field (digits_of c.remainder) (digits_of c.divisor) (order_of field c) in
    let h1 = all_right Zero quotient _ h in
    let h2 = all_right Zero remainder _ h1 in
    record { quotient = all_left Zero quotient _ h; remainder = all_left Zero remainder _ h1; less = all_left Zero less _ h2; below = (all_right Zero less _ h2).0 }

record Looked (c : Divided ℕ) : Type 0 where
  bytes : BytesOfDivided c
  less : AllByRecursion Byte (less_ranges field 0 (order_of field c))

looked : (gate : ℕ) (c : Divided ℕ) (left right : Limbs ℕ) → AreGood (divided_lookups field 1 gate c left right) → Looked c
unfolding divided_lookups divided_bytes
looked gate c left right h =
    let b : AllByRecursion Byte (divided_bytes field c) = ranges_good 1 8 (divided_bytes field c) (λ none. absurd (omega arith)) h.1.1 in
    let b1 = all_right Byte (list_of c.dividend) _ b in
    let b2 = all_right Byte (list_of c.divisor) _ b1 in
    let b3 = all_right Byte (list_of c.signed_quotient) _ b2 in
    record {
      bytes = record {
        dividend = all_left Byte (list_of c.dividend) _ b;
        divisor = all_left Byte (list_of c.divisor) _ b1;
        signed_quotient = all_left Byte (list_of c.signed_quotient) _ b2;
        signed_remainder = all_left Byte (list_of c.signed_remainder) _ b3;
      };
      less = all_right Byte (list_of c.signed_remainder) _ b3;
    }

-- ---- what they say

-- exactly one of the two
abbrev pub either : Bool → Bool → Bool
either t s = if t then not s else s

pub either_is : (t s : Bool) (g h : ℕ) → g ≡ from_bool t → h ≡ from_bool s → signs_differ field g h ≡ from_bool (either t s)
unfolding signs_differ
either_is true true g h e f = rw (e, f) refl
either_is true false g h e f = rw (e, f) refl
either_is false true g h e f = rw (e, f) refl
either_is false false g h e f = rw (e, f) refl

pub twice : (t s : Bool) (x : ℕ) → x < 2 ^ 32 → negated_if (either t s) x ≡ negated_if t (negated_if s x)
twice true true x p = omega arith
twice true false x p = refl
twice false true x p = refl
twice false false x p = refl

bit_is : (z : ℕ) (w : Limbs ℕ) → z < modulus → AllZero (zero_constraints field z w) → z ≤ 1
unfolding zero_constraints bit
bit_is z w low h = boolean_at_most z low h.0

no_limbs_left : (z : ℕ) (w : Limbs ℕ) → z ≡ 1 → IsBytes (list_of w) → AllZero (zero_constraints field z w) → word w ≡ 0
unfolding list_of zero_constraints
no_limbs_left z w one p h = omega (arith, gated z w.x0 one (omega (arith, p.0)) h.1.0, gated z w.x1 one (omega (arith, p.1.0)) h.1.1.0, gated z w.x2 one (omega (arith, p.1.1.0)) h.1.1.1.0, gated z w.x3 one (omega (arith, p.1.1.1.0)) h.1.1.1.1.0)

is_less : (z e : ℕ) → z ≡ 0 → e ≤ 1 → not_below field 1 z e ≡ 0 → e ≡ 1
unfolding not_below
is_less z e none small h = let at : field_mul (field_mul 1 (field_sub 1 0)) (field_sub e 1) ≡ 0 = rw none at h in omega arith

up_is : (x y : ℕ) → from_bool (nat_lt x y) ≡ 1 → x < y
up_is x y h = grind (arith, nat_tests, h)

negated_none : (s : Bool) (x : ℕ) → x ≡ 0 → negated_if s x ≡ 0
negated_none true x e = omega arith
negated_none false x e = e

-- columns that are elements
record Elements (c : Divided ℕ) : Type 0 where
  left_sign : c.left_sign < modulus
  right_sign : c.right_sign < modulus
  by_zero : c.by_zero < modulus
  less : AllBelow c.less

elements : (own : List ℕ) → AllBelow own → Elements (divided_of field own)
unfolding divided_of
elements own low = record { left_sign = below_at own 0 low; right_sign = below_at own 1 low; by_zero = below_at own 2 low; less = cells_below own low 27 8 }

says : (sign : Bool) (gate : ℕ) (c : Divided ℕ) (left right : Limbs ℕ) → Elements c → IsBytes (list_of left) → IsBytes (list_of right) → BytesOfParts c → gate ≡ from_bool sign
    → AllZero (operand_constraints field gate c left right) → AllZero (result_constraints field 1 c) → AreGood (divided_lookups field 1 gate c left right)
    → IsDivided (sign && is_negative (word left)) (sign && is_negative (word right)) c (word left) (word right)
unfolding divided_lookups
says sign gate c left right low p q parts e words_hold results_hold good =
    let t = sign && is_negative (word left) in
    let s = sign && is_negative (word right) in
    let k = operands gate c left right words_hold in
    let r = results 1 c results_hold in
    let l = looked gate c left right good in
    let g : c.left_sign ≡ from_bool t = sign_full sign c.left_sign gate left e low.left_sign p k.left_sign (λ n. (good.0 n).xor refl) in
    let h : c.right_sign ≡ from_bool s = sign_full sign c.right_sign gate right e low.right_sign q k.right_sign (λ n. (good.1.0 n).xor refl) in
    let divisor = negative_law s c.right_sign right c.divisor h q l.bytes.divisor k.divisor in
    let z : c.by_zero ≤ 1 = bit_is c.by_zero right low.by_zero k.by_zero in
    let less : (order_of field c).less ≡ from_bool (nat_lt (word c.remainder) (word c.divisor)) = word_order false c.remainder c.divisor c.less parts.remainder l.bytes.divisor low.less (record { zero = r.less; ranges = l.less }) in
    let some : word right ≢ 0 → c.by_zero ≡ 0 = λ n.
    elim (cases_eq c.by_zero 1) [
      | inl one ↦ absurd (n (no_limbs_left c.by_zero right one q k.by_zero))
      | inr other ↦ omega arith
    ] in
    let small : (order_of field c).less ≤ 1 = omega (arith, less, from_bool_small (nat_lt (word c.remainder) (word c.divisor))) in
    let below : c.by_zero ≡ 0 → word c.remainder < word c.divisor = λ n. up_is (word c.remainder) (word c.divisor) (sym less ∙ is_less c.by_zero (order_of field c).less n small r.below) in
    record {
      bytes = l.bytes;
      dividend = negative_law t c.left_sign left c.dividend g p l.bytes.dividend k.dividend;
      divisor = divisor;
      quotient = negative_law (either t s) (signs_differ field c.left_sign c.right_sign) c.quotient c.signed_quotient (either_is t s c.left_sign c.right_sign g h) parts.quotient l.bytes.signed_quotient r.quotient
          ∙ twice t s (word c.quotient) (word_below c.quotient parts.quotient);
      remainder = negative_law t c.left_sign c.remainder c.signed_remainder g parts.remainder l.bytes.signed_remainder r.remainder;
      by_zero = λ n.
          elim (cases_eq c.by_zero 1) [
            | inl one ↦ one
            | inr other ↦ let no = below (omega arith) in let none : word c.divisor ≡ 0 = divisor ∙ negated_none s (word right) n in absurd (omega arith)
          ];
      by_some = some;
      less = λ n. below (some n);
    }

pub divided_is_meant : (sign : Bool) (gate : ℕ) (own : List ℕ) (left right : Limbs ℕ) → (let c = divided_of field own in
    AllBelow own → IsBytes (list_of left) → IsBytes (list_of right) → BytesOfParts c → gate ≡ from_bool sign → AllZero (operand_constraints field gate c left right) → AllZero (result_constraints field 1 c)
    → AreGood (divided_lookups field 1 gate c left right) → IsDivided (sign && is_negative (word left)) (sign && is_negative (word right)) c (word left) (word right))
divided_is_meant sign gate own left right low = says sign gate (divided_of field own) left right (elements own low)
