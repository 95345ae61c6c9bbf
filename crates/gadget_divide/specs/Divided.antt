-- What a division of two words, signed or not, has beside the product of its divisor and its quotient: the words' signs
-- and distances from 0, whether the divisor is 0, the quotient and the remainder of the distances, the same with their
-- signs, and that the remainder is below the divisor.
use Rattle.std.specs.Prelude.{ℕ, ◌/◌, ◌%◌, ◌&&◌, Bool, nat_eq, if◌then◌else◌, List, [], ◌∷◌, ◌++◌}
use Rattle.std.specs.Int.{from_bool}
use Rattle.vm_field.specs.declared.limbs.Limbs.{Limbs}
use Rattle.vm_field.specs.Limbs.{list_of, limbs_by, limbs_from}
use Rattle.vm_word.specs.Word.{limbs_of}
use Rattle.vm_word.specs.Arithmetic.{is_negative, negated_if}
use Rattle.air_core.specs.declared.bus.TheConstants.{XOR}
use Rattle.air_core.specs.declared.event.Side.TheVariants.{Send}
use Rattle.air_core.specs.First.{bit}
use Rattle.air_core.specs.Ring.{Ring, cell, cells}
use Rattle.gadget_limbs.specs.Less.{LessColumns, less_cells, less_columns, less_constraints, less_filled, less_ranges}
use Rattle.gadget_limbs.specs.OrderLaws.{digits_of}
use Rattle.gadget_limbs.specs.Ranges.{range_lines}
use Rattle.gadget_limbs.specs.Sign.{sign_constraints, sign_looked_up, negative_constraints}

pub record Divided (A : Type 0) : Type 0 where
  pub left_sign : A
  pub right_sign : A
  pub by_zero : A
  -- the distances of the words from 0, where they are signed
  pub dividend : Limbs A
  pub divisor : Limbs A
  pub quotient : Limbs A
  pub remainder : Limbs A
  pub signed_quotient : Limbs A
  pub signed_remainder : Limbs A
  -- the columns of LT, of the remainder and the divisor
  pub less : List A

-- the first 35 columns
unfoldable pub divided_of : {A E : Type 0} → Ring A E → List A → Divided A
divided_of o own = record {
  left_sign = cell o own 0;
  right_sign = cell o own 1;
  by_zero = cell o own 2;
  dividend = limbs_by (cell o own) 3;
  divisor = limbs_by (cell o own) 7;
  quotient = limbs_by (cell o own) 11;
  remainder = limbs_by (cell o own) 15;
  signed_quotient = limbs_by (cell o own) 19;
  signed_remainder = limbs_by (cell o own) 23;
  less = cells (cell o own) 27 8;
}

abbrev pub order_of : {A E : Type 0} → Ring A E → Divided A → LessColumns A
order_of o c = less_columns 4 0 (cell o c.less)

-- g + h - 2 * g * h
unfoldable pub signs_differ : {A E : Type 0} → Ring A E → A → A → A
signs_differ o g h = o.minus (o.plus g h) (o.times (o.times (o.number 2) g) h)

-- z * (z - 1), and z * x for each limb of the divisor
unfoldable pub zero_constraints : {A E : Type 0} → Ring A E → A → Limbs A → List A
zero_constraints o z w = bit o z ∷ o.times z w.x0 ∷ o.times z w.x1 ∷ o.times z w.x2 ∷ o.times z w.x3 ∷ []

-- valid * (1 - z) * (less - 1): the remainder is below a divisor that isn't 0
unfoldable pub not_below : {A E : Type 0} → Ring A E → A → A → A → A
not_below o valid z less = o.times (o.times valid (o.minus (o.number 1) z)) (o.minus less (o.number 1))

-- under the gate both words are signed: their signs, whether the divisor is 0, and the distances from 0
unfoldable pub operand_constraints : {A E : Type 0} → Ring A E → A → Divided A → Limbs A → Limbs A → List A
operand_constraints o gate c left right =
    sign_constraints o c.left_sign gate
    ++ (sign_constraints o c.right_sign gate
    ++ (zero_constraints o c.by_zero right
    ++ (negative_constraints o c.left_sign (list_of left) (list_of c.dividend)
    ++ negative_constraints o c.right_sign (list_of right) (list_of c.divisor))))

-- quotient and remainder with their signs, and the remainder is below the divisor
unfoldable pub result_constraints : {A E : Type 0} → Ring A E → A → Divided A → List A
result_constraints o valid c =
    negative_constraints o (signs_differ o c.left_sign c.right_sign) (list_of c.quotient) (list_of c.signed_quotient)
    ++ (negative_constraints o c.left_sign (list_of c.remainder) (list_of c.signed_remainder)
    ++ (less_constraints o (digits_of c.remainder) (digits_of c.divisor) (order_of o c)
    ++ (not_below o valid c.by_zero (order_of o c).less ∷ [])))

-- what has 8 bits: the distances, the results with their signs, and what LT looks up
unfoldable pub divided_bytes : {A E : Type 0} → Ring A E → Divided A → List A
divided_bytes o c = list_of c.dividend ++ (list_of c.divisor ++ (list_of c.signed_quotient ++ (list_of c.signed_remainder ++ less_ranges o (o.number 0) (order_of o c))))

unfoldable pub divided_lookups : {A E : Type 0} → Ring A E → A → A → Divided A → Limbs A → Limbs A → List E
divided_lookups o valid gate c left right =
    (o.event XOR Send gate (sign_looked_up o c.left_sign left.x3) ∷ o.event XOR Send gate (sign_looked_up o c.right_sign right.x3) ∷ [])
    ++ range_lines o valid (o.number 8) (divided_bytes o c)

-- ---- what is filled

-- the quotient and the remainder of two numbers, where that by 0 is 0 and leaves the dividend
unfoldable pub quotient_by : ℕ → ℕ → ℕ
quotient_by b d = if nat_eq d 0 then 0 else b / d

unfoldable pub remainder_by : ℕ → ℕ → ℕ
remainder_by b d = if nat_eq d 0 then b else b % d

-- the columns of these signs and numbers
abbrev pub cells_of : Bool → Bool → Bool → ℕ → ℕ → ℕ → ℕ → ℕ → ℕ → List ℕ
cells_of t s z b d q r u v =
    from_bool t ∷ from_bool s ∷ from_bool z ∷ (limbs_of b ++ (limbs_of d ++ (limbs_of q ++ (limbs_of r ++ (limbs_of u ++ limbs_of v)))))

-- the word of these limbs is below that of those, by LT
abbrev pub order_cells : ℕ → ℕ → List ℕ
order_cells r d = less_cells (less_filled 0 (digits_of (limbs_from (limbs_of r))) (digits_of (limbs_from (limbs_of d))))

-- the columns of two words, signed or not: a quotient is negated for each sign
unfoldable pub divided_filled : Bool → ℕ → ℕ → List ℕ
divided_filled signed left right =
    let t = signed && is_negative left in
    let s = signed && is_negative right in
    let b = negated_if t left in
    let d = negated_if s right in
    let q = quotient_by b d in
    let r = remainder_by b d in
    cells_of t s (nat_eq right 0) b d q r (negated_if t (negated_if s q)) (negated_if t r) ++ order_cells r d
