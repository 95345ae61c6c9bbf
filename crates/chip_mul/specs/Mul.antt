-- MUL, MULH, MULHSU and MULHU, as a core of the register form without immediates: its own columns are the low
-- and the high word of the product, and the signs of the two words. With the form a row has 40 columns.
use Rattle.std.specs.Prelude.{ℕ, ◌*◌, ◌/◌, ◌%◌, ◌^◌, ◌||◌, ◌&&◌, Bool, false, nat_eq, List, [], ◌∷◌, ◌++◌}
use Rattle.std.specs.Int.{from_bool}
use Rattle.vm_field.specs.declared.limbs.Limbs.{Limbs}
use Rattle.vm_field.specs.Limbs.{list_of, limbs_by}
use Rattle.vm_word.specs.Word.{limbs_of}
use Rattle.vm_word.specs.Arithmetic.{is_negative}
use Rattle.vm_isa.specs.Opcodes.{MUL, MULH, MULHSU, MULHU}
use Rattle.air_core.specs.declared.bus.TheConstants.{XOR}
use Rattle.air_core.specs.declared.event.Side.TheVariants.{Send}
use Rattle.air_core.specs.Flags.{sum_from, opcode_place}
use Rattle.air_core.specs.Ring.{Ring, field, cell}
use Rattle.gadget_limbs.specs.Lookup.{choose}
use Rattle.gadget_limbs.specs.Ranges.{range_lines}
use Rattle.gadget_limbs.specs.Sign.{sign_constraints, sign_looked_up}
use Rattle.gadget_products.specs.Carry.{carry_lines}
use Rattle.gadget_products.specs.Multiply.{product_carries}
use Rattle.gadget_products.specs.Laws.{extended_word, word_in}
use Rattle.adapter_regs.specs.Core.{Core, CoreParts}

abbrev pub mul_opcodes : List ℕ
mul_opcodes = MUL ∷ MULH ∷ MULHSU ∷ MULHU ∷ []

-- its own columns
pub record Products (A : Type 0) : Type 0 where
  pub low : Limbs A
  pub high : Limbs A
  pub left_sign : A
  pub right_sign : A

unfoldable pub products_of : {A E : Type 0} → Ring A E → List A → Products A
products_of o own = record { low = limbs_by (cell o own) 0; high = limbs_by (cell o own) 4; left_sign = cell o own 8; right_sign = cell o own 9 }

-- MULH + MULHSU, which take the first word as signed, and MULH, which takes the second so too
unfoldable pub left_signed : {A E : Type 0} → Ring A E → List A → A
left_signed o flags = o.plus (cell o flags 1) (cell o flags 2)

abbrev pub right_signed : {A E : Type 0} → Ring A E → List A → A
right_signed o flags = cell o flags 1

-- the low word for MUL, else the high one
unfoldable pub chosen : {A E : Type 0} → Ring A E → A → A → Products A → Limbs A
chosen o valid mul c = record {
  x0 = choose o valid mul c.low.x0 c.high.x0;
  x1 = choose o valid mul c.low.x1 c.high.x1;
  x2 = choose o valid mul c.low.x2 c.high.x2;
  x3 = choose o valid mul c.low.x3 c.high.x3;
}

-- the signs of both words, each asked for where its gate is 1
abbrev pub mul_constraints : {A E : Type 0} → Ring A E → A → A → Products A → List A
mul_constraints o first second c = sign_constraints o c.left_sign first ++ sign_constraints o c.right_sign second

-- the signs, the carries of the product, and its limbs
unfoldable pub mul_lookups : {A E : Type 0} → Ring A E → A → A → A → Products A → Limbs A → Limbs A → List E
mul_lookups o valid first second c left right =
    (o.event XOR Send first (sign_looked_up o c.left_sign left.x3) ∷ [])
    ++ ((o.event XOR Send second (sign_looked_up o c.right_sign right.x3) ∷ [])
    ++ (carry_lines o valid (product_carries o c.left_sign c.right_sign left right c.low c.high)
    ++ range_lines o valid (o.number 8) (list_of c.low ++ list_of c.high)))

abbrev pub mul_parts : {A E : Type 0} → Ring A E → CoreParts A E
mul_parts o = record {
  new = λ x. chosen o (sum_from o (o.number 0) x.flags) (cell o x.flags 0) (products_of o x.own);
  constraints = λ x. mul_constraints o (left_signed o x.flags) (right_signed o x.flags) (products_of o x.own);
  lookups = λ x. mul_lookups o (sum_from o (o.number 0) x.flags) (left_signed o x.flags) (right_signed o x.flags) (products_of o x.own) x.left x.right;
}

-- whether the opcode of the flag at a place takes a word as signed
abbrev pub left_is_signed : ℕ → Bool
left_is_signed place = nat_eq place 1 || nat_eq place 2

abbrev pub right_is_signed : ℕ → Bool
right_is_signed place = nat_eq place 1

-- the columns of the opcode at a place and two words: the product of both, extended by their signs
unfoldable pub mul_filled : ℕ → ℕ → ℕ → List ℕ
mul_filled place left right =
    let left_sign = from_bool (left_is_signed place && is_negative left) in
    let right_sign = from_bool (right_is_signed place && is_negative right) in
    let product = extended_word left_sign left * extended_word right_sign right % 2 ^ 64 in
    limbs_of (product % 2 ^ 32) ++ (limbs_of (product / 2 ^ 32) ++ (left_sign ∷ right_sign ∷ []))

abbrev pub mul_core : Core
mul_core = record {
  immediates = false;
  opcodes = mul_opcodes;
  own = 10;
  parts = mul_parts field;
  place = λ op left right. opcode_place mul_opcodes op;
  filled = λ place left right new. mul_filled place (word_in left) (word_in right);
}
