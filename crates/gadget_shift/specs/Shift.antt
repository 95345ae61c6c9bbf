-- A word shifted by 8 * l + s places, limb by limb. One of eight flags tells s and one of four tells l; the bits
-- that cross from limb to limb have columns.
use Rattle.std.specs.Prelude.{ℕ, ◌+◌, ◌-◌, ◌*◌, ◌/◌, ◌%◌, ◌^◌, Bool, if◌then◌else◌, List, [], ◌∷◌, ◌++◌, map, flat_map}
use Rattle.std.specs.List.{range_with_len}
use Rattle.vm_field.specs.declared.limbs.Limbs.{Limbs}
use Rattle.vm_field.specs.Limbs.{list_of, limbs_by}
use Rattle.air_core.specs.First.{bit}
use Rattle.air_core.specs.Flags.{sum_from, weighted_from, one_hot}
use Rattle.air_core.specs.Ring.{Ring, cell, cells}
use Rattle.gadget_limbs.specs.Ranges.{range_lines}

pub record ShiftColumns (A : Type 0) : Type 0 where
  pub bits : List A
  pub limbs : Limbs A
  pub carries : Limbs A

-- the first sixteen columns
unfoldable pub shift_columns : {A E : Type 0} → Ring A E → List A → ShiftColumns A
shift_columns o own = record {
  bits = cells (cell o own) 0 8;
  limbs = limbs_by (cell o own) 8;
  carries = limbs_by (cell o own) 12;
}

-- s, l and T = 2 ^ s
abbrev pub bits_by : {A E : Type 0} → Ring A E → List A → A
bits_by o q = weighted_from o (o.number 0) q (range_with_len 0 8)

abbrev pub limbs_by_flags : {A E : Type 0} → Ring A E → Limbs A → A
limbs_by_flags o l = weighted_from o (o.number 0) (list_of l) (range_with_len 0 4)

abbrev pub power_by : {A E : Type 0} → Ring A E → List A → A
power_by o q = weighted_from o (o.number 0) q (map (λ j. 2 ^ j) (range_with_len 0 8))

-- ---- the amount

-- on a valid row one flag of each kind is set
unfoldable pub amount_constraints : {A E : Type 0} → Ring A E → A → ShiftColumns A → List A
amount_constraints o valid s =
    map (bit o) s.bits ++ (o.minus (sum_from o (o.number 0) s.bits) valid
    ∷ (map (bit o) (list_of s.limbs) ++ (o.minus (sum_from o (o.number 0) (list_of s.limbs)) valid ∷ [])))

-- ((c - 8 * l) - s) / 32, where 1950351361 is the inverse of 32
unfoldable pub amount_part : {A E : Type 0} → Ring A E → A → A → A → A
amount_part o c limbs bits = o.times (o.minus (o.minus c (o.times (o.number 8) limbs)) bits) (o.number 1950351361)

-- what is left of the limb c of the amount has 3 bits, the carries have s, and the limbs of the new word are bytes
unfoldable pub shift_lookups : {A E : Type 0} → Ring A E → A → A → ShiftColumns A → Limbs A → List E
shift_lookups o valid c s new =
    range_lines o valid (o.number 3) (amount_part o c (limbs_by_flags o s.limbs) (bits_by o s.bits) ∷ [])
    ++ (range_lines o valid (bits_by o s.bits) (list_of s.carries)
    ++ range_lines o valid (o.number 8) (list_of new))

-- ---- one limb, where c i comes into limb i and c (i + 1) goes out of it

-- a - (b * T - 256 * next + c)
unfoldable pub left_limb : {A E : Type 0} → Ring A E → A → A → A → A → A → A
left_limb o t a b c next = o.minus a (o.plus (o.minus (o.times b t) (o.times (o.number 256) next)) c)

-- T * a - b + c - 256 * next
unfoldable pub right_limb : {A E : Type 0} → Ring A E → A → A → A → A → A → A
right_limb o t a b c next = o.minus (o.plus (o.minus (o.times t a) b) c) (o.times (o.number 256) next)

-- under l limbs: those below l are 0, and limb l + i is that of limb i
abbrev pub left_block : {A E : Type 0} → Ring A E → A → (ℕ → A) → (ℕ → A) → (ℕ → A) → ℕ → List A
left_block o t a b c l =
    map (λ j. o.minus (a j) (o.number 0)) (range_with_len 0 l)
    ++ map (λ i. left_limb o t (a (l + i)) (b i) (c i) (c (i + 1))) (range_with_len 0 (4 - l))

-- limb i is that of limb l + i, and those above have all bits g
abbrev pub right_block : {A E : Type 0} → Ring A E → A → A → (ℕ → A) → (ℕ → A) → (ℕ → A) → ℕ → List A
right_block o t g a b c l =
    map (λ i. right_limb o t (a i) (b (l + i)) (c (l + i)) (c (l + i + 1))) (range_with_len 0 (4 - l))
    ++ map (λ j. o.minus (a j) (o.times (o.number 255) g)) (range_with_len (4 - l) l)

-- for each l, under the gate times its flag
unfoldable pub selected : {A E : Type 0} → Ring A E → A → List A → (ℕ → List A) → List A
selected o gate limbs block = flat_map (λ l. map (o.times (o.times gate (cell o limbs l))) (block l)) (range_with_len 0 4)

-- the carries: 0 below them to the left, g * (T - 1) above them to the right
abbrev pub left_carries : {A E : Type 0} → Ring A E → Limbs A → ℕ → A
left_carries o k = cell o (o.number 0 ∷ list_of k)

abbrev pub right_carries : {A E : Type 0} → Ring A E → Limbs A → A → A → ℕ → A
right_carries o k t g = cell o (list_of k ++ o.times g (o.minus t (o.number 1)) ∷ [])

abbrev pub limb_at : {A E : Type 0} → Ring A E → Limbs A → ℕ → A
limb_at o w = cell o (list_of w)

-- under the gate a is the word b shifted to the left
unfoldable pub left_constraints : {A E : Type 0} → Ring A E → A → ShiftColumns A → Limbs A → Limbs A → List A
left_constraints o gate s b a = selected o gate (list_of s.limbs) (left_block o (power_by o s.bits) (limb_at o a) (limb_at o b) (left_carries o s.carries))

-- and to the right, where bits g come in
unfoldable pub right_constraints : {A E : Type 0} → Ring A E → A → A → ShiftColumns A → Limbs A → Limbs A → List A
right_constraints o gate g s b a =
    selected o gate (list_of s.limbs) (right_block o (power_by o s.bits) g (limb_at o a) (limb_at o b) (right_carries o s.carries (power_by o s.bits) g))

-- ---- what is filled

-- what is shifted out of a limb, to the left or to the right
abbrev pub carry_fill : Bool → ℕ → ℕ → ℕ
carry_fill left t b = if left then b * t / 256 else b % t

-- the columns of a shift of a word, by the lowest limb of the amount
unfoldable pub shift_filled : Bool → ℕ → Limbs ℕ → List ℕ
shift_filled left c b =
    let t : ℕ = 2 ^ (c % 8) in
    one_hot 8 (c % 8) ++ (one_hot 4 (c % 32 / 8) ++ (carry_fill left t b.x0 ∷ carry_fill left t b.x1 ∷ carry_fill left t b.x2 ∷ carry_fill left t b.x3 ∷ []))
