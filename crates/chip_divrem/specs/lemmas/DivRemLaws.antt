-- The laws of the core of DIV, DIVU, REM and REMU.
use Rattle.std.proofs.Common.{◌≡◌, ◌≢◌, ℕ, zero, suc, ◌^◌, ◌<◌, ◌≤◌, ◌&&◌, nat_eq, Bool, true, false, List, [], ◌∷◌, ◌++◌, length, slice_index, refl, sym, ap, subst, ◌∙◌, arith, lit≤, inl, inr}
use Rattle.std.proofs.lemmas.Bool.{cases_eq}
use Rattle.std.specs.Int.{from_bool}
use Rattle.std.specs.List.{AllByRecursion, list_any}
use Rattle.vm_field.specs.Field.{modulus}
use Rattle.vm_field.specs.declared.limbs.Limbs.{Limbs}
use Rattle.vm_field.specs.Limbs.{list_of}
use Rattle.vm_word.specs.Arithmetic.{is_negative, negated_if, quotient, quotient_signed, remainder, remainder_signed}
use Rattle.vm_isa.specs.Words.{IsBytes}
use Rattle.vm_isa.specs.Results.{result, mul_div}
use Rattle.air_core.specs.declared.bus.TheConstants.{XOR}
use Rattle.air_core.specs.declared.event.Event.{Event}
use Rattle.air_core.specs.First.{bit}
use Rattle.air_core.specs.Flags.{sum_from, one_hot, opcode_place}
use Rattle.air_core.specs.FlagLaws.{sum_none}
use Rattle.air_core.specs.ListLemmas.{all_left, all_right, all_append, by_zero_test, zero_test}
use Rattle.air_core.specs.Ring.{field}
use Rattle.air_core.specs.Sheet.{AllZero, AllBelow, sent}
use Rattle.air_core.specs.lemmas.OneHot.{is_place, sum_one}
use Rattle.gadget_limbs.specs.Less.{less_constraints, less_ranges, differences, marks_sum, equal_above, marked_differs, top_constraint}
use Rattle.gadget_limbs.specs.Ranges.{range_lines}
use Rattle.gadget_limbs.specs.Sign.{sign_constraints, negative_constraints, same_constraints}
use Rattle.gadget_limbs.specs.Sum.{sum_constraints, carry_out, gated_bit}
use Rattle.gadget_limbs.proofs.LimbsLaws.{word_below}
use Rattle.gadget_limbs.proofs.RangeLaws.{ranges_good, good_ranges, ranges_count, ranges_silent}
use Rattle.gadget_products.specs.Product.{places, place}
use Rattle.gadget_products.specs.Carry.{carries, last_carry, carry_out as quotient_carry}
use Rattle.gadget_products.specs.Divide.{division_carries, division_top, differ, division_sums, added}
use Rattle.gadget_products.specs.Laws.{word_in, Below11}
use Rattle.gadget_products.proofs.DivideLaws.{division_law, division_holds}
use Rattle.gadget_products.proofs.SignedDivision.{Division, unsigned, signed as signed_parts}
use Rattle.gadget_divide.specs.Divided.{Divided, divided_of, signs_differ, zero_constraints, not_below, operand_constraints, result_constraints, divided_bytes, divided_lookups, divided_filled}
use Rattle.gadget_divide.specs.Laws.{word, AreGood, IsDivided, DividedMeets}
use Rattle.gadget_divide.proofs.DividedSays.{MaySend, Zero, Byte, divided_is_meant}
use Rattle.gadget_divide.proofs.DividedHolds.{filled_divided_holds}
use Rattle.adapter_regs.specs.Core.{Operands, CoreLaws, IsCoreAt, IsResult, IsGoodCore, IsPlaced, IsLookup, no_operands}
use Rattle.chip_divrem.specs.DivRem.{signed, quotients, remainders, chosen_limb, chosen, divrem_constraints, divrem_lookups, is_signed, divrem_opcodes, divrem_core}

abbrev Silent : Event → Type 0
Silent e = e.count ≡ 0

abbrev Few : Event → Type 0
Few e = e.count ≤ 1

-- ---- a row of one flag

differ_is : (t s : Bool) (x : ℕ) → x < 2 ^ 32 → negated_if t (negated_if s x) ≡ negated_if (differ t s) x
differ_is true true x p = omega arith
differ_is true false x p = refl
differ_is false true x p = refl
differ_is false false x p = refl

-- what a valid row says: t and s tell which words are taken to be negative
record Says (t s : Bool) (c : Divided ℕ) (left right : Limbs ℕ) : Type 0 where
  divided : IsDivided t s c (word left) (word right)
  division : Division t s (word left) (word right) (word c.quotient) (word c.remainder) (word c.signed_quotient) (word c.signed_remainder)

says : (sign : Bool) (gate : ℕ) (own : List ℕ) (left right : Limbs ℕ) → (let c = divided_of field own in
    AllBelow own → IsBytes (list_of left) → IsBytes (list_of right) → gate ≡ from_bool sign → AllZero (divrem_constraints field 1 gate c left right) → AreGood (divrem_lookups field 1 gate c left right)
    → Says (sign && is_negative (word left)) (sign && is_negative (word right)) c left right)
unfolding divrem_constraints divrem_lookups
says sign gate own left right low p q e holds good =
    let c = divided_of field own in
    let t = sign && is_negative (word left) in
    let s = sign && is_negative (word right) in
    let operands = operand_constraints field gate c left right in
    let rest = all_right Zero operands _ holds in
    let lines = divided_lookups field 1 gate c left right in
    let behind = all_right MaySend lines _ good in
    let carries = division_carries field c.dividend c.divisor c.quotient c.remainder in
    let small : Below11 carries = ranges_good 1 11 carries (λ none. absurd (omega arith)) (all_left MaySend (range_lines field 1 11 carries) _ behind) in
    let last : IsBytes (list_of c.quotient ++ list_of c.remainder) = ranges_good 1 8 (list_of c.quotient ++ list_of c.remainder) (λ none. absurd (omega arith)) (all_right MaySend (range_lines field 1 11 carries) _ behind) in
    let quotient = all_left Byte (list_of c.quotient) _ last in
    let remainder = all_right Byte (list_of c.quotient) _ last in
    let d = divided_is_meant sign gate own left right low p q (record { quotient = quotient; remainder = remainder }) e (all_left Zero operands _ holds) rest.1 (all_left MaySend lines _ good) in
    let whole = division_law c.dividend c.divisor c.quotient c.remainder d.bytes.dividend d.bytes.divisor quotient remainder small rest.0 in
    record {
      divided = d;
      division = record {
        whole = rw (← d.dividend, ← d.divisor) whole;
        quotient_below = word_below c.quotient quotient;
        quotient = d.quotient ∙ differ_is t s (word c.quotient) (word_below c.quotient quotient);
        remainder = d.remainder;
        less = λ n. rw (← d.divisor) (d.less n);
      };
    }

-- ---- the word that is written

limb_remainder : (z u s : ℕ) → s < modulus → chosen_limb field 0 1 z u s ≡ s
unfolding chosen_limb
limb_remainder z u s h = omega arith

limb_quotient : (z u s : ℕ) → z ≡ 0 → u < modulus → chosen_limb field 1 0 z u s ≡ u
unfolding chosen_limb
limb_quotient z u s e h = rw e (omega arith)

limb_ones : (z u s : ℕ) → z ≡ 1 → chosen_limb field 1 0 z u s ≡ 255
unfolding chosen_limb
limb_ones z u s e = rw e (omega arith)

record Bytes4 (w : Limbs ℕ) : Type 0 where
  x0 : w.x0 < modulus
  x1 : w.x1 < modulus
  x2 : w.x2 < modulus
  x3 : w.x3 < modulus

bytes4 : (w : Limbs ℕ) → IsBytes (list_of w) → Bytes4 w
unfolding list_of
bytes4 w h = record { x0 = omega (arith, h.0); x1 = omega (arith, h.1.0); x2 = omega (arith, h.1.1.0); x3 = omega (arith, h.1.1.1.0) }

chosen_remainder : (c : Divided ℕ) → IsBytes (list_of c.signed_remainder) → chosen field 0 1 c ≡ c.signed_remainder
unfolding chosen
chosen_remainder c h = let b = bytes4 c.signed_remainder h in rw (limb_remainder c.by_zero c.signed_quotient.x0 _ b.x0, limb_remainder c.by_zero c.signed_quotient.x1 _ b.x1, limb_remainder c.by_zero c.signed_quotient.x2 _ b.x2, limb_remainder c.by_zero c.signed_quotient.x3 _ b.x3) refl

chosen_quotient : (c : Divided ℕ) → c.by_zero ≡ 0 → IsBytes (list_of c.signed_quotient) → chosen field 1 0 c ≡ c.signed_quotient
unfolding chosen
chosen_quotient c e h = let b = bytes4 c.signed_quotient h in rw (limb_quotient c.by_zero _ c.signed_remainder.x0 e b.x0, limb_quotient c.by_zero _ c.signed_remainder.x1 e b.x1, limb_quotient c.by_zero _ c.signed_remainder.x2 e b.x2, limb_quotient c.by_zero _ c.signed_remainder.x3 e b.x3) refl

abbrev ones : Limbs ℕ
ones = record { x0 = 255; x1 = 255; x2 = 255; x3 = 255 }

chosen_ones : (c : Divided ℕ) → c.by_zero ≡ 1 → chosen field 1 0 c ≡ ones
unfolding chosen
chosen_ones c e = rw (limb_ones c.by_zero c.signed_quotient.x0 c.signed_remainder.x0 e, limb_ones c.by_zero c.signed_quotient.x1 c.signed_remainder.x1 e, limb_ones c.by_zero c.signed_quotient.x2 c.signed_remainder.x2 e, limb_ones c.by_zero c.signed_quotient.x3 c.signed_remainder.x3 e) refl

ones_bytes : IsBytes (list_of ones)
unfolding list_of
ones_bytes = (omega arith, (omega arith, (omega arith, (omega arith, tt))))

ones_word : word ones ≡ 4294967295
unfolding list_of
ones_word = refl

-- what the opcodes make of two words
record Results : Type 0 where
  div : (b c : ℕ) → result 33 b c ≡ quotient_signed b c
  divu : (b c : ℕ) → result 34 b c ≡ quotient b c
  rem : (b c : ℕ) → result 35 b c ≡ remainder_signed b c
  remu : (b c : ℕ) → result 36 b c ≡ remainder b c

results : Results
unfolding result mul_div
results = record { div = λ b c. refl; divu = λ b c. refl; rem = λ b c. refl; remu = λ b c. refl }

by_none : (b c : ℕ) → c ≡ 0 → quotient b c ≡ 4294967295
by_none b c e = rw e refl

signed_by_none : (b c : ℕ) → c ≡ 0 → quotient_signed b c ≡ 4294967295
signed_by_none b c e = rw e refl

-- a word and what it is
record IsNumber (w : Limbs ℕ) (n : ℕ) : Type 0 where
  bytes : IsBytes (list_of w)
  is : word w ≡ n

a_quotient : (t s : Bool) (c : Divided ℕ) (left right : Limbs ℕ) (f : ℕ → ℕ → ℕ) → IsDivided t s c (word left) (word right) → (word right ≢ 0 → word c.signed_quotient ≡ f (word left) (word right))
    → (word right ≡ 0 → f (word left) (word right) ≡ 4294967295) → IsNumber (chosen field 1 0 c) (f (word left) (word right))
a_quotient t s c left right f h some none =
    elim (cases_eq (word right) 0) [
      | inl zero_word ↦ let same = chosen_ones c (h.by_zero zero_word) in record { bytes = rw same ones_bytes; is = rw same (ones_word ∙ sym (none zero_word)) }
      | inr other ↦ let same = chosen_quotient c (h.by_some other) h.bytes.signed_quotient in record { bytes = rw same h.bytes.signed_quotient; is = rw same (some other) }
    ]

a_remainder : (t s : Bool) (c : Divided ℕ) (left right : Limbs ℕ) (n : ℕ) → IsDivided t s c (word left) (word right) → word c.signed_remainder ≡ n → IsNumber (chosen field 0 1 c) n
a_remainder t s c left right n h is = let same = chosen_remainder c h.bytes.signed_remainder in record { bytes = rw same h.bytes.signed_remainder; is = rw same is }

signed_at : (k : ℕ) → k < 4 → signed field (one_hot 4 k) ≡ from_bool (is_signed k)
unfolding signed
signed_at zero h = refl
signed_at (suc zero) h = refl
signed_at (suc (suc zero)) h = refl
signed_at (suc (suc (suc zero))) h = refl
signed_at (suc (suc (suc (suc k)))) h = absurd (omega arith)

chosen_at : (c : Divided ℕ) → (chosen field (quotients field (one_hot 4 0)) (remainders field (one_hot 4 0)) c ≡ chosen field 1 0 c) × (chosen field (quotients field (one_hot 4 1)) (remainders field (one_hot 4 1)) c ≡ chosen field 1 0 c)
    × (chosen field (quotients field (one_hot 4 2)) (remainders field (one_hot 4 2)) c ≡ chosen field 0 1 c) × (chosen field (quotients field (one_hot 4 3)) (remainders field (one_hot 4 3)) c ≡ chosen field 0 1 c)
unfolding quotients remainders
chosen_at c = (refl, refl, refl, refl)

module _ (fs own : List ℕ) (b c : Limbs ℕ) (low : AllBelow own) (p : IsBytes (list_of b)) (q : IsBytes (list_of c)) where
  abbrev o : Operands ℕ
  o = record { flags = fs; left = b; right = c; own = own }

  abbrev cols : Divided ℕ
  cols = divided_of field own

  of_word : (op k : ℕ) (w : Limbs ℕ) (n : ℕ) → fs ≡ one_hot 4 k → chosen field (quotients field (one_hot 4 k)) (remainders field (one_hot 4 k)) cols ≡ w → IsNumber w n → n ≡ result op (word b) (word c) → IsResult op o (divrem_core.parts.new o)
  of_word op k w n e is number same =
      let new : divrem_core.parts.new o ≡ w = ap (λ (xs : List ℕ). chosen field (quotients field xs) (remainders field xs) cols) e ∙ is in
      record { bytes = rw new number.bytes; result_is = rw new (number.is ∙ same) }

  row : (k : ℕ) → k < 4 → fs ≡ one_hot 4 k → AllZero (divrem_core.parts.constraints o) → AreGood (divrem_core.parts.lookups o) → Says (is_signed k && is_negative (word b)) (is_signed k && is_negative (word c)) cols b c
  row k small e h good =
      let valid : sum_from field 0 fs ≡ 1 = ap (sum_from field 0) e ∙ sum_one 4 k small in
      says (is_signed k) (signed field fs) own b c low p q (ap (signed field) e ∙ signed_at k small) (subst (λ (v : ℕ). AllZero (divrem_constraints field v (signed field fs) cols b c)) valid h) (subst (λ (v : ℕ). AreGood (divrem_lookups field v (signed field fs) cols b c)) valid good)

  sound_at : (k : ℕ) → k < 4 → fs ≡ one_hot 4 k → AllZero (divrem_core.parts.constraints o) → AreGood (divrem_core.parts.lookups o) → IsResult (slice_index divrem_core.opcodes k) o (divrem_core.parts.new o)
  sound_at zero small e h good =
      let x = row 0 small e h good in
      let parts = signed_parts _ _ _ _ _ _ _ _ (word_below b p) (word_below c q) refl refl x.division in
      of_word 33 0 (chosen field 1 0 cols) (quotient_signed (word b) (word c)) e (chosen_at cols).0 (a_quotient _ _ cols b c quotient_signed x.divided parts.quotient_is (signed_by_none (word b) (word c))) (sym (results.div (word b) (word c)))
  sound_at (suc zero) small e h good =
      let x = row 1 small e h good in
      let parts = unsigned _ _ _ _ _ _ (word_below b p) x.division in
      of_word 34 1 (chosen field 1 0 cols) (quotient (word b) (word c)) e (chosen_at cols).1 (a_quotient _ _ cols b c quotient x.divided parts.quotient_is (by_none (word b) (word c))) (sym (results.divu (word b) (word c)))
  sound_at (suc (suc zero)) small e h good =
      let x = row 2 small e h good in
      let parts = signed_parts _ _ _ _ _ _ _ _ (word_below b p) (word_below c q) refl refl x.division in
      of_word 35 2 (chosen field 0 1 cols) (remainder_signed (word b) (word c)) e (chosen_at cols).2 (a_remainder _ _ cols b c _ x.divided parts.remainder_is) (sym (results.rem (word b) (word c)))
  sound_at (suc (suc (suc zero))) small e h good =
      let x = row 3 small e h good in
      let parts = unsigned _ _ _ _ _ _ (word_below b p) x.division in
      of_word 36 3 (chosen field 0 1 cols) (remainder (word b) (word c)) e (chosen_at cols).3 (a_remainder _ _ cols b c _ x.divided parts.remainder_is) (sym (results.remu (word b) (word c)))
  sound_at (suc (suc (suc (suc k)))) small e h good = absurd (omega arith)

-- ---- complete

word_in_is : (w : Limbs ℕ) → IsBytes (list_of w) → word_in w ≡ word w
word_in_is w p = omega (arith, word_below w p)

filled_words : (signed : Bool) (x y : Limbs ℕ) → IsBytes (list_of x) → IsBytes (list_of y) → divided_filled signed (word_in x) (word_in y) ≡ divided_filled signed (word x) (word y)
filled_words signed x y p o = ap (λ (m : ℕ). divided_filled signed m (word_in y)) (word_in_is x p) ∙ ap (divided_filled signed (word x)) (word_in_is y o)

complete : (k : ℕ) (o : Operands ℕ) → IsCoreAt divrem_core k o → o.own ≡ divided_filled (is_signed k) (word_in o.left) (word_in o.right) → IsGoodCore divrem_core o
unfolding divrem_constraints divrem_lookups
complete k o at filled =
    let c = divided_of field o.own in
    let gate = signed field o.flags in
    let own : o.own ≡ divided_filled (is_signed k) (word o.left) (word o.right) = filled ∙ filled_words (is_signed k) o.left o.right at.left at.right in
    let e : gate ≡ from_bool (is_signed k) = ap (signed field) at.flags ∙ signed_at k at.below in
    let m : DividedMeets gate c o.left o.right = rw own ((filled_divided_holds (is_signed k) o.left o.right at.left at.right).meets gate e) in
    let d = division_holds c.dividend c.divisor c.quotient c.remainder m.bytes.dividend m.bytes.divisor m.parts.quotient m.parts.remainder m.whole in
    let valid : sum_from field 0 o.flags ≡ 1 = ap (sum_from field 0) at.flags ∙ sum_one 4 k at.below in
    let lines = divided_lookups field 1 gate c o.left o.right in
    let carries = division_carries field c.dividend c.divisor c.quotient c.remainder in
    let last = list_of c.quotient ++ list_of c.remainder in
    let bytes : AllByRecursion Byte last = all_append Byte (list_of c.quotient) (list_of c.remainder) m.parts.quotient m.parts.remainder in
    record {
      zero = rw valid (all_append Zero (operand_constraints field gate c o.left o.right) _ m.operands (d.1, m.results));
      small = rw valid (all_append Few lines _ m.small (all_append Few (range_lines field 1 11 carries) (range_lines field 1 8 last) (ranges_count 1 1 11 carries (lit≤ tt)) (ranges_count 1 1 8 last (lit≤ tt))));
      good = rw valid (all_append MaySend lines _ m.good (all_append MaySend (range_lines field 1 11 carries) (range_lines field 1 8 last) (good_ranges 1 11 carries (lit≤ tt) d.0) (good_ranges 1 8 last (lit≤ tt) bytes)));
    }

-- ---- the other laws

none_at : (xs : List ℕ) (i : ℕ) → AllZero xs → slice_index xs i ≡ 0
none_at [] i h = refl
none_at (x ∷ xs) zero h = h.0
none_at (x ∷ xs) (suc i) h = none_at xs i h.1

silent : (valid gate : ℕ) (c : Divided ℕ) (left right : Limbs ℕ) → valid ≡ 0 → gate ≡ 0 → AllByRecursion Silent (divrem_lookups field valid gate c left right)
unfolding divrem_lookups divided_lookups
silent valid gate c left right v off =
    let carries = division_carries field c.dividend c.divisor c.quotient c.remainder in
    let last = list_of c.quotient ++ list_of c.remainder in
    (off, (off, all_append Silent (range_lines field valid 8 (divided_bytes field c)) _ (ranges_silent valid 8 (divided_bytes field c) v) (all_append Silent (range_lines field valid 11 carries) (range_lines field valid 8 last) (ranges_silent valid 11 carries v) (ranges_silent valid 8 last v))))

none_signed : (flags : List ℕ) → AllZero flags → signed field flags ≡ 0
unfolding signed
none_signed flags none = omega (arith, none_at flags 0 none, none_at flags 2 none)

range_lookups : (count width : ℕ) (xs : List ℕ) → AllByRecursion IsLookup (range_lines field count width xs)
range_lookups count width [] = tt
range_lookups count width (x ∷ xs) = (record { low = lit≤ tt; high = lit≤ tt; side = refl }, range_lookups count width xs)

are_lookups : (valid gate : ℕ) (c : Divided ℕ) (left right : Limbs ℕ) → AllByRecursion IsLookup (divrem_lookups field valid gate c left right)
unfolding divrem_lookups divided_lookups
are_lookups valid gate c left right =
    let carries = division_carries field c.dividend c.divisor c.quotient c.remainder in
    let last = list_of c.quotient ++ list_of c.remainder in
    let one : (tuple : List ℕ) → IsLookup (sent XOR gate tuple) = λ tuple. record { low = lit≤ tt; high = lit≤ tt; side = refl } in
    (one _, (one _, all_append IsLookup (range_lines field valid 8 (divided_bytes field c)) _ (range_lookups valid 8 (divided_bytes field c)) (all_append IsLookup (range_lines field valid 11 carries) (range_lines field valid 8 last) (range_lookups valid 11 carries) (range_lookups valid 8 last))))

few : (valid gate : ℕ) (c : Divided ℕ) (left right : Limbs ℕ) → length (divrem_lookups field valid gate c left right) ≤ 240
unfolding divrem_lookups divided_lookups divided_bytes division_carries division_sums added carries places list_of less_ranges
few valid gate c left right = lit≤ tt

zeros : AllZero (divrem_core.parts.constraints (no_operands divrem_core))
unfolding divided_of divrem_constraints operand_constraints result_constraints signed sign_constraints zero_constraints negative_constraints same_constraints sum_constraints carry_out gated_bit division_top division_sums last_carry added places place less_constraints differences marks_sum equal_above marked_differs top_constraint signs_differ not_below bit list_of zero_test quotient_carry
zeros = by_zero_test (divrem_core.parts.constraints (no_operands divrem_core)) refl

placed : (op : ℕ) (left right new : Limbs ℕ) → list_any (nat_eq op) divrem_opcodes ≡ true → IsBytes (list_of left) → IsBytes (list_of right) → IsPlaced divrem_core op left right new
placed op left right new own p o =
    let place = is_place divrem_opcodes op own in
    let signed = is_signed (opcode_place divrem_opcodes op) in
    let f = filled_divided_holds signed left right p o in
    record { below = place.below; opcode = place.is; long = rw (filled_words signed left right p o) f.long; own_below = rw (filled_words signed left right p o) f.below }

pub divrem_laws : CoreLaws divrem_core
divrem_laws = record {
  some = lit≤ tt;
  few_flags = lit≤ tt;
  narrow = lit≤ tt;
  registers = (refl, (refl, (refl, (refl, tt))));
  products = λ e. (refl, (refl, (refl, (refl, tt))));
  lookups = λ o. are_lookups (sum_from field 0 o.flags) (signed field o.flags) (divided_of field o.own) o.left o.right;
  few_lookups = λ o. few (sum_from field 0 o.flags) (signed field o.flags) (divided_of field o.own) o.left o.right;
  silent = λ o none. silent (sum_from field 0 o.flags) (signed field o.flags) (divided_of field o.own) o.left o.right (sum_none o.flags none) (none_signed o.flags none);
  zeros = zeros;
  sound = λ k o at holds good. sound_at o.flags o.own o.left o.right at.own_below at.left at.right k at.below at.flags holds good;
  placed = λ op left right new own p q word. placed op left right new own p q;
  complete = λ op o new at word is filled. complete (opcode_place divrem_opcodes op) o at filled;
}
