-- What the columns of a shift say: the new word is the shifted word.
use Rattle.std.proofs.Common.{◌≡◌, ◌≢◌, ℕ, zero, suc, ◌+◌, ◌-◌, ◌*◌, ◌%◌, ◌^◌, ◌<◌, ◌≤◌, List, [], ◌∷◌, length, map, refl, sym, ap, ◌∙◌, subst, inl, inr, arith, zero-add, lit<}
use Rattle.std.specs.List.{AllByRecursion, range_with_len}
use Rattle.std.proofs.lemmas.Nat.{pow-add, pow_pos, pow_below}
use Rattle.std.proofs.lemmas.Bool.{cases_lt}
use Rattle.std.proofs.lemmas.List.FromFn.{get_or-range_with_len, get_or-map-range_with_len}
use Rattle.vm_field.specs.Field.{modulus, field_sub, field_mul}
use Rattle.vm_field.specs.declared.limbs.Limbs.{Limbs}
use Rattle.vm_field.specs.Limbs.{list_of}
use Rattle.vm_word.specs.Arithmetic.{shifted_left}
use Rattle.vm_isa.specs.Words.{IsBytes}
use Rattle.air_core.specs.First.{bit}
use Rattle.air_core.specs.Flags.{one_hot}
use Rattle.air_core.specs.ListLemmas.{all_left, all_right}
use Rattle.air_core.specs.Ring.{field}
use Rattle.air_core.specs.Sheet.{AllZero, AllBelow}
use Rattle.air_core.specs.lemmas.Cells.{cells_below}
use Rattle.air_core.specs.lemmas.OneHot.{weighted_one}
use Rattle.gadget_limbs.specs.Ranges.{range_lines}
use Rattle.gadget_limbs.proofs.RangeLaws.{ranges_good}
use Rattle.gadget_shift.specs.Shift.{ShiftColumns, shift_columns, bits_by, limbs_by_flags, power_by, amount_constraints, amount_part, shift_lookups, left_limb, right_limb, left_block, right_block, left_carries, right_carries, limb_at, left_constraints, right_constraints}
use Rattle.gadget_shift.specs.Laws.{word, shifted_in, AreGood, IsShift, IsLookedUp}
use Rattle.gadget_shift.proofs.Numbers.{N, IsLeft, IsRight, left_word, right_word}
use Rattle.gadget_shift.proofs.Selected.{each_at, selected_law, hot_at}
use Rattle.gadget_shift.proofs.Limb.{left_equation, right_equation, top_is, amount_law, each_limb, each_byte, number_at, right_carry, right_top, power_256}

-- ---- what the flags of the amount select

below_8 : AllBelow (range_with_len 0 8)
below_8 = (lit< tt, (lit< tt, (lit< tt, (lit< tt, (lit< tt, (lit< tt, (lit< tt, (lit< tt, tt))))))))

below_4 : AllBelow (range_with_len 0 4)
below_4 = (lit< tt, (lit< tt, (lit< tt, (lit< tt, tt))))

powers_below : AllBelow (map (λ j. 2 ^ j) (range_with_len 0 8))
powers_below = (lit< tt, (lit< tt, (lit< tt, (lit< tt, (lit< tt, (lit< tt, (lit< tt, (lit< tt, tt))))))))

pub bits_are : (i : ℕ) → i < 8 → bits_by field (one_hot 8 i) ≡ i
bits_are i low = weighted_one 8 i (range_with_len 0 8) low refl below_8 ∙ get_or-range_with_len 0 8 i 0 low ∙ zero-add i

pub limbs_are : (s : ShiftColumns ℕ) (l : ℕ) → list_of s.limbs ≡ one_hot 4 l → l < 4 → limbs_by_flags field s.limbs ≡ l
limbs_are s l e low = rw e (weighted_one 4 l (range_with_len 0 4) low refl below_4 ∙ get_or-range_with_len 0 4 l 0 low ∙ zero-add l)

pub power_is : (i : ℕ) → i < 8 → power_by field (one_hot 8 i) ≡ 2 ^ i
power_is i low = weighted_one 8 i (map (λ j. 2 ^ j) (range_with_len 0 8)) low refl powers_below ∙ get_or-map-range_with_len (λ j. 2 ^ j) 0 8 i i 0 low (zero-add i)

limbs_below : (own : List ℕ) → AllBelow own → AllBelow (list_of (shift_columns field own).limbs)
unfolding list_of shift_columns
limbs_below own h = cells_below own h 8 4

bits_below : (own : List ℕ) → AllBelow own → AllBelow (shift_columns field own).bits
unfolding shift_columns
bits_below own h = cells_below own h 0 8

pub limbs_long : (own : List ℕ) → length (list_of (shift_columns field own).limbs) ≡ 4
unfolding list_of
limbs_long own = refl

pub bits_long : (own : List ℕ) → length (shift_columns field own).bits ≡ 8
unfolding shift_columns
bits_long own = refl

pub looked_up : (c : ℕ) (own : List ℕ) (new : Limbs ℕ) → c < 256 → AllBelow own → AllZero (amount_constraints field 1 (shift_columns field own)) → AreGood (shift_lookups field 1 c (shift_columns field own) new)
    → IsLookedUp c (shift_columns field own) new
unfolding amount_constraints shift_lookups
looked_up c own new low below h good =
    let s = shift_columns field own in
    let P = λ (x : ℕ). x ≡ 0 in
    let z1 = all_left P (map (bit field) s.bits) _ h in
    let r1 = all_right P (map (bit field) s.bits) _ h in
    let z2 = all_left P (map (bit field) (list_of s.limbs)) _ r1.1 in
    let r2 = all_right P (map (bit field) (list_of s.limbs)) _ r1.1 in
    let q = hot_at 8 s.bits (bits_long own) (omega arith) (bits_below own below) z1 r1.0 in
    let m = hot_at 4 (list_of s.limbs) (limbs_long own) (omega arith) (limbs_below own below) z2 r2.0 in
    let width : bits_by field s.bits ≡ q.place = ap (bits_by field) q.are ∙ bits_are q.place q.below in
    let count : limbs_by_flags field s.limbs ≡ m.place = limbs_are s m.place m.are m.below in
    let some : 1 ≢ 0 = λ none. absurd (omega (arith, none)) in
    let part = amount_part field c (limbs_by_flags field s.limbs) (bits_by field s.bits) in
    let rest = ranges_good 1 3 (part ∷ []) some (good.0, tt) in
    let both = good.1 in
    let carries = ranges_good 1 (bits_by field s.bits) (list_of s.carries) some (all_left _ (range_lines field 1 (bits_by field s.bits) (list_of s.carries)) _ both) in
    record {
      shift = record {
        i = q.place;
        l = m.place;
        i_low = q.below;
        l_low = m.below;
        bits = q.are;
        limbs = m.are;
        amount = amount_law c m.place q.place low m.below q.below (rw (← count, ← width) rest.0);
        carries = rw (← width) carries;
      };
      bytes = ranges_good 1 8 (list_of new) some (all_right _ (range_lines field 1 (bits_by field s.bits) (list_of s.carries)) _ both);
    }

-- ---- the limbs

pub top_below : (t g : ℕ) → 0 < t → t < 256 → g ≤ 1 → field_mul g (field_sub t 1) < 256
top_below t zero p q r = omega arith
top_below t (suc zero) p q r = omega arith
top_below t (suc (suc g)) p q r = absurd (omega arith)

pub carry_at : (s : ShiftColumns ℕ) (t : ℕ) → AllByRecursion (λ k. k < t) (list_of s.carries) → (m : ℕ) → m < 4 → limb_at field s.carries m < t
unfolding list_of
carry_at s t h = each_limb (λ x. x < t) s.carries h.0 h.1.0 h.1.1.0 h.1.1.1.0

first_at : (P : ℕ → Type 0) (f : ℕ → ℕ) (n i : ℕ) → AllByRecursion P (map f (range_with_len 0 n)) → i < n → P (f i)
first_at P f n i h low = subst (λ v. P (f v)) (zero-add i) (each_at P f 0 n i h low)

abbrev zero_rest : ℕ → Type 0
zero_rest x = x % modulus ≡ 0

module _ (c : ℕ) (s : ShiftColumns ℕ) (b a : Limbs ℕ) (k : IsShift c s) (bb : IsBytes (list_of b)) (ba : IsBytes (list_of a)) where
  abbrev t : ℕ
  t = 2 ^ k.i

  abbrev by : ℕ
  by = 8 * k.l + k.i

  t_small : t < 256
  t_small = pow_below k.i 8 k.i_low

  t_some : 0 < t
  t_some = pow_pos k.i

  carry_low : (m : ℕ) → m < 4 → limb_at field s.carries m < t
  carry_low = carry_at s t k.carries

  new_byte : (i : ℕ) → i < 4 → limb_at field a i < 256
  new_byte = each_byte a ba

  old_byte : (i : ℕ) → i < 4 → limb_at field b i < 256
  old_byte = each_byte b bb

  left_small : (i : ℕ) → i < 5 → left_carries field s.carries i < 256
  left_small zero low = lit< tt
  left_small (suc i) low = omega (arith, carry_low i (omega arith), t_small)

  power : 2 ^ by ≡ t * 256 ^ k.l
  power =
      let turned : by ≡ k.i + 8 * k.l = omega arith in
      ap (λ (v : ℕ). 2 ^ v) turned ∙ pow-add 2 k.i (8 * k.l) ∙ ap (λ (v : ℕ). t * v) (sym (power_256 k.l k.l_low))

  told : power_by field s.bits ≡ t
  told = ap (power_by field) k.bits ∙ power_is k.i k.i_low

  -- the words for their limbs, and the amount
  of_words : (f : ℕ → ℕ → ℕ) → N (limb_at field a) 4 ≡ f (N (limb_at field b) 4) by → word a ≡ f (word b) (c % 32)
  of_words f e = sym (number_at a) ∙ e ∙ ap (λ (v : ℕ). f v by) (number_at b) ∙ ap (f (word b)) (sym k.amount)

  left_shape : AllByRecursion zero_rest (left_block field t (limb_at field a) (limb_at field b) (left_carries field s.carries) k.l) → IsLeft t k.l (4 - k.l) (limb_at field a) (limb_at field b) (left_carries field s.carries)
  left_shape all =
      let l = k.l in
      let f = λ (j : ℕ). field_sub (limb_at field a j) 0 in
      let g = λ (i : ℕ). left_limb field t (limb_at field a (l + i)) (limb_at field b i) (left_carries field s.carries i) (left_carries field s.carries (i + 1)) in
      let low = all_left zero_rest (map f (range_with_len 0 l)) (map g (range_with_len 0 (4 - l))) all in
      let high = all_right zero_rest (map f (range_with_len 0 l)) (map g (range_with_len 0 (4 - l))) all in
      record {
        four = omega (arith, k.l_low);
        below = λ j under.
            let e : field_sub (limb_at field a j) 0 % modulus ≡ 0 = first_at zero_rest f l j low under in
            omega (arith, e, new_byte j (omega (arith, k.l_low)));
        none = refl;
        steps = λ i under. left_equation t (limb_at field a (l + i)) (limb_at field b i) (left_carries field s.carries i) (left_carries field s.carries (i + 1)) (omega (arith, t_small)) (new_byte (l + i) (omega arith)) (old_byte i (omega arith)) (left_small i (omega arith)) (left_small (i + 1) (omega arith)) (first_at zero_rest g (4 - l) i high under);
      }

  pub left_law : AllZero (left_constraints field 1 s b a) → word a ≡ shifted_left (word b) (c % 32)
  unfolding left_constraints
  left_law h =
      let all = selected_law 1 (list_of s.limbs) (left_block field t (limb_at field a) (limb_at field b) (left_carries field s.carries)) k.l refl k.limbs k.l_low (rw told at h) in
      of_words shifted_left (left_word t k.l (4 - k.l) (limb_at field a) (limb_at field b) (left_carries field s.carries) by (left_shape all) new_byte power)

  module _ (g : ℕ) (bit : g ≤ 1) where
    abbrev carry : ℕ → ℕ
    carry = right_carries field s.carries t g

    carry_small : (i : ℕ) → i < 5 → carry i < 256
    carry_small i low = elim (cases_lt i 4) [
      | inl under ↦ omega (arith, right_carry s.carries t g i under, carry_low i under, t_small)
      | inr over ↦
          let here : i ≡ 4 = omega arith in
          rw here (omega (arith, right_top s.carries t g, top_below t g t_some t_small bit))
    ]

    right_shape : AllByRecursion zero_rest (right_block field t g (limb_at field a) (limb_at field b) carry k.l) → IsRight t g k.l (4 - k.l) (limb_at field a) (limb_at field b) carry
    right_shape all =
        let l = k.l in
        let f = λ (i : ℕ). right_limb field t (limb_at field a i) (limb_at field b (l + i)) (carry (l + i)) (carry (l + i + 1)) in
        let e = λ (j : ℕ). field_sub (limb_at field a j) (field_mul 255 g) in
        let low = all_left zero_rest (map f (range_with_len 0 (4 - l))) (map e (range_with_len (4 - l) l)) all in
        let high = all_right zero_rest (map f (range_with_len 0 (4 - l))) (map e (range_with_len (4 - l) l)) all in
        let last : carry (l + (4 - l)) ≡ carry 4 = ap carry (let n : l + (4 - l) ≡ 4 = omega (arith, k.l_low) in n) in
        record {
          four = omega (arith, k.l_low);
          above = λ j under.
              let is : field_sub (limb_at field a (4 - l + j)) (field_mul 255 g) % modulus ≡ 0 = each_at zero_rest e (4 - l) l j high under in
              omega (arith, is, bit, new_byte (4 - l + j) (omega (arith, k.l_low)));
          top = rw last (rw (right_top s.carries t g) (top_is t g t_some (omega (arith, t_small)) bit));
          small = rw (right_carry s.carries t g l k.l_low) (carry_low l k.l_low);
          steps = λ i under.
              let next : carry (l + (i + 1)) ≡ carry (l + i + 1) = ap carry (let n : l + (i + 1) ≡ l + i + 1 = omega arith in n) in
              rw next (right_equation t (limb_at field a i) (limb_at field b (l + i)) (carry (l + i)) (carry (l + i + 1)) (omega (arith, t_small)) (new_byte i (omega arith)) (old_byte (l + i) (omega arith)) (carry_small (l + i) (omega arith)) (carry_small (l + i + 1) (omega arith)) (first_at zero_rest f (4 - l) i low under));
        }

    pub right_law : AllZero (right_constraints field 1 g s b a) → word a ≡ shifted_in g (word b) (c % 32)
    unfolding right_constraints
    right_law h =
        let all = selected_law 1 (list_of s.limbs) (right_block field t g (limb_at field a) (limb_at field b) carry) k.l refl k.limbs k.l_low (rw told at h) in
        of_words (shifted_in g) (right_word g t k.l (4 - k.l) (limb_at field a) (limb_at field b) carry by bit old_byte (right_shape all) power (omega (arith, k.i_low, k.l_low)))
