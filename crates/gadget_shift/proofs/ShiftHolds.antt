-- The columns that are filled meet the constraints, and what they look up stands in the tables.
use Rattle.std.proofs.Common.{append_assoc, length-append, ◌≡◌, ◌≢◌, ℕ, zero, suc, ◌+◌, ◌-◌, ◌*◌, ◌/◌, ◌%◌, ◌^◌, ◌<◌, ◌≤◌, Bool, true, false, List, [], ◌∷◌, ◌++◌, length, map, slice_index, refl, sym, ap, ◌∙◌, subst, inl, inr, arith, zero-add, lit<, lit≤}
use Rattle.std.specs.List.{AllByRecursion, range_with_len}
use Rattle.std.proofs.Math.Nat.{mod-lt}
use Rattle.std.proofs.lemmas.Nat.{mul-le, pow-add, pow_pos, pow_below}
use Rattle.std.proofs.lemmas.Bool.{cases_lt}
use Rattle.vm_field.specs.Field.{field_sub, field_mul}
use Rattle.vm_field.specs.declared.limbs.Limbs.{Limbs}
use Rattle.vm_field.specs.Limbs.{list_of}
use Rattle.vm_word.specs.Arithmetic.{shifted_left}
use Rattle.vm_word.specs.Digits.{digit}
use Rattle.vm_word.specs.Word.{limbs_of}
use Rattle.vm_isa.specs.Words.{IsBytes}
use Rattle.air_core.specs.declared.event.Event.{Event}
use Rattle.air_core.specs.Lookups.{GoodEvent}
use Rattle.air_core.specs.First.{bit}
use Rattle.air_core.specs.Flags.{sum_from, one_hot, flag_constraints}
use Rattle.air_core.specs.ListLemmas.{all_left, all_append}
use Rattle.air_core.specs.Ring.{field, cells}
use Rattle.air_core.specs.Sheet.{AllZero}
use Rattle.air_core.specs.lemmas.Cells.{cells_back}
use Rattle.air_core.specs.lemmas.OneHot.{one_hot_below, one_hot_holds, sum_one, length-one_hot}
use Rattle.gadget_limbs.specs.Ranges.{range_lines}
use Rattle.gadget_limbs.proofs.RangeLaws.{good_ranges, ranges_count}
use Rattle.gadget_shift.specs.Shift.{selected, ShiftColumns, shift_columns, bits_by, limbs_by_flags, power_by, amount_constraints, amount_part, shift_lookups, left_limb, right_limb, left_block, right_block, left_carries, right_carries, limb_at, left_constraints, right_constraints, carry_fill, shift_filled}
use Rattle.gadget_shift.specs.Laws.{word, shifted_in, ShiftMeets, FilledShift}
use Rattle.gadget_shift.proofs.Numbers.{N, IsLeft, IsRight}
use Rattle.gadget_shift.proofs.Filling.{IsPower, left_fill, right_fill, carry_small}
use Rattle.gadget_shift.proofs.Limb.{left_back, right_back, amount_back, each_byte, number_at, top_is, left_carry, right_carry, right_top, power_256, limb_digit}
use Rattle.gadget_shift.proofs.Selected.{each_all, selected_holds, selected_none}
use Rattle.gadget_shift.proofs.ShiftSays.{bits_are, limbs_are, power_is, top_below}

first_all : (P : ℕ → Type 0) (f : ℕ → ℕ) (n : ℕ) → ((i : ℕ) → i < n → P (f i)) → AllByRecursion P (map f (range_with_len 0 n))
first_all P f n h = each_all P f 0 n (λ i low. subst (λ v. P (f v)) (sym (zero-add i)) (h i low))

flags_parts : (n k : ℕ) → k < n → AllZero (map (bit field) (one_hot n k)) × (field_sub (sum_from field 0 (one_hot n k)) 1 ≡ 0)
unfolding flag_constraints
flags_parts n k low = (all_left (λ x. x ≡ 0) (map (bit field) (one_hot n k)) _ (one_hot_holds n k low), rw (sum_one n k low) (omega arith))

is_power : (i : ℕ) → i < 8 → IsPower (2 ^ i) (2 ^ (8 - i))
is_power i low =
    let e : i + (8 - i) ≡ 8 = omega arith in
    record { some = pow_pos i; more = pow_pos (8 - i); whole = sym (pow-add 2 i (8 - i)) ∙ ap (λ (v : ℕ). 2 ^ v) e }

-- ---- the columns

abbrev carries_of : Bool → ℕ → Limbs ℕ → Limbs ℕ
carries_of left t b = record { x0 = carry_fill left t b.x0; x1 = carry_fill left t b.x1; x2 = carry_fill left t b.x2; x3 = carry_fill left t b.x3 }

carry_of : (left : Bool) (t : ℕ) (b : Limbs ℕ) (m : ℕ) → m < 4 → limb_at field (carries_of left t b) m ≡ carry_fill left t (limb_at field b m)
unfolding list_of
carry_of left t b zero low = refl
carry_of left t b (suc zero) low = refl
carry_of left t b (suc (suc zero)) low = refl
carry_of left t b (suc (suc (suc zero))) low = refl
carry_of left t b (suc (suc (suc (suc m)))) low = absurd (omega arith)

record Filled (left : Bool) (c : ℕ) (b : Limbs ℕ) (s : ShiftColumns ℕ) : Type 0 where
  bits : s.bits ≡ one_hot 8 (c % 8)
  limbs : list_of s.limbs ≡ one_hot 4 (c % 32 / 8)
  carries : list_of s.carries ≡ list_of (carries_of left (2 ^ (c % 8)) b)

filled : (left : Bool) (c : ℕ) (b : Limbs ℕ) (rest : List ℕ) → Filled left c b (shift_columns field (shift_filled left c b ++ rest))
unfolding shift_columns shift_filled list_of
filled left c b rest =
    let q = one_hot 8 (c % 8) in
    let m = one_hot 4 (c % 32 / 8) in
    let k : List ℕ = list_of (carries_of left (2 ^ (c % 8)) b) in
    let eight : length q ≡ 8 = length-one_hot 8 (c % 8) in
    let four : length m ≡ 4 = length-one_hot 4 (c % 32 / 8) in
    let apart : (q ++ (m ++ k)) ++ rest ≡ q ++ (m ++ (k ++ rest)) = append_assoc q (m ++ k) rest ∙ ap (λ (xs : List ℕ). q ++ xs) (append_assoc m k rest) in
    let moved : (q ++ (m ++ k)) ++ rest ≡ (q ++ m) ++ (k ++ rest) = apart ∙ sym (append_assoc q m (k ++ rest)) in
    record {
      bits = ap (λ (xs : List ℕ). cells (slice_index xs) 0 8) apart ∙ cells_back [] q (m ++ (k ++ rest)) 0 8 refl eight;
      limbs = ap (λ (xs : List ℕ). cells (slice_index xs) 8 4) apart ∙ cells_back q m (k ++ rest) 8 4 eight four;
      carries = ap (λ (xs : List ℕ). cells (slice_index xs) 12 4) moved ∙ cells_back (q ++ m) k rest 12 4 (omega (arith, length-append q m, eight, four)) refl;
    }

module _ (left : Bool) (c : ℕ) (b a : Limbs ℕ) (s : ShiftColumns ℕ) (c_low : c < 256) (bb : IsBytes (list_of b)) (ba : IsBytes (list_of a)) (f : Filled left c b s) where
  abbrev i : ℕ
  i = c % 8

  abbrev l : ℕ
  l = c % 32 / 8

  abbrev t : ℕ
  t = 2 ^ i

  abbrev by : ℕ
  by = 8 * l + i

  i_low : i < 8
  i_low = omega arith

  l_low : l < 4
  l_low = omega arith

  four : 4 ≡ l + (4 - l)
  four = omega (arith, l_low)

  t_small : t < 256
  t_small = pow_below i 8 i_low

  t_some : 0 < t
  t_some = pow_pos i

  by_low : by < 32
  by_low = omega arith

  amount : c % 32 ≡ by
  amount = omega arith

  power : 2 ^ by ≡ t * 256 ^ l
  power =
      let turned : by ≡ i + 8 * l = omega arith in
      ap (λ (v : ℕ). 2 ^ v) turned ∙ pow-add 2 i (8 * l) ∙ ap (λ (v : ℕ). t * v) (sym (power_256 l l_low))

  told : power_by field s.bits ≡ t
  told = ap (power_by field) f.bits ∙ power_is i i_low

  width : bits_by field s.bits ≡ i
  width = ap (bits_by field) f.bits ∙ bits_are i i_low

  carry_is : (m : ℕ) → m < 4 → limb_at field s.carries m ≡ carry_fill left t (limb_at field b m)
  carry_is m low = ap (λ (xs : List ℕ). slice_index xs m) f.carries ∙ carry_of left t b m low

  new_byte : (j : ℕ) → j < 4 → limb_at field a j < 256
  new_byte = each_byte a ba

  old_byte : (j : ℕ) → j < 4 → limb_at field b j < 256
  old_byte = each_byte b bb

  -- the limbs of the new word are the shifted word's
  digits_of : (f : ℕ → ℕ → ℕ) → list_of a ≡ limbs_of (f (word b) (c % 32)) → (m : ℕ) → m < 4 → limb_at field a m ≡ digit 256 (f (N (limb_at field b) 4) by) m
  digits_of f e m low =
      ap (λ (xs : List ℕ). slice_index xs m) e ∙ limb_digit _ m low
      ∙ ap (λ (v : ℕ). digit 256 v m) (ap (f (word b)) amount ∙ ap (λ (v : ℕ). f v by) (sym (number_at b)))

  amount_zero : AllZero (amount_constraints field 1 s)
  unfolding amount_constraints
  amount_zero =
      let q = flags_parts 8 i i_low in
      let m = flags_parts 4 l l_low in
      rw (f.bits, f.limbs) (all_append (λ x. x ≡ 0) (map (bit field) (one_hot 8 i)) _ q.0 (q.1, all_append (λ x. x ≡ 0) (map (bit field) (one_hot 4 l)) _ m.0 (m.1, tt)))

  part_small : amount_part field c (limbs_by_flags field s.limbs) (bits_by field s.bits) < 8
  part_small = rw (width, limbs_are s l f.limbs l_low, amount_back c c_low) (omega arith)

  -- ---- to the left

  module _ (is_left : left ≡ true) where
    out_left : (m : ℕ) → m < 4 → left_carries field s.carries (m + 1) ≡ limb_at field b m * t / 256
    out_left m low = left_carry s.carries m ∙ carry_is m low ∙ rw is_left refl

    small_left : (j : ℕ) → j < 5 → left_carries field s.carries j < t
    small_left = carry_small t (2 ^ (8 - i)) l (4 - l) (is_power i i_low) four (limb_at field b) (left_carries field s.carries) old_byte refl out_left

    left_zero : IsLeft t l (4 - l) (limb_at field a) (limb_at field b) (left_carries field s.carries) → AllZero (left_block field t (limb_at field a) (limb_at field b) (left_carries field s.carries) l)
    left_zero h = all_append (λ x. x ≡ 0) _ _
        (first_all (λ x. x ≡ 0) (λ j. field_sub (limb_at field a j) 0) l (λ j low. rw (h.below j low) refl))
        (first_all (λ x. x ≡ 0) (λ j. left_limb field t (limb_at field a (l + j)) (limb_at field b j) (left_carries field s.carries j) (left_carries field s.carries (j + 1))) (4 - l)
        (λ j low. left_back t (limb_at field a (l + j)) (limb_at field b j) (left_carries field s.carries j) (left_carries field s.carries (j + 1)) (omega (arith, t_small)) (new_byte (l + j) (omega arith)) (old_byte j (omega arith)) (omega (arith, small_left j (omega arith), t_small)) (omega (arith, small_left (j + 1) (omega arith), t_small)) (h.steps j low)))

    left_holds : (gate : ℕ) → list_of a ≡ limbs_of (shifted_left (word b) (c % 32)) → AllZero (left_constraints field gate s b a)
    unfolding left_constraints
    left_holds gate e =
        let shape = left_fill t (2 ^ (8 - i)) l (4 - l) (is_power i i_low) four (limb_at field b) (left_carries field s.carries) old_byte refl out_left (limb_at field a) by power (digits_of shifted_left e) in
        rw (told, f.limbs) (selected_holds gate (left_block field t (limb_at field a) (limb_at field b) (left_carries field s.carries)) l (left_zero shape))

  -- ---- to the right

  module _ (is_right : left ≡ false) where
    rest_is : (m : ℕ) → m < 4 → limb_at field s.carries m ≡ limb_at field b m % t
    rest_is m low = carry_is m low ∙ rw is_right refl

    module _ (g : ℕ) (bit : g ≤ 1) where
      abbrev carry : ℕ → ℕ
      carry = right_carries field s.carries t g

      small_right : (j : ℕ) → j < 5 → carry j < 256
      small_right j low = elim (cases_lt j 4) [
        | inl under ↦
            let rest : limb_at field b j % t < t = mod-lt (limb_at field b j) t_some in
            omega (arith, right_carry s.carries t g j under, rest_is j under, rest, t_small)
        | inr over ↦
            let here : j ≡ 4 = omega arith in
            rw here (omega (arith, right_top s.carries t g, top_below t g t_some t_small bit))
      ]

      right_zero : IsRight t g l (4 - l) (limb_at field a) (limb_at field b) carry → AllZero (right_block field t g (limb_at field a) (limb_at field b) carry l)
      right_zero h = all_append (λ x. x ≡ 0) _ _
          (first_all (λ x. x ≡ 0) (λ j. right_limb field t (limb_at field a j) (limb_at field b (l + j)) (carry (l + j)) (carry (l + j + 1))) (4 - l)
          (λ j low.
          let next : carry (l + (j + 1)) ≡ carry (l + j + 1) = ap carry (let e : l + (j + 1) ≡ l + j + 1 = omega arith in e) in
          right_back t (limb_at field a j) (limb_at field b (l + j)) (carry (l + j)) (carry (l + j + 1)) (omega (arith, t_small)) (new_byte j (omega arith)) (old_byte (l + j) (omega arith)) (small_right (l + j) (omega arith)) (small_right (l + j + 1) (omega arith)) (rw next at (h.steps j low))))
          (each_all (λ x. x ≡ 0) (λ j. field_sub (limb_at field a j) (field_mul 255 g)) (4 - l) l (λ j low. rw (h.above j low) (omega (arith, bit))))

      right_holds : (gate : ℕ) → list_of a ≡ limbs_of (shifted_in g (word b) (c % 32)) → AllZero (right_constraints field gate g s b a)
      unfolding right_constraints
      right_holds gate e =
          let out = λ (m : ℕ) (low : m < 4). right_carry s.carries t g m low ∙ rest_is m low in
          let top : carry 4 + g ≡ g * t = rw (right_top s.carries t g) (top_is t g t_some (omega (arith, t_small)) bit) in
          let shape = right_fill t (2 ^ (8 - i)) l (4 - l) (is_power i i_low) four l_low g bit (limb_at field b) carry old_byte out top (limb_at field a) by power by_low (digits_of (shifted_in g) e) in
          rw (told, f.limbs) (selected_holds gate (right_block field t g (limb_at field a) (limb_at field b) carry) l (right_zero shape))

  -- ---- the lookups

  carry_low : (x : Bool) → left ≡ x → (m : ℕ) → m < 4 → limb_at field s.carries m < t
  carry_low true same m low = subst (λ (v : ℕ). v < t) (left_carry s.carries m) (small_left same (m + 1) (omega (arith, low)))
  carry_low false other m low = rw (rest_is other m low) (mod-lt (limb_at field b m) t_some)

  carries_low : AllByRecursion (λ k. k < 2 ^ bits_by field s.bits) (list_of s.carries)
  unfolding list_of
  carries_low = rw width (carry_low left refl 0 (lit< tt), (carry_low left refl 1 (lit< tt), (carry_low left refl 2 (lit< tt), (carry_low left refl 3 (lit< tt), tt))))

  left_none : AllZero (left_constraints field 0 s b a)
  unfolding left_constraints
  left_none = selected_none 0 (list_of s.limbs) (left_block field (power_by field s.bits) (limb_at field a) (limb_at field b) (left_carries field s.carries)) refl

  right_none : (g : ℕ) → AllZero (right_constraints field 0 g s b a)
  unfolding right_constraints
  right_none g = selected_none 0 (list_of s.limbs) (right_block field (power_by field s.bits) g (limb_at field a) (limb_at field b) (right_carries field s.carries (power_by field s.bits) g)) refl

  shift_meets : ShiftMeets left c s b a
  unfolding shift_lookups
  shift_meets =
      let part = amount_part field c (limbs_by_flags field s.limbs) (bits_by field s.bits) ∷ [] in
      let n = bits_by field s.bits in
      let carries = range_lines field 1 n (list_of s.carries) in
      let new = range_lines field 1 8 (list_of a) in
      let one : 1 ≤ 1 = lit≤ tt in
      let Few = λ (e : Event). e.count ≤ 1 in
      let May = λ (e : Event). e.count ≢ 0 → GoodEvent e in
      record {
        zero = amount_zero;
        small = all_append Few (range_lines field 1 3 part) _ (ranges_count 1 1 3 part one) (all_append Few carries new (ranges_count 1 1 n (list_of s.carries) one) (ranges_count 1 1 8 (list_of a) one));
        good = all_append May (range_lines field 1 3 part) _ (good_ranges 1 3 part (lit≤ tt) (part_small, tt)) (all_append May carries new (good_ranges 1 n (list_of s.carries) (omega (arith, width, i_low)) carries_low) (good_ranges 1 8 (list_of a) (lit≤ tt) ba));
        left_off = left_none;
        right_off = right_none;
        to_left = λ gate same e. left_holds same gate e;
        to_right = λ gate g other bit e. right_holds other g bit gate e;
      }

carry_below : (left : Bool) (t x : ℕ) → x < 256 → 0 < t → t ≤ 256 → carry_fill left t x < 2013265921
carry_below true t x low some most = let few = mul-le x t 255 256 (omega arith) most in omega (arith, few)
carry_below false t x low some most = omega (arith, mod-lt x some)

pub filled_holds : (left : Bool) (c : ℕ) (b a : Limbs ℕ) → c < 256 → IsBytes (list_of b) → IsBytes (list_of a) → FilledShift left c b a
unfolding shift_filled list_of
filled_holds left c b a low bb ba =
    let t : ℕ = 2 ^ (c % 8) in
    let some : 0 < t = pow_pos (c % 8) in
    let most : t ≤ 256 = omega (arith, pow_below (c % 8) 8 (omega arith)) in
    let q = one_hot 8 (c % 8) in
    let m = one_hot 4 (c % 32 / 8) in
    let k : List ℕ = carry_fill left t b.x0 ∷ carry_fill left t b.x1 ∷ carry_fill left t b.x2 ∷ carry_fill left t b.x3 ∷ [] in
    let at = λ (x : ℕ) (h : x < 256). carry_below left t x h some most in
    record {
      long = omega (arith, length-append q (m ++ k), length-append m k, length-one_hot 8 (c % 8), length-one_hot 4 (c % 32 / 8));
      below = all_append (λ x. x < 2013265921) q _ (one_hot_below 8 (c % 8)) (all_append (λ x. x < 2013265921) m k (one_hot_below 4 (c % 32 / 8)) (at b.x0 bb.0, (at b.x1 bb.1.0, (at b.x2 bb.1.1.0, (at b.x3 bb.1.1.1.0, tt)))));
      meets = λ rest. shift_meets left c b a _ low bb ba (filled left c b rest);
    }

-- ---- how long the parts are, and that a row that is not valid looks nothing up

pub length-amount : (valid : ℕ) (own : List ℕ) → length (amount_constraints field valid (shift_columns field own)) ≡ 14
unfolding amount_constraints shift_columns list_of
length-amount valid own = refl

pub length-left : (gate : ℕ) (s : ShiftColumns ℕ) (b a : Limbs ℕ) → length (left_constraints field gate s b a) ≡ 16
unfolding left_constraints selected
length-left gate s b a = refl

pub length-right : (gate g : ℕ) (s : ShiftColumns ℕ) (b a : Limbs ℕ) → length (right_constraints field gate g s b a) ≡ 16
unfolding right_constraints selected
length-right gate g s b a = refl

pub length-lookups : (valid c : ℕ) (s : ShiftColumns ℕ) (a : Limbs ℕ) → length (shift_lookups field valid c s a) ≡ 9
unfolding shift_lookups list_of
length-lookups valid c s a = refl

pub silent : (valid c : ℕ) (s : ShiftColumns ℕ) (a : Limbs ℕ) → valid ≡ 0 → AllByRecursion (λ e. e.count ≡ 0) (shift_lookups field valid c s a)
unfolding shift_lookups list_of
silent valid c s a v = (v, (v, (v, (v, (v, (v, (v, (v, (v, tt)))))))))
