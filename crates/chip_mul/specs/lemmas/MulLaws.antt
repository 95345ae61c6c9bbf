-- The laws of the core of MUL, MULH, MULHSU and MULHU.
use Rattle.std.proofs.Common.{◌≡◌, ◌≢◌, ℕ, zero, suc, ◌+◌, ◌*◌, ◌/◌, ◌%◌, ◌^◌, ◌<◌, ◌≤◌, ◌&&◌, Bool, true, false, nat_eq, List, [], ◌∷◌, ◌++◌, length, slice_index, refl, sym, ap, subst, ◌∙◌, arith, lit≤}
use Rattle.std.specs.Int.{from_bool}
use Rattle.std.specs.List.{AllByRecursion, list_any}
use Rattle.vm_field.specs.Field.{modulus}
use Rattle.vm_field.specs.declared.limbs.Limbs.{Limbs}
use Rattle.vm_field.specs.Limbs.{list_of, LimbsBelow}
use Rattle.vm_word.specs.Word.{word_of_limbs, limbs_of}
use Rattle.vm_word.specs.Arithmetic.{is_negative, low_product, high_product, high_product_signed, high_product_mixed}
use Rattle.vm_isa.specs.Words.{IsBytes}
use Rattle.vm_isa.specs.Results.{result, mul_div}
use Rattle.air_core.specs.declared.bus.TheConstants.{XOR}
use Rattle.air_core.specs.declared.event.Event.{Event}
use Rattle.air_core.specs.First.{bit}
use Rattle.air_core.specs.Flags.{sum_from, one_hot, opcode_place}
use Rattle.air_core.specs.FlagLaws.{sum_none}
use Rattle.air_core.specs.ListLemmas.{all_left, all_right, all_append, below_at, by_zero_test, zero_test}
use Rattle.air_core.specs.Lookups.{GoodEvent}
use Rattle.air_core.proofs.LookupLemmas.{good_xor}
use Rattle.air_core.specs.Ring.{field}
use Rattle.air_core.specs.Sheet.{AllZero, AllBelow, sent}
use Rattle.air_core.specs.lemmas.OneHot.{is_place, sum_one}
use Rattle.gadget_limbs.specs.Lookup.{choose}
use Rattle.gadget_limbs.specs.Ranges.{range_lines}
use Rattle.gadget_limbs.specs.Sign.{sign_constraints, sign_looked_up}
use Rattle.gadget_limbs.proofs.LimbsLaws.{word_below, limbs_word, bytes_below}
use Rattle.gadget_limbs.proofs.RangeLaws.{ranges_good, good_ranges, ranges_count, ranges_silent}
use Rattle.gadget_limbs.proofs.SignLaws.{sign_full, sign_full_zero, sign_full_row, from_bool_small, sign_number}
use Rattle.gadget_products.specs.Product.{places}
use Rattle.gadget_products.specs.Carry.{carries}
use Rattle.gadget_products.specs.Multiply.{product_carries}
use Rattle.gadget_products.specs.Laws.{word, word_in, extended_word, Below11}
use Rattle.gadget_products.proofs.MultiplyLaws.{multiply_law, multiply_holds}
use Rattle.gadget_products.proofs.Products.{Product, both_signed, first_signed, unsigned_high, unsigned_low}
use Rattle.adapter_regs.specs.Core.{Operands, CoreLaws, IsCoreAt, IsResult, IsResultOf, IsGoodCore, IsPlaced, IsLookup, no_operands}
use Rattle.chip_mul.specs.Mul.{Products, products_of, left_signed, right_signed, chosen, mul_lookups, mul_constraints, left_is_signed, right_is_signed, mul_filled, mul_opcodes, mul_core}

abbrev Silent : Event → Type 0
Silent e = e.count ≡ 0

abbrev MaySend : Event → Type 0
MaySend e = e.count ≢ 0 → GoodEvent e

-- ---- a row of one flag

-- the columns are elements, and the constraints 0 and the lookups good
record Holds (c : Products ℕ) (flags : List ℕ) (left right : Limbs ℕ) : Type 0 where
  left_low : c.left_sign < modulus
  right_low : c.right_sign < modulus
  low_below : LimbsBelow c.low
  high_below : LimbsBelow c.high
  left_bytes : IsBytes (list_of left)
  right_bytes : IsBytes (list_of right)
  zero : AllZero (sign_constraints field c.left_sign (left_signed field flags) ++ sign_constraints field c.right_sign (right_signed field flags))
  good : AllByRecursion MaySend (mul_lookups field (sum_from field 0 flags) (left_signed field flags) (right_signed field flags) c left right)

-- what they say, where t and s tell which words are signed
record Says (t s : Bool) (c : Products ℕ) (left right : Limbs ℕ) : Type 0 where
  left_is : c.left_sign ≡ from_bool (t && is_negative (word left))
  right_is : c.right_sign ≡ from_bool (s && is_negative (word right))
  low_bytes : IsBytes (list_of c.low)
  high_bytes : IsBytes (list_of c.high)
  product : Product c.left_sign c.right_sign (word left) (word right) (word c.low) (word c.high)

says : (t s : Bool) (c : Products ℕ) (flags : List ℕ) (left right : Limbs ℕ) → Holds c flags left right → sum_from field 0 flags ≡ 1 → left_signed field flags ≡ from_bool t → right_signed field flags ≡ from_bool s → Says t s c left right
unfolding mul_lookups
says t s c flags left right h v e f =
    let some : sum_from field 0 flags ≢ 0 = λ none. absurd (omega arith) in
    let ks = product_carries field c.left_sign c.right_sign left right c.low c.high in
    let rest = h.good.1.1 in
    let carries : Below11 ks = ranges_good (sum_from field 0 flags) 11 ks some (all_left MaySend (range_lines field (sum_from field 0 flags) 11 ks) _ rest) in
    let limbs = list_of c.low ++ list_of c.high in
    let bytes : IsBytes limbs = ranges_good (sum_from field 0 flags) 8 limbs some (all_right MaySend (range_lines field (sum_from field 0 flags) 11 ks) _ rest) in
    let low : IsBytes (list_of c.low) = all_left (λ x. x < 256) (list_of c.low) (list_of c.high) bytes in
    let high : IsBytes (list_of c.high) = all_right (λ x. x < 256) (list_of c.low) (list_of c.high) bytes in
    let gb = sign_full t c.left_sign (left_signed field flags) left e h.left_low h.left_bytes (all_left (λ x. x ≡ 0) (sign_constraints field c.left_sign (left_signed field flags)) _ h.zero) (λ n. (h.good.0 n).xor refl) in
    let gc = sign_full s c.right_sign (right_signed field flags) right f h.right_low h.right_bytes (all_right (λ x. x ≡ 0) (sign_constraints field c.left_sign (left_signed field flags)) _ h.zero) (λ n. (h.good.1.0 n).xor refl) in
    let law = multiply_law c.left_sign c.right_sign left right c.low c.high (omega (arith, gb, from_bool_small (t && is_negative (word left)))) (omega (arith, gc, from_bool_small (s && is_negative (word right)))) h.left_bytes h.right_bytes low high carries in
    record {
      left_is = gb;
      right_is = gc;
      low_bytes = low;
      high_bytes = high;
      product = record { b_below = word_below left h.left_bytes; c_below = word_below right h.right_bytes; low_below = word_below c.low low; is = law };
    }

choose_low : (a b : ℕ) → a < modulus → choose field 1 1 a b ≡ a
unfolding choose
choose_low a b below = omega arith

choose_high : (a b : ℕ) → b < modulus → choose field 1 0 a b ≡ b
unfolding choose
choose_high a b below = omega arith

chosen_low : (c : Products ℕ) → LimbsBelow c.low → chosen field 1 1 c ≡ c.low
unfolding chosen
chosen_low c h = rw (choose_low c.low.x0 c.high.x0 h.x0, choose_low c.low.x1 c.high.x1 h.x1, choose_low c.low.x2 c.high.x2 h.x2, choose_low c.low.x3 c.high.x3 h.x3) refl

chosen_high : (c : Products ℕ) → LimbsBelow c.high → chosen field 1 0 c ≡ c.high
unfolding chosen
chosen_high c h = rw (choose_high c.low.x0 c.high.x0 h.x0, choose_high c.low.x1 c.high.x1 h.x1, choose_high c.low.x2 c.high.x2 h.x2, choose_high c.low.x3 c.high.x3 h.x3) refl

-- what the opcodes make of two words
record Results : Type 0 where
  low : (b c : ℕ) → result 29 b c ≡ low_product b c
  signed : (b c : ℕ) → result 30 b c ≡ high_product_signed b c
  mixed : (b c : ℕ) → result 31 b c ≡ high_product_mixed b c
  high : (b c : ℕ) → result 32 b c ≡ high_product b c

results : Results
unfolding result mul_div
results = record { low = λ b c. refl; signed = λ b c. refl; mixed = λ b c. refl; high = λ b c. refl }

signs : (k : ℕ) → k < 4 → (left_signed field (one_hot 4 k) ≡ from_bool (left_is_signed k)) × (right_signed field (one_hot 4 k) ≡ from_bool (right_is_signed k))
unfolding left_signed
signs zero h = (refl, refl)
signs (suc zero) h = (refl, refl)
signs (suc (suc zero)) h = (refl, refl)
signs (suc (suc (suc zero))) h = (refl, refl)
signs (suc (suc (suc (suc k)))) h = absurd (omega arith)

module _ (fs own : List ℕ) (b c : Limbs ℕ) (low : AllBelow own) (p : IsBytes (list_of b)) (q : IsBytes (list_of c)) where
  abbrev o : Operands ℕ
  o = record { flags = fs; left = b; right = c; own = own }

  holds : AllZero (mul_core.parts.constraints o) → AllByRecursion MaySend (mul_core.parts.lookups o) → Holds (products_of field own) fs b c
  unfolding products_of
  holds z g = record {
    left_low = below_at own 8 low;
    right_low = below_at own 9 low;
    low_below = record { x0 = below_at own 0 low; x1 = below_at own 1 low; x2 = below_at own 2 low; x3 = below_at own 3 low };
    high_below = record { x0 = below_at own 4 low; x1 = below_at own 5 low; x2 = below_at own 6 low; x3 = below_at own 7 low };
    left_bytes = p;
    right_bytes = q;
    zero = z;
    good = g;
  }

  of_low : (op : ℕ) → sum_from field 0 fs ≡ 1 → slice_index fs 0 ≡ 1 → Holds (products_of field own) fs b c → IsBytes (list_of (products_of field own).low) → word (products_of field own).low ≡ result op (word b) (word c) → IsResult op o (mul_core.parts.new o)
  of_low op v one h bytes is =
      let same : mul_core.parts.new o ≡ (products_of field own).low = rw (v, one) (chosen_low (products_of field own) h.low_below) in
      record { bytes = rw same bytes; result_is = rw same is }

  of_high : (op : ℕ) → sum_from field 0 fs ≡ 1 → slice_index fs 0 ≡ 0 → Holds (products_of field own) fs b c → IsBytes (list_of (products_of field own).high) → word (products_of field own).high ≡ result op (word b) (word c) → IsResult op o (mul_core.parts.new o)
  of_high op v none h bytes is =
      let same : mul_core.parts.new o ≡ (products_of field own).high = rw (v, none) (chosen_high (products_of field own) h.high_below) in
      record { bytes = rw same bytes; result_is = rw same is }

  sound_at : (k : ℕ) → k < 4 → fs ≡ one_hot 4 k → Holds (products_of field own) fs b c → IsResult (slice_index mul_core.opcodes k) o (mul_core.parts.new o)
  sound_at zero small e h =
      let v : sum_from field 0 fs ≡ 1 = ap (sum_from field 0) e in
      let t = says false false (products_of field own) fs b c h v (ap (left_signed field) e ∙ (signs 0 small).0) (ap (right_signed field) e ∙ (signs 0 small).1) in
      of_low 29 v (ap (λ (xs : List ℕ). slice_index xs 0) e) h t.low_bytes (unsigned_low _ _ _ _ _ _ t.product t.left_is t.right_is ∙ sym (results.low (word b) (word c)))
  sound_at (suc zero) small e h =
      let v : sum_from field 0 fs ≡ 1 = ap (sum_from field 0) e in
      let t = says true true (products_of field own) fs b c h v (ap (left_signed field) e ∙ (signs 1 small).0) (ap (right_signed field) e ∙ (signs 1 small).1) in
      of_high 30 v (ap (λ (xs : List ℕ). slice_index xs 0) e) h t.high_bytes
      (both_signed _ _ _ _ _ _ t.product (t.left_is ∙ sign_number (word b) t.product.b_below) (t.right_is ∙ sign_number (word c) t.product.c_below) ∙ sym (results.signed (word b) (word c)))
  sound_at (suc (suc zero)) small e h =
      let v : sum_from field 0 fs ≡ 1 = ap (sum_from field 0) e in
      let t = says true false (products_of field own) fs b c h v (ap (left_signed field) e ∙ (signs 2 small).0) (ap (right_signed field) e ∙ (signs 2 small).1) in
      of_high 31 v (ap (λ (xs : List ℕ). slice_index xs 0) e) h t.high_bytes
      (first_signed _ _ _ _ _ _ t.product (t.left_is ∙ sign_number (word b) t.product.b_below) t.right_is ∙ sym (results.mixed (word b) (word c)))
  sound_at (suc (suc (suc zero))) small e h =
      let v : sum_from field 0 fs ≡ 1 = ap (sum_from field 0) e in
      let t = says false false (products_of field own) fs b c h v (ap (left_signed field) e ∙ (signs 3 small).0) (ap (right_signed field) e ∙ (signs 3 small).1) in
      of_high 32 v (ap (λ (xs : List ℕ). slice_index xs 0) e) h t.high_bytes (unsigned_high _ _ _ _ _ _ t.product t.left_is t.right_is ∙ sym (results.high (word b) (word c)))
  sound_at (suc (suc (suc (suc k)))) small e h = absurd (omega arith)

-- ---- complete

limbs_make : (n : ℕ) → word_of_limbs (limbs_of n) ≡ n % 2 ^ 32
limbs_make n = omega arith

-- the columns that are filled
record Filled (n m g h : ℕ) (c : Products ℕ) : Type 0 where
  low : list_of c.low ≡ limbs_of n
  high : list_of c.high ≡ limbs_of m
  left : c.left_sign ≡ g
  right : c.right_sign ≡ h

filled_are : (n m g h : ℕ) → Filled n m g h (products_of field (limbs_of n ++ (limbs_of m ++ (g ∷ h ∷ []))))
unfolding products_of list_of
filled_are n m g h = record { low = refl; high = refl; left = refl; right = refl }

both_halves : (x : ℕ) → x < 2 ^ 64 → x % 2 ^ 32 % 2 ^ 32 + 2 ^ 32 * (x / 2 ^ 32 % 2 ^ 32) ≡ x
both_halves x p = omega arith

complete_at : (t s : Bool) (flags : List ℕ) (c : Products ℕ) (b d : Limbs ℕ) (x : ℕ) → IsBytes (list_of b) → IsBytes (list_of d)
    → sum_from field 0 flags ≡ 1 → left_signed field flags ≡ from_bool t → right_signed field flags ≡ from_bool s
    → x ≡ extended_word (from_bool (t && is_negative (word b))) (word b) * extended_word (from_bool (s && is_negative (word d))) (word d) % 2 ^ 64
    → Filled (x % 2 ^ 32) (x / 2 ^ 32) (from_bool (t && is_negative (word b))) (from_bool (s && is_negative (word d))) c
    → AllZero (sign_constraints field c.left_sign (left_signed field flags) ++ sign_constraints field c.right_sign (right_signed field flags)) × (AllByRecursion (λ e. e.count ≤ 1) (mul_lookups field (sum_from field 0 flags) (left_signed field flags) (right_signed field flags) c b d) × AllByRecursion MaySend (mul_lookups field (sum_from field 0 flags) (left_signed field flags) (right_signed field flags) c b d))
unfolding mul_lookups
complete_at t s flags c b d x p q v e f is fill =
    let low : IsBytes (list_of c.low) = subst IsBytes (sym fill.low) (limbs_word (x % 2 ^ 32)).bytes in
    let high : IsBytes (list_of c.high) = subst IsBytes (sym fill.high) (limbs_word (x / 2 ^ 32)).bytes in
    let whole : word c.low + 2 ^ 32 * word c.high ≡ x =
    ap (λ (xs : List ℕ). word_of_limbs xs + 2 ^ 32 * word c.high) fill.low ∙ ap (λ (xs : List ℕ). word_of_limbs (limbs_of (x % 2 ^ 32)) + 2 ^ 32 * word_of_limbs xs) fill.high
    ∙ rw (limbs_make (x % 2 ^ 32), limbs_make (x / 2 ^ 32)) (both_halves x (omega (arith, is))) in
    let product : word c.low + 2 ^ 32 * word c.high ≡ extended_word c.left_sign (word b) * extended_word c.right_sign (word d) % 2 ^ 64 = whole ∙ is ∙ rw (fill.left, fill.right) refl in
    let carries = multiply_holds c.left_sign c.right_sign b d c.low c.high (omega (arith, fill.left, from_bool_small (t && is_negative (word b)))) (omega (arith, fill.right, from_bool_small (s && is_negative (word d)))) p q low high product in
    let n = sum_from field 0 flags in
    let ks = product_carries field c.left_sign c.right_sign b d c.low c.high in
    let limbs = list_of c.low ++ list_of c.high in
    let most : n ≤ 1 = omega (arith, v) in (
      all_append (λ y. y ≡ 0) _ _ (sign_full_zero t c.left_sign (left_signed field flags) b e fill.left) (sign_full_zero s c.right_sign (right_signed field flags) d f fill.right),
      (
        (
          omega (arith, e, from_bool_small t),
          (
            omega (arith, f, from_bool_small s),
            all_append (λ (e : Event). e.count ≤ 1) (range_lines field n 11 ks) (range_lines field n 8 limbs) (ranges_count n 1 11 ks most) (ranges_count n 1 8 limbs most),
          ),
        ),
        (
          λ some. good_xor _ refl (sign_full_row t c.left_sign (left_signed field flags) b e p fill.left some),
          (
            λ some. good_xor _ refl (sign_full_row s c.right_sign (right_signed field flags) d f q fill.right some),
            all_append MaySend (range_lines field n 11 ks) (range_lines field n 8 limbs) (good_ranges n 11 ks (lit≤ tt) carries) (good_ranges n 8 limbs (lit≤ tt) (all_append (λ x. x < 256) (list_of c.low) (list_of c.high) low high)),
          ),
        ),
      ),
    )

filled_columns : (place m n : ℕ) (own : List ℕ) → own ≡ mul_filled place m n
    → (x : ℕ) × (x ≡ extended_word (from_bool (left_is_signed place && is_negative m)) m * extended_word (from_bool (right_is_signed place && is_negative n)) n % 2 ^ 64)
    × Filled (x % 2 ^ 32) (x / 2 ^ 32) (from_bool (left_is_signed place && is_negative m)) (from_bool (right_is_signed place && is_negative n)) (products_of field own)
unfolding mul_filled
filled_columns place m n own e =
    let g = from_bool (left_is_signed place && is_negative m) in
    let h = from_bool (right_is_signed place && is_negative n) in
    let x = extended_word g m * extended_word h n % 2 ^ 64 in
    (x, refl, rw e (filled_are (x % 2 ^ 32) (x / 2 ^ 32) g h))

word_in_is : (w : Limbs ℕ) → IsBytes (list_of w) → word_in w ≡ word w
word_in_is w p = omega (arith, word_below w p)

filled_words : (place : ℕ) (b d : Limbs ℕ) → IsBytes (list_of b) → IsBytes (list_of d) → mul_filled place (word_in b) (word_in d) ≡ mul_filled place (word b) (word d)
filled_words place b d p q = ap (λ (m : ℕ). mul_filled place m (word_in d)) (word_in_is b p) ∙ ap (mul_filled place (word b)) (word_in_is d q)

complete : (k : ℕ) (o : Operands ℕ) → IsCoreAt mul_core k o → o.own ≡ mul_filled k (word_in o.left) (word_in o.right) → IsGoodCore mul_core o
complete k o at filled =
    let cols = filled_columns k (word o.left) (word o.right) o.own (filled ∙ filled_words k o.left o.right at.left at.right) in
    let all = complete_at (left_is_signed k) (right_is_signed k) o.flags (products_of field o.own) o.left o.right cols.0 at.left at.right
    (ap (sum_from field 0) at.flags ∙ sum_one 4 k at.below) (ap (left_signed field) at.flags ∙ (signs k at.below).0) (ap (right_signed field) at.flags ∙ (signs k at.below).1) cols.1 cols.2 in
    record { zero = all.0; small = all.1.0; good = all.1.1 }

-- ---- the other laws

none_at : (xs : List ℕ) (i : ℕ) → AllZero xs → slice_index xs i ≡ 0
none_at [] i h = refl
none_at (x ∷ xs) zero h = h.0
none_at (x ∷ xs) (suc i) h = none_at xs i h.1

silent : (flags : List ℕ) (c : Products ℕ) (b d : Limbs ℕ) → AllZero flags → AllByRecursion Silent (mul_lookups field (sum_from field 0 flags) (left_signed field flags) (right_signed field flags) c b d)
unfolding mul_lookups left_signed
silent flags c b d none =
    let v = sum_none flags none in
    let ks = product_carries field c.left_sign c.right_sign b d c.low c.high in
    let limbs = list_of c.low ++ list_of c.high in (
      omega (arith, none_at flags 1 none, none_at flags 2 none),
      (none_at flags 1 none, all_append Silent (range_lines field (sum_from field 0 flags) 11 ks) (range_lines field (sum_from field 0 flags) 8 limbs) (ranges_silent (sum_from field 0 flags) 11 ks v) (ranges_silent (sum_from field 0 flags) 8 limbs v)),
    )

range_lookups : (count width : ℕ) (xs : List ℕ) → AllByRecursion IsLookup (range_lines field count width xs)
range_lookups count width [] = tt
range_lookups count width (x ∷ xs) = (record { low = lit≤ tt; high = lit≤ tt; side = refl }, range_lookups count width xs)

are_lookups : (flags : List ℕ) (c : Products ℕ) (b d : Limbs ℕ) → AllByRecursion IsLookup (mul_lookups field (sum_from field 0 flags) (left_signed field flags) (right_signed field flags) c b d)
unfolding mul_lookups
are_lookups flags c b d =
    let v = sum_from field 0 flags in
    let ks = product_carries field c.left_sign c.right_sign b d c.low c.high in
    let limbs = list_of c.low ++ list_of c.high in
    (record { low = lit≤ tt; high = lit≤ tt; side = refl }, (record { low = lit≤ tt; high = lit≤ tt; side = refl }, all_append IsLookup (range_lines field v 11 ks) (range_lines field v 8 limbs) (range_lookups v 11 ks) (range_lookups v 8 limbs)))

few : (flags : List ℕ) (c : Products ℕ) (b d : Limbs ℕ) → length (mul_lookups field (sum_from field 0 flags) (left_signed field flags) (right_signed field flags) c b d) ≤ 240
unfolding mul_lookups product_carries carries places list_of
few flags c b d = lit≤ tt

zeros : AllZero (mul_core.parts.constraints (no_operands mul_core))
unfolding products_of left_signed sign_constraints bit zero_test
zeros = by_zero_test (mul_core.parts.constraints (no_operands mul_core)) refl

filled_below : (n m g h : ℕ) → g ≤ 1 → h ≤ 1 → AllBelow (limbs_of n ++ (limbs_of m ++ (g ∷ h ∷ [])))
filled_below n m g h p q =
    all_append (λ x. x < 2013265921) (limbs_of n) (limbs_of m ++ (g ∷ h ∷ [])) (bytes_below (limbs_of n) (limbs_word n).bytes)
    (all_append (λ x. x < 2013265921) (limbs_of m) (g ∷ h ∷ []) (bytes_below (limbs_of m) (limbs_word m).bytes) (omega arith, (omega arith, tt)))

columns : (place m n : ℕ) → (length (mul_filled place m n) ≡ 10) × AllBelow (mul_filled place m n)
unfolding mul_filled
columns place m n = (refl, filled_below _ _ _ _ (from_bool_small (left_is_signed place && is_negative m)) (from_bool_small (right_is_signed place && is_negative n)))

placed : (op : ℕ) (left right new : Limbs ℕ) → list_any (nat_eq op) mul_opcodes ≡ true → IsPlaced mul_core op left right new
placed op left right new own =
    let p = is_place mul_opcodes op own in
    let c = columns (opcode_place mul_opcodes op) (word_in left) (word_in right) in
    record { below = p.below; opcode = p.is; long = c.0; own_below = c.1 }

pub mul_laws : CoreLaws mul_core
mul_laws = record {
  some = lit≤ tt;
  few_flags = lit≤ tt;
  narrow = lit≤ tt;
  registers = (refl, (refl, (refl, (refl, tt))));
  products = λ e. (refl, (refl, (refl, (refl, tt))));
  lookups = λ o. are_lookups o.flags (products_of field o.own) o.left o.right;
  few_lookups = λ o. few o.flags (products_of field o.own) o.left o.right;
  silent = λ o none. silent o.flags (products_of field o.own) o.left o.right none;
  zeros = zeros;
  sound = λ k o at zero good. sound_at o.flags o.own o.left o.right at.own_below at.left at.right k at.below at.flags (holds o.flags o.own o.left o.right at.own_below at.left at.right zero good);
  placed = λ op left right new own p q word. placed op left right new own;
  complete = λ op o new at word is filled. complete (opcode_place mul_opcodes op) o at filled;
}
