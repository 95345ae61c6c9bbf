-- What LT says, at any number of limbs.
use Rattle.std.proofs.Common.{◌≡◌, ℕ, zero, suc, ◌+◌, ◌-◌, ◌*◌, ◌%◌, ◌<◌, ◌≤◌, nat_lt, List, [], ◌∷◌, ◌++◌, length, map, refl, arith, inl, inr, ⊎_elim}
use Rattle.std.specs.Int.{from_bool}
use Rattle.std.specs.List.{AllByRecursion}
use Rattle.std.proofs.lemmas.Bool.{cases_eq}
use Rattle.std.proofs.lemmas.Bool.Decides.{nat_tests}
use Rattle.vm_field.specs.Field.{modulus, field_add, field_sub, field_mul}
use Rattle.vm_field.proofs.Constraints.{gated, boolean_at_most, zero_product}
use Rattle.vm_isa.specs.Words.{IsBytes}
use Rattle.air_core.specs.First.{bit}
use Rattle.air_core.specs.Ring.{field}
use Rattle.air_core.specs.Sheet.{AllZero}
use Rattle.air_core.specs.ListLemmas.{all_left, all_right}
use Rattle.gadget_limbs.specs.Number.{number_of}
use Rattle.gadget_limbs.specs.Less.{Digits, LessColumns, marks_sum, equal_above, marked_differs, top_constraint, differences, less_constraints, less_ranges, ordered}
use Rattle.gadget_limbs.specs.OrderLaws.{AreDigits, LessBelow, LessMeets}

-- the differences are those of the limbs
abbrev pub Differences : List ℕ → List ℕ → List ℕ → List ℕ → Type 0
Differences (m ∷ ms) (d ∷ ds) (x ∷ xs) (y ∷ ys) = (m ≤ 1) × (d ≡ field_sub y x) × (x < 256) × (y < 256) × Differences ms ds xs ys
Differences [] [] [] [] = Unit
Differences _ _ _ _ = ⊥

sum_whole : (ms ds xs ys : List ℕ) → Differences ms ds xs ys → length ms ≤ 64 → marks_sum field ms ≤ length ms
unfolding marks_sum
sum_whole [] [] [] [] h few = omega arith
sum_whole (m ∷ ms) (d ∷ ds) (x ∷ xs) (y ∷ ys) h few = omega (arith, h.0, sum_whole ms ds xs ys h.4 (omega arith))
sum_whole [] [] [] (y ∷ ys) h few = absurd h
sum_whole [] [] (x ∷ xs) ys h few = absurd h
sum_whole [] (d ∷ ds) xs ys h few = absurd h
sum_whole (m ∷ ms) [] xs ys h few = absurd h
sum_whole (m ∷ ms) (d ∷ ds) [] ys h few = absurd h
sum_whole (m ∷ ms) (d ∷ ds) (x ∷ xs) [] h few = absurd h

-- which of the two is below the other
pub record Order (sum less x y : ℕ) : Type 0 where
  pub same : sum ≡ 0 → x ≡ y
  pub below : sum ≡ 1 → less ≡ 1 → x < y
  pub above : sum ≡ 1 → less ≡ 0 → y < x

-- the limb that is marked
marked_up : (x y d dist : ℕ) → x < 256 → y < 256 → d ≡ field_sub y x → dist < 256 → field_mul 1 (field_sub (field_add dist 1) (field_mul (field_sub (field_mul 2 1) 1) d)) ≡ 0 → x < y
marked_up x y d dist p q e r h = omega arith

pub minus : (d : ℕ) → d < 2013265921 → (2013265920 * d) % 2013265921 ≡ (2013265921 - d) % 2013265921
minus zero h = refl
minus (suc k) h = omega arith

marked_down : (x y d dist : ℕ) → x < 256 → y < 256 → d ≡ field_sub y x → dist < 256 → field_mul 1 (field_sub (field_add dist 1) (field_mul (field_sub (field_mul 2 0) 1) d)) ≡ 0 → y < x
marked_down x y d dist p q e r h = let turned = minus d (omega (arith, e)) in omega arith

order_law : (dist less : ℕ) (ms ds xs ys : List ℕ) → Differences ms ds xs ys → length ms ≤ 64 → dist < 256 → marks_sum field ms ≤ 1
    → AllZero (equal_above field ms ds) → AllZero (marked_differs field dist less ms ds) → Order (marks_sum field ms) less (number_of xs) (number_of ys)
unfolding marks_sum equal_above marked_differs
order_law dist less [] [] [] [] h few r one eq mk = record { same = λ e. refl; below = λ e. absurd (omega arith); above = λ e. absurd (omega arith) }
order_law dist less (m ∷ ms) (d ∷ ds) (x ∷ xs) (y ∷ ys) h few r one eq mk =
    let t = marks_sum field ms in
    let small : t ≤ 64 = omega (arith, sum_whole ms ds xs ys h.4 (omega arith)) in
    let whole : field_add m t ≡ m + t = omega (arith, h.0) in
    let rest = order_law dist less ms ds xs ys h.4 (omega arith) r (omega arith) eq.1 mk.1 in
    elim (cases_eq m 1) [
      | inl marked ↦
          let none : t ≡ 0 = omega arith in
          let same = rest.same none in
          record {
            same = λ e. absurd (omega arith);
            below = λ e l. let up = marked_up x y d dist h.2 h.3 h.1 r (rw (marked, l) at mk.0) in omega arith;
            above = λ e l. let down = marked_down x y d dist h.2 h.3 h.1 r (rw (marked, l) at mk.0) in omega arith;
          }
      | inr other ↦
          let off : m ≡ 0 = omega (arith, h.0) in
          record {
            same = λ e. let none : t ≡ 0 = omega arith in let same = rest.same none in let gate : field_sub 1 (field_add m t) ≡ 1 = omega arith in
                let here : d ≡ 0 = gated _ d gate (omega (arith, h.1)) eq.0 in omega (arith, h.1, h.2, h.3);
            below = λ e l. let all : t ≡ 1 = omega arith in let lower = rest.below all l in omega (arith, h.2, h.3);
            above = λ e l. let all : t ≡ 1 = omega arith in let lower = rest.above all l in omega (arith, h.2, h.3);
          }
    ]
order_law dist less [] [] [] (y ∷ ys) h few r one eq mk = absurd h
order_law dist less [] [] (x ∷ xs) ys h few r one eq mk = absurd h
order_law dist less [] (d ∷ ds) xs ys h few r one eq mk = absurd h
order_law dist less (m ∷ ms) [] xs ys h few r one eq mk = absurd h
order_law dist less (m ∷ ms) (d ∷ ds) [] ys h few r one eq mk = absurd h
order_law dist less (m ∷ ms) (d ∷ ds) (x ∷ xs) [] h few r one eq mk = absurd h

-- a top limb that meets its constraint, moved by 128 where numbers are signed
top_is : (x top signed : ℕ) → x < 256 → top < modulus → signed ≤ 1 → top_constraint field x top ≡ 0 → field_add top (field_mul 128 signed) < 256 → field_add top (field_mul 128 signed) ≡ (x + 128 * signed) % 256
unfolding top_constraint
top_is x top signed p q bit h low =
    ⊎_elim (λ (e : field_sub x top ≡ 0). let is : top ≡ x = omega arith in omega arith) (λ (e : field_add (field_sub 256 x) top ≡ 0). omega arith)
    (zero_product (field_sub x top) (field_add (field_sub 256 x) top) (omega arith) (omega arith) h)

-- both moved, their difference stays
pub moved : (l r k : ℕ) → l < modulus → r < modulus → k < modulus → field_sub r l ≡ field_sub (field_add r k) (field_add l k)
moved l r k p q s = omega arith

bits_are : (ms : List ℕ) → AllByRecursion (λ m. m < 2013265921) ms → AllZero (map (bit field) ms) → AllByRecursion (λ m. m ≤ 1) ms
unfolding bit
bits_are [] b h = tt
bits_are (m ∷ ms) b h = (boolean_at_most m b.0 h.0, bits_are ms b.1 h.1)

bit_is : (x : ℕ) → x < 2013265921 → bit field x ≡ 0 → x ≤ 1
unfolding bit
bit_is x b h = boolean_at_most x b h

-- limbs below the top, and then the tops
are_differences : (ms xs ys : List ℕ) (l r a b : ℕ) → AllByRecursion (λ m. m ≤ 1) ms → length ms ≡ length xs + 1 → length xs ≡ length ys → IsBytes xs → IsBytes ys → field_sub r l ≡ field_sub b a → a < 256 → b < 256
    → Differences ms (differences field xs ys ++ (field_sub r l ∷ [])) (xs ++ (a ∷ [])) (ys ++ (b ∷ []))
unfolding differences
are_differences (m ∷ []) [] [] l r a b bits long e p q d s t = (bits.0, d, s, t, tt)
are_differences (m ∷ ms) (x ∷ xs) (y ∷ ys) l r a b bits long e p q d s t =
    (bits.0, refl, p.0, q.0, are_differences ms xs ys l r a b bits.1 (omega arith) (omega arith) p.1 q.1 d s t)
are_differences [] xs ys l r a b bits long e p q d s t = absurd (omega arith)
are_differences (m ∷ n ∷ ms) [] [] l r a b bits long e p q d s t = absurd (omega arith)
are_differences (m ∷ ms) [] (y ∷ ys) l r a b bits long e p q d s t = absurd (omega arith)
are_differences (m ∷ ms) (x ∷ xs) [] l r a b bits long e p q d s t = absurd (omega arith)

sum_below : (ms : List ℕ) → marks_sum field ms < modulus
unfolding marks_sum
sum_below [] = omega arith
sum_below (m ∷ ms) = omega arith

-- less as a test
test_of : (sum less x y : ℕ) → sum ≤ 1 → less ≤ 1 → (less ≡ 1 → sum ≡ 1) → Order sum less x y → less ≡ from_bool (nat_lt x y)
test_of sum less x y one bit marked order =
    elim (cases_eq less 1) [
      | inl up ↦ let below = order.below (marked up) up in grind (arith, nat_tests)
      | inr other ↦
          let down : less ≡ 0 = omega arith in
          elim (cases_eq sum 1) [
            | inl is ↦ let above = order.above is down in grind (arith, nat_tests)
            | inr none ↦ let same = order.same (omega arith) in grind (arith, nat_tests)
          ]
    ]

-- where the constraints are 0 and the ranges are bytes, less says whether the left number is below the right one
pub less_law : (signed : ℕ) (x y : Digits ℕ) (c : LessColumns ℕ) → signed ≤ 1 → AreDigits x → AreDigits y → length x.low ≡ length y.low → length x.low ≤ 63 → LessBelow x c → LessMeets signed x y c
    → c.less ≡ from_bool (nat_lt (ordered signed x) (ordered signed y))
unfolding less_constraints less_ranges
less_law signed x y c sign p q same few below h =
    let ms = c.marks in
    let k = field_mul 128 signed in
    let a = field_add c.left_top k in
    let b = field_add c.right_top k in
    let left = top_is x.top c.left_top signed p.top below.left_top sign h.zero.0 h.ranges.0 in
    let right = top_is y.top c.right_top signed q.top below.right_top sign h.zero.1.0 h.ranges.1.0 in
    let marks = bits_are ms below.marks (all_left (λ z. z ≡ 0) (map (bit field) ms) _ h.zero.1.1) in
    let more = all_right (λ z. z ≡ 0) (map (bit field) ms) _ h.zero.1.1 in
    let sum = marks_sum field ms in
    let one : sum ≤ 1 = bit_is sum (sum_below ms) more.0 in
    let less_bit : c.less ≤ 1 = bit_is c.less below.less more.1.0 in
    let marked : c.less ≡ 1 → sum ≡ 1 = λ e. let gate : field_mul 1 (field_sub 1 sum) ≡ 0 = rw e at more.1.1.0 in omega arith in
    let rest = more.1.1.1 in
    let ds = differences field x.low y.low ++ (field_sub c.right_top c.left_top ∷ []) in
    let apart = are_differences ms x.low y.low c.left_top c.right_top a b marks below.long same p.low q.low (moved c.left_top c.right_top k below.left_top below.right_top (omega arith)) h.ranges.0 h.ranges.1.0 in
    let order = order_law c.distance c.less ms ds (x.low ++ (a ∷ [])) (y.low ++ (b ∷ [])) apart (omega (arith, below.long)) h.ranges.1.1.0 one
    (all_left (λ z. z ≡ 0) (equal_above field ms ds) _ rest) (all_right (λ z. z ≡ 0) (equal_above field ms ds) _ rest) in
    rw (← left, ← right) (test_of sum c.less (number_of (x.low ++ (a ∷ []))) (number_of (y.low ++ (b ∷ []))) one less_bit marked order)
