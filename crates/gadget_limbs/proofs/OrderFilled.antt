-- The columns that are filled meet LT.
use Rattle.std.proofs.Common.{◌≡◌, ◌≢◌, ℕ, ◌+◌, ◌-◌, ◌*◌, ◌%◌, ◌<◌, ◌≤◌, ◌⊎◌, nat_eq, nat_lt, List, [], ◌∷◌, ◌++◌, length, map, refl, sym, ap, ◌∙◌, arith, inl, inr, length-append}
use Rattle.std.specs.Prelude.{if◌then◌else◌}
use Rattle.std.specs.Int.{from_bool}
use Rattle.std.specs.List.{AllByRecursion}
use Rattle.std.proofs.lemmas.Bool.{cases_eq, cases_lt, ne_eqb}
use Rattle.std.proofs.lemmas.Bool.Decides.{nat_tests}
use Rattle.vm_field.specs.Field.{field_add, field_sub, field_mul}
use Rattle.vm_field.proofs.Constraints.{gate_off, boolean_holds}
use Rattle.vm_isa.specs.Words.{IsBytes}
use Rattle.air_core.specs.First.{bit}
use Rattle.air_core.specs.Ring.{field}
use Rattle.air_core.specs.Sheet.{AllZero}
use Rattle.air_core.specs.ListLemmas.{all_append, all_weaker}
use Rattle.gadget_limbs.specs.Number.{number_of}
use Rattle.gadget_limbs.specs.Less.{Digits, count, mark, apart, marks_of, distance_of, below_of, marks_sum, equal_above, marked_differs, differences, top_constraint, less_constraints, less_ranges, less_filled, ordered_limbs}
use Rattle.gadget_limbs.specs.OrderLaws.{AreDigits, LessBelow, LessMeets}
use Rattle.gadget_limbs.proofs.Ordering.{minus, moved}

mark_on : (above x y : ℕ) → above ≡ 0 → x ≢ y → mark above x y ≡ 1
unfolding mark
mark_on above x y e h = grind (arith, nat_tests)

mark_same : (above x y : ℕ) → x ≡ y → mark above x y ≡ 0
unfolding mark
mark_same above x y e = grind (arith, nat_tests)

mark_off : (above x y : ℕ) → above ≢ 0 → mark above x y ≡ 0
unfolding mark
mark_off above x y h = grind (arith, nat_tests)

apart_up : (x y : ℕ) → x < y → apart x y ≡ y - x - 1
unfolding apart
apart_up x y h = grind (arith, nat_tests)

apart_down : (x y : ℕ) → y < x → apart x y ≡ x - y - 1
unfolding apart
apart_down x y h = grind (arith, nat_tests)

-- less says which is below, and the distance is that of the marked limb
abbrev pub Agrees : ℕ → ℕ → List ℕ → List ℕ → Type 0
Agrees dist less xs ys = count (marks_of xs ys) ≡ 1 → (dist ≡ distance_of xs ys) × (((less ≡ 1) × (number_of xs < number_of ys)) ⊎ ((less ≡ 0) × (number_of ys < number_of xs)))

pub record Marks (xs ys : List ℕ) : Type 0 where
  pub sum : (marks_sum field) (marks_of xs ys) ≡ count (marks_of xs ys)
  pub few : count (marks_of xs ys) ≤ 1
  pub same : count (marks_of xs ys) ≡ 0 → number_of xs ≡ number_of ys
  pub differ : count (marks_of xs ys) ≡ 1 → number_of xs ≢ number_of ys
  pub bits : AllByRecursion (λ m. m ≤ 1) (marks_of xs ys)
  pub above : AllZero ((equal_above field) (marks_of xs ys) (differences field xs ys))

differs_up : (x y dist : ℕ) → x < y → y < 256 → dist ≡ y - x - 1 → field_mul 1 (field_sub (field_add dist 1) (field_mul (field_sub (field_mul 2 1) 1) (field_sub y x))) ≡ 0
differs_up x y dist p q e = omega arith

differs_down : (x y dist : ℕ) → y < x → x < 256 → dist ≡ x - y - 1 → field_mul 1 (field_sub (field_add dist 1) (field_mul (field_sub (field_mul 2 0) 1) (field_sub y x))) ≡ 0
differs_down x y dist p q e = let turned = minus (field_sub y x) (omega arith) in omega arith

pick_none : (k a b : ℕ) → k ≡ 0 → (if nat_eq k 0 then a else b) ≡ a
pick_none k a b e = rw e refl

pick_some : (k a b : ℕ) → k ≢ 0 → (if nat_eq k 0 then a else b) ≡ b
pick_some k a b h = rw (ne_eqb k 0 h) refl

-- the marked limb
here_marked : (dist less x y X Y : ℕ) → x < 256 → y < 256 → X ≡ Y → dist ≡ apart x y → (((less ≡ 1) × (x + 256 * X < y + 256 * Y)) ⊎ ((less ≡ 0) × (y + 256 * Y < x + 256 * X)))
    → field_mul 1 (field_sub (field_add dist 1) (field_mul (field_sub (field_mul 2 less) 1) (field_sub y x))) ≡ 0
here_marked dist less x y X Y p q same e (inl (l, lt)) = let up : x < y = omega arith in rw l (differs_up x y dist up q (e ∙ apart_up x y up))
here_marked dist less x y X Y p q same e (inr (l, lt)) = let down : y < x = omega arith in rw l (differs_down x y dist down p (e ∙ apart_down x y down))

lower : (less x y X Y : ℕ) → x < 256 → y < 256 → X ≢ Y → (((less ≡ 1) × (x + 256 * X < y + 256 * Y)) ⊎ ((less ≡ 0) × (y + 256 * Y < x + 256 * X))) → (((less ≡ 1) × (X < Y)) ⊎ ((less ≡ 0) × (Y < X)))
lower less x y X Y p q h (inl (l, lt)) = inl (l, omega arith)
lower less x y X Y p q h (inr (l, lt)) = inr (l, omega arith)

pub marks_law : (xs ys : List ℕ) → length xs ≡ length ys → IsBytes xs → IsBytes ys → Marks xs ys
unfolding marks_of marks_sum differences equal_above
marks_law [] [] e p q = record { sum = refl; few = omega arith; same = λ z. refl; differ = λ z. absurd (omega arith); bits = tt; above = tt }
marks_law (x ∷ xs) (y ∷ ys) e p q =
    let k = count (marks_of xs ys) in
    let m = mark k x y in
    let rest = marks_law xs ys (omega arith) p.1 q.1 in
    elim (cases_eq k 0) [
      | inl none ↦
          let same = rest.same none in
          elim (cases_eq x y) [
            | inl equal ↦
                let off : m ≡ 0 = mark_same k x y equal in
                let gap : field_sub y x ≡ 0 = omega (arith, p.0, equal) in
                record {
                  sum = omega (arith, off, none, rest.sum);
                  few = omega (arith, off, none);
                  same = λ z. omega (arith, same, equal);
                  differ = λ z. absurd (omega (arith, z, off, none));
                  bits = (omega (arith, off), rest.bits);
                  above = (rw gap (omega arith), rest.above);
                }
            | inr other ↦
                let on : m ≡ 1 = mark_on k x y none other in
                record {
                  sum = omega (arith, on, none, rest.sum);
                  few = omega (arith, on, none);
                  same = λ z. absurd (omega (arith, z, on));
                  differ = λ z f. other (omega (arith, f, same, p.0, q.0));
                  bits = (omega (arith, on), rest.bits);
                  above = (gate_off _ _ (omega (arith, on, none, rest.sum)), rest.above);
                }
          ]
      | inr some ↦
          let off : m ≡ 0 = mark_off k x y some in
          let one : k ≡ 1 = omega (arith, rest.few) in
          let apart_below = rest.differ one in
          record {
            sum = omega (arith, off, one, rest.sum);
            few = omega (arith, off, one);
            same = λ z. absurd (omega (arith, z, off, one));
            differ = λ z f. apart_below (omega (arith, f, p.0, q.0));
            bits = (omega (arith, off), rest.bits);
            above = (gate_off _ _ (omega (arith, off, one, rest.sum)), rest.above);
          }
    ]
marks_law [] (y ∷ ys) e p q = absurd (omega arith)
marks_law (x ∷ xs) [] e p q = absurd (omega arith)

pub marked_law : (dist less : ℕ) (xs ys : List ℕ) → length xs ≡ length ys → IsBytes xs → IsBytes ys → Agrees dist less xs ys → AllZero ((marked_differs field) dist less (marks_of xs ys) (differences field xs ys))
unfolding marks_of differences marked_differs distance_of
marked_law dist less [] [] e p q h = tt
marked_law dist less (x ∷ xs) (y ∷ ys) e p q h =
    let k = count (marks_of xs ys) in
    let m = mark k x y in
    let tail = marks_law xs ys (omega arith) p.1 q.1 in
    elim (cases_eq k 0) [
      | inl none ↦
          let rest = marked_law dist less xs ys (omega arith) p.1 q.1 (λ one. absurd (omega arith)) in
          elim (cases_eq x y) [
            | inl equal ↦ (gate_off m _ (mark_same k x y equal), rest)
            | inr other ↦
                let on : m ≡ 1 = mark_on k x y none other in
                let agrees = h (omega arith) in
                (rw on (here_marked dist less x y (number_of xs) (number_of ys) p.0 q.0 (tail.same none) (agrees.0 ∙ pick_none k _ _ none) agrees.1), rest)
          ]
      | inr some ↦
          let off : m ≡ 0 = mark_off k x y some in
          let one : k ≡ 1 = omega (arith, tail.few) in
          let agrees = h (omega arith) in
          (gate_off m _ off, marked_law dist less xs ys (omega arith) p.1 q.1 (λ e. (agrees.0 ∙ pick_some k _ _ some, lower less x y (number_of xs) (number_of ys) p.0 q.0 (tail.differ one) agrees.1)))
    ]
marked_law dist less [] (y ∷ ys) e p q h = absurd (omega arith)
marked_law dist less (x ∷ xs) [] e p q h = absurd (omega arith)

apart_small : (x y : ℕ) → x < 256 → y < 256 → apart x y < 256
unfolding apart
apart_small x y p q = grind (arith, nat_tests)

pub distance_small : (xs ys : List ℕ) → IsBytes xs → IsBytes ys → distance_of xs ys < 256
unfolding distance_of
distance_small [] ys p q = omega arith
distance_small (x ∷ xs) [] p q = omega arith
distance_small (x ∷ xs) (y ∷ ys) p q =
    elim (cases_eq (count (marks_of xs ys)) 0) [
      | inl none ↦ omega (arith, pick_none (count (marks_of xs ys)) (apart x y) (distance_of xs ys) none, apart_small x y p.0 q.0)
      | inr some ↦ omega (arith, pick_some (count (marks_of xs ys)) (apart x y) (distance_of xs ys) some, distance_small xs ys p.1 q.1)
    ]

-- ---- the columns that are filled

marks_long : (xs ys : List ℕ) → length xs ≡ length ys → length (marks_of xs ys) ≡ length xs
unfolding marks_of
marks_long [] [] e = refl
marks_long (x ∷ xs) (y ∷ ys) e = omega (arith, marks_long xs ys (omega arith))
marks_long [] (y ∷ ys) e = absurd (omega arith)
marks_long (x ∷ xs) [] e = absurd (omega arith)

test_up : (x y : ℕ) → x < y → from_bool (nat_lt x y) ≡ 1
test_up x y h = grind (arith, nat_tests)

test_down : (x y : ℕ) → y ≤ x → from_bool (nat_lt x y) ≡ 0
test_down x y h = grind (arith, nat_tests)

test_small : (x y : ℕ) → from_bool (nat_lt x y) ≤ 1
test_small x y = grind (arith, nat_tests)

which : (l x y : ℕ) → x ≢ y → l ≡ from_bool (nat_lt x y) → ((l ≡ 1) × (x < y)) ⊎ ((l ≡ 0) × (y < x))
which l x y h e = elim (cases_lt x y) [
  | inl up ↦ inl (e ∙ test_up x y up, up)
  | inr down ↦ inr (e ∙ test_down x y down, omega arith)
]

-- the top limb of a signed number is itself, or 256 less
top_none : (x signed : ℕ) → x < 256 → signed ≤ 1 → top_constraint field x (field_sub ((x + 128 * signed) % 256) (128 * signed)) ≡ 0
unfolding top_constraint
top_none x signed p q =
    let top = field_sub ((x + 128 * signed) % 256) (128 * signed) in
    elim (cases_lt (x + 128 * signed) 256) [
      | inl under ↦ let none : field_sub x top ≡ 0 = omega arith in gate_off (field_sub x top) _ none
      | inr over ↦ let none : field_add (field_sub 256 x) top ≡ 0 = omega arith in rw none (omega arith)
    ]

top_back : (x signed : ℕ) → signed ≤ 1 → field_add (field_sub ((x + 128 * signed) % 256) (128 * signed)) (field_mul 128 signed) ≡ (x + 128 * signed) % 256
top_back x signed q = omega arith

-- the tops behind the limbs below them
pub differences_end : (xs ys : List ℕ) (a b : ℕ) → length xs ≡ length ys → differences field (xs ++ (a ∷ [])) (ys ++ (b ∷ [])) ≡ differences field xs ys ++ (field_sub b a ∷ [])
unfolding differences
differences_end [] [] a b e = refl
differences_end (x ∷ xs) (y ∷ ys) a b e = rw (differences_end xs ys a b (omega arith)) refl
differences_end [] (y ∷ ys) a b e = absurd (omega arith)
differences_end (x ∷ xs) [] a b e = absurd (omega arith)

bits_zero : (ms : List ℕ) → AllByRecursion (λ m. m ≤ 1) ms → AllZero (map (bit field) ms)
unfolding bit
bits_zero [] h = tt
bits_zero (m ∷ ms) h = (boolean_holds m h.0, bits_zero ms h.1)

bit_zero : (x : ℕ) → x ≤ 1 → bit field x ≡ 0
unfolding bit
bit_zero x h = boolean_holds x h

less_one : (l s : ℕ) → l ≤ 1 → s ≤ 1 → (s ≡ 0 → l ≡ 0) → field_mul l (field_sub 1 s) ≡ 0
less_one l s p q h = elim (cases_eq s 1) [
  | inl one ↦ rw one (omega arith)
  | inr other ↦ let none : l ≡ 0 = h (omega arith) in gate_off l _ none
]

ordered_bytes : (signed : ℕ) (x : Digits ℕ) → AreDigits x → IsBytes (ordered_limbs signed x)
ordered_bytes signed x p = all_append (λ n. n < 256) x.low ((x.top + 128 * signed) % 256 ∷ []) p.low (omega arith, tt)

ordered_long : (signed : ℕ) (x : Digits ℕ) → length (ordered_limbs signed x) ≡ length x.low + 1
ordered_long signed x = length-append x.low ((x.top + 128 * signed) % 256 ∷ [])

test_same : (x y X Y : ℕ) → X ≡ Y → nat_lt (x + 256 * X) (y + 256 * Y) ≡ nat_lt x y
test_same x y X Y e = grind (arith, nat_tests)

test_above : (x y X Y : ℕ) → x < 256 → y < 256 → X ≢ Y → nat_lt (x + 256 * X) (y + 256 * Y) ≡ nat_lt X Y
test_above x y X Y p q e = grind (arith, nat_tests)

-- the highest limb at which they differ says which is below the other
pub below_is : (xs ys : List ℕ) → length xs ≡ length ys → IsBytes xs → IsBytes ys → below_of xs ys ≡ from_bool (nat_lt (number_of xs) (number_of ys))
unfolding below_of
below_is [] [] e p q = refl
below_is (x ∷ xs) (y ∷ ys) e p q =
    let law = marks_law xs ys (omega arith) p.1 q.1 in
    let k = count (marks_of xs ys) in
    elim (cases_eq k 0) [
      | inl none ↦ pick_none k _ _ none ∙ ap from_bool (sym (test_same x y (number_of xs) (number_of ys) (law.same none)))
      | inr some ↦ pick_some k _ _ some ∙ below_is xs ys (omega arith) p.1 q.1 ∙ ap from_bool (sym (test_above x y (number_of xs) (number_of ys) p.0 q.0 (law.differ (omega (arith, law.few)))))
    ]
below_is [] (y ∷ ys) e p q = absurd (omega arith)
below_is (x ∷ xs) [] e p q = absurd (omega arith)

pub less_holds : (signed : ℕ) (x y : Digits ℕ) → signed ≤ 1 → AreDigits x → AreDigits y → length x.low ≡ length y.low
    → LessBelow x (less_filled signed x y) × LessMeets signed x y (less_filled signed x y)
unfolding less_filled less_constraints less_ranges
less_holds signed x y sign p q same =
    let xs = ordered_limbs signed x in
    let ys = ordered_limbs signed y in
    let k = 128 * signed in
    let a = (x.top + k) % 256 in
    let b = (y.top + k) % 256 in
    let l = field_sub a k in
    let r = field_sub b k in
    let less = below_of xs ys in
    let long : length xs ≡ length ys = omega (arith, same, ordered_long signed x, ordered_long signed y) in
    let px = ordered_bytes signed x p in
    let py = ordered_bytes signed y q in
    let law = marks_law xs ys long px py in
    let is = below_is xs ys long px py in
    let small : less ≤ 1 = omega (arith, is, test_small (number_of xs) (number_of ys)) in
    let agrees : Agrees (distance_of xs ys) less xs ys = λ e. (refl, which less (number_of xs) (number_of ys) (law.differ e) is) in
    let none : count (marks_of xs ys) ≡ 0 → less ≡ 0 = λ e. let equal = law.same e in is ∙ test_down (number_of xs) (number_of ys) (omega (arith, equal)) in
    let gap : field_sub r l ≡ field_sub b a =
    moved l r (field_mul 128 signed) (omega arith) (omega arith) (omega arith) ∙ ap (λ (n : ℕ). field_sub n (field_add l (field_mul 128 signed))) (top_back y.top signed sign) ∙ ap (λ (n : ℕ). field_sub b n) (top_back x.top signed sign) in
    let are : differences field x.low y.low ++ (field_sub r l ∷ []) ≡ differences field xs ys =
    ap (λ (n : ℕ). differences field x.low y.low ++ (n ∷ [])) gap ∙ sym (differences_end x.low y.low a b same) in (
      record {
        long = omega (arith, marks_long xs ys long, ordered_long signed x);
        left_top = omega arith;
        right_top = omega arith;
        marks = all_weaker (λ m. m ≤ 1) (λ m. m < 2013265921) (λ m h. omega (arith, h)) (marks_of xs ys) law.bits;
        less = omega (arith, small);
      },
      record {
        zero = (
          top_none x.top signed p.top sign,
          (
            top_none y.top signed q.top sign,
            rw are (all_append (λ z. z ≡ 0) _ _ (bits_zero (marks_of xs ys) law.bits) (
              bit_zero _ (omega (arith, law.sum, law.few)),
              (
                bit_zero less small,
                (
                  less_one less _ small (omega (arith, law.sum, law.few)) (λ e. none (omega (arith, law.sum))),
                  all_append (λ z. z ≡ 0) _ _ law.above (marked_law (distance_of xs ys) less xs ys long px py agrees),
                ),
              ),
            )),
          ),
        );
        ranges = (omega (arith, top_back x.top signed sign), (omega (arith, top_back y.top signed sign), (distance_small xs ys px py, tt)));
      },
    )
