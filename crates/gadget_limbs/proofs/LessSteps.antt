-- How LT's constraints and columns go on from a limb to those above it.
use Rattle.std.proofs.Common.{◌≡◌, ℕ, ◌+◌, ◌*◌, ◌<◌, ◌≤◌, nat_lt, nat_eq, List, [], ◌∷◌, ◌++◌, Option, Some, None, length, map, get_or, drop, set, refl, sym, ap, ◌∙◌, arith, add-one, drop-cons}
use Rattle.std.specs.Prelude.{if◌then◌else◌, ◌==◌}
use Rattle.std.specs.Int.{from_bool}
use Rattle.std.proofs.Math.ListN.{drop_of_length-le}
use Rattle.std.proofs.lemmas.Bool.Decides.{nat_tests}
use Rattle.std.proofs.lemmas.List.{drop-set, length-set, length-map}
use Rattle.vm_field.specs.Field.{field_add, field_sub, field_mul}
use Rattle.air_core.specs.First.{bit, first_from, or_else}
use Rattle.air_core.proofs.FirstLemmas.{first_from-part}
use Rattle.air_core.specs.Ring.{field}
use Rattle.gadget_limbs.specs.Less.{marks_sum, equal_above, marked_differs, differences, mark, apart, count, marks_of, distance_of, below_of}

-- mark * (distance + 1 - (2 * less - 1) * difference)
abbrev pub differs_here : ℕ → ℕ → ℕ → ℕ → ℕ
differs_here m distance less d = field_mul m (field_sub (field_add distance 1) (field_mul (field_sub (field_mul 2 less) 1) d))

-- the sum of the marks from a limb up, and the first broken constraint of each kind there
pub record Upper (from : ℕ) (place : ℕ) (distance less : ℕ) (ms xs ys : List ℕ) (i sum : ℕ) (above marked : Option ℕ) : Type 0 where
  pub sum_is : sum ≡ marks_sum field (drop i ms)
  pub above_is : above ≡ first_from (from + i) (equal_above field (drop i ms) (differences field (drop i xs) (drop i ys)))
  pub marked_is : marked ≡ first_from (place + i) (marked_differs field distance less (drop i ms) (differences field (drop i xs) (drop i ys)))

pub upper_end : (from place distance less : ℕ) (ms xs ys : List ℕ) (i : ℕ) → length ms ≤ i → Upper from place distance less ms xs ys i 0 None None
unfolding marks_sum equal_above marked_differs
upper_end from place distance less ms xs ys i h = let none = drop_of_length-le ms h in record { sum_is = rw none refl; above_is = rw none refl; marked_is = rw none refl }

-- with an element as a read gives it
drop_at : (xs : List ℕ) (i d : ℕ) → i < length xs → drop i xs ≡ get_or xs i d ∷ drop (i + 1) xs
drop_at xs i d h = drop-cons xs i d h ∙ ap (λ (n : ℕ). get_or xs i d ∷ drop n xs) (sym (add-one i))

earlier_is : (v i : ℕ) (rest : List ℕ) (later : Option ℕ) → later ≡ first_from (i + 1) rest → (if v == 0 then later else Some i) ≡ first_from i (v ∷ rest)
earlier_is v i rest later e = rw e refl

pub upper_step : (from place distance less : ℕ) (ms xs ys : List ℕ) (i dm dx dy sum : ℕ) (above marked : Option ℕ) → i < length ms → i < length xs → i < length ys
    → Upper from place distance less ms xs ys (i + 1) sum above marked
    → Upper from place distance less ms xs ys i (field_add (get_or ms i dm) sum)
    (if field_mul (field_sub 1 (field_add (get_or ms i dm) sum)) (field_sub (get_or ys i dy) (get_or xs i dx)) == 0 then above else Some (from + i))
    (if differs_here (get_or ms i dm) distance less (field_sub (get_or ys i dy) (get_or xs i dx)) == 0 then marked else Some (place + i))
unfolding marks_sum equal_above marked_differs differences
upper_step from place distance less ms xs ys i dm dx dy sum above marked p q r u =
    let a = drop_at ms i dm p in
    let b = drop_at xs i dx q in
    let c = drop_at ys i dy r in
    let ds = differences field (drop (i + 1) xs) (drop (i + 1) ys) in
    let f : above ≡ first_from (from + i + 1) (equal_above field (drop (i + 1) ms) ds) = u.above_is ∙ ap (λ (n : ℕ). first_from n (equal_above field (drop (i + 1) ms) ds)) (omega arith) in
    let g : marked ≡ first_from (place + i + 1) (marked_differs field distance less (drop (i + 1) ms) ds) = u.marked_is ∙ ap (λ (n : ℕ). first_from n (marked_differs field distance less (drop (i + 1) ms) ds)) (omega arith) in
    record {
      sum_is = rw (a, u.sum_is) refl;
      above_is = rw (a, b, c, u.sum_is) (earlier_is _ (from + i) (equal_above field (drop (i + 1) ms) ds) above f);
      marked_is = rw (a, b, c) (earlier_is _ (place + i) (marked_differs field distance less (drop (i + 1) ms) ds) marked g);
    }

-- the columns from a limb up
pub record Marks (ms xs ys : List ℕ) (i above distance below : ℕ) : Type 0 where
  pub long : length ms ≡ length xs
  pub marks_are : drop i ms ≡ marks_of (drop i xs) (drop i ys)
  pub above_is : above ≡ count (marks_of (drop i xs) (drop i ys))
  pub few : above + i ≤ length xs
  pub distance_is : distance ≡ distance_of (drop i xs) (drop i ys)
  pub below_is : below ≡ below_of (drop i xs) (drop i ys)

pub marks_end : (ms xs ys : List ℕ) → length ms ≡ length xs → length xs ≡ length ys → Marks ms xs ys (length xs) 0 0 0
unfolding marks_of distance_of below_of
marks_end ms xs ys e f =
    let a = drop_of_length-le ms {i = length xs} (omega arith) in
    let b = drop_of_length-le xs {i = length xs} (omega arith) in
    record { long = e; marks_are = rw (a, b) refl; above_is = rw b refl; few = omega arith; distance_is = rw b refl; below_is = rw b refl }

mark_few : (above x y : ℕ) → mark above x y ≤ 1
unfolding mark
mark_few above x y = grind (arith, nat_tests)

pub marks_step : (ms xs ys : List ℕ) (i dx dy above distance below : ℕ) → i < length xs → i < length ys → Marks ms xs ys (i + 1) above distance below
    → Marks (set ms i (mark above (get_or xs i dx) (get_or ys i dy))) xs ys i (above + mark above (get_or xs i dx) (get_or ys i dy))
    (if nat_eq above 0 then apart (get_or xs i dx) (get_or ys i dy) else distance) (if nat_eq above 0 then from_bool (nat_lt (get_or xs i dx) (get_or ys i dy)) else below)
unfolding marks_of distance_of below_of
marks_step ms xs ys i dx dy above distance below q r u =
    let x = get_or xs i dx in
    let y = get_or ys i dy in
    let a = drop_at xs i dx q in
    let b = drop_at ys i dy r in
    let c : drop i (set ms i (mark above x y)) ≡ mark above x y ∷ drop (i + 1) ms = drop-set ms i (mark above x y) (omega (arith, u.long)) in
    record {
      long = length-set ms i (mark above x y) ∙ u.long;
      marks_are = rw (c, a, b, u.marks_are, ← u.above_is) refl;
      above_is = rw (a, b, ← u.above_is) (omega arith);
      few = omega (arith, u.few, mark_few above x y);
      distance_is = rw (a, b, ← u.above_is, u.distance_is) refl;
      below_is = rw (a, b, ← u.above_is, u.below_is) refl;
    }

-- ---- the constraints by their parts

length-above : (ms ds : List ℕ) → length ms ≡ length ds → length (equal_above field ms ds) ≡ length ms
unfolding equal_above
length-above [] ds e = refl
length-above (m ∷ ms) (d ∷ ds) e = omega (arith, length-above ms ds (omega arith))
length-above (m ∷ ms) [] e = absurd (omega arith)

length-differences : (xs ys : List ℕ) → length xs ≡ length ys → length (differences field xs ys) ≡ length xs
unfolding differences
length-differences [] ys e = refl
length-differences (x ∷ xs) (y ∷ ys) e = omega (arith, length-differences xs ys (omega arith))
length-differences (x ∷ xs) [] e = absurd (omega arith)

pub less_by_parts : (from n t u a b c distance less : ℕ) (ms xs ys : List ℕ) → length ms ≡ n → length xs ≡ n → length ys ≡ n
    → first_from from (t ∷ u ∷ (map (bit field) ms ++ (a ∷ b ∷ c ∷ (equal_above field ms (differences field xs ys) ++ marked_differs field distance less ms (differences field xs ys)))))
    ≡ or_else (first_from from (t ∷ u ∷ [])) (or_else (first_from (from + 2) (map (bit field) ms)) (or_else (first_from (from + n + 2) (a ∷ b ∷ c ∷ []))
    (or_else (first_from (from + n + 5) (equal_above field ms (differences field xs ys))) (first_from (from + 2 * n + 5) (marked_differs field distance less ms (differences field xs ys))))))
less_by_parts from n t u a b c distance less ms xs ys lm lx ly =
    let ds = differences field xs ys in
    let ea = equal_above field ms ds in
    let md = marked_differs field distance less ms ds in
    let long : length ea ≡ n = length-above ms ds (omega (arith, lm, lx, length-differences xs ys (omega (arith, lx, ly)))) ∙ lm in
    first_from-part from (from + 2) (t ∷ u ∷ []) (map (bit field) ms ++ (a ∷ b ∷ c ∷ (ea ++ md))) refl
    ∙ ap (or_else (first_from from (t ∷ u ∷ [])))
    (first_from-part (from + 2) (from + n + 2) (map (bit field) ms) (a ∷ b ∷ c ∷ (ea ++ md)) (omega (arith, lm, length-map ms (bit field)))
    ∙ ap (or_else (first_from (from + 2) (map (bit field) ms)))
    (first_from-part (from + n + 2) (from + n + 5) (a ∷ b ∷ c ∷ []) (ea ++ md) (omega arith)
    ∙ ap (or_else (first_from (from + n + 2) (a ∷ b ∷ c ∷ []))) (first_from-part (from + n + 5) (from + 2 * n + 5) ea md (omega (arith, long)))))
