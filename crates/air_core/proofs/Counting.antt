-- Sums of weights and counts: through joined lists and permutations, from counts back to members, and from equal counts to a permutation.
use Rattle.std.proofs.Common.{◌≡◌, ℕ, ◌+◌, ◌≤◌, Bool, true, false, List, [], ◌∷◌, ◌++◌, map, refl, sym, ap, ◌∙◌, subst, arith, inl, inr}
use Rattle.std.specs.Prelude.{flat_map}
use Rattle.std.specs.List.{sum_by, AllByRecursion}
use Rattle.std.specs.List.Sorted.{IsPermutation}
use Rattle.std.proofs.lemmas.List.Recursion.{is_sum_by}
use Rattle.std.proofs.lemmas.List.Sorted.{IsPermutation-refl, IsPermutation-sym, IsPermutation-cons, IsPermutation-trans, IsPermutation-middle, sum_by-IsPermutation}
use Rattle.std.proofs.lemmas.Bool.{false_from_ne_true}
use Rattle.air_core.specs.Orders.{Member}
use Rattle.air_core.proofs.ElementLemmas.{member_middle}
use Rattle.air_core.specs.Counts.{weight, once, count_of, IsEquality}

module _ {X : Type 0} where
  pub weight-append : (w : X → ℕ) (xs ys : List X) → weight w (xs ++ ys) ≡ weight w xs + weight w ys
  weight-append w [] ys = omega arith
  weight-append w (x ∷ xs) ys = omega (arith, weight-append w xs ys)

  -- of a list with x in the middle
  pub weight_middle : (w : X → ℕ) (xs : List X) (x : X) (ys : List X) → weight w (xs ++ x ∷ ys) ≡ w x + weight w (xs ++ ys)
  weight_middle w xs x ys = omega (arith, weight-append w xs (x ∷ ys), weight-append w xs ys)

  pub weight_is_sum_by : (w : X → ℕ) (xs : List X) → weight w xs ≡ sum_by w xs
  weight_is_sum_by w xs = is_sum_by (weight w) w refl (λ _ _. refl) xs

  pub weight-IsPermutation : (w : X → ℕ) (xs ys : List X) → IsPermutation xs ys → weight w ys ≡ weight w xs
  weight-IsPermutation w xs ys p = weight_is_sum_by w ys ∙ sum_by-IsPermutation w xs ys p ∙ sym (weight_is_sum_by w xs)

  -- weights that agree at each element have one sum
  pub weight_agree : (v w : X → ℕ) (xs : List X) → AllByRecursion (λ x. v x ≡ w x) xs → weight v xs ≡ weight w xs
  weight_agree v w [] same = refl
  weight_agree v w (x ∷ xs) same = omega (arith, same.0, weight_agree v w xs same.1)

  -- what passes nowhere counts 0
  pub weight_none : (w : X → ℕ) (xs : List X) → AllByRecursion (λ x. w x ≡ 0) xs → weight w xs ≡ 0
  weight_none w [] none = refl
  weight_none w (x ∷ xs) none = omega (arith, none.0, weight_none w xs none.1)

  -- the list about an element that passes a test
  pub record SplitAt (test : X → Bool) (xs : List X) : Type 0 where
    pub front : List X
    pub found : X
    pub back : List X
    pub is : xs ≡ front ++ found ∷ back
    pub passes : test found ≡ true

  split_by : (test : X → Bool) (x : X) (xs : List X) → (1 ≤ weight (λ y. once (test y)) xs → SplitAt test xs) → (b : Bool) → test x ≡ b
      → 1 ≤ weight (λ y. once (test y)) (x ∷ xs) → SplitAt test (x ∷ xs)
  split_by test x xs rest true e h = record { front = []; found = x; back = xs; is = refl; passes = e }
  split_by test x xs rest false e h =
      let zero : once (test x) ≡ 0 = rw e refl in
      let r : SplitAt test xs = rest (omega (arith, h, zero)) in
      record { front = x ∷ r.front; found = r.found; back = r.back; is = ap (λ (t : List X). x ∷ t) r.is; passes = r.passes }

  -- a positive count gives a member
  pub split_at : (test : X → Bool) (xs : List X) → 1 ≤ weight (λ y. once (test y)) xs → SplitAt test xs
  split_at test [] h = absurd (omega (arith, h))
  split_at test (x ∷ xs) h = split_by test x xs (split_at test xs) (test x) refl h

  pub count_itself : (same : X → X → Bool) → IsEquality same → (x : X) → once (same x x) ≡ 1
  count_itself same eq x = rw (eq.itself x) refl

  -- an element counts itself
  pub count_first : (same : X → X → Bool) → IsEquality same → (x : X) (xs : List X) → 1 ≤ count_of same x (x ∷ xs)
  count_first same eq x xs = omega (arith, count_itself same eq x)

  -- an element that differs counts nothing
  pub count_other : (same : X → X → Bool) → IsEquality same → (y x : X) → (y ≡ x → ⊥) → once (same y x) ≡ 0
  count_other same eq y x differs = ap once (false_from_ne_true (same y x) (λ h. differs (eq.sound y x h)))

  pub count_member : (same : X → X → Bool) → IsEquality same → (x : X) (xs : List X) → Member x xs → 1 ≤ count_of same x xs
  count_member same eq x [] h = elim h [ ]
  count_member same eq x (y ∷ ys) (inl e) = omega (arith, ap (λ (t : X). once (same t x)) e, count_itself same eq x)
  count_member same eq x (y ∷ ys) (inr h) = omega (arith, count_member same eq x ys h)

  -- an element that is counted is a member
  pub member_from_count : (same : X → X → Bool) → IsEquality same → (x : X) (xs : List X) → 1 ≤ count_of same x xs → Member x xs
  member_from_count same eq x xs h =
      let s : SplitAt (λ y. same y x) xs = split_at (λ y. same y x) xs h in
      subst (Member x) (sym (s.is ∙ ap (λ (t : X). s.front ++ t ∷ s.back) (eq.sound s.found x s.passes))) (member_middle x s.front s.back)

  -- the same count of every element is the same elements
  pub IsPermutation-from_counts : (same : X → X → Bool) → IsEquality same → (xs ys : List X) → ((x : X) → count_of same x xs ≡ count_of same x ys) → IsPermutation xs ys
  IsPermutation-from_counts same eq [] [] h = IsPermutation-refl []
  IsPermutation-from_counts same eq [] (y ∷ ys) h = absurd (omega (arith, h y, count_itself same eq y))
  IsPermutation-from_counts same eq (x ∷ xs) ys h =
      let found : SplitAt (λ y. same y x) ys = split_at (λ y. same y x) ys (omega (arith, h x, count_itself same eq x)) in
      let there : ys ≡ found.front ++ x ∷ found.back =
      found.is ∙ ap (λ (t : X). found.front ++ t ∷ found.back) (eq.sound found.found x found.passes) in
      let rest : (z : X) → count_of same z xs ≡ count_of same z (found.front ++ found.back) =
      λ z. omega (arith, h z, ap (count_of same z) there, weight_middle (λ y. once (same y z)) found.front x found.back) in
      let below : IsPermutation xs (found.front ++ found.back) = IsPermutation-from_counts same eq xs (found.front ++ found.back) rest in
      subst (IsPermutation (x ∷ xs)) (sym there)
      (IsPermutation-trans (x ∷ xs) (x ∷ (found.front ++ found.back)) (found.front ++ x ∷ found.back)
      (IsPermutation-cons x xs (found.front ++ found.back) below)
      (IsPermutation-sym (found.front ++ x ∷ found.back) (x ∷ (found.front ++ found.back)) (IsPermutation-middle found.front x found.back)))

  -- the same count of every element gives one sum of any weight
  pub weight_from_counts : (same : X → X → Bool) → IsEquality same → (w : X → ℕ) (xs ys : List X) → ((x : X) → count_of same x xs ≡ count_of same x ys) → weight w xs ≡ weight w ys
  weight_from_counts same eq w xs ys h = sym (weight-IsPermutation w xs ys (IsPermutation-from_counts same eq xs ys h))

module _ {X Y : Type 0} where
  pub weight-map : (w : Y → ℕ) (f : X → Y) (xs : List X) → weight w (map f xs) ≡ weight (λ x. w (f x)) xs
  weight-map w f [] = refl
  weight-map w f (x ∷ xs) = omega (arith, weight-map w f xs)

  pub weight-flat_map : (w : Y → ℕ) (f : X → List Y) (xs : List X) → weight w (flat_map f xs) ≡ weight (λ x. weight w (f x)) xs
  weight-flat_map w f [] = refl
  weight-flat_map w f (x ∷ xs) = omega (arith, weight-append w (f x) (flat_map f xs), weight-flat_map w f xs)

  -- over the lists of permuted rows
  pub weight-flat_map_permuted : (w : Y → ℕ) (f : X → List Y) (xs ys : List X) → IsPermutation xs ys → weight w (flat_map f ys) ≡ weight w (flat_map f xs)
  weight-flat_map_permuted w f xs ys p =
      weight-flat_map w f ys ∙ weight-IsPermutation (λ x. weight w (f x)) xs ys p ∙ sym (weight-flat_map w f xs)
