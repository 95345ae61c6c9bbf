-- Lists in order: a sort, and that there is one order.
use Rattle.std.proofs.Common.{◌≡◌, ℕ, ◌+◌, ◌<◌, ◌≤◌, ⊎_elim, inl, inr, Bool, true, false, zero, suc, cond, List, [], ◌∷◌, map, length, get_or, add-one, refl, sym, ap, ◌∙◌, subst, arith}
use Rattle.std.specs.Prelude.{nat_le}
use Rattle.std.specs.List.{AllByRecursion}
use Rattle.std.specs.List.Sorted.{IsPermutation, IsNonDecreasingBy}
use Rattle.std.proofs.lemmas.List.Elements.{recursion_from_All}
use Rattle.air_core.specs.ListLemmas.{all_weaker}
use Rattle.air_core.proofs.ElementLemmas.{all_map}
use Rattle.std.proofs.lemmas.Bool.{cases_eq, eq-eqb, ne_eqb, eqb-true}
use Rattle.std.specs.Prelude.{nat_eq}
use Rattle.std.specs.List.{range_with_len}
use Rattle.air_core.specs.Counts.{once, count_of}
use Rattle.std.proofs.lemmas.Bool.{leb-true, leb-false}
use Rattle.std.proofs.lemmas.List.Sorted.{IsPermutation-refl, IsPermutation-sym, IsPermutation-cons, IsPermutation-trans, IsPermutation-middle}
use Rattle.air_core.specs.Orders.{Ascends, Rises, Member}
use Rattle.air_core.proofs.ElementLemmas.{all_permuted, all_at, all_from_members, all_members}

module _ {X : Type 0} (key : X → ℕ) where
  -- x put before the first element whose key is not below its own
  abbrev pub put_in : X → List X → List X
  put_in x [] = x ∷ []
  put_in x (y ∷ ys) = cond (nat_le (key x) (key y)) (x ∷ y ∷ ys) (y ∷ put_in x ys)

  -- the list in the order of the key, equal keys as they stood
  abbrev pub in_order : List X → List X
  in_order [] = []
  in_order (x ∷ xs) = put_in x (in_order xs)

  pub put_in-IsPermutation : (x : X) (ys : List X) → IsPermutation (x ∷ ys) (put_in x ys)
  put_in-IsPermutation x [] = IsPermutation-refl (x ∷ [])
  put_in-IsPermutation x (y ∷ ys) =
      let turned : IsPermutation (x ∷ y ∷ ys) (y ∷ put_in x ys) =
      IsPermutation-trans (x ∷ y ∷ ys) (y ∷ x ∷ ys) (y ∷ put_in x ys)
      (IsPermutation-sym (y ∷ x ∷ ys) (x ∷ y ∷ ys) (IsPermutation-middle (y ∷ []) x ys))
      (IsPermutation-cons y (x ∷ ys) (put_in x ys) (put_in-IsPermutation x ys)) in
      elim (nat_le (key x) (key y)) as (λ b. IsPermutation (x ∷ y ∷ ys) (cond b (x ∷ y ∷ ys) (y ∷ put_in x ys))) [
        | true ↦ IsPermutation-refl (x ∷ y ∷ ys)
        | false ↦ turned
      ]

  pub in_order-IsPermutation : (xs : List X) → IsPermutation xs (in_order xs)
  in_order-IsPermutation [] = IsPermutation-refl []
  in_order-IsPermutation (x ∷ xs) =
      IsPermutation-trans (x ∷ xs) (x ∷ in_order xs) (put_in x (in_order xs))
      (IsPermutation-cons x xs (in_order xs) (in_order-IsPermutation xs)) (put_in-IsPermutation x (in_order xs))

  put_by : (x y : X) (ys : List X) → Ascends key (y ∷ ys) → Ascends key (put_in x ys) → (b : Bool) → nat_le (key x) (key y) ≡ b → Ascends key (cond b (x ∷ y ∷ ys) (y ∷ put_in x ys))
  put_by x y ys up rest true e =
      let below : key x ≤ key y = leb-true (key x) (key y) e in
      ((below, all_weaker (λ z. key y ≤ key z) (λ z. key x ≤ key z) (λ z h. omega (arith, below, h)) ys up.0), up)
  put_by x y ys up rest false e =
      let above : key y < key x = leb-false (key x) (key y) e in
      (all_permuted (λ z. key y ≤ key z) (x ∷ ys) (put_in x ys) (put_in-IsPermutation x ys) (omega (arith, above), up.0), rest)

  put_in-Ascends : (x : X) (ys : List X) → Ascends key ys → Ascends key (put_in x ys)
  put_in-Ascends x [] up = (tt, tt)
  put_in-Ascends x (y ∷ ys) up = put_by x y ys up (put_in-Ascends x ys up.1) (nat_le (key x) (key y)) refl

  pub in_order-Ascends : (xs : List X) → Ascends key (in_order xs)
  in_order-Ascends [] = tt
  in_order-Ascends (x ∷ xs) = put_in-Ascends x (in_order xs) (in_order-Ascends xs)

  same_head : (x y : X) (xs ys : List X) → Rises key (x ∷ xs) → Rises key (y ∷ ys) → Member x (y ∷ ys) → Member y (x ∷ xs) → x ≡ y
  same_head x y xs ys up_x up_y (inl e) b = sym e
  same_head x y xs ys up_x up_y (inr a) (inl e) = e
  same_head x y xs ys up_x up_y (inr a) (inr b) = absurd (omega (arith, all_at (λ z. key y < key z) ys x a up_y.0, all_at (λ z. key x < key z) xs y b up_x.0))

  -- a member of a list that isn't its head, as its key is above
  behind : (x z : X) (ys : List X) → key x < key z → Member z (x ∷ ys) → Member z ys
  behind x z ys above (inl e) = absurd (omega (arith, above, ap key e))
  behind x z ys above (inr h) = h

  -- lists that rise and have the same members are one list
  pub rising_unique : (xs ys : List X) → Rises key xs → Rises key ys → AllByRecursion (λ x. Member x ys) xs → AllByRecursion (λ y. Member y xs) ys → xs ≡ ys
  rising_unique [] [] up_x up_y a b = refl
  rising_unique [] (y ∷ ys) up_x up_y a b = elim b.0 [ ]
  rising_unique (x ∷ xs) [] up_x up_y a b = elim a.0 [ ]
  rising_unique (x ∷ xs) (y ∷ ys) up_x up_y a b =
      let head : x ≡ y = same_head x y xs ys up_x up_y a.0 b.0 in
      let inside : (z : X) → Member z xs → Member z ys =
      λ z h. behind y z ys (subst (λ (t : X). key t < key z) head (all_at (λ w. key x < key w) xs z h up_x.0)) (all_at (λ w. Member w (y ∷ ys)) xs z h a.1) in
      let back : (z : X) → Member z ys → Member z xs =
      λ z h. behind x z xs (subst (λ (t : X). key t < key z) (sym head) (all_at (λ w. key y < key w) ys z h up_y.0)) (all_at (λ w. Member w (x ∷ xs)) ys z h b.1) in
      let tail : xs ≡ ys = rising_unique xs ys up_x.1 up_y.1 (all_from_members (λ z. Member z ys) xs inside) (all_from_members (λ z. Member z xs) ys back) in
      ap (λ (t : X). t ∷ xs) head ∙ ap (λ (t : List X). y ∷ t) tail

  -- two orders of one list that rise are one list
  pub rising_permutation_unique : (rows xs ys : List X) → IsPermutation rows xs → IsPermutation rows ys → Rises key xs → Rises key ys → xs ≡ ys
  rising_permutation_unique rows xs ys p q up_x up_y =
      let forth : IsPermutation xs ys = IsPermutation-trans xs rows ys (IsPermutation-sym rows xs p) q in
      rising_unique xs ys up_x up_y
      (all_permuted (λ x. Member x ys) ys xs (IsPermutation-sym xs ys forth) (all_members ys))
      (all_permuted (λ y. Member y xs) xs ys forth (all_members xs))

-- from the order by places, as a sort gives it
pub Ascends-from_IsNonDecreasingBy : {X : Type 0} (key : X → ℕ) (xs : List X) → IsNonDecreasingBy key xs → Ascends key xs
Ascends-from_IsNonDecreasingBy key [] up = tt
Ascends-from_IsNonDecreasingBy key (x ∷ xs) up =
    (recursion_from_All (λ y. key x ≤ key y) xs (λ k d h. up 0 (suc k) d (omega arith) (omega (arith, h))), Ascends-from_IsNonDecreasingBy key xs (λ i j d le lt. up (suc i) (suc j) d (omega (arith, le)) (omega (arith, lt))))

pub Ascends-map : {X Y : Type 0} (key : Y → ℕ) (f : X → Y) (xs : List X) → Ascends (λ x. key (f x)) xs → Ascends key (map f xs)
Ascends-map key f [] up = tt
Ascends-map key f (x ∷ xs) up = (all_map (λ y. key (f x) ≤ key y) f xs up.0, Ascends-map key f xs up.1)

neighbours_by : (xs : List ℕ) → ((n : ℕ) → count_of nat_eq n xs ≤ 1) → (k d : ℕ) → suc k < length xs → get_or xs k d ≡ get_or xs (suc k) d → ⊥
neighbours_by [] few k d h e = omega (arith, h)
neighbours_by (x ∷ []) few k d h e = omega (arith, h)
neighbours_by (x ∷ y ∷ xs) few zero d h e =
    omega (arith, few y, ap once (eq-eqb x y e), ap once (eq-eqb y y refl))
neighbours_by (x ∷ y ∷ xs) few (suc k) d h e =
    neighbours_by (y ∷ xs) (λ n. omega (arith, few n)) k d (omega (arith, h)) e

-- in a list in which no number counts twice, neighbours differ
pub neighbours_differ : (xs : List ℕ) → ((n : ℕ) → count_of nat_eq n xs ≤ 1) → (k d : ℕ) → k + 1 < length xs → get_or xs k d ≡ get_or xs (k + 1) d → ⊥
neighbours_differ xs few k d h e =
    neighbours_by xs few k d (omega (arith, h)) (subst (λ (n : ℕ). get_or xs k d ≡ get_or xs n d) (add-one k) e)

below_range : (n a m : ℕ) → n < a → count_of nat_eq n (range_with_len a m) ≡ 0
below_range n a zero h = refl
below_range n a (suc m) h = omega (arith, below_range n (a + 1) m (omega (arith, h)), ap once (ne_eqb a n (λ e. omega (arith, h, e))))

range_by : (n a m : ℕ) → count_of nat_eq n (range_with_len (a + 1) m) ≤ 1 → (b : Bool) → nat_eq a n ≡ b → once (nat_eq a n) + count_of nat_eq n (range_with_len (a + 1) m) ≤ 1
range_by n a m rest true e = omega (arith, below_range n (a + 1) m (omega (arith, eqb-true a n e)), ap once e)
range_by n a m rest false e = omega (arith, rest, ap once e)

-- no number stands twice in a range
pub range_counts_once : (n a m : ℕ) → count_of nat_eq n (range_with_len a m) ≤ 1
range_counts_once n a zero = omega arith
range_counts_once n a (suc m) = range_by n a m (range_counts_once n (a + 1) m) (nat_eq a n) refl

-- the numbers of a range are in it, and rise
pub range_within : (a n : ℕ) → AllByRecursion (λ i. (a ≤ i) × (i < a + n)) (range_with_len a n)
range_within a zero = tt
range_within a (suc n) =
    ((omega arith, omega arith), all_weaker (λ i. (a + 1 ≤ i) × (i < (a + 1) + n)) (λ i. (a ≤ i) × (i < a + suc n)) (λ i h. (omega (arith, h.0), omega (arith, h.1))) (range_with_len (a + 1) n) (range_within (a + 1) n))

pub range-Rises : (a n : ℕ) → Rises (λ (i : ℕ). i) (range_with_len a n)
range-Rises a zero = tt
range-Rises a (suc n) =
    (all_weaker (λ i. (a + 1 ≤ i) × (i < (a + 1) + n)) (λ i. a < i) (λ i h. omega (arith, h.0)) (range_with_len (a + 1) n) (range_within (a + 1) n), range-Rises (a + 1) n)

pub range_member : (a n i : ℕ) → a ≤ i → i < a + n → Member i (range_with_len a n)
range_member a zero i low high = absurd (omega (arith, low, high))
range_member a (suc n) i low high =
    ⊎_elim (λ (e : a ≡ i). inl e) (λ (ne : a ≡ i → ⊥). inr (range_member (a + 1) n i (omega (arith, low, ne)) (omega (arith, high)))) (cases_eq a i)
