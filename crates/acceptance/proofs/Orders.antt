-- Keys that rise differ in any order, and there is one order of them.
use Rattle.std.proofs.Common.{◌≡◌, ℕ, ◌<◌, ◌≤◌, Bool, true, false, nat_eq, List, [], ◌∷◌, map, refl, sym, ap, arith}
use Rattle.std.specs.Prelude.{IsPermutation, flat_map}
use Rattle.std.specs.List.{AllByRecursion}
use Rattle.std.proofs.lemmas.Bool.{ne_eqb, eq-eqb, eqb-true}
use Rattle.std.proofs.lemmas.List.Sorted.{IsPermutation-sym}
use Rattle.air_core.specs.Counts.{once, count_of}
use Rattle.air_core.specs.ListLemmas.{all_weaker}
use Rattle.air_core.specs.Orders.{Ascends, Rises, Distinct, Member}
use Rattle.air_core.proofs.Counting.{weight-map, weight-IsPermutation, weight-flat_map_permuted}
use Rattle.air_core.proofs.ElementLemmas.{all_map, all_from_members, all_permuted, all_at, all_members, member_flat_map, member_piece}
use Rattle.air_core.proofs.Ordering.{rising_unique}

once_itself : (n : ℕ) → once (nat_eq n n) ≡ 1
once_itself n = ap once (eq-eqb n n refl)

above_none : (n : ℕ) (xs : List ℕ) → AllByRecursion (λ y. n < y) xs → count_of nat_eq n xs ≡ 0
above_none n [] up = refl
above_none n (y ∷ ys) up = omega (arith, ap once (ne_eqb y n (λ e. omega (arith, e, up.0))), above_none n ys up.1)

differ_by : (xs : List ℕ) → ((n : ℕ) → count_of nat_eq n xs ≤ 1) → Distinct xs
differ_by [] few = tt
differ_by (x ∷ xs) few = (others xs (omega (arith, few x, once_itself x)), differ_by xs (λ n. omega (arith, few n)))
  where
    others : (ys : List ℕ) → count_of nat_eq x ys ≤ 0 → AllByRecursion (λ y. x ≡ y → ⊥) ys
    others [] none = tt
    others (y ∷ ys) none = ((λ e. omega (arith, none, ap (λ (k : ℕ). once (nat_eq k x)) (sym e), once_itself x)), others ys (omega (arith, none)))

module _ {X : Type 0} (key : X → ℕ) where
  high_none : (n : ℕ) (xs : List X) → AllByRecursion (λ y. n < key y) xs → count_of nat_eq n (map key xs) ≡ 0
  high_none n xs up = above_none n (map key xs) (all_map (λ y. n < y) key xs up)

  rises_by : (x : X) (xs : List X) (n : ℕ) (b : Bool) → nat_eq (key x) n ≡ b → AllByRecursion (λ y. key x < key y) xs → count_of nat_eq n (map key xs) ≤ 1 → count_of nat_eq n (map key (x ∷ xs)) ≤ 1
  rises_by x xs n true at up rest =
      let same : key x ≡ n = eqb-true (key x) n at in
      omega (arith, ap once at, high_none n xs (all_weaker (λ y. key x < key y) (λ y. n < key y) (λ y h. omega (arith, h, same)) xs up))
  rises_by x xs n false at up rest = omega (arith, ap once at, rest)

  -- keys that rise count at most once
  rises_once : (xs : List X) → Rises key xs → (n : ℕ) → count_of nat_eq n (map key xs) ≤ 1
  rises_once [] up n = omega arith
  rises_once (x ∷ xs) up n = rises_by x xs n (nat_eq (key x) n) refl up.0 (rises_once xs up.1 n)

  later_above : (x : X) (xs : List X) → AllByRecursion (λ y. key x ≤ key y) xs → count_of nat_eq (key x) (map key xs) ≤ 0 → AllByRecursion (λ y. key x < key y) xs
  later_above x [] up none = tt
  later_above x (y ∷ ys) up none =
      let differ : key y ≡ key x → ⊥ = λ e. omega (arith, none, ap (λ (k : ℕ). once (nat_eq k (key x))) e, once_itself (key x)) in
      (omega (arith, up.0, differ), later_above x ys up.1 (omega (arith, none)))

  rises_from_once : (xs : List X) → Ascends key xs → ((n : ℕ) → count_of nat_eq n (map key xs) ≤ 1) → Rises key xs
  rises_from_once [] up once_each = tt
  rises_from_once (x ∷ xs) up once_each = (
    later_above x xs up.0 (omega (arith, once_each (key x), once_itself (key x))),
    rises_from_once xs up.1 (λ n. omega (arith, once_each n)),
  )

  -- keys that rise in one order differ in any
  pub differ_in_any : (xs ys : List X) → IsPermutation xs ys → Rises key ys → Distinct (map key xs)
  differ_in_any xs ys p up =
      differ_by (map key xs) (λ n.
      omega (
        arith,
        rises_once ys up n,
        weight-map (λ y. once (nat_eq y n)) key xs,
        weight-map (λ y. once (nat_eq y n)) key ys,
        weight-IsPermutation (λ x. once (nat_eq (key x) n)) xs ys p,
      ))

-- pieces of lists, of which one is the other in another order
module _ {X Y : Type 0} (f : X → List Y) (key : Y → ℕ) (xs ys : List X) (p : IsPermutation xs ys) where
  forth : (y : Y) → Member y (flat_map f xs) → Member y (flat_map f ys)
  forth y h =
      let piece = member_flat_map f y xs h in
      let there : Member piece.of ys = all_at (λ x. Member x ys) xs piece.of piece.stands (all_permuted (λ x. Member x ys) ys xs (IsPermutation-sym xs ys p) (all_members ys)) in
      member_piece f piece.of y ys there piece.inside

  back : (y : Y) → Member y (flat_map f ys) → Member y (flat_map f xs)
  back y h =
      let piece = member_flat_map f y ys h in
      let there : Member piece.of xs = all_at (λ x. Member x xs) ys piece.of piece.stands (all_permuted (λ x. Member x xs) xs ys p (all_members xs)) in
      member_piece f piece.of y xs there piece.inside

  -- an order that ascends is the one that rises
  pub one_order : (sorted : List Y) → IsPermutation (flat_map f xs) sorted → Ascends key sorted → Rises key (flat_map f ys) → sorted ≡ flat_map f ys
  one_order sorted q up rises =
      let rising : Rises key sorted =
      rises_from_once key sorted up (λ n.
      omega (
        arith,
        rises_once key (flat_map f ys) rises n,
        weight-map (λ k. once (nat_eq k n)) key sorted,
        weight-map (λ k. once (nat_eq k n)) key (flat_map f ys),
        weight-IsPermutation (λ y. once (nat_eq (key y) n)) (flat_map f xs) sorted q,
        weight-flat_map_permuted (λ y. once (nat_eq (key y) n)) f xs ys p,
      )) in
      rising_unique key sorted (flat_map f ys) rising rises
      (all_permuted (λ y. Member y (flat_map f ys)) (flat_map f xs) sorted q (all_from_members (λ y. Member y (flat_map f ys)) (flat_map f xs) forth))
      (all_from_members (λ y. Member y sorted) (flat_map f ys) (λ y h. all_at (λ z. Member z sorted) (flat_map f xs) y (back y h) (all_permuted (λ z. Member z sorted) sorted (flat_map f xs) (IsPermutation-sym (flat_map f xs) sorted q) (all_members sorted))))
