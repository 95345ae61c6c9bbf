-- What holds of each element and each later one.
use Rattle.std.proofs.Common.{List, [], ◌∷◌, ◌++◌, map}
use Rattle.std.specs.Prelude.{flat_map}
use Rattle.std.specs.List.{AllByRecursion}
use Rattle.air_core.specs.Orders.{Pairwise}
use Rattle.air_core.proofs.ElementLemmas.{all_map, all_unmap, all_flat_map}
use Rattle.air_core.specs.ListLemmas.{all_append, all_weaker}

module _ {X : Type 0} where
  pub Pairwise-weaker : (R S : X → X → Type 0) → ((x y : X) → R x y → S x y) → (xs : List X) → Pairwise R xs → Pairwise S xs
  Pairwise-weaker R S f [] p = tt
  Pairwise-weaker R S f (x ∷ xs) p = (all_weaker (R x) (S x) (f x) xs p.0, Pairwise-weaker R S f xs p.1)

  with_all : (P R S : X → Type 0) → ((y : X) → P y → R y → S y) → (xs : List X) → AllByRecursion P xs → AllByRecursion R xs → AllByRecursion S xs
  with_all P R S f [] a r = tt
  with_all P R S f (y ∷ ys) a r = (f y a.0 r.0, with_all P R S f ys a.1 r.1)

  -- where each element also has P
  pub Pairwise-with : (P : X → Type 0) (R S : X → X → Type 0) → ((x y : X) → P x → P y → R x y → S x y) → (xs : List X) → AllByRecursion P xs → Pairwise R xs → Pairwise S xs
  Pairwise-with P R S f [] a p = tt
  Pairwise-with P R S f (x ∷ xs) a p = (with_all P (R x) (S x) (λ y. f x y a.0) xs a.1 p.0, Pairwise-with P R S f xs a.1 p.1)

  pub Pairwise-append : (R : X → X → Type 0) (xs ys : List X) → Pairwise R xs → Pairwise R ys → AllByRecursion (λ x. AllByRecursion (R x) ys) xs → Pairwise R (xs ++ ys)
  Pairwise-append R [] ys p q between = q
  Pairwise-append R (x ∷ xs) ys p q between = (all_append (R x) xs ys p.0 between.0, Pairwise-append R xs ys p.1 q between.1)

-- all elements of one list against all of another
abbrev pub Across : {Y : Type 0} → (Y → Y → Type 0) → List Y → List Y → Type 0
Across R us vs = AllByRecursion (λ u. AllByRecursion (R u) vs) us

module _ {X Y : Type 0} where
  pub Pairwise-map : (R : Y → Y → Type 0) (f : X → Y) (xs : List X) → Pairwise (λ x y. R (f x) (f y)) xs → Pairwise R (map f xs)
  Pairwise-map R f [] p = tt
  Pairwise-map R f (x ∷ xs) p = (all_map (R (f x)) f xs p.0, Pairwise-map R f xs p.1)

  pub Pairwise-unmap : (R : Y → Y → Type 0) (f : X → Y) (xs : List X) → Pairwise R (map f xs) → Pairwise (λ x y. R (f x) (f y)) xs
  Pairwise-unmap R f [] p = tt
  Pairwise-unmap R f (x ∷ xs) p = (all_unmap (R (f x)) f xs p.0, Pairwise-unmap R f xs p.1)

  across_all : (R : Y → Y → Type 0) (f : X → List Y) (us : List Y) (xs : List X) → AllByRecursion (λ x. Across R us (f x)) xs → Across R us (flat_map f xs)
  across_all R f [] xs h = tt
  across_all R f (u ∷ us) xs h = (
    all_flat_map (R u) f xs (all_weaker (λ x. Across R (u ∷ us) (f x)) (λ x. AllByRecursion (R u) (f x)) (λ x k. k.0) xs h),
    across_all R f us xs (all_weaker (λ x. Across R (u ∷ us) (f x)) (λ x. Across R us (f x)) (λ x k. k.1) xs h),
  )

  -- joined lists: within each one, and each against each later one
  pub Pairwise-flat_map : (R : Y → Y → Type 0) (f : X → List Y) (xs : List X) → AllByRecursion (λ x. Pairwise R (f x)) xs → Pairwise (λ x y. Across R (f x) (f y)) xs → Pairwise R (flat_map f xs)
  Pairwise-flat_map R f [] within between = tt
  Pairwise-flat_map R f (x ∷ xs) within between =
      Pairwise-append R (f x) (flat_map f xs) within.0 (Pairwise-flat_map R f xs within.1 between.1) (across_all R f (f x) xs between.0)
