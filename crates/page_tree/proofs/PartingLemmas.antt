-- The place that parts rising labels at one, found by a search among some of the places.
use Rattle.std.proofs.Common.{◌≡◌, ℕ, ◌+◌, ◌-◌, ◌<◌, ◌≤◌, Bool, true, false, Bor, ltb, List, [], ◌∷◌, refl, length, length-drop, length-take-le, map, get_or, slice_index, drop, sym, ap, ◌∙◌, subst, ⊎_elim, arith}
use Rattle.std.specs.Prelude.{slice_range}
use Rattle.std.specs.List.Sorted.{IsStrictlyIncreasing, IsNonDecreasingBy, IsPartitionPoint, IsPartitionedBy}
use Rattle.std.specs.Fn.{Called, ComputesKey, Mut}
use Rattle.std.proofs.lemmas.List.Sorted.{IsPartitionPoint-from_clause, IsPartitionedBy-ltb}
use Rattle.std.proofs.lemmas.Bool.{cases_eq}
use Rattle.std.proofs.lemmas.Bool.Decides.{nat_tests}
use Rattle.std.proofs.lemmas.List.{get_or-map, get_or-take, get_or-drop, length-map}
use Rattle.std.proofs.lemmas.List.Kept.{AllPairs-from_increasing}
use Rattle.page_tree.specs.Parts.{IsParting}

module _ {X : Type 0} (key : X → ℕ) (xs : List X) (from to : ℕ) (ordered : from ≤ to) (in_list : to ≤ length xs) where
  -- the element at a place among them
  among : (k : ℕ) (d : X) → k < to - from → get_or (slice_range xs from to) k d ≡ get_or xs (from + k) d
  among k d h = get_or-take (to - from) (drop from xs) k d h ∙ get_or-drop from xs k d

  pub length_among : length (slice_range xs from to) ≡ to - from
  length_among = length-take-le (to - from) (drop from xs) (omega (arith, length-drop from xs))

  label_among : (k : ℕ) (d : X) → k < to - from → key (get_or (slice_range xs from to) k d) ≡ slice_index (map key xs) (from + k)
  label_among k d h = ap key (among k d h) ∙ sym (get_or-map key xs (from + k) d 0 (omega arith))

  pub among_ascend : IsStrictlyIncreasing (map key xs) → IsNonDecreasingBy key (slice_range xs from to)
  among_ascend rising i j d low within =
      let inside : j < to - from = omega (arith, length_among) in
      let at_i = label_among i d (omega arith) in
      let at_j = label_among j d inside in
      ⊎_elim
      (λ (same : i ≡ j). subst (λ (n : ℕ). key (get_or (slice_range xs from to) i d) ≤ key (get_or (slice_range xs from to) n d)) same (omega arith))
      (λ (other : i ≡ j → ⊥).
      let above : slice_index (map key xs) (from + i) < slice_index (map key xs) (from + j) =
      AllPairs-from_increasing (map key xs) rising (from + i) (from + j) 0 (omega arith) (omega (arith, length-map xs key)) in
      omega (arith, above, at_i, at_j))
      (cases_eq i j)

  pub parts_from_point : (middle i : ℕ) (d : X) → i ≤ length (slice_range xs from to)
      → IsPartitionPoint (λ x. ltb (key x) middle ≡ true) (λ x. ltb (key x) middle ≡ false) (slice_range xs from to) i → IsParting (map key xs) from to middle (from + i)
  parts_from_point middle i d bound point = record {
    low = omega arith;
    high = omega (arith, bound, length_among);
    below = λ k low high.
        let place : from + (k - from) ≡ k = omega arith in
        let at : key (get_or (slice_range xs from to) (k - from) d) ≡ slice_index (map key xs) k = label_among (k - from) d (omega (arith, bound, length_among)) ∙ ap (slice_index (map key xs)) place in
        let less : ltb (key (get_or (slice_range xs from to) (k - from) d)) middle ≡ true = point.0 (k - from) d (omega arith) (omega arith) in
        let smaller : key (get_or (slice_range xs from to) (k - from) d) < middle = grind (arith, nat_tests) in
        omega (arith, smaller, at);
    reached = λ more.
        let at = label_among i d (omega arith) in
        let not_less : ltb (key (get_or (slice_range xs from to) i d)) middle ≡ false = point.1 i d (omega arith) (omega (arith, length_among)) in
        let larger : middle ≤ key (get_or (slice_range xs from to) i d) = grind (arith, nat_tests) in
        omega (arith, larger, at);
  }

  -- from the clauses of a search for the first place whose label is not below the middle
  pub parts_from_search : {F : Type 0} {g : Mut F (Bor X × Unit {0}) Bool} {f : F} (middle i : ℕ) (d : X) → IsStrictlyIncreasing (map key xs) → i ≤ length (slice_range xs from to)
      → ((q : X → Bool) → ComputesKey g q f → IsPartitionedBy q (slice_range xs from to) → IsPartitionPoint (λ x. q x ≡ true) (λ x. q x ≡ false) (slice_range xs from to) i)
      → ((a : Bor X × Unit {0}) (r : Bool) (f' : F) → Called g f a r f' → (r ≡ ltb (key a.0.now) middle) × (f' ≡ f)) → IsParting (map key xs) from to middle (from + i)
  parts_from_search {g = g} middle i d rising bound clause called =
      parts_from_point middle i d bound
      (IsPartitionPoint-from_clause (λ x. ltb (key x) middle) {g = g} (slice_range xs from to) i clause (IsPartitionedBy-ltb key (slice_range xs from to) middle (among_ascend rising)) called)

-- labels that are their own keys
pub map_same : (xs : List ℕ) → map (λ (x : ℕ). x) xs ≡ xs
map_same [] = refl
map_same (x ∷ xs) = ap (λ (t : List ℕ). x ∷ t) (map_same xs)
