-- Accesses at different times, listed in any order.
use Rattle.std.proofs.Common.{◌≡◌, ℕ, ◌<◌, ◌≤◌, nat_eq, ⊎_elim, List, [], ◌∷◌, map, refl, ap, subst, arith}
use Rattle.std.specs.Prelude.{IsPermutation}
use Rattle.std.specs.List.{AllByRecursion}
use Rattle.std.proofs.lemmas.Bool.{cases_eq, cases_lt, eq-eqb, eqb-true}
use Rattle.air_core.specs.Counts.{once, count_of, IsEquality}
use Rattle.air_core.specs.Orders.{Ascends, Rises, Distinct}
use Rattle.air_core.proofs.ElementLemmas.{all_at, all_permuted}
use Rattle.air_core.proofs.Counting.{weight-map, weight-IsPermutation, count_itself, count_other, member_from_count}
use Rattle.air_core.proofs.Ordering.{in_order, in_order-IsPermutation, in_order-Ascends}
use Rattle.offline_memory.specs.Memory.{Access, Block, MemoryBalanced, same_cell, met_cell, left_cell}
use Rattle.offline_memory.specs.Pages.{blocks_of}
use Rattle.offline_memory.specs.Laws.{DistinctTimesAreOneMemory}
use Rattle.offline_memory.proofs.PageLemmas.{one_memory}

nat_eq-IsEquality : IsEquality nat_eq
nat_eq-IsEquality = record { sound = eqb-true; itself = λ a. eq-eqb a a refl }

-- a number that stands nowhere twice counts at most once
distinct_counts : (xs : List ℕ) (n : ℕ) → Distinct xs → count_of nat_eq n xs ≤ 1
distinct_counts [] n d = omega arith
distinct_counts (x ∷ xs) n d =
    ⊎_elim
    (λ (same : x ≡ n).
    ⊎_elim
    (λ (some : 0 < count_of nat_eq n xs).
    absurd (all_at (λ y. x ≡ y → ⊥) xs n (member_from_count nat_eq nat_eq-IsEquality n xs (omega (arith, some))) d.0 same))
    (λ (none : count_of nat_eq n xs ≤ 0). omega (arith, none, one x n))
    (cases_lt 0 (count_of nat_eq n xs)))
    (λ (other : x ≡ n → ⊥). omega (arith, distinct_counts xs n d.1, count_other nat_eq nat_eq-IsEquality x n other))
    (cases_eq x n)
  where
    one : (x n : ℕ) → once (nat_eq x n) ≤ 1
    one x n =
        ⊎_elim
        (λ (same : x ≡ n). subst (λ (k : ℕ). once (nat_eq x k) ≤ 1) same (omega (arith, count_itself nat_eq nat_eq-IsEquality x)))
        (λ (other : x ≡ n → ⊥). omega (arith, count_other nat_eq nat_eq-IsEquality x n other))
        (cases_eq x n)

module _ {X : Type 0} (key : X → ℕ) where
  later_above : (x : X) (xs : List X) → AllByRecursion (λ y. key x ≤ key y) xs → count_of nat_eq (key x) (map key xs) ≤ 0 → AllByRecursion (λ y. key x < key y) xs
  later_above x [] up none = tt
  later_above x (y ∷ ys) up none =
      let differ : key y ≡ key x → ⊥ = λ e. omega (arith, none, ap (λ (k : ℕ). once (nat_eq k (key x))) e, count_itself nat_eq nat_eq-IsEquality (key x)) in
      (omega (arith, up.0, differ), later_above x ys up.1 (omega (arith, none)))

  -- keys that ascend and count at most once rise
  rises_from_counts : (xs : List X) → Ascends key xs → ((n : ℕ) → count_of nat_eq n (map key xs) ≤ 1) → Rises key xs
  rises_from_counts [] up once_each = tt
  rises_from_counts (x ∷ xs) up once_each = (
    later_above x xs up.0 (omega (arith, once_each (key x), count_itself nat_eq nat_eq-IsEquality (key x))),
    rises_from_counts xs up.1 (λ n. omega (arith, once_each n)),
  )

  in_order_rises : (xs : List X) → Distinct (map key xs) → Rises key (in_order key xs)
  in_order_rises xs distinct =
      rises_from_counts (in_order key xs) (in_order-Ascends key xs) (λ n.
      omega (
        arith,
        distinct_counts (map key xs) n distinct,
        weight-map (λ y. once (nat_eq y n)) key xs,
        weight-map (λ y. once (nat_eq y n)) key (in_order key xs),
        weight-IsPermutation (λ x. once (nat_eq (key x) n)) xs (in_order key xs) (in_order-IsPermutation key xs),
      ))

balanced_in_order : (blocks : List Block) (accesses ordered : List Access) → IsPermutation accesses ordered → MemoryBalanced blocks accesses → MemoryBalanced blocks ordered
balanced_in_order blocks accesses ordered p balanced = record {
  counts = λ c.
      omega (
        arith,
        balanced.counts c,
        weight-map (λ y. once (same_cell y c)) left_cell accesses,
        weight-map (λ y. once (same_cell y c)) left_cell ordered,
        weight-map (λ y. once (same_cell y c)) met_cell accesses,
        weight-map (λ y. once (same_cell y c)) met_cell ordered,
        weight-IsPermutation (λ a. once (same_cell (left_cell a) c)) accesses ordered p,
        weight-IsPermutation (λ a. once (same_cell (met_cell a) c)) accesses ordered p,
      );
}

pub ordered_memory : DistinctTimesAreOneMemory
ordered_memory pages accesses labels distinct before balanced =
    let p : IsPermutation accesses (in_order (λ (a : Access). a.time) accesses) = in_order-IsPermutation (λ (a : Access). a.time) accesses in
    let sorted_before = all_permuted (λ (a : Access). a.before < a.time) accesses (in_order (λ (a : Access). a.time) accesses) p before in
    record {
      ordered = in_order (λ (a : Access). a.time) accesses;
      same_accesses = p;
      in_time = record { rises = in_order_rises (λ (a : Access). a.time) accesses distinct; before = sorted_before };
      memory = one_memory pages (in_order (λ (a : Access). a.time) accesses) labels
          (record { rises = in_order_rises (λ (a : Access). a.time) accesses distinct; before = sorted_before })
          (balanced_in_order (blocks_of pages) accesses (in_order (λ (a : Access). a.time) accesses) p balanced);
    }
