-- The order of places that a stable sort gives, and that it is the path.
use Rattle.std.proofs.Common.{◌≡◌, ℕ, ◌+◌, ◌<◌, ◌≤◌, ⊎_elim, inl, inr, nat_eq, false, zero, suc, List, [], ◌∷◌, ◌++◌, length, map, get_or, refl, sym, ap, ◌∙◌, subst, arith, add-one}
use Rattle.std.specs.Prelude.{slice_index_or}
use Rattle.std.specs.Ordering.{nat_cmp, is_lt}
use Rattle.std.specs.List.{All, AllAdjacentBelow, range_with_len}
use Rattle.std.specs.List.Sorted.{IsPermutation, IsNonDecreasingBy, IsSortedByKey, IsStableByKey}
use Rattle.std.proofs.lemmas.Bool.{cases_lt, le-ltb, ne_eqb}
use Rattle.std.proofs.lemmas.List.{get_or-map, length-map}
use Rattle.std.proofs.lemmas.List.FromFn.{fill_by_all, get_or-range_with_len, length-range_with_len}
use Rattle.std.proofs.lemmas.List.Sorted.{IsNonDecreasingBy-from_sort, IsNonDecreasingBy-from_all_adjacent, ties_still_rise, IsPermutation-map, All-permutation}
use Rattle.air_core.specs.Counts.{once, count_of}
use Rattle.air_core.proofs.Counting.{weight-IsPermutation}
use Rattle.air_core.proofs.Ordering.{Ascends-from_IsNonDecreasingBy, Ascends-map, neighbours_differ, range_counts_once}
use Rattle.exec_path.specs.declared.order.PathRow.{PathRow}
use Rattle.exec_path.specs.Path.{TimedRow}
use Rattle.exec_path.specs.Laws.{OrderIsThePath}
use Rattle.exec_path.specs.Order.{IsOrder, StandsBefore, time_at, path_row, rows_at, no_row, no_timed_row}

not_less : (a b : ℕ) → b < a → is_lt (nat_cmp a b) ≡ false
not_less a b h = rw (le-ltb a b (omega arith), ne_eqb a b (λ e. omega arith)) refl

-- the places 0, 1, 2 .. rise
range_rises : (n : ℕ) → IsSortedByKey (λ (x : ℕ). x) nat_cmp (range_with_len 0 n)
range_rises n = λ k d low h.
    let short : k + 1 < n = omega (arith, h, length-range_with_len 0 n) in
    let here : get_or (range_with_len 0 n) k d ≡ 0 + k = get_or-range_with_len 0 n k d (omega (arith, short)) in
    let next : get_or (range_with_len 0 n) (k + 1) d ≡ 0 + (k + 1) = get_or-range_with_len 0 n (k + 1) d short in
    not_less (get_or (range_with_len 0 n) (k + 1) d) (get_or (range_with_len 0 n) k d) (omega (arith, here, next))

range_suc : (a n : ℕ) → range_with_len a (suc n) ≡ range_with_len a n ++ (a + n) ∷ []
range_suc a zero = ap (λ (m : ℕ). m ∷ []) (omega arith)
range_suc a (suc n) =
    ap (λ (t : List ℕ). a ∷ t) (range_suc (a + 1) n) ∙ ap (λ (m : ℕ). a ∷ (range_with_len (a + 1) n ++ m ∷ [])) (omega arith)

-- one more place
pub range_more : (a n : ℕ) → range_with_len a (n + 1) ≡ range_with_len a n ++ (a + n) ∷ []
range_more a n = rw add-one (range_suc a n)

places_counted_once : (n : ℕ) (places : List ℕ) → IsPermutation (range_with_len 0 n) places → (i : ℕ) → count_of nat_eq i places ≤ 1
places_counted_once n places p i = omega (arith, weight-IsPermutation (λ y. once (nat_eq y i)) (range_with_len 0 n) places p, range_counts_once i 0 n)

-- what a stable sort by the time of the places 0, 1, 2 .. gives
pub order_from_sort : (rows : List PathRow) (places : List ℕ) → IsPermutation (range_with_len 0 (length rows)) places → IsSortedByKey (time_at rows) nat_cmp places → IsStableByKey (time_at rows) nat_cmp (range_with_len 0 (length rows)) places → IsOrder rows places
order_from_sort rows places p sorted stable =
    let rising : IsNonDecreasingBy (time_at rows) places = IsNonDecreasingBy-from_sort (time_at rows) places sorted in
    let counted : IsSortedByKey (λ (x : ℕ). x) nat_cmp (range_with_len 0 (length rows)) = range_rises (length rows) in
    record {
      same_places = p;
      in_order = λ k d h.
          let i : ℕ = get_or places k d in
          let j : ℕ = get_or places (k + 1) d in
          let le : time_at rows (get_or places k d) ≤ time_at rows (get_or places (k + 1) d) = rising k (k + 1) d (omega arith) h in
          ⊎_elim (λ (lt : time_at rows (get_or places k d) < time_at rows (get_or places (k + 1) d)). inl lt)
          (λ (ge : time_at rows (get_or places (k + 1) d) ≤ time_at rows (get_or places k d)).
          let e : time_at rows (get_or places k d) ≡ time_at rows (get_or places (k + 1) d) = omega (arith, le, ge) in
          let up : get_or places k d ≤ get_or places (k + 1) d = ties_still_rise (λ (x : ℕ). x) (time_at rows) (range_with_len 0 (length rows)) places counted stable k d h e in
          inr (e, omega (arith, up, neighbours_differ places (places_counted_once (length rows) places p) k d h)))
          (cases_lt (time_at rows (get_or places k d)) (time_at rows (get_or places (k + 1) d)));
    }

-- the rows at all places are the rows
rows_at_all : (rows : List TimedRow) → rows ≡ rows_at rows (range_with_len 0 (length rows))
rows_at_all rows = fill_by_all (λ place. slice_index_or rows place no_timed_row) rows (length rows) no_timed_row refl (λ k h. refl)

time_of_row : (rows : List TimedRow) (i : ℕ) → i < length rows → time_at (map path_row rows) i ≡ (slice_index_or rows i no_timed_row).from_time
time_of_row rows i h = ap (λ (r : PathRow). r.from_time) (get_or-map path_row rows i no_timed_row no_row h)

range_below : (n : ℕ) → All (λ i. i < n) (range_with_len 0 n)
range_below n = λ k d h.
    let short : k < n = omega (arith, h, length-range_with_len 0 n) in
    omega (arith, short, get_or-range_with_len 0 n k d short)

not_later : (rows : List PathRow) (i j : ℕ) → StandsBefore rows i j → time_at rows i ≤ time_at rows j
not_later rows i j (inl h) = omega (arith, h)
not_later rows i j (inr h) = omega (arith, h.0)

-- the rows at an order of the places are the path
pub order_is_path : OrderIsThePath
order_is_path start end rows one places order =
    let n : length (map path_row rows) ≡ length rows = length-map rows path_row in
    let same : IsPermutation (range_with_len 0 (length rows)) places = subst (λ (m : ℕ). IsPermutation (range_with_len 0 m) places) n order.same_places in
    let permuted : IsPermutation rows (rows_at rows places) =
    subst (λ (xs : List TimedRow). IsPermutation xs (rows_at rows places)) (sym (rows_at_all rows)) (IsPermutation-map (λ place. slice_index_or rows place no_timed_row) (range_with_len 0 (length rows)) places same) in
    let below : All (λ i. i < length rows) places = All-permutation (λ i. i < length rows) (range_with_len 0 (length rows)) places same (range_below (length rows)) in
    let key : ℕ → ℕ = λ i. (slice_index_or rows i no_timed_row).from_time in
    let adjacent : AllAdjacentBelow (λ i j. (slice_index_or rows i no_timed_row).from_time ≤ (slice_index_or rows j no_timed_row).from_time) places (length places) =
    λ k d h.
    rw (← time_of_row rows (get_or places k d) (below k d (omega (arith, h))), ← time_of_row rows (get_or places (k + 1) d) (below (k + 1) d h)) (not_later (map path_row rows) (get_or places k d) (get_or places (k + 1) d) (order.in_order k d h)) in
    let up : IsNonDecreasingBy (λ i. (slice_index_or rows i no_timed_row).from_time) places = IsNonDecreasingBy-from_all_adjacent (λ i. (slice_index_or rows i no_timed_row).from_time) places adjacent in
    one.sorted (rows_at rows places) permuted
    (Ascends-map (λ (r : TimedRow). r.from_time) (λ place. slice_index_or rows place no_timed_row) places (Ascends-from_IsNonDecreasingBy (λ i. (slice_index_or rows i no_timed_row).from_time) places up))
