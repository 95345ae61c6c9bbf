-- The single path law.
use Rattle.std.proofs.Common.{◌≡◌, ℕ, ◌+◌, ◌*◌, ◌/◌, ◌<◌, ◌≤◌, Bool, true, false, nat_eq, List, [], ◌∷◌, map, refl, sym, ap, subst, ◌∙◌, arith}
use Rattle.std.specs.Prelude.{◌&&◌, flat_map}
use Rattle.std.specs.List.{AllByRecursion}
use Rattle.std.specs.List.Sorted.{IsPermutation}
use Rattle.std.proofs.lemmas.Bool.{and_parts, and_right, and_from, eqb-true, eq-eqb, ne_eqb}
use Rattle.std.proofs.lemmas.List.Sorted.{IsPermutation-map}
use Rattle.air_core.specs.declared.event.Side.TheVariants.{Send, Receive}
use Rattle.air_core.specs.Balance.{total, IsEven}
use Rattle.air_core.proofs.BalanceLemmas.{total-append}
use Rattle.air_core.specs.Counts.{weight, once, count_of, IsEquality}
use Rattle.air_core.specs.Orders.{Ascends, Rises, Pairwise}
use Rattle.air_core.specs.ListLemmas.{all_weaker}
use Rattle.air_core.proofs.ElementLemmas.{all_permuted}
use Rattle.air_core.proofs.Counting.{weight-map, weight_from_counts, weight-IsPermutation, count_itself}
use Rattle.air_core.proofs.Ordering.{in_order, in_order-IsPermutation, in_order-Ascends, rising_permutation_unique}
use Rattle.air_core.proofs.Totals.{same_tuple, balanced_same, total_each, total_send-exchange, total_receive-exchange, total_send-given_first, total_receive-given_first}
use Rattle.exec_path.specs.Path.{Point, TimedRow, row_from, row_to, same_point, AddsSlots, slot_sum, PathBalanced, IsPath}
use Rattle.exec_path.specs.PathEvents.{point_tuple, path_events, connector_events, execution_events}
use Rattle.exec_path.specs.Laws.{BalancedRowsAreOnePath, BalancedEventsBalanceRows, CheckedRowsAreOnePath, RowBalances}

pub same_point-IsEquality : IsEquality same_point
same_point-IsEquality = record {
  sound = λ a b h.
      let parts = and_parts (nat_eq a.pc b.pc) (nat_eq a.time b.time) h in
      let P : ℕ → ℕ → Point = λ m n. record { pc = m; time = n } in
      ap (λ m. P m a.time) (eqb-true a.pc b.pc parts.0) ∙ ap (λ n. P b.pc n) (eqb-true a.time b.time parts.1);
  itself = λ a. and_from (nat_eq a.pc a.pc) (nat_eq a.time a.time) (eq-eqb a.pc a.pc refl) (eq-eqb a.time a.time refl);
}

-- equal counts of points give equal sums of times
times_balance : (start end : Point) (rows : List TimedRow) → PathBalanced start end rows → start.time + weight (λ row. row.to_time) rows ≡ end.time + weight (λ row. row.from_time) rows
times_balance start end rows balanced =
    let time : Point → ℕ = λ x. x.time in
    omega (arith, weight_from_counts same_point same_point-IsEquality time (start ∷ map row_to rows) (end ∷ map row_from rows) balanced.counts, weight-map time row_to rows, weight-map time row_from rows)

-- how often times wrap, over all rows
abbrev wraps : List TimedRow → ℕ
wraps rows = weight (λ row. (row.from_time + row.slots) / 2013265921) rows

times_and_wraps : (rows : List TimedRow) → AllByRecursion AddsSlots rows → weight (λ row. row.to_time) rows + 2013265921 * wraps rows ≡ weight (λ row. row.from_time) rows + slot_sum rows
times_and_wraps [] adds = refl
times_and_wraps (row ∷ rows) adds = omega (arith, adds.0.adds, times_and_wraps rows adds.1)

-- with no wrap each row adds its slots as whole numbers
no_wraps : (rows : List TimedRow) → AllByRecursion AddsSlots rows → wraps rows ≡ 0 → AllByRecursion (λ row. row.to_time ≡ row.from_time + row.slots) rows
no_wraps [] adds none = tt
no_wraps (row ∷ rows) adds none = (omega (arith, adds.0.adds, none), no_wraps rows adds.1 (omega (arith, none)))

-- a row that goes on in time
abbrev pub Advances : TimedRow → Type 0
Advances row = row.from_time < row.to_time

pub advance : (rows : List TimedRow) → AllByRecursion AddsSlots rows → AllByRecursion (λ row. row.to_time ≡ row.from_time + row.slots) rows → AllByRecursion Advances rows
advance [] adds whole = tt
advance (row ∷ rows) adds whole = (omega (arith, adds.0.some, whole.0), advance rows adds.1 whole.1)

-- a row that goes to a later time goes elsewhere
elsewhere : (x : Point) (row : TimedRow) → x.time < row.to_time → once (same_point (row_to row) x) ≡ 0
elsewhere x row later =
    let off : nat_eq row.to_time x.time ≡ false = ne_eqb row.to_time x.time (λ e. omega (arith, later, e)) in
    ap once (and_right (nat_eq row.to_pc x.pc) (nat_eq row.to_time x.time) off)

none_goes_there : (x : Point) (rows : List TimedRow) → AllByRecursion Advances rows → AllByRecursion (λ row. x.time ≤ row.from_time) rows → weight (λ y. once (same_point y x)) (map row_to rows) ≡ 0
none_goes_there x [] advances later = refl
none_goes_there x (row ∷ rows) advances later =
    omega (arith, elsewhere x row (omega (arith, advances.0, later.0)), none_goes_there x rows advances.1 later.1)

-- the counts of the law, over a start that moves
abbrev Counted : Point → Point → List TimedRow → Type 0
Counted start end rows = (x : Point) → count_of same_point x (start ∷ map row_to rows) ≡ count_of same_point x (end ∷ map row_from rows)

-- the row with the least time begins at the start: no row goes to where it begins
first_by : (start end : Point) (row : TimedRow) (rows : List TimedRow) → AllByRecursion Advances (row ∷ rows) → Counted start end (row ∷ rows) → Ascends (λ row. row.from_time) (row ∷ rows)
    → (b : Bool) → same_point start (row_from row) ≡ b → start ≡ row_from row
first_by start end row rows advances counts up true h = same_point-IsEquality.sound start (row_from row) h
first_by start end row rows advances counts up false h =
    let x : Point = row_from row in
    let least : AllByRecursion (λ r. row.from_time ≤ r.from_time) (row ∷ rows) = (omega arith, up.0) in
    let none = none_goes_there (row_from row) (row ∷ rows) advances least in
    absurd (omega (arith, counts (row_from row), none, ap once h, count_itself same_point same_point-IsEquality (row_from row)))

first_at_start : (start end : Point) (row : TimedRow) (rows : List TimedRow) → AllByRecursion Advances (row ∷ rows) → Counted start end (row ∷ rows) → Ascends (λ row. row.from_time) (row ∷ rows) → start ≡ row_from row
first_at_start start end row rows advances counts up = first_by start end row rows advances counts up (same_point start (row_from row)) refl

empty_by : (start end : Point) → Counted start end [] → (b : Bool) → same_point end start ≡ b → start ≡ end
empty_by start end counts true h = sym (same_point-IsEquality.sound end start h)
empty_by start end counts false h = absurd (omega (arith, counts start, ap once h, count_itself same_point same_point-IsEquality start))

-- rows in the order of time follow each other
walk : (start end : Point) (rows : List TimedRow) → AllByRecursion Advances rows → Counted start end rows → Ascends (λ row. row.from_time) rows → IsPath start rows end
walk start end [] advances counts up = empty_by start end counts (same_point end start) refl
walk start end (row ∷ rows) advances counts up =
    let head : start ≡ row_from row = first_at_start start end row rows advances counts up in
    let rest : Counted (row_to row) end rows = λ x. omega (arith, counts x, ap (λ (s : Point). once (same_point s x)) head) in
    (sym head, walk (row_to row) end rows advances.1 rest up.1)

-- times along a path are not before its start
pub after_start : (start end : Point) (rows : List TimedRow) → AllByRecursion Advances rows → IsPath start rows end → AllByRecursion (λ row. start.time ≤ row.from_time) rows
after_start start end [] advances path = tt
after_start start end (row ∷ rows) advances path =
    let here : row.from_time ≡ start.time = ap (λ (x : Point). x.time) path.0 in
    (omega (arith, here), all_weaker (λ r. row.to_time ≤ r.from_time) (λ r. start.time ≤ r.from_time) (λ r h. omega (arith, h, here, advances.0)) rows (after_start (row_to row) end rows advances.1 path.1))

path_rises : (start end : Point) (rows : List TimedRow) → AllByRecursion Advances rows → IsPath start rows end → Rises (λ row. row.from_time) rows
path_rises start end [] advances path = tt
path_rises start end (row ∷ rows) advances path =
    (all_weaker (λ r. row.to_time ≤ r.from_time) (λ r. row.from_time < r.from_time) (λ r h. omega (arith, h, advances.0)) rows (after_start (row_to row) end rows advances.1 path.1), path_rises (row_to row) end rows advances.1 path.1)

-- along a path each row ends before each later one begins
pub path_apart : (start end : Point) (rows : List TimedRow) → AllByRecursion Advances rows → IsPath start rows end → Pairwise (λ x y. x.to_time ≤ y.from_time) rows
path_apart start end [] advances path = tt
path_apart start end (row ∷ rows) advances path =
    (after_start (row_to row) end rows advances.1 path.1, path_apart (row_to row) end rows advances.1 path.1)

path_forth : (start end : Point) (rows : List TimedRow) → AllByRecursion Advances rows → IsPath start rows end → start.time ≤ end.time
path_forth start end [] advances path = omega (arith, ap (λ (x : Point). x.time) path)
path_forth start end (row ∷ rows) advances path =
    omega (arith, ap (λ (x : Point). x.time) path.0, advances.0, path_forth (row_to row) end rows advances.1 path.1)

-- and not after the end of the path
pub before_end : (start end : Point) (rows : List TimedRow) → AllByRecursion Advances rows → IsPath start rows end → AllByRecursion (λ row. row.to_time ≤ end.time) rows
before_end start end [] advances path = tt
before_end start end (row ∷ rows) advances path = (path_forth (row_to row) end rows advances.1 path.1, before_end (row_to row) end rows advances.1 path.1)

-- the same rows in another order have the same counts
counted_permuted : (start end : Point) (rows list : List TimedRow) → IsPermutation rows list → Counted start end rows → Counted start end list
counted_permuted start end rows list p counts x =
    let w : Point → ℕ = λ y. once (same_point y x) in
    omega (arith, counts x, weight-IsPermutation w (map row_to rows) (map row_to list) (IsPermutation-map row_to rows list p), weight-IsPermutation w (map row_from rows) (map row_from list) (IsPermutation-map row_from rows list p))

pub one_path : BalancedRowsAreOnePath
one_path start end rows adds bound balanced =
    let key : TimedRow → ℕ = λ row. row.from_time in
    let none : wraps rows ≡ 0 = omega (arith, times_balance start end rows balanced, times_and_wraps rows adds, bound) in
    let whole = no_wraps rows adds none in
    let advances : AllByRecursion Advances rows = advance rows adds whole in
    let walked : (list : List TimedRow) → IsPermutation rows list → Ascends (λ row. row.from_time) list → IsPath start list end =
    λ list p up. walk start end list (all_permuted Advances rows list p advances) (counted_permuted start end rows list p balanced.counts) up in
    let risen : (list : List TimedRow) → IsPermutation rows list → Ascends (λ row. row.from_time) list → Rises (λ row. row.from_time) list =
    λ list p up. path_rises start end list (all_permuted Advances rows list p advances) (walked list p up) in
    let path : List TimedRow = in_order key rows in
    let same : IsPermutation rows (in_order key rows) = in_order-IsPermutation key rows in
    record {
      no_wrap = whole;
      ends = omega (arith, times_balance start end rows balanced, times_and_wraps rows adds, none);
      path = in_order key rows;
      same_rows = same;
      is_path = walked (in_order key rows) same (in_order-Ascends key rows);
      rises = risen (in_order key rows) same (in_order-Ascends key rows);
      sorted = λ list p up. rising_permutation_unique key rows list (in_order key rows) p same (risen list p up) (risen (in_order key rows) same (in_order-Ascends key rows));
    }

-- From events to counts.

and_true : (b : Bool) → (b && true) ≡ b
and_true true = refl
and_true false = refl

-- the test of points and that of their tuples
same_by_tuple : (a b : Point) → once (same_tuple (point_tuple a) (point_tuple b)) ≡ once (same_point a b)
same_by_tuple a b = ap (λ t. once (nat_eq a.pc b.pc && t)) (and_true (nat_eq a.time b.time))

-- what the rows send and receive at a point
rows_send : (x : Point) (rows : List TimedRow) → total Send 0 (point_tuple x) (flat_map path_events rows) ≡ weight (λ y. once (same_point y x)) (map row_to rows)
rows_send x rows =
    total_each Send 0 (point_tuple x) path_events (λ row. once (same_point (row_to row) x)) (λ row. total_send-exchange 0 (point_tuple x) (point_tuple (row_from row)) (point_tuple (row_to row)) ∙ same_by_tuple (row_to row) x) rows
    ∙ sym (weight-map (λ y. once (same_point y x)) row_to rows)

rows_receive : (x : Point) (rows : List TimedRow) → total Receive 0 (point_tuple x) (flat_map path_events rows) ≡ weight (λ y. once (same_point y x)) (map row_from rows)
rows_receive x rows =
    total_each Receive 0 (point_tuple x) path_events (λ row. once (same_point (row_from row) x)) (λ row. total_receive-exchange 0 (point_tuple x) (point_tuple (row_from row)) (point_tuple (row_to row)) ∙ same_by_tuple (row_from row) x) rows
    ∙ sym (weight-map (λ y. once (same_point y x)) row_from rows)

pub rows_balance : BalancedEventsBalanceRows
rows_balance start end rows events balanced same = record {
  counts = λ x.
      omega (
        arith,
        balanced_same 0 events (execution_events start end rows) balanced same (point_tuple x),
        total-append Send 0 (point_tuple x) (connector_events start end) (flat_map path_events rows),
        total-append Receive 0 (point_tuple x) (connector_events start end) (flat_map path_events rows),
        total_send-given_first 0 (point_tuple x) (point_tuple end) (point_tuple start),
        total_receive-given_first 0 (point_tuple x) (point_tuple end) (point_tuple start),
        rows_send x rows,
        rows_receive x rows,
        same_by_tuple start x,
        same_by_tuple end x,
      );
}

-- 1 + 2^29 is far below the modulus
pub checked_path : CheckedRowsAreOnePath
checked_path start end rows events adds at slots balanced same =
    one_path start end rows adds (omega (arith, at, slots)) (rows_balance start end rows events balanced same)

pub row_balances : RowBalances
row_balances row = record {
  even = λ bus tuple on.
      subst (λ (b : ℕ). IsEven b tuple (execution_events (row_from row) (row_to row) (row ∷ []))) (sym (eqb-true bus 0 on))
      (omega (
        arith,
        total-append Send 0 tuple (connector_events (row_from row) (row_to row)) (path_events row),
        total-append Receive 0 tuple (connector_events (row_from row) (row_to row)) (path_events row),
        total_send-given_first 0 tuple (point_tuple (row_to row)) (point_tuple (row_from row)),
        total_receive-given_first 0 tuple (point_tuple (row_to row)) (point_tuple (row_from row)),
        total_send-exchange 0 tuple (point_tuple (row_from row)) (point_tuple (row_to row)),
        total_receive-exchange 0 tuple (point_tuple (row_from row)) (point_tuple (row_to row)),
      ));
}
