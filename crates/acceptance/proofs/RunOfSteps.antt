-- One run, from the path law and the memory law.
use Rattle.std.proofs.Common.{◌≡◌, ℕ, ◌+◌, ◌^◌, ◌<◌, ◌≤◌, inl, inr, List, [], ◌∷◌, ◌++◌, map, refl, sym, ap, subst, arith}
use Rattle.std.specs.Prelude.{flat_map, IsPermutation}
use Rattle.std.specs.List.{AllByRecursion}
use Rattle.std.proofs.lemmas.List.Sorted.{IsPermutation-map}
use Rattle.vm_field.specs.Field.{modulus, field_add}
use Rattle.air_core.specs.Step.{Rising, NewBytes}
use Rattle.air_core.specs.Counts.{once}
use Rattle.air_core.specs.Orders.{Ascends, Rises, Pairwise}
use Rattle.exec_path.specs.Path.{Point, TimedRow, AddsSlots, slot_sum, IsPath, OnePath}
use Rattle.air_core.proofs.ElementLemmas.{all_both, all_permuted, all_map, all_unmap, all_flat_map, all_at}
use Rattle.air_core.specs.ListLemmas.{all_weaker, all_append, all_left, all_right}
use Rattle.air_core.proofs.Counting.{weight-map, weight-flat_map_permuted}
use Rattle.air_core.proofs.Ordering.{in_order, in_order-IsPermutation, in_order-Ascends, Ascends-map}
use Rattle.exec_path.proofs.PathLemmas.{Advances, advance, path_apart, before_end, after_start}
use Rattle.vm_trace.specs.declared.page.Touched.{Touched}
use Rattle.offline_memory.specs.Memory.{same_cell, Access, met_cell, left_cell, Block, MemoryBalanced, InTime}
use Rattle.offline_memory.specs.Bytes.{KeepBytes, HasBytes}
use Rattle.offline_memory.specs.Pages.{blocks_of, DistinctLabels, IsOldTime}
use Rattle.acceptance.specs.OneRun.{RowStep, timed_accesses, accesses_of, timed_row, timed_rows, WholeTimes, StepHasBytes, OneRun}
use Rattle.offline_memory.proofs.Pairs.{Across, Pairwise-with, Pairwise-flat_map, Pairwise-unmap}
use Rattle.offline_memory.proofs.PageLemmas.{one_memory, all_bytes, old_times}
use Rattle.acceptance.proofs.StepTimes.{Within, slot_times, slots_rise, whole_accesses, olds_before_own, new_bytes_kept, bytes_of_row}

-- what is known of a step in time
pub record Known (bound : ℕ) (step : RowStep) : Type 0 where
  pub some : 1 ≤ step.slots
  pub far : bound ≤ 2 ^ step.bits
  pub rising : Rising 0 step.slots step.accesses
  pub earlier : step.time + step.slots ≤ 2 ^ step.bits → AllByRecursion (λ a. a.before ≤ 2 ^ step.bits → a.before < step.time + a.slot) step.accesses
  pub new_bytes : NewBytes step.accesses

-- and of one on the path
record Placed (bound : ℕ) (start end : Point) (step : RowStep) : Type 0 where
  pub known : Known bound step
  pub starts : start.time ≤ step.time
  pub whole : field_add step.time step.slots ≡ step.time + step.slots
  pub ends : step.time + step.slots ≤ end.time

adds_slots : (bound : ℕ) (steps : List RowStep) → AllByRecursion (Known bound) steps → AllByRecursion AddsSlots (timed_rows steps)
adds_slots bound steps known =
    all_map AddsSlots timed_row steps (all_weaker (Known bound) (λ (step : RowStep). AddsSlots (timed_row step)) (λ step k. record { some = k.some; adds = refl }) steps known)

-- the same accesses in the order of the path balance too
balanced_permuted : (blocks : List Block) (steps path : List RowStep) → IsPermutation steps path → MemoryBalanced blocks (accesses_of steps) → MemoryBalanced blocks (accesses_of path)
balanced_permuted blocks steps path p balanced = record {
  counts = λ c.
      omega (
        arith,
        balanced.counts c,
        weight-map (λ y. once (same_cell y c)) left_cell (accesses_of steps),
        weight-map (λ y. once (same_cell y c)) left_cell (accesses_of path),
        weight-map (λ y. once (same_cell y c)) met_cell (accesses_of steps),
        weight-map (λ y. once (same_cell y c)) met_cell (accesses_of path),
        weight-flat_map_permuted (λ a. once (same_cell (left_cell a) c)) timed_accesses steps path p,
        weight-flat_map_permuted (λ a. once (same_cell (met_cell a) c)) timed_accesses steps path p,
      );
}

joined : (steps : List RowStep) → flat_map (λ (row : List Access). row) (map timed_accesses steps) ≡ accesses_of steps
joined [] = refl
joined (step ∷ steps) = ap (λ (t : List Access). timed_accesses step ++ t) (joined steps)

-- an old time is within the bound
old_within : (bound : ℕ) (accesses : List Access) → AllByRecursion (λ a. a.time ≤ bound) accesses → (time : ℕ) → IsOldTime accesses time → time ≤ bound
old_within bound accesses low time (inl zero_time) = omega (arith, zero_time)
old_within bound accesses low time (inr h) = all_at (λ t. t ≤ bound) (map (λ (a : Access). a.time) accesses) time h (all_map (λ t. t ≤ bound) (λ (a : Access). a.time) accesses low)

-- each step on the path, with what is known of it
placed : (bound : ℕ) (start end : Point) (path : List RowStep) → AllByRecursion (Known bound) path → AllByRecursion (λ (r : TimedRow). r.to_time ≡ r.from_time + r.slots) (timed_rows path)
    → AllByRecursion Advances (timed_rows path) → IsPath start (timed_rows path) end → AllByRecursion (Placed bound start end) path
placed bound start end path known whole advances walk =
    let K : RowStep → Type 0 = λ step. Known bound step in
    let P : RowStep → Type 0 = λ step. start.time ≤ step.time in
    let Q : RowStep → Type 0 = λ step. field_add step.time step.slots ≡ step.time + step.slots in
    let R : RowStep → Type 0 = λ step. field_add step.time step.slots ≤ end.time in
    all_weaker (λ step. K step × (P step × (Q step × R step))) (Placed bound start end)
    (λ step h. record { known = h.0; starts = h.1.0; whole = h.1.1.0; ends = omega (arith, h.1.1.0, h.1.1.1) }) path
    (all_both K (λ step. P step × (Q step × R step)) path known
    (all_both P (λ step. Q step × R step) path
    (all_unmap (λ (r : TimedRow). start.time ≤ r.from_time) timed_row path (after_start start end (timed_rows path) advances walk))
    (all_both Q R path
    (all_unmap (λ (r : TimedRow). r.to_time ≡ r.from_time + r.slots) timed_row path whole)
    (all_unmap (λ (r : TimedRow). r.to_time ≤ end.time) timed_row path (before_end start end (timed_rows path) advances walk)))))

-- the accesses along the path rise in time
accesses_rise : (bound : ℕ) (start end : Point) (path : List RowStep) → end.time < modulus → AllByRecursion (Placed bound start end) path
    → Pairwise (λ (x y : RowStep). field_add x.time x.slots ≤ y.time) path → Rises (λ a. a.time) (accesses_of path)
accesses_rise bound start end path high all apart =
    let times : (step : RowStep) → Placed bound start end step → AllByRecursion (Within step.time 0 step.slots) (timed_accesses step) =
    λ step h. slot_times step.time 0 step.slots step.accesses (omega (arith, h.ends, high)) h.known.rising in
    Pairwise-flat_map (λ a b. a.time < b.time) timed_accesses path
    (all_weaker (Placed bound start end) (λ (step : RowStep). Rises (λ a. a.time) (timed_accesses step)) (λ step h. slots_rise step.time 0 step.slots step.accesses (omega (arith, h.ends, high)) h.known.rising) path all)
    (Pairwise-with (Placed bound start end) (λ (x y : RowStep). field_add x.time x.slots ≤ y.time) (λ (x y : RowStep). Across (λ a b. a.time < b.time) (timed_accesses x) (timed_accesses y))
    (λ x y hx hy h. all_weaker (Within x.time 0 x.slots) (λ a. AllByRecursion (λ b. a.time < b.time) (timed_accesses y))
    (λ a ha. all_weaker (Within y.time 0 y.slots) (λ b. a.time < b.time) (λ b hb. omega (arith, ha.1, hb.0, h, hx.whole)) (timed_accesses y) (times y hy)) (timed_accesses x) (times x hx))
    path all apart)

-- and lie between the start and the end
accesses_bounded : (bound : ℕ) (start end : Point) (path : List RowStep) → end.time < modulus → AllByRecursion (Placed bound start end) path
    → AllByRecursion (λ a. (start.time ≤ a.time) × (a.time < end.time)) (accesses_of path)
accesses_bounded bound start end path high all =
    all_flat_map (λ a. (start.time ≤ a.time) × (a.time < end.time)) timed_accesses path
    (all_weaker (Placed bound start end) (λ (step : RowStep). AllByRecursion (λ a. (start.time ≤ a.time) × (a.time < end.time)) (timed_accesses step))
    (λ step h. all_weaker (Within step.time 0 step.slots) (λ a. (start.time ≤ a.time) × (a.time < end.time))
    (λ a w. (omega (arith, w.0, h.starts), omega (arith, w.1, h.ends))) (timed_accesses step)
    (slot_times step.time 0 step.slots step.accesses (omega (arith, h.ends, high)) h.known.rising)) path all)

-- by the old times and the bound, each old time is before its own
olds_before : (bound : ℕ) (start end : Point) (path : List RowStep) → end.time ≤ bound → bound < modulus → AllByRecursion (Placed bound start end) path
    → AllByRecursion (λ a. a.before ≤ bound) (accesses_of path) → AllByRecursion (λ a. a.before < a.time) (accesses_of path)
olds_before bound start end [] low high all olds = tt
olds_before bound start end (step ∷ path) low high all olds =
    let fits : step.time + step.slots < modulus = omega (arith, all.0.ends, low, high) in
    let early : step.time + step.slots ≤ 2 ^ step.bits = omega (arith, all.0.ends, low, all.0.known.far) in
    all_append (λ a. a.before < a.time) (timed_accesses step) (accesses_of path)
    (olds_before_own bound (2 ^ step.bits) step.time 0 step.slots step.accesses fits all.0.known.rising all.0.known.far (all.0.known.earlier early) (all_left (λ a. a.before ≤ bound) (timed_accesses step) (accesses_of path) olds))
    (olds_before bound start end path low high all.1 (all_right (λ a. a.before ≤ bound) (timed_accesses step) (accesses_of path) olds))

whole_steps : (bound : ℕ) (start end : Point) (path : List RowStep) → end.time < modulus → AllByRecursion (Placed bound start end) path → AllByRecursion WholeTimes path
whole_steps bound start end path high all =
    all_weaker (Placed bound start end) WholeTimes
    (λ step h. record { ends = h.whole; accesses = whole_accesses step.time 0 step.slots step.accesses (omega (arith, h.ends, high)) h.known.rising }) path all

steps_have_bytes : (path : List RowStep) → AllByRecursion HasBytes (accesses_of path) → AllByRecursion StepHasBytes path
steps_have_bytes [] h = tt
steps_have_bytes (step ∷ path) h = (
  bytes_of_row step.time step.accesses (all_left HasBytes (timed_accesses step) (accesses_of path) h),
  steps_have_bytes path (all_right HasBytes (timed_accesses step) (accesses_of path) h),
)

rows_keep_bytes : (bound : ℕ) (path : List RowStep) → AllByRecursion (Known bound) path → AllByRecursion KeepBytes (map timed_accesses path)
rows_keep_bytes bound path known =
    all_map KeepBytes timed_accesses path (all_weaker (Known bound) (λ (step : RowStep). KeepBytes (timed_accesses step)) (λ step k. new_bytes_kept step.time step.accesses k.new_bytes) path known)

run_along : (bound : ℕ) (start end : Point) (pages : List Touched) (steps path : List RowStep) → IsPermutation steps path → Ascends (λ (step : RowStep). step.time) path
    → OnePath start end (timed_rows steps) → AllByRecursion (Known bound) steps → start.time + slot_sum (timed_rows steps) ≤ bound → bound < modulus
    → MemoryBalanced (blocks_of pages) (accesses_of steps) → DistinctLabels pages → OneRun start end pages steps
run_along bound start end pages steps path p up one known low high balanced labels =
    let p_rows : IsPermutation (timed_rows steps) (timed_rows path) = IsPermutation-map timed_row steps path p in
    let same_path : timed_rows path ≡ one.path = one.sorted (timed_rows path) p_rows (Ascends-map (λ (r : TimedRow). r.from_time) timed_row path up) in
    let walk : IsPath start (timed_rows path) end = subst (λ (t : List TimedRow). IsPath start t end) (sym same_path) one.is_path in
    let rises : Rises (λ (r : TimedRow). r.from_time) (timed_rows path) = subst (λ (t : List TimedRow). Rises (λ (r : TimedRow). r.from_time) t) (sym same_path) one.rises in
    let whole : AllByRecursion (λ (r : TimedRow). r.to_time ≡ r.from_time + r.slots) (timed_rows path) = all_permuted (λ (r : TimedRow). r.to_time ≡ r.from_time + r.slots) (timed_rows steps) (timed_rows path) p_rows one.no_wrap in
    let advances : AllByRecursion Advances (timed_rows path) = all_permuted Advances (timed_rows steps) (timed_rows path) p_rows (advance (timed_rows steps) (adds_slots bound steps known) one.no_wrap) in
    let end_low : end.time ≤ bound = omega (arith, one.ends, low) in
    let end_high : end.time < modulus = omega (arith, end_low, high) in
    let known_along : AllByRecursion (Known bound) path = all_permuted (Known bound) steps path p known in
    let all : AllByRecursion (Placed bound start end) path = placed bound start end path known_along whole advances walk in
    let apart : Pairwise (λ (x y : RowStep). field_add x.time x.slots ≤ y.time) path = Pairwise-unmap (λ (x y : TimedRow). x.to_time ≤ y.from_time) timed_row path (path_apart start end (timed_rows path) advances walk) in
    let bounded : AllByRecursion (λ a. (start.time ≤ a.time) × (a.time < end.time)) (accesses_of path) = accesses_bounded bound start end path end_high all in
    let here : MemoryBalanced (blocks_of pages) (accesses_of path) = balanced_permuted (blocks_of pages) steps path p balanced in
    let low_times : AllByRecursion (λ a. a.time ≤ bound) (accesses_of path) = all_weaker (λ a. (start.time ≤ a.time) × (a.time < end.time)) (λ a. a.time ≤ bound) (λ a h. omega (arith, h.1, end_low)) (accesses_of path) bounded in
    let low_olds : AllByRecursion (λ a. a.before ≤ bound) (accesses_of path) =
    all_weaker (λ a. IsOldTime (accesses_of path) a.before) (λ a. a.before ≤ bound) (λ a h. old_within bound (accesses_of path) low_times a.before h) (accesses_of path) (old_times (blocks_of pages) (accesses_of path) here) in
    let time : InTime (accesses_of path) = record {
      rises = accesses_rise bound start end path end_high all apart;
      before = olds_before bound start end path end_low high all low_olds;
    } in
    record {
      path = path;
      same_steps = p;
      is_path = walk;
      rises = Pairwise-unmap (λ (x y : TimedRow). x.from_time < y.from_time) timed_row path rises;
      ends = one.ends;
      whole = whole_steps bound start end path end_high all;
      in_time = time;
      bounded = bounded;
      memory = one_memory pages (accesses_of path) labels time here;
      bytes = λ old.
          let together : flat_map (λ (r : List Access). r) (map timed_accesses path) ≡ accesses_of path = joined path in
          steps_have_bytes path
          (subst (λ (t : List Access). AllByRecursion HasBytes t) together
          (all_bytes pages (map timed_accesses path) labels old
          (subst (λ (t : List Access). InTime t) (sym together) time)
          (subst (λ (t : List Access). MemoryBalanced (blocks_of pages) t) (sym together) here)
          (rows_keep_bytes bound path known_along)));
    }

pub run_of_steps : (bound : ℕ) (start end : Point) (pages : List Touched) (steps : List RowStep) → ((adds : AllByRecursion AddsSlots (timed_rows steps)) → OnePath start end (timed_rows steps))
    → AllByRecursion (Known bound) steps → start.time + slot_sum (timed_rows steps) ≤ bound → bound < modulus
    → MemoryBalanced (blocks_of pages) (accesses_of steps) → DistinctLabels pages → OneRun start end pages steps
run_of_steps bound start end pages steps one known low high balanced labels =
    run_along bound start end pages steps (in_order (λ (step : RowStep). step.time) steps)
    (in_order-IsPermutation (λ (step : RowStep). step.time) steps)
    (in_order-Ascends (λ (step : RowStep). step.time) steps) (one (adds_slots bound steps known)) known low high balanced labels
