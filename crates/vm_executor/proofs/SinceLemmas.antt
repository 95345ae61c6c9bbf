-- The records since a segment began, with a step more.
use Rattle.std.proofs.Common.{◌≡◌, ℕ, zero, suc, ◌+◌, ◌<◌, ◌≤◌, ◌^◌, ◌&&◌, Bool, true, false, cond, nat_eq, List, [], ◌∷◌, ◌++◌, map, take, length, Some, Contains, append-nil, refl, sym, ap, ◌∙◌, subst, arith, inl, inr, ⊎_elim, get_or}
use Rattle.std.specs.List.{AllByRecursion}
use Rattle.std.proofs.lemmas.Grind.{flat_map-append}
use Rattle.std.proofs.lemmas.List.{length-take-le}
use Rattle.vm_isa.specs.declared.access.TimedAccess.{TimedAccess}
use Rattle.vm_isa.specs.declared.instr.VmInstr.{VmInstr}
use Rattle.vm_isa.specs.declared.record.StepRecord.{StepRecord}
use Rattle.vm_isa.specs.Blocks.{after_accesses, hints_used}
use Rattle.vm_isa.specs.Instr.{InRange}
use Rattle.vm_isa.specs.Means.{Accessed, Placed, Meaning, means_of, placed, placed_at, Fillable}
use Rattle.vm_isa.specs.Slots.{slots_of}
use Rattle.vm_isa.specs.Words.{IsWord, IsBytes}
use Rattle.air_core.specs.ListLemmas.{all_append}
use Rattle.air_core.specs.System.{System, is_owned}
use Rattle.exec_path.specs.Path.{Point}
use Rattle.offline_memory.specs.Memory.{Access, Replays}
use Rattle.vm_executor.specs.Pages.{Times, with_times, never}
use Rattle.vm_executor.specs.Laws.{TouchedPagesFit}
use Rattle.vm_executor.specs.Records.{AreRecords, Chained, point_after, start_at, access_of, accesses_of}
use Rattle.vm_executor.specs.Machine.{Machine, begun, with_time, times_after, Befores, Goes, Since}
use Rattle.vm_trace.specs.declared.page.Touched.{Touched}
use Rattle.vm_trace.specs.Pages.{page_space, block_pointer}
use Rattle.vm_trace.specs.PageBlocks.{InPages}
use Rattle.std.specs.Cmp.{nat_cmp_is}
use Rattle.std.specs.Ordering.{nat_cmp}
use Rattle.std.specs.declared.cmp.Ordering.TheVariants.{Less, Equal}
use Rattle.std.specs.List.Sorted.{IsStrictlyIncreasing, IsStrictlySortedBy}
use Rattle.std.proofs.lemmas.Map.Keys.{sorted_from_strictly_increasing, sorted_head, sorted_tail}
use Rattle.air_core.specs.Orders.{Distinct, Member}
use Rattle.air_core.proofs.ElementLemmas.{all_from_members}
use Rattle.offline_memory.specs.Pages.{DistinctLabels}
use Rattle.vm_executor.proofs.ReplayLemmas.{replays_linked, replays_fit, accessed_late, late_accessed}
use Rattle.vm_isa.proofs.GivenLaws.{means_same}
use Rattle.vm_isa.proofs.SlotRises.{meaning_rises}
use Rattle.vm_isa.specs.Laws.{SlotsRise}
use Rattle.vm_executor.proofs.StepLemmas.{meets_replay, replays_both, placed_same}

-- a segment begins without records
pub since_begun : (program : List VmInstr) (m : Machine) → Since program m.pc [] (begun m)
unfolding Chained
since_begun program m = record { chained = tt; reached = refl; stand = tt; replays = λ s p. refl; early = λ s p. omega arith; late = tt }

chained_more : (from : Point) (done : List StepRecord) (d : StepRecord) → Chained from done → d.instr.pc ≡ (point_after from done).pc → d.time ≡ (point_after from done).time → Chained from (done ++ d ∷ [])
unfolding Chained
chained_more from [] d chained pc time = (pc, time, tt)
chained_more from (e ∷ done) d chained pc time = (chained.0, chained.1, chained_more (record { pc = e.next; time = e.time + slots_of e.instr.op }) done d chained.2 pc time)

point_more : (from : Point) (done : List StepRecord) (d : StepRecord) → point_after from (done ++ d ∷ []) ≡ record { pc = d.next; time = d.time + slots_of d.instr.op }
point_more from [] d = refl
point_more from (e ∷ done) d = point_more (record { pc = e.next; time = e.time + slots_of e.instr.op }) done d

-- ---- times

low_by : (bound t u : ℕ) (b : Bool) → t < bound → u < bound → cond b t u < bound
low_by bound t u true h k = h
low_by bound t u false h k = k

times_low : (bound : ℕ) (xs : List TimedAccess) (times : Times) → ((s p : ℕ) → times s p < bound) → AllByRecursion (λ a. a.time < bound) xs → (s p : ℕ) → times_after times xs s p < bound
times_low bound [] times low all = low
times_low bound (a ∷ xs) times low all =
    times_low bound xs (with_time times a.access.space a.access.pointer a.time)
    (λ s p. low_by bound a.time (times s p) (nat_eq s a.access.space && nat_eq p a.access.pointer) all.0 (low s p)) all.1

-- each access is after the one before, and in the time of the step
pub record Timely (time slots : ℕ) (xs : List TimedAccess) : Type 0 where
  pub late : AllByRecursion (λ a. time ≤ a.time) xs
  pub earlier : AllByRecursion (λ a. a.before < a.time) xs
  pub inside : AllByRecursion (λ a. a.time < time + slots) xs

pub timely : (time from slots : ℕ) (xs : List TimedAccess) (ys : List Accessed) (times : Times) → map placed xs ≡ map (placed_at time) ys → SlotsRise from slots ys → ((s p : ℕ) → times s p < time + from) → Befores times xs
    → Timely time slots xs
timely time from slots [] [] times same rise low befores = record { late = tt; earlier = tt; inside = tt }
timely time from slots [] (b ∷ ys) times same rise low befores = absurd (cc)
timely time from slots (a ∷ xs) [] times same rise low befores = absurd (cc)
timely time from slots (a ∷ xs) (b ∷ ys) times same rise low befores =
    let both = placed_same (placed a) (placed_at time b) (map placed xs) (map (placed_at time) ys) same in
    let at : a.time ≡ time + b.slot = ap (λ (x : Placed). x.time) both.0 in
    let next = with_time times a.access.space a.access.pointer a.time in
    let rest = timely time (b.slot + 1) slots xs ys next both.1 rise.2
    (λ s p. low_by (time + (b.slot + 1)) a.time (times s p) (nat_eq s a.access.space && nat_eq p a.access.pointer) (omega (arith, at)) (omega (arith, low s p, rise.0))) befores.1 in
    record {
      late = (omega (arith, at), rest.late);
      earlier = (omega (arith, at, befores.0, low a.access.space a.access.pointer, rise.0), rest.earlier);
      inside = (omega (arith, at, rise.1), rest.inside);
    }

-- ---- a step more

-- the machine's time is 1 or more
begun_time : (pc : ℕ) (done : List StepRecord) → Chained (start_at pc) done → 1 ≤ (point_after (start_at pc) done).time
unfolding Chained
begun_time pc done chained = go (start_at pc) done chained (omega arith)
  where
    go : (from : Point) (done : List StepRecord) → Chained from done → 1 ≤ from.time → 1 ≤ (point_after from done).time
    go from [] chained h = h
    go from (d ∷ more) chained h = go (record { pc = d.next; time = d.time + slots_of d.instr.op }) more chained.2 (omega (arith, chained.1, h))

late_more : (time : ℕ) (xs : List TimedAccess) → 1 ≤ time → AllByRecursion (λ a. time ≤ a.time) xs → AllByRecursion (λ a. 1 ≤ a.time) (map access_of xs)
late_more time [] h late = tt
late_more time (a ∷ xs) h late = (omega (arith, h, late.0), late_more time xs h late.1)

accesses_more : (done : List StepRecord) (d : StepRecord) → accesses_of (done ++ d ∷ []) ≡ accesses_of done ++ map access_of d.accesses
accesses_more done d =
    flat_map-append (λ e. map access_of e.accesses) done (d ∷ []) ∙ ap (λ (t : List Access). accesses_of done ++ t) (append-nil (map access_of d.accesses))

pub since_more : (program : List VmInstr) (pc : ℕ) (done : List StepRecord) (s t : Machine) (d : StepRecord) → Since program pc done s → (goes : Goes program s t d)
    → Since program pc (done ++ d ∷ []) t
since_more program pc done s t d since goes =
    let slots = slots_of d.instr.op in
    let rise = meaning_rises d.instr (map (λ a. a.access.old) d.accesses) (take 4 s.hints) goes.meaning goes.means in
    let in_time = timely d.time 0 slots d.accesses goes.meaning.accesses s.times goes.accesses rise (λ u p. omega (arith, since.early u p, goes.begins)) goes.before in
    subst (λ (m : Machine). Since program pc (done ++ d ∷ []) m) (sym goes.after)
    (record {
      chained = chained_more (start_at pc) done d since.chained (goes.here ∙ sym (ap (λ (x : Point). x.pc) since.reached)) (goes.begins ∙ sym (ap (λ (x : Point). x.time) since.reached));
      reached = point_more (start_at pc) done d ∙ ap (λ (n : ℕ). record { pc = d.next; time = n + slots }) goes.begins;
      stand = all_append (λ e. Contains program e.instr) done (d ∷ []) since.stand (goes.stands, tt);
      replays =
          subst (λ (xs : List Access). Replays (with_times s.start never) xs (with_times (after_accesses s.now goes.meaning.accesses) (times_after s.times d.accesses))) (sym (accesses_more done d))
          (replays_both (with_times s.start never) (with_times s.now s.times) _ (accesses_of done) (map access_of d.accesses) since.replays
          (meets_replay d.time d.accesses goes.meaning.accesses s.now s.times goes.accesses goes.meets goes.before));
      early = times_low (s.time + slots) d.accesses s.times (λ u p. omega (arith, since.early u p)) (subst (λ (n : ℕ). AllByRecursion (λ a. a.time < n + slots) d.accesses) goes.begins in_time.inside);
      late = subst (λ (xs : List Access). AllByRecursion (λ a. 1 ≤ a.time) xs) (sym (accesses_more done d))
          (all_append (λ (a : Access). 1 ≤ a.time) (accesses_of done) (map access_of d.accesses) since.late
          (late_more d.time d.accesses (let now : 1 ≤ s.time = subst (λ (n : ℕ). 1 ≤ n) (ap (λ (x : Point). x.time) since.reached) (begun_time pc done since.chained) in omega (arith, now, goes.begins)) in_time.late));
    })

-- ---- what the filler asks

-- A step's record can be filled, where the hints are bytes.
given_by : (d : StepRecord) (hints : List ℕ) (meaning : Meaning) (hint : Bool) → nat_eq d.instr.op 37 ≡ hint → means_of d.instr (map (λ a. a.access.old) d.accesses) (take 4 hints) ≡ Some meaning → IsBytes hints
    → hints_used d.instr.op ≤ length hints → (given : List ℕ) × IsWord given × (means_of d.instr (map (λ a. a.access.old) d.accesses) given ≡ Some meaning)
given_by d hints meaning true e means bytes enough =
    let four : 4 ≤ length hints = (let used : hints_used d.instr.op ≡ 4 = rw e refl in omega (arith, used, enough)) in
    (take 4 hints, record { four = length-take-le 4 hints four; bytes = taken_bytes 4 hints bytes }, means)
  where
    taken_bytes : (n : ℕ) (xs : List ℕ) → IsBytes xs → IsBytes (take n xs)
    taken_bytes zero xs h = tt
    taken_bytes (suc n) [] h = tt
    taken_bytes (suc n) (x ∷ xs) h = (h.0, taken_bytes n xs h.1)
given_by d hints meaning false e means bytes enough = (
  0 ∷ 0 ∷ 0 ∷ 0 ∷ [],
  record { four = refl; bytes = (omega arith, (omega arith, (omega arith, (omega arith, tt)))) },
  means_same d.instr (map (λ a. a.access.old) d.accesses) (0 ∷ 0 ∷ 0 ∷ 0 ∷ []) (take 4 hints) e ∙ means,
)

pub step_fillable : (bits : ℕ) (program : List VmInstr) (s t : Machine) (d : StepRecord) → (goes : Goes program s t d) → InRange d.instr → IsBytes s.hints
    → ((u p : ℕ) → s.times u p < s.time) → s.time + slots_of d.instr.op ≤ 2 ^ bits → Fillable bits d
step_fillable bits program s t d goes in_range bytes early ends =
    let rise = meaning_rises d.instr (map (λ a. a.access.old) d.accesses) (take 4 s.hints) goes.meaning goes.means in
    let given = given_by d s.hints goes.meaning (nat_eq d.instr.op 37) refl goes.means bytes goes.enough in
    record {
      in_range = in_range;
      words = goes.words;
      given = given.0;
      given_word = given.1;
      meaning = goes.meaning;
      means = given.2;
      accesses = goes.accesses;
      next = goes.next;
      earlier = (timely d.time 0 (slots_of d.instr.op) d.accesses goes.meaning.accesses s.times goes.accesses rise (λ u p. omega (arith, early u p, goes.begins)) goes.before).earlier;
      ends = omega (arith, ends, goes.begins);
    }

-- The records since a segment began are what the filler asks, with what the caller keeps.
pub since_records : (x : System) (program : List VmInstr) (pc : ℕ) (done : List StepRecord) (m : Machine) → Since program pc done m → length done ≤ 65536 → AllByRecursion (λ d. is_owned x.parts d.instr.op ≡ true) done
    → AllByRecursion (λ d. Fillable x.time_bits d) done → AreRecords x program pc done
since_records x program pc done m since few owned fillable = record {
  few = few;
  owned = owned;
  stand = since.stand;
  fillable = fillable;
  chained = since.chained;
  linked = replays_linked m.start (accesses_of done) (with_times m.now m.times) since.replays;
}

-- ---- the pages of a segment

distinct_labels : (pages : List Touched) → IsStrictlyIncreasing (map (λ (page : Touched). page.label) pages) → DistinctLabels pages
distinct_labels pages rising = go (map (λ (page : Touched). page.label) pages) (sorted_from_strictly_increasing (map (λ (page : Touched). page.label) pages) rising)
  where
    apart : (x : ℕ) (ys : List ℕ) → AllByRecursion (λ (y : ℕ). nat_cmp x y ≡ Less) ys → AllByRecursion (λ (y : ℕ). x ≡ y → ⊥) ys
    apart x [] h = tt
    apart x (y ∷ ys) h = ((λ e. let no : Equal ≡ Less = nat_cmp_is x y Equal e ∙ h.0 in absurd (cc)), apart x ys h.1)

    go : (xs : List ℕ) → IsStrictlySortedBy nat_cmp xs → Distinct xs
    go [] h = tt
    go (x ∷ xs) h = (apart x xs (sorted_head nat_cmp x xs h), go xs (sorted_tail nat_cmp x xs h))

-- the pages of a segment fit its records, and each has an access of them
pub touched_fit : TouchedPagesFit
touched_fit program pc done m pages since touched =
    let accesses = accesses_of done in (
      replays_fit m.start m.now m.times accesses pages since.replays touched.shows (distinct_labels pages touched.rising)
          (all_from_members (λ (a : Access). InPages pages a.space a.pointer) accesses (λ a stands.
          ⊎_elim
          (λ (inside : InPages pages a.space a.pointer). inside)
          (λ (idle : (m.now a.space a.pointer ≡ m.start a.space a.pointer) × (m.times a.space a.pointer ≡ 0)). absurd (omega (arith, idle.1, accessed_late m.start m.now m.times accesses a since.replays since.late stands)))
          (touched.others a.space a.pointer))),
      λ k d h.
          let page = get_or pages k d in
          let has = touched.accessed k d h in
          let late : 1 ≤ m.times (page_space page.label) (block_pointer page.label has.block) = subst (λ (n : ℕ). 1 ≤ n) (touched.shows.time page has.block (member_at pages k d h) has.within) has.accessed in
          let at = late_accessed m.start m.now m.times accesses (page_space page.label) (block_pointer page.label has.block) since.replays late in
          record { access = at.access; stands = at.stands; label_is = omega (arith, at.space_is, at.pointer_is, has.within) },
    )
  where
    member_at : (xs : List Touched) (k : ℕ) (d : Touched) → k < length xs → Member (get_or xs k d) xs
    member_at [] k d h = absurd (omega arith)
    member_at (x ∷ xs) zero d h = inl refl
    member_at (x ∷ xs) (suc k) d h = inr (member_at xs k d (omega arith))
