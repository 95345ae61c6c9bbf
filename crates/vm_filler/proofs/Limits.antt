-- How high tables are, how many slots they have, and how often a row of a fixed table is used.
use Rattle.std.proofs.Common.{◌≡◌, ℕ, zero, suc, ◌+◌, ◌-◌, ◌*◌, ◌^◌, ◌<◌, ◌≤◌, Bool, true, false, cond, List, [], ◌∷◌, length, length-append, refl, sym, ap, ◌∙◌, subst, arith, ⊎_elim}
use Rattle.std.specs.Prelude.{replicate, sum_by}
use Rattle.std.specs.List.{AllByRecursion}
use Rattle.std.proofs.lemmas.Bool.{cases_Bool, cases_lt}
use Rattle.std.proofs.lemmas.List.FromFn.{length-map-range_with_len}
use Rattle.std.proofs.lemmas.Nat.{pow_pos, pow-add}
use Rattle.std.proofs.Math.Nat.{mul-le-mul_right}
use Rattle.std.proofs.Math.Pow.{pow_mono}
use Rattle.std.proofs.lemmas.List.Sums.{sum_by-cons}
use Rattle.vm_isa.specs.declared.record.StepRecord.{StepRecord}
use Rattle.vm_isa.specs.Means.{Fillable}
use Rattle.air_core.specs.declared.event.Event.{Event}
use Rattle.air_core.specs.declared.event.Side.{Side}
use Rattle.air_core.specs.Balance.{is_at, total}
use Rattle.air_core.specs.Counts.{weight}
use Rattle.air_core.specs.Laws.{is_lookup}
use Rattle.air_core.specs.System.{System, Part, is_owned, all_events, rows_of, tables_for}
use Rattle.air_core.specs.ExtensionLaws.{ExtensionComplete, ExtensionQuiet, PartRows, PartFits, OneOwner, lookup_count}
use Rattle.air_core.proofs.BalanceLemmas.{there_of_test, total-cons}
use Rattle.air_core.proofs.ExtensionLemmas.{no_first, no_second}
use Rattle.acceptance.specs.Holds.{most_slots}
use Rattle.vm_filler.specs.Tables.{filled_rows, zero_row, IsHeight, IsFilledTable, AreFilledTables}
use Rattle.vm_filler.proofs.Exchange.{exchange, weight_both}

-- ---- counts

amount_few : (side : Side) (bus : ℕ) (tuple : List ℕ) (e : Event) (b : Bool) → is_at side bus tuple e ≡ b → is_lookup bus ≡ true → cond b e.count 0 ≤ lookup_count e
amount_few side bus tuple e true at lookup =
    let on : is_lookup e.bus ≡ true = ap is_lookup (there_of_test side bus tuple e at).bus_is ∙ lookup in
    rw on (omega arith)
amount_few side bus tuple e false at lookup = omega arith

pub total_few : (side : Side) (bus : ℕ) (tuple : List ℕ) (events : List Event) → is_lookup bus ≡ true → total side bus tuple events ≤ sum_by lookup_count events
total_few side bus tuple [] lookup = omega arith
total_few side bus tuple (e ∷ events) lookup =
    omega (arith, total-cons side bus tuple e events, sum_by-cons lookup_count e events, amount_few side bus tuple e (is_at side bus tuple e) refl lookup, total_few side bus tuple events lookup)

records_few : (x : System) → ExtensionComplete x → (side : Side) (bus : ℕ) (tuple : List ℕ) → is_lookup bus ≡ true → (done : List StepRecord) → AllByRecursion (λ d. is_owned x.parts d.instr.op ≡ true) done
    → AllByRecursion (λ d. Fillable x.time_bits d) done → weight (λ d. total side bus tuple (all_events x.parts (tables_for d x.parts))) done ≤ 4096 * length done
records_few x complete side bus tuple lookup [] owned fillable = omega arith
records_few x complete side bus tuple lookup (d ∷ done) owned fillable =
    omega (
      arith,
      total_few side bus tuple (all_events x.parts (tables_for d x.parts)) lookup,
      (complete d owned.0 fillable.0).lookups,
      records_few x complete side bus tuple lookup done owned.1 fillable.1,
    )

-- a row of a fixed table is used at most 4096 times for each record
pub counts_few : (x : System) → ExtensionComplete x → ExtensionQuiet x → (bus : ℕ) (tuple : List ℕ) → is_lookup bus ≡ true → (done : List StepRecord) → AllByRecursion (λ d. is_owned x.parts d.instr.op ≡ true) done
    → AllByRecursion (λ d. Fillable x.time_bits d) done → (tables : List (List (List ℕ))) → AreFilledTables done x.parts tables → (side : Side) → total side bus tuple (all_events x.parts tables) ≤ 4096 * length done
counts_few x complete quiet bus tuple lookup done owned fillable tables filled side =
    omega (arith, exchange side bus tuple done x.parts tables filled quiet, records_few x complete side bus tuple lookup done owned fillable)

-- ---- heights

pub rows_length : (d : StepRecord) (p : Part) → length (rows_of d p) ≡ p.rows_for d
rows_length d p = length-map-range_with_len (λ place. p.sheet.filled d place) 0 (p.rows_for d)

pub filled_length : (done : List StepRecord) (p : Part) → length (filled_rows done p) ≡ weight p.rows_for done
filled_length [] p = refl
filled_length (d ∷ done) p = omega (arith, length-append (rows_of d p) (filled_rows done p), rows_length d p, filled_length done p)

pub filled_few : (done : List StepRecord) (p : Part) → PartRows p → weight p.rows_for done ≤ 64 * length done
filled_few [] p rows = omega arith
filled_few (d ∷ done) p rows = omega (arith, rows.few d, filled_few done p rows)

-- a height is at most twice the rows
pub next_power : (k : ℕ) → 2 ^ suc k ≡ 2 * 2 ^ k
next_power k = let e : suc k ≡ 1 + k = omega arith in ap (λ (n : ℕ). 2 ^ n) e ∙ pow-add 2 1 k

by_power : (rows height k : ℕ) → IsHeight rows height → height ≡ 2 ^ k → 1 ≤ rows → height ≤ 2 * rows
by_power rows height zero is power some = omega (arith, power, some)
by_power rows height (suc k) is power some =
    ⊎_elim
    (λ (high : 2 ^ k < rows). omega (arith, power, next_power k, high))
    (λ (low : rows ≤ 2 ^ k). absurd (omega (arith, is.least k low, power, next_power k, pow_pos k)))
    (cases_lt (2 ^ k) rows)

pub twice_at_most : (rows height : ℕ) → IsHeight rows height → height ≤ 2 * rows
twice_at_most rows height is =
    ⊎_elim
    (λ (some : 0 < rows). let p = is.power (omega (arith, some)) in by_power rows height p.0 is p.1 (omega (arith, some)))
    (λ (none : rows ≤ 0). omega (arith, is.none (omega (arith, none))))
    (cases_lt 0 rows)

pub repeated_length : {X : Type 0} (n : ℕ) (x : X) → length (replicate n x) ≡ n
repeated_length zero x = refl
repeated_length (suc n) x = omega (arith, repeated_length n x)

-- how many rows a filled table has
pub height_is : (done : List StepRecord) (p : Part) (rows : List (List ℕ)) → (filled : IsFilledTable done p rows) → length rows ≡ length (filled_rows done p) + filled.more
height_is done p rows filled =
    ap length filled.are ∙ length-append (filled_rows done p) (replicate filled.more (zero_row p.sheet)) ∙ ap (λ (n : ℕ). length (filled_rows done p) + n) (repeated_length filled.more (zero_row p.sheet))

pub table_length : (done : List StepRecord) (p : Part) (rows : List (List ℕ)) → IsFilledTable done p rows → length rows ≤ 2 * weight p.rows_for done
table_length done p rows filled =
    omega (
      arith,
      height_is done p rows filled,
      twice_at_most (length (filled_rows done p)) (length (filled_rows done p) + filled.more) filled.height,
      filled_length done p,
    )

-- ---- slots

-- the slots of the rows that a record fills
abbrev slots_for : List Part → StepRecord → ℕ
slots_for [] d = 0
slots_for (p ∷ parts) d = p.rows_for d * p.sheet.slots + slots_for parts d

part_none : (bits : ℕ) (p : Part) (d : StepRecord) → PartRows p → p.sheet.owns d.instr.op ≡ false → p.rows_for d * p.sheet.slots ≡ 0
part_none bits p d rows other =
    ⊎_elim
    (λ (some : 0 < p.sheet.slots). ap (λ (n : ℕ). n * p.sheet.slots) (rows.others d other some) ∙ omega arith)
    (λ (none : p.sheet.slots ≤ 0). ap (λ (n : ℕ). p.rows_for d * n) (let z : p.sheet.slots ≡ 0 = omega (arith, none) in z) ∙ omega arith)
    (cases_lt 0 p.sheet.slots)

slots_none : (bits : ℕ) (parts : List Part) (d : StepRecord) → AllByRecursion PartRows parts → is_owned parts d.instr.op ≡ false → slots_for parts d ≡ 0
slots_none bits [] d rows none = refl
slots_none bits (p ∷ parts) d rows none =
    omega (
      arith,
      part_none bits p d rows.0 (no_first (p.sheet.owns d.instr.op) (is_owned parts d.instr.op) none),
      slots_none bits parts d rows.1 (no_second (p.sheet.owns d.instr.op) (is_owned parts d.instr.op) none),
    )

-- a record's rows take its owner's slots, and no others
slots_few : (bits : ℕ) (parts : List Part) (d : StepRecord) → AllByRecursion (PartFits bits) parts → AllByRecursion PartRows parts → OneOwner parts → slots_for parts d ≤ 64
slots_few bits [] d fits rows one = omega arith
slots_few bits (p ∷ parts) d fits rows one =
    ⊎_elim
    (λ (mine : p.sheet.owns d.instr.op ≡ true).
    let few : p.rows_for d * p.sheet.slots ≤ 64 = subst (λ (n : ℕ). n * p.sheet.slots ≤ 64) (sym (rows.0.owned d mine)) (omega (arith, (fits.0.slots d.instr.op mine).few)) in
    omega (arith, few, slots_none bits parts d rows.1 (one.0 d.instr.op mine)))
    (λ (other : p.sheet.owns d.instr.op ≡ false). omega (arith, part_none bits p d rows.0 other, slots_few bits parts d fits.1 rows.1 one.1))
    (cases_Bool (p.sheet.owns d.instr.op))

weight_times : (f : StepRecord → ℕ) (s : ℕ) (ds : List StepRecord) → weight (λ d. f d * s) ds ≡ weight f ds * s
weight_times f s [] = omega arith
weight_times f s (d ∷ ds) = omega (arith, weight_times f s ds)

-- all rows take at most twice the slots of the records' rows
slots_twice : (done : List StepRecord) (parts : List Part) (tables : List (List (List ℕ))) → AreFilledTables done parts tables → most_slots parts tables ≤ 2 * weight (slots_for parts) done
slots_twice done [] tables filled = omega arith
slots_twice done (p ∷ parts) [] filled = omega arith
slots_twice done (p ∷ parts) (rows ∷ tables) filled =
    let here : StepRecord → ℕ = λ d. p.rows_for d * p.sheet.slots in
    let high = mul-le-mul_right p.sheet.slots (table_length done p rows filled.0) in
    omega (
      arith,
      high,
      weight_times p.rows_for p.sheet.slots done,
      weight_both here (slots_for parts) done,
      slots_twice done parts tables filled.1,
    )

weight_few : (f : StepRecord → ℕ) (n : ℕ) (ds : List StepRecord) → ((d : StepRecord) → f d ≤ n) → weight f ds ≤ n * length ds
weight_few f n [] few = omega arith
weight_few f n (d ∷ ds) few = omega (arith, few d, weight_few f n ds few)

-- at most 128 for each record
pub slots_bound : (bits : ℕ) (done : List StepRecord) (parts : List Part) (tables : List (List (List ℕ))) → AreFilledTables done parts tables → AllByRecursion (PartFits bits) parts → AllByRecursion PartRows parts → OneOwner parts
    → most_slots parts tables ≤ 128 * length done
slots_bound bits done parts tables filled fits rows one =
    omega (arith, slots_twice done parts tables filled, weight_few (slots_for parts) 64 done (λ d. slots_few bits parts d fits rows one))

-- the next power of two is the height
pub height_made : (rows height k : ℕ) → 1 ≤ rows → height ≡ 2 ^ k → rows ≤ height → height ≤ 2 * rows - 1 → IsHeight rows height
height_made rows height k some power holds most = record {
  none = λ z. absurd (omega (arith, z, some));
  power = λ h. (k, power);
  holds = holds;
  least = λ j low.
      ⊎_elim
      (λ (less : j < k). let up : 2 ^ suc j ≤ 2 ^ k = pow_mono (let h : suc j ≤ k = omega (arith, less) in h) in absurd (omega (arith, up, next_power j, power, most, low, some)))
      (λ (more : k ≤ j). let up : 2 ^ k ≤ 2 ^ j = pow_mono more in omega (arith, up, power))
      (cases_lt j k);
}
