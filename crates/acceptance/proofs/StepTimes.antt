-- The accesses of one step in time: their times, and their bytes.
use Rattle.std.proofs.Common.{◌≡◌, ℕ, ◌+◌, ◌<◌, ◌≤◌, List, [], ◌∷◌, map, arith}
use Rattle.std.specs.List.{AllByRecursion}
use Rattle.vm_field.specs.Field.{modulus, field_add}
use Rattle.vm_isa.specs.Words.{IsBytes}
use Rattle.air_core.specs.Step.{Touched as RowAccess, Rising, NewBytes}
use Rattle.air_core.specs.Orders.{Rises}
use Rattle.air_core.specs.ListLemmas.{all_weaker}
use Rattle.offline_memory.specs.Memory.{Access}
use Rattle.offline_memory.specs.Bytes.{KeepBytes, HasBytes}
use Rattle.acceptance.specs.OneRun.{timed_access}

-- within these slots from a time on
abbrev pub Within : ℕ → ℕ → ℕ → Access → Type 0
Within time least slots a = (time + least ≤ a.time) × (a.time < time + slots)

whole_time : (time slot slots : ℕ) → slot < slots → time + slots < modulus → field_add time slot ≡ time + slot
whole_time time slot slots below fits = omega arith

pub slot_times : (time least slots : ℕ) (xs : List RowAccess) → time + slots < modulus → Rising least slots xs → AllByRecursion (Within time least slots) (map (timed_access time) xs)
slot_times time least slots [] fits r = tt
slot_times time least slots (a ∷ xs) fits r =
    let whole = whole_time time a.slot slots r.1 fits in (
      (omega (arith, whole, r.0), omega (arith, whole, r.1)),
      all_weaker (Within time (a.slot + 1) slots) (Within time least slots) (λ b h. (omega (arith, h.0, r.0), h.1)) (map (timed_access time) xs) (slot_times time (a.slot + 1) slots xs fits r.2),
    )

pub slots_rise : (time least slots : ℕ) (xs : List RowAccess) → time + slots < modulus → Rising least slots xs → Rises (λ a. a.time) (map (timed_access time) xs)
slots_rise time least slots [] fits r = tt
slots_rise time least slots (a ∷ xs) fits r =
    let whole = whole_time time a.slot slots r.1 fits in (
      all_weaker (Within time (a.slot + 1) slots) (λ b. field_add time a.slot < b.time) (λ b h. omega (arith, h.0, whole)) (map (timed_access time) xs) (slot_times time (a.slot + 1) slots xs fits r.2),
      slots_rise time (a.slot + 1) slots xs fits r.2,
    )

pub whole_accesses : (time least slots : ℕ) (xs : List RowAccess) → time + slots < modulus → Rising least slots xs → AllByRecursion (λ a. field_add time a.slot ≡ time + a.slot) xs
whole_accesses time least slots [] fits r = tt
whole_accesses time least slots (a ∷ xs) fits r = (whole_time time a.slot slots r.1 fits, whole_accesses time (a.slot + 1) slots xs fits r.2)

-- old times within the bound are before the accesses' own
pub olds_before_own : (bound limit time least slots : ℕ) (xs : List RowAccess) → time + slots < modulus → Rising least slots xs → bound ≤ limit
    → AllByRecursion (λ a. a.before ≤ limit → a.before < time + a.slot) xs → AllByRecursion (λ a. a.before ≤ bound) (map (timed_access time) xs) → AllByRecursion (λ a. a.before < a.time) (map (timed_access time) xs)
olds_before_own bound limit time least slots [] fits r far earlier low = tt
olds_before_own bound limit time least slots (a ∷ xs) fits r far earlier low =
    let within : a.before ≤ limit = omega (arith, low.0, far) in
    (omega (arith, earlier.0 within, whole_time time a.slot slots r.1 fits), olds_before_own bound limit time (a.slot + 1) slots xs fits r.2 far earlier.1 low.1)

pub new_bytes_kept : (time : ℕ) (xs : List RowAccess) → NewBytes xs → KeepBytes (map (timed_access time) xs)
new_bytes_kept time [] k = tt
new_bytes_kept time (a ∷ xs) k = λ old. ((k old).0, new_bytes_kept time xs (k old).1)

pub bytes_of_row : (time : ℕ) (xs : List RowAccess) → AllByRecursion HasBytes (map (timed_access time) xs) → AllByRecursion (λ a. IsBytes a.old × IsBytes a.new) xs
bytes_of_row time [] h = tt
bytes_of_row time (a ∷ xs) h = (h.0, bytes_of_row time xs h.1)
