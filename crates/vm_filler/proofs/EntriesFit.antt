-- The entries of counts are those of a canonical list.
use Rattle.std.proofs.Common.{◌≡◌, ℕ, suc, ◌+◌, ◌^◌, ◌<◌, ◌≤◌, Bool, true, false, cond, nat_eq, List, [], ◌∷◌, length, Option, Some, None, refl, sym, ◌∙◌, subst, arith}
use Rattle.std.specs.List.{AllByRecursion, range_with_len}
use Rattle.std.proofs.lemmas.Bool.{eq-eqb}
use Rattle.vm_isa.specs.declared.instr.VmInstr.{VmInstr}
use Rattle.vm_isa.specs.declared.record.StepRecord.{StepRecord}
use Rattle.vm_trace.specs.declared.count.CountEntry.{CountEntry}
use Rattle.vm_trace.specs.Canonical.{AreEntries, IsCountList}
use Rattle.air_core.specs.declared.event.Event.{Event}
use Rattle.air_core.specs.declared.event.Side.TheVariants.{Send}
use Rattle.air_core.specs.Laws.{is_lookup}
use Rattle.air_core.specs.System.{System, all_events}
use Rattle.air_core.proofs.ElementLemmas.{all_map}
use Rattle.vm_executor.specs.Records.{AreRecords}
use Rattle.acceptance.specs.Events.{fixed_row}
use Rattle.vm_filler.specs.Tables.{AreFilledTables}
use Rattle.vm_filler.specs.Uses.{fixed_rows, times_sent, uses_of, entries_from, entries_of}
use Rattle.vm_filler.proofs.FixedRows.{uses_length}
use Rattle.vm_filler.proofs.Lawful.{Lawful}
use Rattle.vm_filler.proofs.Limits.{counts_few}

abbrev Few : ℕ → Type 0
Few n = n ≤ 2 ^ 28

fit_by : (least end n : ℕ) (counts : List ℕ) (b : Bool) → nat_eq n 0 ≡ b → Few n → least < end → end ≤ 2 ^ 32 → AreEntries end (least + 1) (entries_from (least + 1) counts)
    → AreEntries end least (cond b (entries_from (least + 1) counts) (record { place = least; count = n } ∷ entries_from (least + 1) counts))
fit_by least end n counts true e few low high rest = lower least (entries_from (least + 1) counts) rest
  where
    lower : (l : ℕ) (es : List CountEntry) → AreEntries end (l + 1) es → AreEntries end l es
    lower l [] h = tt
    lower l (x ∷ es) h = (record { low = omega (arith, h.0.low); high = h.0.high; used = h.0.used; place = h.0.place; count = h.0.count }, h.1)
fit_by least end n counts false e few low high rest =
    let some : n ≡ 0 → ⊥ = λ z. absurd (let t : nat_eq n 0 ≡ true = eq-eqb n 0 z in let no : true ≡ false = sym t ∙ e in cc) in
    (record { low = omega arith; high = low; used = omega (arith, some); place = omega (arith, low, high); count = omega (arith, few) }, rest)

fit : (least : ℕ) (counts : List ℕ) → AllByRecursion Few counts → least + length counts ≤ 2 ^ 32 → AreEntries (least + length counts) least (entries_from least counts)
fit least [] few high = tt
fit least (n ∷ counts) few high =
    let later : AreEntries (least + length (n ∷ counts)) (least + 1) (entries_from (least + 1) counts) =
    subst (λ (end : ℕ). AreEntries end (least + 1) (entries_from (least + 1) counts)) (omega arith) (fit (least + 1) counts few.1 (omega (arith, high))) in
    fit_by least (least + length (n ∷ counts)) n counts (nat_eq n 0) refl few.0 (omega arith) high later

number_by : (place n m : ℕ) (es : List CountEntry) (b : Bool) → length es ≤ m → length (cond b es (record { place = place; count = n } ∷ es)) ≤ suc m
number_by place n m es true h = omega (arith, h)
number_by place n m es false h = omega (arith, h)

number : (least : ℕ) (counts : List ℕ) → length (entries_from least counts) ≤ length counts
number least [] = omega arith
number least (n ∷ counts) = number_by least n (length counts) (entries_from (least + 1) counts) (nat_eq n 0) (number (least + 1) counts)

any_of : {X : Type 0} (P : X → Type 0) → ((a : X) → P a) → (xs : List X) → AllByRecursion P xs
any_of P f [] = tt
any_of P f (a ∷ xs) = (f a, any_of P f xs)

-- ---- of a segment

module _ (x : System) (lawful : Lawful x) (program : List VmInstr) (pc : ℕ) (done : List StepRecord) (records : AreRecords x program pc done) (tables : List (List (List ℕ))) (filled : AreFilledTables done x.parts tables) where
  abbrev events : List Event
  events = all_events x.parts tables

  sent_few : (bus : ℕ) → is_lookup bus ≡ true → (found : Option (List ℕ)) → Few (times_sent events bus found)
  sent_few bus lookup None = omega arith
  sent_few bus lookup (Some row) =
      omega (arith, counts_few x lawful.complete lawful.quiet bus row lookup done records.owned records.fillable tables filled Send, records.few)

  uses_few : (bus : ℕ) → is_lookup bus ≡ true → AllByRecursion Few (uses_of program bus events)
  unfolding uses_of
  uses_few bus lookup =
      all_map Few (λ place. times_sent events bus (fixed_row program bus place)) (range_with_len 0 (fixed_rows program bus))
      (any_of (λ place. Few (times_sent events bus (fixed_row program bus place))) (λ place. sent_few bus lookup (fixed_row program bus place)) (range_with_len 0 (fixed_rows program bus)))

  pub entries_canonical : (bus rows : ℕ) → is_lookup bus ≡ true → fixed_rows program bus ≡ rows → rows < 2 ^ 32 → (es : List CountEntry) → es ≡ entries_of (uses_of program bus events) → IsCountList rows es
  entries_canonical bus rows lookup size few es are =
      let counts = uses_of program bus events in
      let long : length counts ≡ rows = uses_length program bus events ∙ size in
      subst (IsCountList rows) (sym are)
      (record {
        number = omega (arith, number 0 counts, long, few);
        each = subst (λ (end : ℕ). AreEntries end 0 (entries_of counts)) (omega (arith, long)) (fit 0 counts (uses_few bus lookup) (omega (arith, long, few)));
      })
