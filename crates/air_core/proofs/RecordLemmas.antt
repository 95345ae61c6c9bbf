-- All rows that a record fills say it once on the machine's buses.
use Rattle.std.proofs.Common.{◌≡◌, ◌≢◌, ℕ, ◌<◌, ◌≤◌, Bool, true, false, ◌||◌, List, [], ◌∷◌, ◌++◌, map, flat_map, refl, sym, ap, subst, ◌∙◌, arith, append-nil, ⊎_elim}
use Rattle.std.specs.List.{AllByRecursion, range_with_len}
use Rattle.std.proofs.lemmas.Bool.{cases_Bool, cases_lt}
use Rattle.vm_isa.specs.declared.record.StepRecord.{StepRecord}
use Rattle.vm_isa.specs.Means.{Fillable}
use Rattle.air_core.specs.declared.event.Event.{Event}
use Rattle.air_core.specs.Laws.{Recorded}
use Rattle.air_core.specs.ListLemmas.{all_weaker, on_bus-append, on_bus_none}
use Rattle.air_core.specs.Sheet.{Sheet, OwnsSome, row_events}
use Rattle.air_core.specs.Step.{on_bus}
use Rattle.air_core.specs.System.{System, Part, is_owned, all_events, EachRow, rows_of, tables_for}
use Rattle.air_core.specs.ExtensionLaws.{ExtensionFits, ExtensionBuses, ExtensionRows, ExtensionComplete, PartFits, PartBuses, PartRows, OnOwnBus, OneOwner, SaysRecord}
use Rattle.air_core.proofs.ExtensionLemmas.{no_first, no_second}
use Rattle.air_core.specs.declared.bus.TheConstants.{EXECUTION, PROGRAM, MEMORY}

-- nothing on the machine's buses
record Silent (events : List Event) : Type 0 where
  path : on_bus EXECUTION events ≡ []
  program : on_bus PROGRAM events ≡ []
  memory : on_bus MEMORY events ≡ []

both_nothing : (bus : ℕ) (xs ys : List Event) → on_bus bus xs ≡ [] → on_bus bus ys ≡ [] → on_bus bus (xs ++ ys) ≡ []
both_nothing bus xs ys a b = on_bus-append bus xs ys ∙ rw (a, b) refl

silent_both : (xs ys : List Event) → Silent xs → Silent ys → Silent (xs ++ ys)
silent_both xs ys a b = record {
  path = both_nothing 0 xs ys a.path b.path;
  program = both_nothing 1 xs ys a.program b.program;
  memory = both_nothing 2 xs ys a.memory b.memory;
}

first_said : (bus : ℕ) (xs ys events : List Event) → on_bus bus xs ≡ events → on_bus bus ys ≡ [] → on_bus bus (xs ++ ys) ≡ events
first_said bus xs ys events a b = on_bus-append bus xs ys ∙ ap (λ (t : List Event). on_bus bus xs ++ t) b ∙ append-nil (on_bus bus xs) ∙ a

second_said : (bus : ℕ) (xs ys events : List Event) → on_bus bus xs ≡ [] → on_bus bus ys ≡ events → on_bus bus (xs ++ ys) ≡ events
second_said bus xs ys events a b = on_bus-append bus xs ys ∙ ap (λ (t : List Event). t ++ on_bus bus ys) a ∙ b

recorded_first : (done : StepRecord) (xs ys : List Event) → Recorded done xs → Silent ys → Recorded done (xs ++ ys)
recorded_first done xs ys r s = record {
  path = first_said 0 xs ys _ r.path s.path;
  program = first_said 1 xs ys _ r.program s.program;
  memory = first_said 2 xs ys _ r.memory s.memory;
}

recorded_second : (done : StepRecord) (xs ys : List Event) → Silent xs → Recorded done ys → Recorded done (xs ++ ys)
recorded_second done xs ys s r = record {
  path = second_said 0 xs ys _ s.path r.path;
  program = second_said 1 xs ys _ s.program r.program;
  memory = second_said 2 xs ys _ s.memory r.memory;
}

-- a table that owns no opcode says nothing there
silent_row : (private : ℕ → Bool) (p : Part) → PartBuses private p → (OwnsSome p.sheet → ⊥) → (row : List ℕ) → Silent (row_events p.sheet row)
silent_row private p buses none row =
    let away : (bus : ℕ) → bus < 3 → AllByRecursion (λ e. e.bus ≢ bus) (row_events p.sheet row) = λ bus low.
    all_weaker (OnOwnBus private p.sheet) (λ e. e.bus ≢ bus) (λ e h same. none (h.machine (omega (arith, low, same)))) (row_events p.sheet row) (buses.uses row) in
    record {
      path = on_bus_none 0 (row_events p.sheet row) (away 0 (omega arith));
      program = on_bus_none 1 (row_events p.sheet row) (away 1 (omega arith));
      memory = on_bus_none 2 (row_events p.sheet row) (away 2 (omega arith));
    }

silent_rows : (private : ℕ → Bool) (p : Part) → PartBuses private p → (OwnsSome p.sheet → ⊥) → (rows : List (List ℕ)) → Silent (flat_map (row_events p.sheet) rows)
silent_rows private p buses none [] = record { path = refl; program = refl; memory = refl }
silent_rows private p buses none (row ∷ rows) =
    silent_both (row_events p.sheet row) (flat_map (row_events p.sheet) rows) (silent_row private p buses none row) (silent_rows private p buses none rows)

no_rows_said : (done : StepRecord) (p : Part) → p.rows_for done ≡ 0 → Silent (flat_map (row_events p.sheet) (rows_of done p))
no_rows_said done p none = rw none (record { path = refl; program = refl; memory = refl })

-- so does a table that owns another opcode, of this record
silent_part : (bits : ℕ) (private : ℕ → Bool) (done : StepRecord) (p : Part) → PartFits bits p → PartBuses private p → PartRows p → p.sheet.owns done.instr.op ≡ false
    → Silent (flat_map (row_events p.sheet) (rows_of done p))
silent_part bits private done p fits buses rows other =
    ⊎_elim
    (λ (some : 0 < p.sheet.slots). no_rows_said done p (rows.others done other (omega (arith, some))))
    (λ (none : p.sheet.slots ≤ 0).
    silent_rows private p buses (λ owns. let s = fits.slots owns.0 owns.1 in absurd (omega (arith, s.some, none))) (rows_of done p))
    (cases_lt 0 p.sheet.slots)

silent_parts : (bits : ℕ) (private : ℕ → Bool) (done : StepRecord) (ps : List Part) → AllByRecursion (PartFits bits) ps → AllByRecursion (PartBuses private) ps → AllByRecursion PartRows ps
    → is_owned ps done.instr.op ≡ false → Silent (all_events ps (tables_for done ps))
silent_parts bits private done [] fits buses rows none = record { path = refl; program = refl; memory = refl }
silent_parts bits private done (p ∷ ps) fits buses rows none =
    silent_both (flat_map (row_events p.sheet) (rows_of done p)) (all_events ps (tables_for done ps))
    (silent_part bits private done p fits.0 buses.0 rows.0 (no_first (p.sheet.owns done.instr.op) (is_owned ps done.instr.op) none))
    (silent_parts bits private done ps fits.1 buses.1 rows.1 (no_second (p.sheet.owns done.instr.op) (is_owned ps done.instr.op) none))

-- the owner fills one row, which says the record
owner_says : (done : StepRecord) (sheet : Sheet) (n : ℕ) → n ≡ 1 → sheet.owns done.instr.op ≡ true
    → AllByRecursion (SaysRecord done sheet) (map (λ place. sheet.filled done place) (range_with_len 0 n)) → Recorded done (flat_map (row_events sheet) (map (λ place. sheet.filled done place) (range_with_len 0 n)))
owner_says done sheet n one owns says =
    let here : AllByRecursion (SaysRecord done sheet) (sheet.filled done 0 ∷ []) = rw one at says in
    rw one (subst (Recorded done) (sym (append-nil (row_events sheet (sheet.filled done 0)))) (here.0 owns))

said_by : (a b : Bool) → (a || b) ≡ true → a ≡ false → b ≡ true
said_by true b h e = absurd (cc)
said_by false b h e = h

said_parts : (bits : ℕ) (private : ℕ → Bool) (done : StepRecord) (ps : List Part) → AllByRecursion (PartFits bits) ps → AllByRecursion (PartBuses private) ps → AllByRecursion PartRows ps → OneOwner ps
    → is_owned ps done.instr.op ≡ true → EachRow (SaysRecord done) ps (tables_for done ps) → Recorded done (all_events ps (tables_for done ps))
said_parts bits private done [] fits buses rows one owned says = absurd (cc)
said_parts bits private done (p ∷ ps) fits buses rows one owned says =
    let here = flat_map (row_events p.sheet) (rows_of done p) in
    let later = all_events ps (tables_for done ps) in
    ⊎_elim
    (λ (mine : p.sheet.owns done.instr.op ≡ true).
    recorded_first done here later (owner_says done p.sheet (p.rows_for done) (rows.0.owned done mine) mine says.0)
    (silent_parts bits private done ps fits.1 buses.1 rows.1 (one.0 done.instr.op mine)))
    (λ (other : p.sheet.owns done.instr.op ≡ false).
    recorded_second done here later (silent_part bits private done p fits.0 buses.0 rows.0 other)
    (said_parts bits private done ps fits.1 buses.1 rows.1 one.1 (said_by (p.sheet.owns done.instr.op) (is_owned ps done.instr.op) owned other) says.1))
    (cases_Bool (p.sheet.owns done.instr.op))

pub said_once : (x : System) → ExtensionFits x → ExtensionBuses x → ExtensionRows x → ExtensionComplete x → (done : StepRecord) → is_owned x.parts done.instr.op ≡ true → Fillable x.time_bits done
    → Recorded done (all_events x.parts (tables_for done x.parts))
said_once x fits buses rows complete done owned fillable =
    said_parts x.time_bits x.private done x.parts fits.parts buses rows.parts fits.owners owned (complete done owned fillable).says
