-- The laws of the extension of one table, from those of its chip; and of those without a chip.
use Rattle.std.specs.Prelude.{◌≡◌, ℕ, zero, suc, ◌^◌, ◌≤◌, Bool, true, false, ◌||◌, if◌then◌else◌, List, [], ◌∷◌, ◌++◌, length, take, drop, replicate, refl, sum_by}
use Rattle.std.proofs.Common.{sym, ◌∙◌, subst, inl, arith, lit<, lit≤, append-nil}
use Rattle.std.specs.List.{AllByRecursion}
use Rattle.std.proofs.lemmas.List.Sums.{sum_by-cons}
use Rattle.vm_isa.specs.declared.record.StepRecord.{StepRecord}
use Rattle.air_core.specs.declared.event.Event.{Event}
use Rattle.air_core.specs.Join.{single, no_chips, reserved, reserved_sheet}
use Rattle.air_core.specs.Laws.{Fits, Buses, MayBus, Timed, Sound, Complete, Quiet, Filled, is_lookup}
use Rattle.air_core.specs.ListLemmas.{all_weaker}
use Rattle.air_core.specs.Sheet.{Sheet, AllZero, row_events}
use Rattle.air_core.specs.System.{GoodRow, tables_for}
use Rattle.air_core.specs.ExtensionLaws.{ExtensionFits, ExtensionBuses, ExtensionRows, ExtensionTimed, ExtensionSound, ExtensionComplete, ExtensionQuiet, OnOwnBus, SoundRow, RecordRows, lookup_count}

-- ---- one table

or_false : (b : Bool) → (b || false) ≡ true → b ≡ true
or_false true h = refl
or_false false h = h

or_none : (b : Bool) → (b || false) ≡ false → b ≡ false
or_none true h = absurd (cc)
or_none false h = h

abbrev once : Bool → ℕ
once b = if b then 1 else 0

if_owned : (b : Bool) → b ≡ true → once b ≡ 1
if_owned b h = rw h refl

if_unowned : (b : Bool) → b ≡ false → once b ≡ 0
if_unowned b h = rw h refl

if_few : (b : Bool) → once b ≤ 64
if_few true = lit≤ tt
if_few false = lit≤ tt

pub single_fits : (sheet : Sheet) → Fits sheet → ExtensionFits (single sheet)
single_fits sheet fits = record {
  bits_low = fits.bits_low;
  bits_high = fits.bits_high;
  count = lit< tt;
  width = omega (arith, fits.width);
  private_high = λ bus h. absurd (cc);
  private_byte = λ bus h. absurd (cc);
  parts = (record { bits_same = refl; slots = λ op owns. let o = fits.owned op owns in record { are = o.slots; some = o.some; few = o.few } }, tt);
  owners = (λ op owns. refl, tt);
}

pub single_buses : (sheet : Sheet) → sheet.alone ≡ true → Buses sheet → ExtensionBuses (single sheet)
single_buses sheet alone buses = (
  record {
    uses = λ row.
        all_weaker (MayBus sheet) (OnOwnBus (λ _. false) sheet)
        (λ e h. record { lookup = h.lookup; machine = h.machine; own = λ high. absurd (let never : sheet.alone ≡ false = h.private high in cc) })
        (row_events sheet row) (buses.uses row);
    few = buses.few;
  },
  tt,
)

pub single_rows : (sheet : Sheet) → ExtensionRows (single sheet)
single_rows sheet = record {
  parts = (
    record {
      owned = λ done h. if_owned (sheet.owns done.instr.op) h;
      others = λ done h slots. if_unowned (sheet.owns done.instr.op) h;
      few = λ done. if_few (sheet.owns done.instr.op);
    },
    tt,
  );
  unowned = λ done h. (if_unowned (sheet.owns done.instr.op) (or_none (sheet.owns done.instr.op) h), tt);
}

pub single_timed : (sheet : Sheet) → Timed sheet → ExtensionTimed (single sheet)
single_timed sheet timed = (timed, tt)

pub single_sound : (sheet : Sheet) → sheet.alone ≡ true → Sound sheet → ExtensionSound (single sheet)
single_sound sheet alone sound [] w = absurd (omega (arith, w.count))
single_sound sheet alone sound (rows ∷ tables) w =
    (all_weaker (GoodRow sheet) (SoundRow sheet) (λ row g owns. sound alone row g.is_row g.holds g.good) rows w.rows.0, tt)

no_flags : (d k : ℕ) → AllZero (take k (drop d []))
no_flags zero zero = tt
no_flags zero (suc k) = tt
no_flags (suc d) zero = tt
no_flags (suc d) (suc k) = tt

flags_zero : (d n k : ℕ) → AllZero (take k (drop d (replicate n 0)))
flags_zero d zero k = no_flags d k
flags_zero zero (suc n) zero = tt
flags_zero zero (suc n) (suc k) = (refl, flags_zero zero n k)
flags_zero (suc d) (suc n) k = flags_zero d n k

pub single_quiet : (sheet : Sheet) → Quiet sheet → ExtensionQuiet (single sheet)
single_quiet sheet quiet =
    (record { holds = quiet.holds; silent = quiet.silent (replicate sheet.width 0) (flags_zero sheet.first_flag sheet.width sheet.flags) }, tt)

count_once : (lookup : Bool) (n : ℕ) → n ≡ 1 → (if lookup then n else 0) ≤ 1
count_once true n h = omega (arith, h)
count_once false n h = omega arith

lookups_few : (events : List Event) → AllByRecursion (λ e. e.count ≡ 1) events → sum_by lookup_count events ≤ length events
lookups_few [] h = omega arith
lookups_few (e ∷ events) h =
    omega (arith, sum_by-cons lookup_count e events, count_once (is_lookup e.bus) e.count h.0, lookups_few events h.1)

-- the one row of a record
one_table : (sheet : Sheet) (done : StepRecord) → sheet.owns done.instr.op ≡ true → (sheet.filled done 0 ∷ []) ∷ [] ≡ tables_for done (single sheet).parts
one_table sheet done owns = rw owns refl

one_row : (sheet : Sheet) → Buses sheet → (done : StepRecord) (row : List ℕ) → sheet.owns done.instr.op ≡ true → Filled sheet done row → RecordRows (single sheet) done ((row ∷ []) ∷ [])
one_row sheet buses done row owns f =
    let same : row_events sheet row ≡ (row_events sheet row ++ []) ++ [] = sym (append-nil (row_events sheet row ++ []) ∙ append-nil (row_events sheet row)) in
    record {
      rows = ((record { is_row = f.is_row; holds = f.holds; good = f.good }, tt), tt);
      says = ((λ mine. f.recorded owns, tt), tt);
      balanced = record { even = λ bus tuple h. absurd (cc) };
      lookups = subst (λ (t : List Event). sum_by lookup_count t ≤ 4096) same
          (omega (arith, lookups_few (row_events sheet row) f.counts, buses.few row));
    }

pub single_complete : (sheet : Sheet) → Fits sheet → Buses sheet → Complete sheet → ExtensionComplete (single sheet)
single_complete sheet fits buses complete done owned fillable =
    let owns = or_false (sheet.owns done.instr.op) owned in
    let o = fits.owned done.instr.op owns in
    let f = complete done 0 fillable o.takes (omega (arith, o.row)) in
    subst (RecordRows (single sheet) done) (one_table sheet done owns) (one_row sheet buses done (sheet.filled done 0) owns f)

-- ---- no table

pub no_fits : (bits : ℕ) → 24 ≤ bits → bits ≤ 29 → ExtensionFits (no_chips bits)
no_fits bits low high = record {
  bits_low = low;
  bits_high = high;
  count = lit< tt;
  width = lit≤ tt;
  private_high = λ bus h. absurd (cc);
  private_byte = λ bus h. absurd (cc);
  parts = tt;
  owners = tt;
}

pub no_rows : (bits : ℕ) → ExtensionRows (no_chips bits)
no_rows bits = record { parts = tt; unowned = λ done h. tt }

pub no_sound : (bits : ℕ) → ExtensionSound (no_chips bits)
no_sound bits tables w = tt

pub no_complete : (bits : ℕ) → ExtensionComplete (no_chips bits)
no_complete bits done owned fillable = absurd (cc)

-- ---- a table without opcode and events

all_zeros : (n : ℕ) → AllZero (replicate n 0)
all_zeros zero = tt
all_zeros (suc n) = (refl, all_zeros n)

module _ (width slots bits : ℕ) where
  pub reserved_fits : width ≤ 2 ^ 24 → 24 ≤ bits → bits ≤ 29 → ExtensionFits (reserved width slots bits)
  reserved_fits wide low high = record {
    bits_low = low;
    bits_high = high;
    count = lit< tt;
    width = omega (arith, wide);
    private_high = λ bus h. absurd (cc);
    private_byte = λ bus h. absurd (cc);
    parts = (record { bits_same = refl; slots = λ op h. absurd (cc) }, tt);
    owners = (λ op h. refl, tt);
  }

  pub reserved_buses : ExtensionBuses (reserved width slots bits)
  reserved_buses = (record { uses = λ row. tt; few = λ row. lit≤ tt }, tt)

  pub reserved_rows : ExtensionRows (reserved width slots bits)
  reserved_rows = record {
    parts = (record { owned = λ done h. absurd (cc); others = λ done h s. refl; few = λ done. lit≤ tt }, tt);
    unowned = λ done h. (refl, tt);
  }

  pub reserved_timed : ExtensionTimed (reserved width slots bits)
  reserved_timed = (λ owns. absurd (let h : false ≡ true = owns.1 in cc), tt)

  silent_rows : (rows : List (List ℕ)) → AllByRecursion (SoundRow (reserved_sheet width slots bits)) rows
  silent_rows [] = tt
  silent_rows (row ∷ rows) = (λ owns. inl refl, silent_rows rows)

  pub reserved_sound : ExtensionSound (reserved width slots bits)
  reserved_sound [] w = tt
  reserved_sound (rows ∷ tables) w = (silent_rows rows, tt)

  pub reserved_complete : ExtensionComplete (reserved width slots bits)
  reserved_complete done owned fillable = absurd (cc)

  pub reserved_quiet : ExtensionQuiet (reserved width slots bits)
  reserved_quiet = (record { holds = all_zeros width; silent = refl }, tt)
