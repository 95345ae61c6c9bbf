-- The laws of two extensions joined, from those of each.
use Rattle.std.specs.Prelude.{◌≡◌, ◌≢◌, ℕ, ◌+◌, ◌≤◌, ◌⊎◌, Bool, true, false, ◌||◌, List, [], ◌∷◌, ◌++◌, length, take, drop, refl, sum_by}
use Rattle.std.proofs.Common.{sym, ap, ◌∙◌, subst, inl, inr, ⊎_elim, arith, append-nil, length-append, take-append-drop}
use Rattle.std.specs.List.{AllByRecursion}
use Rattle.std.proofs.lemmas.List.{length-take-le, length-drop}
use Rattle.std.proofs.lemmas.Bool.{false_from_ne_true}
use Rattle.std.proofs.lemmas.List.Sums.{sum_by-append}
use Rattle.vm_isa.specs.declared.record.StepRecord.{StepRecord}
use Rattle.vm_isa.specs.Means.{Fillable}
use Rattle.air_core.specs.declared.event.Event.{Event}
use Rattle.air_core.specs.declared.event.Side.TheVariants.{Send, Receive}
use Rattle.air_core.specs.Balance.{BalancedOn}
use Rattle.air_core.specs.ListLemmas.{all_append, all_weaker}
use Rattle.air_core.specs.Laws.{Timed}
use Rattle.air_core.specs.Orders.{Distinct}
use Rattle.air_core.specs.Sheet.{Sheet, row_events}
use Rattle.air_core.specs.System.{System, Part, is_owned, all_events, EachRow, GoodRow, Whole, tables_for, times_of}
use Rattle.air_core.specs.ExtensionLaws.{ExtensionFits, ExtensionBuses, ExtensionRows, ExtensionTimed, ExtensionSound, ExtensionComplete, ExtensionQuiet, PartFits, PartBuses, PartRows, OnOwnBus, OneOwner, SoundRow, SaysRecord, RecordRows, QuietZeros, Joinable, lookup_count}
use Rattle.air_core.specs.Join.{join}
use Rattle.air_core.specs.PartLemmas.{is_owned-append, each_left, each_right, each_both, events_both, distinct_left, distinct_right, times_of-append, each_filled, events_filled, each_unfilled, events_unfilled, total_elsewhere, away, all_own, balanced_first, balanced_second}
use Rattle.air_core.specs.lemmas.OneHot.{or_true}

or_left : (a b : Bool) → a ≡ true → (a || b) ≡ true
or_left true b h = refl
or_left false b h = absurd (cc)

or_cases : (a b : Bool) → (a || b) ≡ true → (a ≡ true) ⊎ (b ≡ true)
or_cases true b h = inl refl
or_cases false b h = inr h

-- Law Fits

parts_bits : (a b : ℕ) → a ≡ b → (ps : List Part) → AllByRecursion (PartFits a) ps → AllByRecursion (PartFits b) ps
parts_bits a b same ps h = subst (λ (n : ℕ). AllByRecursion (PartFits n) ps) same h

one_owner : (xs ys : List Part) → OneOwner xs → OneOwner ys → ((op : ℕ) → is_owned xs op ≡ true → is_owned ys op ≡ true → ⊥) → OneOwner (xs ++ ys)
one_owner [] ys a b apart = b
one_owner (p ∷ xs) ys a b apart = (
  λ op owns.
      let other : is_owned ys op ≡ false = false_from_ne_true (is_owned ys op) (apart op (or_left (p.sheet.owns op) (is_owned xs op) owns)) in
      is_owned-append xs ys op ∙ rw (a.0 op owns, other) refl,
  one_owner xs ys a.1 b (λ op h. apart op (or_true (p.sheet.owns op) (is_owned xs op) h)),
)

pub join_fits : (x y : System) → ExtensionFits x → ExtensionFits y → Joinable x y → ExtensionFits (join x y)
join_fits x y a b j = record {
  bits_low = a.bits_low;
  bits_high = a.bits_high;
  count = omega (arith, j.count, length-append x.parts y.parts);
  width = omega (arith, j.width, sum_by-append (λ (p : Part). p.sheet.width) x.parts y.parts);
  private_high = λ bus h. ⊎_elim (λ (l : x.private bus ≡ true). a.private_high bus l) (λ (r : y.private bus ≡ true). b.private_high bus r) (or_cases (x.private bus) (y.private bus) h);
  private_byte = λ bus h. ⊎_elim (λ (l : x.private bus ≡ true). a.private_byte bus l) (λ (r : y.private bus ≡ true). b.private_byte bus r) (or_cases (x.private bus) (y.private bus) h);
  parts = all_append (PartFits x.time_bits) x.parts y.parts a.parts (parts_bits y.time_bits x.time_bits (sym j.bits) y.parts b.parts);
  owners = one_owner x.parts y.parts a.owners b.owners j.opcodes;
}

-- Law Buses

on_more : (on both : ℕ → Bool) → ((bus : ℕ) → on bus ≡ true → both bus ≡ true) → (sheet : Sheet) (e : Event) → OnOwnBus on sheet e → OnOwnBus both sheet e
on_more on both part sheet e h = record { lookup = h.lookup; machine = h.machine; own = λ high. part e.bus (h.own high) }

more_buses : (on both : ℕ → Bool) → ((bus : ℕ) → on bus ≡ true → both bus ≡ true) → (p : Part) → PartBuses on p → PartBuses both p
more_buses on both part p h = record {
  uses = λ row. all_weaker (OnOwnBus on p.sheet) (OnOwnBus both p.sheet) (on_more on both part p.sheet) (row_events p.sheet row) (h.uses row);
  few = h.few;
}

pub join_buses : (x y : System) → ExtensionBuses x → ExtensionBuses y → ExtensionBuses (join x y)
join_buses x y a b =
    let both : ℕ → Bool = λ bus. x.private bus || y.private bus in
    all_append (PartBuses both) x.parts y.parts
    (all_weaker (PartBuses x.private) (PartBuses both) (more_buses x.private both (λ bus h. or_left (x.private bus) (y.private bus) h)) x.parts a)
    (all_weaker (PartBuses y.private) (PartBuses both) (more_buses y.private both (λ bus h. or_true (x.private bus) (y.private bus) h)) y.parts b)

-- Laws Rows, Timed and Quiet

no_left : (a b : Bool) → (a || b) ≡ false → a ≡ false
no_left true b h = absurd (cc)
no_left false b h = refl

no_right : (a b : Bool) → (a || b) ≡ false → b ≡ false
no_right true b h = absurd (cc)
no_right false b h = h

pub join_rows : (x y : System) → ExtensionRows x → ExtensionRows y → ExtensionRows (join x y)
join_rows x y a b = record {
  parts = all_append PartRows x.parts y.parts a.parts b.parts;
  unowned = λ done h.
      let none : (is_owned x.parts done.instr.op || is_owned y.parts done.instr.op) ≡ false = sym (is_owned-append x.parts y.parts done.instr.op) ∙ h in
      all_append (λ p. p.rows_for done ≡ 0) x.parts y.parts
      (a.unowned done (no_left (is_owned x.parts done.instr.op) (is_owned y.parts done.instr.op) none))
      (b.unowned done (no_right (is_owned x.parts done.instr.op) (is_owned y.parts done.instr.op) none));
}

pub join_timed : (x y : System) → ExtensionTimed x → ExtensionTimed y → ExtensionTimed (join x y)
join_timed x y a b = all_append (λ (p : Part). Timed p.sheet) x.parts y.parts a b

pub join_quiet : (x y : System) → ExtensionQuiet x → ExtensionQuiet y → ExtensionQuiet (join x y)
join_quiet x y a b = all_append (λ (p : Part). QuietZeros p.sheet) x.parts y.parts a b

-- Law Sound

-- events of the other are on no private bus of the one
elsewhere : (on other : ℕ → Bool) → ((bus : ℕ) → on bus ≡ true → 6 ≤ bus) → ((bus : ℕ) → on bus ≡ true → other bus ≡ true → ⊥) → (ps : List Part) → AllByRecursion (PartBuses other) ps → (tables : List (List (List ℕ)))
    → (bus : ℕ) → on bus ≡ true → AllByRecursion (λ e. e.bus ≢ bus) (all_events ps tables)
elsewhere on other high apart ps buses tables bus h =
    away other bus (high bus h) (apart bus h) (all_events ps tables) (all_own other ps buses tables)

whole_first : (x y : System) → ExtensionFits x → ExtensionBuses y → Joinable x y → (front rear : List (List (List ℕ))) → length front ≡ length x.parts → Whole (join x y) (front ++ rear) → Whole x front
whole_first x y fits buses j front rear n w =
    let both : ℕ → Bool = λ bus. x.private bus || y.private bus in
    let parted = events_both x.parts y.parts front rear n in
    record {
      count = n;
      rows = each_left GoodRow x.parts y.parts front rear n w.rows;
      balanced = balanced_first x.private both (all_events x.parts front) (all_events y.parts rear) (λ bus h. or_left (x.private bus) (y.private bus) h)
          (elsewhere x.private y.private fits.private_high j.buses y.parts buses rear) (subst (BalancedOn both) parted w.balanced);
      times = distinct_left (times_of (all_events x.parts front)) (times_of (all_events y.parts rear))
          (subst Distinct (ap times_of parted ∙ times_of-append (all_events x.parts front) (all_events y.parts rear)) w.times);
    }

whole_second : (x y : System) → ExtensionFits y → ExtensionBuses x → Joinable x y → (front rear : List (List (List ℕ))) → length front ≡ length x.parts → length rear ≡ length y.parts → Whole (join x y) (front ++ rear) → Whole y rear
whole_second x y fits buses j front rear n m w =
    let both : ℕ → Bool = λ bus. x.private bus || y.private bus in
    let parted = events_both x.parts y.parts front rear n in
    record {
      count = m;
      rows = each_right GoodRow x.parts y.parts front rear n w.rows;
      balanced = balanced_second y.private both (all_events x.parts front) (all_events y.parts rear) (λ bus h. or_true (x.private bus) (y.private bus) h)
          (elsewhere y.private x.private fits.private_high (λ bus h k. j.buses bus k h) x.parts buses front) (subst (BalancedOn both) parted w.balanced);
      times = distinct_right (times_of (all_events x.parts front)) (times_of (all_events y.parts rear))
          (subst Distinct (ap times_of parted ∙ times_of-append (all_events x.parts front) (all_events y.parts rear)) w.times);
    }

sound_parts : (x y : System) → ExtensionFits x → ExtensionFits y → ExtensionBuses x → ExtensionBuses y → ExtensionSound x → ExtensionSound y → Joinable x y
    → (front rear : List (List (List ℕ))) → length front ≡ length x.parts → length rear ≡ length y.parts → Whole (join x y) (front ++ rear) → EachRow SoundRow (x.parts ++ y.parts) (front ++ rear)
sound_parts x y fits_x fits_y buses_x buses_y sound_x sound_y j front rear n m w =
    each_both SoundRow x.parts y.parts front rear n
    (sound_x front (whole_first x y fits_x buses_y j front rear n w))
    (sound_y rear (whole_second x y fits_y buses_x j front rear n m w))

pub join_sound : (x y : System) → ExtensionFits x → ExtensionFits y → ExtensionBuses x → ExtensionBuses y → ExtensionSound x → ExtensionSound y → Joinable x y → ExtensionSound (join x y)
join_sound x y fits_x fits_y buses_x buses_y sound_x sound_y j tables w =
    let k = length x.parts in
    let front = take k tables in
    let rear = drop k tables in
    let long : length tables ≡ k + length y.parts = w.count ∙ length-append x.parts y.parts in
    let back : front ++ rear ≡ tables = take-append-drop k tables in
    let n : length front ≡ k = length-take-le k tables (omega (arith, long)) in
    let m : length rear ≡ length y.parts = omega (arith, long, length-drop k tables) in
    subst (EachRow SoundRow (x.parts ++ y.parts)) back
    (sound_parts x y fits_x fits_y buses_x buses_y sound_x sound_y j front rear n m (subst (Whole (join x y)) (sym back) w))

-- Law Complete

-- what balances on some buses balances on more, where no event is on those
balanced_more : (on both : ℕ → Bool) (events : List Event) → ((bus : ℕ) → both bus ≡ true → (on bus ≡ true) ⊎ AllByRecursion (λ e. e.bus ≢ bus) events) → BalancedOn on events → BalancedOn both events
balanced_more on both events cases balanced = record {
  even = λ bus tuple h.
      ⊎_elim
      (λ (own : on bus ≡ true). balanced.even bus tuple own)
      (λ (none : AllByRecursion (λ e. e.bus ≢ bus) events). total_elsewhere Send bus tuple events none ∙ sym (total_elsewhere Receive bus tuple events none))
      (cases bus h);
}

filled_first : (x y : System) → ExtensionFits y → ExtensionBuses x → Joinable x y → (done : StepRecord) → AllByRecursion (λ p. p.rows_for done ≡ 0) y.parts → RecordRows x done (tables_for done x.parts) → RecordRows (join x y) done (tables_for done (x.parts ++ y.parts))
filled_first x y fits buses j done none r =
    let both : ℕ → Bool = λ bus. x.private bus || y.private bus in
    let events = all_events x.parts (tables_for done x.parts) in
    let same : events ≡ all_events (x.parts ++ y.parts) (tables_for done (x.parts ++ y.parts)) =
    sym (events_filled done x.parts y.parts ∙ ap (λ (t : List Event). events ++ t) (events_unfilled done y.parts none) ∙ append-nil events) in
    record {
      rows = each_filled GoodRow done x.parts y.parts r.rows (each_unfilled GoodRow done y.parts none);
      says = each_filled (SaysRecord done) done x.parts y.parts r.says (each_unfilled (SaysRecord done) done y.parts none);
      balanced = subst (BalancedOn both) same (balanced_more x.private both events
          (λ bus h. ⊎_elim (λ (l : x.private bus ≡ true). inl l) (λ (o : y.private bus ≡ true). inr (elsewhere y.private x.private fits.private_high (λ b p q. j.buses b q p) x.parts buses (tables_for done x.parts) bus o)) (or_cases (x.private bus) (y.private bus) h))
          r.balanced);
      lookups = subst (λ (t : List Event). sum_by lookup_count t ≤ 4096) same r.lookups;
    }

filled_second : (x y : System) → ExtensionFits x → ExtensionBuses y → Joinable x y → (done : StepRecord) → AllByRecursion (λ p. p.rows_for done ≡ 0) x.parts → RecordRows y done (tables_for done y.parts) → RecordRows (join x y) done (tables_for done (x.parts ++ y.parts))
filled_second x y fits buses j done none r =
    let both : ℕ → Bool = λ bus. x.private bus || y.private bus in
    let events = all_events y.parts (tables_for done y.parts) in
    let same : events ≡ all_events (x.parts ++ y.parts) (tables_for done (x.parts ++ y.parts)) =
    sym (events_filled done x.parts y.parts ∙ ap (λ (t : List Event). t ++ events) (events_unfilled done x.parts none)) in
    record {
      rows = each_filled GoodRow done x.parts y.parts (each_unfilled GoodRow done x.parts none) r.rows;
      says = each_filled (SaysRecord done) done x.parts y.parts (each_unfilled (SaysRecord done) done x.parts none) r.says;
      balanced = subst (BalancedOn both) same (balanced_more y.private both events
          (λ bus h. ⊎_elim (λ (o : x.private bus ≡ true). inr (elsewhere x.private y.private fits.private_high j.buses y.parts buses (tables_for done y.parts) bus o)) (λ (l : y.private bus ≡ true). inl l) (or_cases (x.private bus) (y.private bus) h))
          r.balanced);
      lookups = subst (λ (t : List Event). sum_by lookup_count t ≤ 4096) same r.lookups;
    }

pub join_complete : (x y : System) → ExtensionFits x → ExtensionFits y → ExtensionBuses x → ExtensionBuses y → ExtensionRows x → ExtensionRows y → ExtensionComplete x → ExtensionComplete y → Joinable x y → ExtensionComplete (join x y)
join_complete x y fits_x fits_y buses_x buses_y rows_x rows_y a b j done owned fillable =
    let op = done.instr.op in
    ⊎_elim
    (λ (first : is_owned x.parts op ≡ true).
    filled_first x y fits_y buses_x j done (rows_y.unowned done (false_from_ne_true (is_owned y.parts op) (j.opcodes op first))) (a done first fillable))
    (λ (second : is_owned y.parts op ≡ true).
    filled_second x y fits_x buses_y j done (rows_x.unowned done (false_from_ne_true (is_owned x.parts op) (λ first. j.opcodes op first second)))
    (b done second (subst (λ (n : ℕ). Fillable n done) j.bits fillable)))
    (or_cases (is_owned x.parts op) (is_owned y.parts op) (sym (is_owned-append x.parts y.parts op) ∙ owned))
