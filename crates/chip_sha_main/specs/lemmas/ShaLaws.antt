-- The laws of the two tables, but for Sound and Complete.
use Rattle.std.proofs.Common.{◌≡◌, ℕ, zero, suc, ◌<◌, ◌≤◌, Bool, true, false, ◌||◌, if◌then◌else◌, nat_eq, List, [], ◌∷◌, ◌++◌, replicate, slice_index, refl, arith, lit<, lit≤}
use Rattle.std.specs.List.{AllByRecursion}
use Rattle.std.proofs.lemmas.Bool.{eq-eqb, eqb-true}
use Rattle.air_core.specs.declared.event.Event.{Event}
use Rattle.air_core.specs.ExtensionLaws.{ExtensionFits, ExtensionBuses, ExtensionRows, ExtensionTimed, ExtensionQuiet, OnOwnBus, SlotsFit}
use Rattle.air_core.specs.Hint.{NoHint}
use Rattle.air_core.specs.Laws.{MayBus}
use Rattle.air_core.specs.ListLemmas.{all_append, all_counted, all_weaker}
use Rattle.air_core.specs.Ring.{field}
use Rattle.air_core.specs.Sheet.{Sheet, IsRow, RowHolds, counted, row_events}
use Rattle.air_core.specs.System.{sheet_at}
use Rattle.gadget_bits.specs.declared.halves.Halves.{Halves}
use Rattle.gadget_bits.specs.Sum.{sum_lines}
use Rattle.gadget_time.specs.Form.{Columns, columns, told_by}
use Rattle.gadget_time.specs.Told.{told_front, told_lines}
use Rattle.gadget_time.specs.lemmas.FormBounds.{form_buses, form_fits, form_quiet}
use Rattle.gadget_time.specs.lemmas.FormSound.{form_no_hint, form_timed}
use Rattle.chip_sha_round.specs.Round.{RoundRow, round_row, round_lines, stage_lines}
use Rattle.chip_sha_round.specs.Sheet.{round_sheet}
use Rattle.chip_sha_round.specs.lemmas.RoundTable.{round_all, round_buses, round_no_hint, round_quiet, round_timed}
use Rattle.chip_sha_main.specs.Main.{MainRow, main_of, main_ranges, chain_lines}
use Rattle.chip_sha_main.specs.Sha.{sha}
use Rattle.chip_sha_main.specs.Sheet.{main_form, main_sheet}
use Rattle.chip_sha_main.specs.lemmas.Bus.{front_low, ranges_low}
use Rattle.chip_sha_main.specs.lemmas.MainLaws.{main_laws, main_no_hints}

-- Law Fits

slots : (hi op : ℕ) → 8 ≤ hi → hi ≤ 13 → (main_sheet hi).owns op ≡ true → SlotsFit (main_sheet hi) op
slots hi op low top h = let o = (form_fits main_form hi main_laws low top).owned op h in record { are = o.slots; some = o.some; few = o.few }

pub sha_fits : (hi : ℕ) → 8 ≤ hi → hi ≤ 13 → ExtensionFits (sha hi)
sha_fits hi low top = record {
  bits_low = omega arith;
  bits_high = omega arith;
  count = lit< tt;
  width = lit≤ tt;
  private_high = λ bus h. omega (arith, eqb-true bus 6 h);
  private_byte = λ bus h. omega (arith, eqb-true bus 6 h);
  parts = (record { bits_same = refl; slots = λ op h. slots hi op low top h }, (record { bits_same = refl; slots = λ op h. absurd (cc) }, tt));
  owners = (λ op h. refl, (λ op h. refl, tt));
}

-- Law Buses: there is one private bus.

own : (sheet : Sheet) (events : List Event) → AllByRecursion (MayBus sheet) events → AllByRecursion (λ e. e.bus ≤ 6) events → AllByRecursion (OnOwnBus (λ bus. nat_eq bus 6) sheet) events
own sheet [] may low = tt
own sheet (e ∷ events) may low =
    let here : MayBus sheet e = may.0 in
    (record { lookup = here.lookup; machine = λ h. here.machine h; own = λ h. eq-eqb e.bus 6 (omega (arith, h, low.0)) }, own sheet events may.1 low.1)

chain_here : (r : MainRow ℕ) → AllByRecursion (λ e. e.bus ≤ 6) (chain_lines field r)
unfolding chain_lines
chain_here r = (lit≤ tt, (lit≤ tt, tt))

lower : (events : List Event) → AllByRecursion (λ e. e.bus < 6) events → AllByRecursion (λ e. e.bus ≤ 6) events
lower events low = all_weaker (λ (e : Event). e.bus < 6) (λ (e : Event). e.bus ≤ 6) (λ e h. omega (arith, h)) events low

main_here : (hi : ℕ) (c : Columns ℕ) → AllByRecursion (λ e. e.bus ≤ 6) (counted (told_lines field hi (told_by main_form c)))
main_here hi c =
    let r = main_of field c in
    let P : Event → Type 0 = λ e. e.bus ≤ 6 in
    let front = told_front field hi (told_by main_form c) in
    all_counted P (front ++ (main_ranges field r ++ chain_lines field r))
    (all_append P front (main_ranges field r ++ chain_lines field r) (lower front (front_low hi (told_by main_form c)))
    (all_append P (main_ranges field r) (chain_lines field r) (lower (main_ranges field r) (ranges_low r)) (chain_here r)))

sum_here : (count : ℕ) (ws : List (Halves ℕ)) (out : Halves ℕ) → AllByRecursion (λ e. e.bus ≤ 6) (sum_lines field count ws out)
unfolding sum_lines
sum_here count ws out = (lit≤ tt, (lit≤ tt, (lit≤ tt, (lit≤ tt, tt))))

stage_here : (r : RoundRow ℕ) → AllByRecursion (λ e. e.bus ≤ 6) (stage_lines field r)
unfolding stage_lines
stage_here r = (lit≤ tt, (lit≤ tt, (lit≤ tt, tt)))

round_here : (r : RoundRow ℕ) → AllByRecursion (λ e. e.bus ≤ 6) (counted (round_lines field r))
round_here r = all_counted (λ (e : Event). e.bus ≤ 6) (round_lines field r) (round_all (λ (e : Event). e.bus ≤ 6) r (λ ws out. sum_here r.flag ws out) (stage_here r))

pub sha_buses : (hi : ℕ) → ExtensionBuses (sha hi)
sha_buses hi =
    let main = form_buses main_form hi main_laws in
    let round = round_buses hi in (
      record { uses = λ row. own (main_sheet hi) (row_events (main_sheet hi) row) (main.uses row) (main_here hi (columns main_form row)); few = main.few },
      (record { uses = λ row. own (round_sheet hi) (row_events (round_sheet hi) row) (round.uses row) (round_here (round_row (slice_index row))); few = round.few }, tt),
    )

-- Law Rows

filled_few : (n : ℕ) (b : Bool) → n ≤ 64 → (if b then n else 0) ≤ 64
filled_few n true le = le
filled_few n false le = lit≤ tt

filled_on : (n : ℕ) (b : Bool) → b ≡ true → (if b then n else 0) ≡ n
filled_on n b h = rw h refl

filled_off : (n : ℕ) (b : Bool) → b ≡ false → (if b then n else 0) ≡ 0
filled_off n b h = rw h refl

-- the test of one opcode among no others
pub alone : (b : Bool) → (b || false) ≡ b
alone true = refl
alone false = refl

or_off : (b : Bool) → ((b || false) || (false || false)) ≡ false → b ≡ false
or_off true h = absurd (cc)
or_off false h = refl

pub sha_rows : (hi : ℕ) → ExtensionRows (sha hi)
sha_rows hi = record {
  parts = (
    record {
      owned = λ done h. filled_on 1 (nat_eq done.instr.op 40) (let e = alone (nat_eq done.instr.op 40) in cc);
      others = λ done h s. filled_off 1 (nat_eq done.instr.op 40) (let e = alone (nat_eq done.instr.op 40) in cc);
      few = λ done. filled_few 1 (nat_eq done.instr.op 40) (lit≤ tt);
    },
    (record { owned = λ done h. absurd (cc); others = λ done h s. absurd (omega arith); few = λ done. filled_few 64 (nat_eq done.instr.op 40) (lit≤ tt) }, tt),
  );
  unowned = λ done h.
      let off = or_off (nat_eq done.instr.op 40) h in
      (filled_off 1 (nat_eq done.instr.op 40) off, (filled_off 64 (nat_eq done.instr.op 40) off, tt));
}

-- Law Timed

pub sha_timed : (hi : ℕ) → hi ≤ 13 → ExtensionTimed (sha hi)
sha_timed hi top = ((λ owns. form_timed main_form hi main_laws top), (round_timed hi, tt))

-- Law Quiet

pub sha_quiet : (hi : ℕ) → ExtensionQuiet (sha hi)
sha_quiet hi =
    let main = form_quiet main_form hi main_laws in
    let round = round_quiet hi in
    (record { holds = main.holds; silent = main.silent (replicate 267 0) (refl, tt) }, (record { holds = round.holds; silent = round.silent (replicate 299 0) (refl, tt) }, tt))

-- No row is a hint.

pub sha_no_hint : (hi table : ℕ) (row : List ℕ) → IsRow (sheet_at (sha hi) table) row → RowHolds (sheet_at (sha hi) table) row → NoHint (row_events (sheet_at (sha hi) table) row)
sha_no_hint hi zero row is holds = form_no_hint main_form hi main_laws main_no_hints row is holds
sha_no_hint hi (suc zero) row is holds = round_no_hint (round_row (slice_index row))
sha_no_hint hi (suc (suc table)) row is holds = record { hint = refl; next = refl }
