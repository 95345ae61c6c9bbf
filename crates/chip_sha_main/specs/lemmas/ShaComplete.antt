-- Law Complete: a record of a SHA block fills a row of steps and 64 rows of rounds, which balance.
use Rattle.std.proofs.Common.{◌≡◌, ℕ, zero, suc, ◌+◌, ◌*◌, ◌≤◌, Bool, true, false, ◌||◌, if◌then◌else◌, nat_eq, List, [], ◌∷◌, ◌++◌, flat_map, length, map, refl, sym, subst, arith, lit<, lit≤, length-append, slice_index}
use Rattle.std.specs.Prelude.{sum_by}
use Rattle.std.specs.List.{AllByRecursion, range_with_len}
use Rattle.std.proofs.lemmas.Bool.{eqb-true}
use Rattle.std.proofs.lemmas.List.Sums.{sum_by-append, sum_by-cons}
use Rattle.vm_isa.specs.declared.record.StepRecord.{StepRecord}
use Rattle.vm_isa.specs.Means.{Fillable}
use Rattle.vm_isa.proofs.ShaShape.{all_range}
use Rattle.air_core.specs.declared.event.Event.{Event}
use Rattle.air_core.specs.declared.event.Side.TheVariants.{Send, Receive}
use Rattle.air_core.specs.Balance.{BalancedOn, total}
use Rattle.air_core.specs.ExtensionLaws.{ExtensionComplete, RecordRows, SaysRecord, lookup_count}
use Rattle.air_core.specs.Laws.{Filled, is_lookup}
use Rattle.air_core.specs.ListLemmas.{all_append}
use Rattle.air_core.specs.Sheet.{row_events}
use Rattle.air_core.specs.System.{GoodRow, tables_for}
use Rattle.air_core.proofs.BalanceLemmas.{total-append}
use Rattle.gadget_bits.specs.Record.{state_of, block_of}
use Rattle.gadget_bits.proofs.RecordWords.{state_low, block_bytes}
use Rattle.gadget_time.specs.lemmas.FormComplete.{form_complete}
use Rattle.gadget_time.specs.lemmas.FormBounds.{form_buses}
use Rattle.chip_sha_round.specs.Round.{round_row}
use Rattle.chip_sha_round.specs.Sheet.{round_at, round_sheet}
use Rattle.chip_sha_round.specs.lemmas.RoundTable.{round_few, round_filled_row}
use Rattle.chip_sha_main.specs.Sha.{sha}
use Rattle.chip_sha_main.specs.Sheet.{main_form, main_sheet}
use Rattle.chip_sha_main.specs.lemmas.MainLaws.{main_laws}
use Rattle.chip_sha_main.specs.lemmas.RoundLinks.{round_events}
use Rattle.chip_sha_main.specs.lemmas.RoundTotals.{rows_even}
use Rattle.chip_sha_main.specs.lemmas.Stages.{main_sends, main_takes}

-- How many lookups there are.

one_lookup : (count : ℕ) (b : Bool) → count ≡ 1 → (if b then count else 0) ≤ 1
one_lookup count true is = omega (arith, is)
one_lookup count false is = lit≤ tt

few_lookups : (events : List Event) → AllByRecursion (λ e. e.count ≡ 1) events → sum_by lookup_count events ≤ length events
few_lookups [] h = lit≤ tt
few_lookups (e ∷ events) h = omega (arith, sum_by-cons lookup_count e events, one_lookup e.count (is_lookup e.bus) h.0, few_lookups events h.1)

module _ (hi : ℕ) (top : hi ≤ 13) (done : StepRecord) (f : Fillable (16 + hi) done) (op : done.instr.op ≡ 40) where
  abbrev main : List ℕ
  main = (main_sheet hi).filled done 0

  owned : (main_sheet hi).owns done.instr.op ≡ true
  owned = rw op refl

  main_filled : Filled (main_sheet hi) done main
  main_filled = form_complete main_form hi main_laws top done 0 f owned (lit< tt)

  abbrev round : ℕ → List ℕ
  round t = round_at done t

  rounds_ones : (a n : ℕ) → a + n ≤ 64 → AllByRecursion (λ e. e.count ≡ 1) (flat_map round_events (map round (range_with_len a n)))
  rounds_ones a zero low = tt
  rounds_ones a (suc n) low =
      all_append (λ (e : Event). e.count ≡ 1) (round_events (round a)) (flat_map round_events (map round (range_with_len (a + 1) n)))
      (round_filled_row hi top done f op a (omega arith)).counts (rounds_ones (a + 1) n (omega arith))

  rounds_few : (a n : ℕ) → length (flat_map round_events (map round (range_with_len a n))) ≤ 15 * n
  rounds_few a zero = lit≤ tt
  rounds_few a (suc n) =
      omega (arith, length-append (round_events (round a)) (flat_map round_events (map round (range_with_len (a + 1) n))), round_few hi (round_row (slice_index (round a))), rounds_few (a + 1) n)

  abbrev all : List Event
  all = (row_events (main_sheet hi) main ++ []) ++ (flat_map round_events (map round (range_with_len 0 64)) ++ [])

  balanced : BalancedOn (λ bus. nat_eq bus 6) all
  balanced = record {
    even = λ bus tuple h.
        let is : bus ≡ 6 = eqb-true bus 6 h in
        let m = row_events (main_sheet hi) main in
        let rs = flat_map round_events (map round (range_with_len 0 64)) in
        let whole : total Send 6 tuple all ≡ total Receive 6 tuple all = omega (
          arith,
          total-append Send 6 tuple (m ++ []) (rs ++ []),
          total-append Receive 6 tuple (m ++ []) (rs ++ []),
          total-append Send 6 tuple m [],
          total-append Receive 6 tuple m [],
          total-append Send 6 tuple rs [],
          total-append Receive 6 tuple rs [],
          main_sends hi top done f op tuple,
          main_takes hi top done f op tuple,
          rows_even done.time (state_of done) (block_of done) (state_low hi done f) (block_bytes hi done f) tuple,
        ) in
        subst (λ (b : ℕ). total Send b tuple all ≡ total Receive b tuple all) (sym is) whole;
  }

  few : sum_by lookup_count all ≤ 4096
  few =
      let m = row_events (main_sheet hi) main in
      let rs = flat_map round_events (map round (range_with_len 0 64)) in
      omega (arith, sum_by-append lookup_count (m ++ []) (rs ++ []), sum_by-append lookup_count m [], sum_by-append lookup_count rs [], few_lookups m main_filled.counts, few_lookups rs (rounds_ones 0 64 (lit≤ tt)), (form_buses main_form hi main_laws).few main, rounds_few 0 64)

  rounds_good : AllByRecursion (GoodRow (round_sheet hi)) (map round (range_with_len 0 64))
  rounds_good = all_range (GoodRow (round_sheet hi)) round 0 64 (λ t low high. let r = round_filled_row hi top done f op t (omega arith) in record { is_row = r.is_row; holds = r.holds; good = r.good })

  rounds_say : (a n : ℕ) → AllByRecursion (SaysRecord done (round_sheet hi)) (map round (range_with_len a n))
  rounds_say a zero = tt
  rounds_say a (suc n) = (λ mine. absurd (cc), rounds_say (a + 1) n)

  record_rows : RecordRows (sha hi) done ((main ∷ []) ∷ map round (range_with_len 0 64) ∷ [])
  record_rows = record {
    rows = ((record { is_row = main_filled.is_row; holds = main_filled.holds; good = main_filled.good }, tt), (rounds_good, tt));
    says = ((λ mine. main_filled.recorded mine, tt), (rounds_say 0 64, tt));
    balanced = balanced;
    lookups = few;
  }

  two_tables : (main ∷ []) ∷ map round (range_with_len 0 64) ∷ [] ≡ tables_for done (sha hi).parts
  two_tables = rw op refl

or_on : (b : Bool) → ((b || false) || (false || false)) ≡ true → b ≡ true
or_on true h = refl
or_on false h = absurd (cc)

pub sha_complete : (hi : ℕ) → hi ≤ 13 → ExtensionComplete (sha hi)
sha_complete hi top done owned f =
    let op = eqb-true done.instr.op 40 (or_on (nat_eq done.instr.op 40) owned) in
    subst (RecordRows (sha hi) done) (two_tables hi top done f op) (record_rows hi top done f op)
