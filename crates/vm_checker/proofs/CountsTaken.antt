-- Entries and pages that were read, and what they say.
use Rattle.std.proofs.Common.{◌≡◌, ℕ, ◌+◌, ◌*◌, ◌^◌, ◌<◌, ◌≤◌, true, List, [], ◌∷◌, ◌++◌, length, map, Option, Some, None, refl, sym, ap, subst, ◌∙◌, arith, append-nil}
use Rattle.std.specs.Prelude.{flat_map}
use Rattle.std.specs.List.Sorted.{IsStrictlyIncreasing}
use Rattle.std.proofs.lemmas.Grind.{flat_map-append}
use Rattle.std.proofs.lemmas.List.Elements.{All-from_recursion}
use Rattle.readings.specs.Exact.{Each}
use Rattle.readings.specs.Readings.{chain}
use Rattle.readings.specs.declared.Stop.{Stop}
use Rattle.readings.proofs.Gives.{state_after}
use Rattle.vm_host.specs.declared.Slot.TheVariants.{Second}
use Rattle.vm_host.specs.State.{HostState}
use Rattle.vm_isa.specs.declared.instr.VmInstr.{VmInstr}
use Rattle.vm_trace.specs.declared.count.CountEntry.{CountEntry}
use Rattle.vm_trace.specs.declared.page.Touched.{Touched}
use Rattle.vm_trace.specs.Pages.{IsMachineLabel}
use Rattle.air_core.specs.declared.event.Event.{Event}
use Rattle.air_core.specs.ListLemmas.{all_weaker}
use Rattle.air_core.specs.Sink.{Handed, handed_none, handed_both}
use Rattle.air_core.proofs.ElementLemmas.{all_map}
use Rattle.offline_memory.specs.MemoryEvents.{boundary_events}
use Rattle.page_tree.specs.Opening.{AreLabels}
use Rattle.page_tree.specs.Parts.{label_of, labels_of}
use Rattle.acceptance.specs.Events.{fixed_row, received_row, entry_events, received_on}
use Rattle.acceptance.proofs.Whole.{label_small}
use Rattle.table_format.specs.declared.reason.Reason.{Reason}
use Rattle.table_format.specs.Order.{PageAt, entry, next_least, next_page, first_page}
use Rattle.table_format.specs.Stream.{Held}
use Rattle.table_format.proofs.Drawn.{Drew, Halts, drew_none, drew_more, halts_chained}
use Rattle.vm_checker.specs.FirstReason.{page_test}
use Rattle.vm_checker.specs.Heard.{Heard, Hears, room_left}
use Rattle.vm_checker.specs.Items.{page_of}
use Rattle.vm_checker.proofs.SegmentTests.{labels, rising}

state_more : {S V : Type 0} (next : S → V → S) (x : S) (vs : List V) (v : V) → state_after next x (vs ++ v ∷ []) ≡ next (state_after next x vs) v
state_more next x [] v = refl
state_more next x (w ∷ ws) v = state_more next (next x w) ws v

-- one list more is handed over
handed_more : {V : Type 0} (said : V → List Event) (vs : List V) (v : V) {old mid new : Heard} → Handed Hears room_left old mid (flat_map said vs) → Handed Hears room_left mid new (said v) → Handed Hears room_left old new (flat_map said (vs ++ v ∷ []))
handed_more said vs v {old} {mid} {new} h k =
    subst (Handed Hears room_left old new) (ap (λ (es : List Event). flat_map said vs ++ es) (sym (append-nil (said v))) ∙ sym (flat_map-append said vs (v ∷ []))) (handed_both h k)

-- ---- entries

one_received : (bus count : ℕ) (row : Option (List ℕ)) → length (received_row bus count row) ≤ 1
one_received bus count None = omega arith
one_received bus count (Some row) = omega arith

-- so many entries were read, and what they say was handed over
pub record EntriesSo (program : List VmInstr) (bus end count least : ℕ) (a b : Held) (s t : HostState) (old new : Heard) : Type 0 where
  pub given : List CountEntry
  pub drew : Drew (chain (entry end) next_least count 0) a b s t given
  pub at : least ≡ state_after next_least 0 given
  pub handed : Handed Hears room_left old new (received_on program bus given)
  pub left : room_left old ≤ room_left new + count

module _ (program : List VmInstr) (bus end : ℕ) where
  pub no_entries : (a : Held) (s : HostState) (said : Heard) → (s.input Second).is_open ≡ true → EntriesSo program bus end 0 0 a a s s said said
  no_entries a s said is_open = record { given = []; drew = drew_none (entry end) next_least 0 a s is_open; at = refl; handed = handed_none said; left = omega arith }

  pub one_entry : {count least : ℕ} {a b c : Held} {s t u : HostState} {old mid new : Heard} (e : CountEntry) → EntriesSo program bus end count least a b s t old mid → Drew (entry end least) b c t u e
      → Handed Hears room_left mid new (entry_events program bus e) → EntriesSo program bus end (count + 1) (e.place + 1) a c s u old new
  one_entry {count} {least} {a} {b} {c} {s} {t} {u} e h drew handed = record {
    given = h.given ++ e ∷ [];
    drew = drew_more (entry end) next_least 0 count h.drew (subst (λ (k : ℕ). Drew (entry end k) b c t u e) h.at drew);
    at = sym (state_more next_least 0 h.given e);
    handed = handed_more (entry_events program bus) h.given e h.handed handed;
    left = omega (arith, h.left, handed.used, one_received bus e.count (fixed_row program bus e.place));
  }

  pub entry_halts : {count n least : ℕ} {a b c : Held} {s t u : HostState} {old new : Heard} {stop : Stop Reason} → count < n → EntriesSo program bus end count least a b s t old new → Halts (entry end least) b c t u stop
      → Halts (chain (entry end) next_least n 0) a c s u stop
  entry_halts {count} {n} {least} {a} {b} {c} {s} {t} {u} {stop = stop} lt h k =
      halts_chained (entry end) next_least 0 count n lt h.drew (subst (λ (x : ℕ). Halts (entry end x) b c t u stop) h.at k)

-- ---- pages

each_more : {S V : Type 0} (Good : S → V → Type 0) (next : S → V → S) (x : S) (vs : List V) (v : V) → Each Good next x vs → Good (state_after next x vs) v → Each Good next x (vs ++ v ∷ [])
each_more Good next x [] v h good = (good, tt)
each_more Good next x (w ∷ ws) v h good = (h.0, each_more Good next (next x w) ws v h.1 good)

abbrev passes : ℕ → PageAt → Touched → Type 0
passes segment place page = page_test segment place page ≡ None

page_events : (page : Touched) → length (boundary_events page) ≡ 32
page_events page = refl

-- so many pages were read, each passed its tests, and what they say was handed over
pub record PagesSo (segment count least : ℕ) (pages : List Touched) (a b : Held) (s t : HostState) (old new : Heard) : Type 0 where
  pub drew : Drew (chain (page_of segment) next_page count first_page) a b s t pages
  pub at : state_after next_page first_page pages ≡ record { number = count; least = least }
  pub pass : Each (λ (place : PageAt) (page : Touched). page_test segment place page ≡ None) next_page first_page pages
  pub handed : Handed Hears room_left old new (flat_map boundary_events pages)
  pub left : room_left old ≤ room_left new + 32 * count

module _ (segment : ℕ) where
  pub no_pages : (a : Held) (s : HostState) (said : Heard) → (s.input Second).is_open ≡ true → PagesSo segment 0 0 [] a a s s said said
  no_pages a s said is_open = record { drew = drew_none (page_of segment) next_page first_page a s is_open; at = refl; pass = tt; handed = handed_none said; left = omega arith }

  pub one_page : {count least : ℕ} {pages : List Touched} {a b c : Held} {s t u : HostState} {old mid new : Heard} (page : Touched) → PagesSo segment count least pages a b s t old mid
      → Drew (page_of segment (record { number = count; least = least })) b c t u page → page_test segment (record { number = count; least = least }) page ≡ None
      → Handed Hears room_left mid new (boundary_events page) → PagesSo segment (count + 1) (page.label + 1) (pages ++ page ∷ []) a c s u old new
  one_page {count} {least} {pages} {a} {b} {c} {s} {t} {u} page h drew pass handed = record {
    drew = drew_more (page_of segment) next_page first_page count h.drew (subst (λ (k : PageAt). Drew (page_of segment k) b c t u page) (sym h.at) drew);
    at = state_more next_page first_page pages page ∙ ap (λ (k : PageAt). next_page k page) h.at;
    pass = each_more (passes segment) next_page first_page pages page h.pass (subst (λ (k : PageAt). page_test segment k page ≡ None) (sym h.at) pass);
    handed = handed_more boundary_events pages page h.handed handed;
    left = omega (arith, h.left, handed.used, page_events page);
  }

  pub page_halts : {count n least : ℕ} {pages : List Touched} {a b c : Held} {s t u : HostState} {old new : Heard} {stop : Stop Reason} → count < n → PagesSo segment count least pages a b s t old new
      → Halts (page_of segment (record { number = count; least = least })) b c t u stop → Halts (chain (page_of segment) next_page n first_page) a c s u stop
  page_halts {count} {n} {least} {pages} {a} {b} {c} {s} {t} {u} {stop = stop} lt h k =
      halts_chained (page_of segment) next_page first_page count n lt h.drew (subst (λ (x : PageAt). Halts (page_of segment x) b c t u stop) (sym h.at) k)

  pub pages_rise : {count least : ℕ} {pages : List Touched} {a b : Held} {s t : HostState} {old new : Heard} → PagesSo segment count least pages a b s t old new → IsStrictlyIncreasing (labels_of pages)
  unfolding labels_of
  pages_rise {pages = pages} h = rising (record { number = segment; before = [] }) first_page pages h.pass

  pub pages_in_tree : {count least : ℕ} {pages : List Touched} {a b : Held} {s t : HostState} {old new : Heard} → PagesSo segment count least pages a b s t old new → AreLabels (labels_of pages)
  unfolding labels_of
  pages_in_tree {pages = pages} h =
      All-from_recursion (λ j. j < 2 ^ 25) (map label_of pages)
      (all_map (λ j. j < 2 ^ 25) label_of pages (all_weaker (λ (page : Touched). IsMachineLabel page.label) (λ (page : Touched). page.label < 2 ^ 25) (λ page p. label_small page.label p) pages (labels (record { number = segment; before = [] }) first_page pages h.pass)))
