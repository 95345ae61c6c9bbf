-- A segment that was read whole, and what is told of it.
use Rattle.std.proofs.Common.{◌≡◌, ℕ, List, [], map, Option, Some, None, Ok, refl, sym, ap, subst, ◌∙◌, append-nil}
use Rattle.std.specs.Prelude.{flat_map}
use Rattle.vm_isa.specs.declared.instr.VmInstr.{VmInstr}
use Rattle.vm_trace.specs.declared.page.Touched.{Touched}
use Rattle.air_core.specs.System.{System}
use Rattle.acceptance.specs.Spelled.{hint_event}
use Rattle.table_format.specs.declared.item.Bounds.{Bounds as Found}
use Rattle.table_format.specs.declared.reason.Reason.{Reason}
use Rattle.table_format.specs.Items.{bounds_in}
use Rattle.table_format.specs.Order.{bounds, segment_of}
use Rattle.table_format.specs.Stream.{Held, ReadsBy}
use Rattle.table_format.proofs.Drawn.{Drew, Halts, drew_of, drew_seen, drew_both, drew_unless, halts_then, halts_unless, seen_halts, unless_halts}
use Rattle.readings.specs.Readings.{Reading}
use Rattle.readings.specs.declared.Stop.{Stop}
use Rattle.readings.specs.declared.Stop.TheVariants.{Refused}
use Rattle.vm_host.specs.State.{HostState}
use Rattle.vm_checker.specs.declared.segment.Taken.{Taken}
use Rattle.vm_checker.specs.declared.segment.SegmentFacts.{SegmentFacts}
use Rattle.vm_checker.specs.Facts.{AreFacts, IsSegment}
use Rattle.vm_checker.specs.Inside.{IsInside}
use Rattle.vm_checker.specs.declared.Before.{Before}
use Rattle.vm_checker.specs.FirstReason.{whole_test}
use Rattle.vm_checker.specs.Items.{Inside, bounds_test, codes_of, inside_of, segment_by}
use Rattle.vm_checker.specs.Kept.{bytes_of}
use Rattle.vm_checker.proofs.HintOrder.{bytes_before}

pub is_segment : (x : System) (program : List VmInstr) (b : Found) (cs : List ℕ) (v : Inside) (k : Taken) (f : SegmentFacts) → IsInside x v k → AreFacts program b k.tally f → IsSegment x program (segment_of (bounds_in b, (cs, v))) f
is_segment x program b cs v k f inside facts = record {
  connector = facts.connector;
  start = facts.start;
  end = facts.end;
  code = facts.code;
  rows = facts.rows ∙ inside.valid;
  hints = λ rows. (
    map hint_event facts.sorted,
    record { found = k.tally.hints.items; are_hints = inside.hints rows; sorted = facts.sorted; same = facts.order.same; in_order = facts.order.in_order; spell = refl },
    facts.hints ∙ sym (append-nil (flat_map bytes_of facts.sorted)) ∙ sym (bytes_before facts.sorted []),
  );
}

-- the test of the whole, by what was kept
pub whole_is : (x : System) (program : List VmInstr) (before : Option Before) (segment : ℕ) (b : Found) (cs : List ℕ) (v : Inside) (k : Taken) → IsInside x v k
    → bounds_test program before segment b k.pages.items k.siblings.items ≡ whole_test program before segment (segment_of (bounds_in b, (cs, v)))
whole_is x program before segment b cs v k inside =
    ap (λ (pages : List Touched). bounds_test program before segment b pages k.siblings.items) inside.pages
    ∙ ap (λ (siblings : List (List ℕ)). bounds_test program before segment b v.1.1.0 siblings) inside.siblings

-- ---- its parts, one after another

-- a reading whose parameter has another name
pub drew_at : {I V : Type 0} (r : I → Reading Reason V) {i j : I} {a b : Held} {s t : HostState} {v : V} → i ≡ j → Drew (r i) a b s t v → Drew (r j) a b s t v
drew_at {I} r {a = a} {b} {s} {t} {v} e h = subst (λ (k : I). Drew (r k) a b s t v) e h

pub halts_at : {I V : Type 0} (r : I → Reading Reason V) {i j : I} {a b : Held} {s t : HostState} {stop : Stop Reason} → i ≡ j → Halts (r i) a b s t stop → Halts (r j) a b s t stop
halts_at {I} r {a = a} {b} {s} {t} {stop} e h = subst (λ (k : I). Halts (r k) a b s t stop) e h

pub drew_bounds : {a b : Held} {s t : HostState} {found : Found} → ReadsBy bounds (λ v k. v ≡ bounds_in k) a b s t (Ok found) → Drew bounds a b s t (bounds_in found)
drew_bounds h = let d = drew_of h in rw (← d.1) d.2

module _ (greatest : ℕ) (x : System) (program : List VmInstr) (before : Option Before) (segment : ℕ) {b : Found} {cs : List ℕ} {h i j : Held} {s t u : HostState} (begun : Drew bounds h i s t (bounds_in b)) (coded : Drew (codes_of x greatest segment) i j t u cs) {k : Held} {w : HostState} where
  pub inside_halts : {stop : Stop Reason} → Halts (inside_of x program segment (bounds_in b) cs) j k u w stop → Halts (segment_by greatest x program before segment) h k s w stop
  inside_halts stopped = unless_halts (whole_test program before segment) (seen_halts segment_of (halts_then _ begun (halts_then _ coded stopped)))

  module _ {v : Inside} (inside : Drew (inside_of x program segment (bounds_in b) cs) j k u w v) {kept : Taken} (is : IsInside x v kept) where
    pub segment_halts : {reason : Reason} → bounds_test program before segment b kept.pages.items kept.siblings.items ≡ Some reason
        → Halts (segment_by greatest x program before segment) h k s w (Refused reason)
    segment_halts {reason} fails = halts_unless (whole_test program before segment) reason (sym (whole_is x program before segment b cs v kept is) ∙ fails)
        (drew_seen segment_of (drew_both _ begun (drew_both _ coded inside)))

    pub segment_drew : bounds_test program before segment b kept.pages.items kept.siblings.items ≡ None
        → Drew (segment_by greatest x program before segment) h k s w (segment_of (bounds_in b, (cs, v)))
    segment_drew passes = drew_unless (whole_test program before segment) (sym (whole_is x program before segment b cs v kept is) ∙ passes)
        (drew_seen segment_of (drew_both _ begun (drew_both _ coded inside)))
