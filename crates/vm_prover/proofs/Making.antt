-- A segment that is made of its records, its pages and their opening.
use Rattle.std.proofs.Common.{◌≡◌, ℕ, ◌*◌, ◌≤◌, ◌<◌, Bool, true, false, List, [], ◌∷◌, ◌++◌, length, get_or, inl, inr, refl, sym, ap, ◌∙◌, subst, arith}
use Rattle.std.specs.Prelude.{if◌then◌else◌, nat_eq, sum}
use Rattle.vm_trace.specs.Canonical.{height_of}
use Rattle.vm_trace.specs.Limits.{Limits, limits_of}
use Rattle.std.specs.List.Sorted.{IsStrictlyIncreasing}
use Rattle.std.proofs.lemmas.List.{length-map, get_or-map}
use Rattle.vm_isa.specs.Blocks.{Blocks}
use Rattle.vm_isa.specs.declared.instr.VmInstr.{VmInstr}
use Rattle.vm_isa.specs.declared.record.StepRecord.{StepRecord}
use Rattle.vm_trace.specs.Contents.{Contents, rows_by_table}
use Rattle.exec_path.specs.Path.{Point}
use Rattle.vm_trace.specs.declared.page.Touched.{Touched}
use Rattle.vm_trace.specs.File.{Segment}
use Rattle.vm_trace.specs.Pages.{IsMachineLabel}
use Rattle.air_core.specs.System.{System}
use Rattle.page_tree.specs.Opening.{AreLabels, siblings_of}
use Rattle.page_tree.specs.Parts.{label_of, labels_of, with_pages}
use Rattle.page_tree.specs.Tree.{Leaves, root}
use Rattle.vm_executor.specs.Machine.{Machine}
use Rattle.vm_executor.specs.Pages.{AreTouched, Times}
use Rattle.vm_executor.specs.Records.{AreRecords}
use Rattle.vm_filler.specs.Segment.{SegmentFilled}
use Rattle.table_format.specs.declared.item.Connector.{Connector}
use Rattle.vm_prover.specs.declared.segment.Parts.{Parts}
use Rattle.vm_prover.specs.Laws.{SegmentsGoOn}
use Rattle.vm_prover.specs.Progress.{FitsVersion, segment_from}
use Rattle.vm_prover.specs.Segments.{AreTaken, GoesOnFor, IsMade, IsReadyFor, Run, SegmentsStand}
use Rattle.vm_prover.proofs.StepLemmas.{comes_under_way, records_can_be_filled}

-- ---- records

pub ready_goes_on : (x : System) (run : Run x) (here program : List VmInstr) (m : Machine) (leaves : Leaves) (segments : List Segment) (lengths : List ℕ) (count : ℕ) → here ≡ program → IsReadyFor run program m leaves segments lengths count
    → GoesOnFor run here m (sum lengths) count
ready_goes_on x run here program m leaves segments lengths count same r = record {
  over = same ∙ r.over;
  under = comes_under_way x run.version run.image run.hints false segments lengths m leaves r.stand;
  within = r.within;
  few = r.few;
}

pub can_be_filled : (x : System) (run : Run x) (program : List VmInstr) (from m : Machine) (steps count : ℕ) (done : List StepRecord) → GoesOnFor run program from steps count → AreTaken run from steps count done m → AreRecords x program from.pc done
can_be_filled x run program from m steps count done g a =
    subst (λ p. AreRecords x p from.pc done) (sym g.over) (records_can_be_filled x run.image run.hints from m steps done a.under (omega (arith, a.count_is, g.few)))

-- ---- pages

module _ (start now : Blocks) (times : Times) (pages : List Touched) (t : AreTouched start now times pages) where
  pub labels_rise : IsStrictlyIncreasing (labels_of pages)
  unfolding labels_of
  labels_rise = t.rising

  label_low : (label : ℕ) → IsMachineLabel label → label < 33554432
  label_low label (inl e) = omega (arith, e)
  label_low label (inr (inl e)) = omega (arith, e)
  label_low label (inr (inr (inl within))) = omega (arith, within.1)
  label_low label (inr (inr (inr e))) = omega (arith, e)

  pub labels_are_low : AreLabels (labels_of pages)
  unfolding labels_of
  labels_are_low = λ k d h.
      let none : Touched = record { label = 0; old = []; new = []; times = [] } in
      let place : k < length pages = omega (arith, h, length-map pages label_of) in
      subst (λ n. n < 33554432) (sym (get_or-map label_of pages k none d place)) (label_low (get_or pages k none).label (t.machine k none place))

-- ---- the segment

rows_fit : (number : ℕ) (first : Bool) (limits : Limits) → limits ≡ (if first then record { time_bits = 24; greatest_code = 21 } else record { time_bits = 29; greatest_code = 25 }) → number ≤ 16384 → 64 * number ≤ height_of limits.greatest_code
rows_fit number true limits is few = rw is (omega (arith, few))
rows_fit number false limits is few = rw is (omega (arith, few))

fits_version : (version number : ℕ) → number ≤ 16384 → FitsVersion version number
fits_version version number few = record { few = omega (arith, few); rows = rows_fit number (nat_eq version 1) (limits_of version) refl few }

-- what stands in the parts
pub record HasParts (from m : Machine) (ends : Bool) (old new : Leaves) (tables : Contents) (pages : List Touched) (parts : Parts) : Type 0 where
  pub connector_is : parts.connector ≡ record { pc_start = from.pc; pc_end = m.pc; end_time = m.time; ends = ends }
  pub start_is : parts.opening.start ≡ root old
  pub end_is : parts.opening.end ≡ root (with_pages old pages)
  pub siblings_are : parts.opening.siblings.items ≡ siblings_of old (labels_of pages)
  pub tables_are : parts.tables ≡ tables
  pub pages_are : parts.pages.items ≡ pages
  pub leaves_are : new ≡ with_pages old pages

pub is_made : (x : System) (run : Run x) (program : List VmInstr) (from m : Machine) (old new : Leaves) (segments : List Segment) (lengths : List ℕ) (count : ℕ) (done : List StepRecord) (tables : Contents) (ends : Bool) (pages : List Touched) (parts : Parts)
    → SegmentsGoOn x → IsReadyFor run program from old segments lengths count → AreTaken run from (sum lengths) count done m → SegmentFilled x program done tables → AreTouched m.start m.now m.times pages
    → HasParts from m ends old new tables pages parts → IsMade run ends segments lengths count m new parts
is_made x run program from m old new segments lengths count done tables ends pages parts on r a filled touched h =
    let next = on run.version run.image run.hints segments lengths from m old done tables ends pages run.can r.stand a.under (fits_version run.version (length done) (omega (arith, a.count_is, r.few)))
    (subst (λ p. SegmentFilled x p done tables) r.over filled) touched in
    let reached = a.under.since.reached in
    record {
      segment = segment_from from done tables ends old pages;
      made = record {
        pc_start = sym (ap (λ (c : Connector). c.pc_start) h.connector_is);
        pc_end = ap (λ (p : Point). p.pc) reached ∙ sym (ap (λ (c : Connector). c.pc_end) h.connector_is);
        end_time = ap (λ (p : Point). p.time) reached ∙ sym (ap (λ (c : Connector). c.end_time) h.connector_is);
        ends = sym (ap (λ (c : Connector). c.ends) h.connector_is);
        start_root = sym h.start_is;
        end_root = sym h.end_is;
        rows = ap rows_by_table (sym h.tables_are);
        program = ap (λ (t : Contents). t.program) (sym h.tables_are);
        xor = ap (λ (t : Contents). t.xor) (sym h.tables_are);
        range = ap (λ (t : Contents). t.range) (sym h.tables_are);
        constants = ap (λ (t : Contents). t.constants) (sym h.tables_are);
        pages = sym h.pages_are;
        siblings = sym h.siblings_are;
      };
      stand = subst (λ n. SegmentsStand run ends (segments ++ segment_from from done tables ends old pages ∷ []) (lengths ++ n ∷ []) m new) a.count_is
          (subst (SegmentsStand run ends (segments ++ segment_from from done tables ends old pages ∷ []) (lengths ++ length done ∷ []) m) (sym h.leaves_are) next);
    }
