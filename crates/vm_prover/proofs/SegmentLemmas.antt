-- What stands before the first segment, and after one more.
use Rattle.std.proofs.Common.{ℕ, ◌<◌, Bool, false, List, [], ◌∷◌, ◌++◌, length, inl, refl, sym, ap, ◌∙◌, subst, arith}
use Rattle.std.specs.Prelude.{sum}
use Rattle.elf_image.specs.Loaded.{Loaded}
use Rattle.vm_field.specs.Field.{modulus}
use Rattle.vm_isa.specs.declared.record.StepRecord.{StepRecord}
use Rattle.vm_isa.specs.Hints.{Hints}
use Rattle.vm_trace.specs.declared.page.Touched.{Touched}
use Rattle.vm_trace.specs.Canonical.{IsCanonicalSegment}
use Rattle.vm_trace.specs.Contents.{Contents}
use Rattle.vm_trace.specs.File.{Segment}
use Rattle.vm_trace.specs.Limits.{limits_of}
use Rattle.air_core.specs.ListLemmas.{all_append}
use Rattle.air_core.specs.System.{System}
use Rattle.exec_path.specs.Path.{Point}
use Rattle.page_tree.specs.MapBlocks.{AreBlocksOf}
use Rattle.page_tree.specs.Opening.{siblings_of}
use Rattle.page_tree.specs.Parts.{labels_of, with_pages}
use Rattle.page_tree.specs.Start.{start_map}
use Rattle.page_tree.specs.Tree.{Leaves, root}
use Rattle.page_tree.proofs.PageLemmas.{own_roots}
use Rattle.page_tree.proofs.StartLemmas.{length-start_map}
use Rattle.vm_transpile.specs.Program.{program_of}
use Rattle.vm_transpile.proofs.Ranges.{entry_low}
use Rattle.vm_transpile.proofs.Texts.{program_rises}
use Rattle.table_format.specs.Writing.{IsSegmentOf}
use Rattle.vm_executor.specs.Machine.{Machine}
use Rattle.vm_executor.specs.Pages.{AreTouched}
use Rattle.vm_executor.specs.Runs.{Ran, starting}
use Rattle.vm_executor.proofs.SinceLemmas.{since_records, touched_fit}
use Rattle.acceptance.specs.Accepts.{shape_of}
use Rattle.acceptance.specs.Holds.{SegmentHolds}
use Rattle.acceptance.specs.Spelled.{hints_before}
use Rattle.acceptance.proofs.CanonicalTrees.{siblings_canonical}
use Rattle.acceptance.proofs.Start.{start_blocks_are}
use Rattle.acceptance.proofs.Whole.{before_joined}
use Rattle.vm_filler.specs.Hints.{hints_of}
use Rattle.vm_filler.specs.Laws.{FilledSegmentsHold, FilledSegmentsAreCanonical, FilledSegmentsCountRecords, FilledSegmentsSpell}
use Rattle.vm_filler.specs.Segment.{SegmentFilled, IsFilledSegment}
use Rattle.vm_prover.specs.Laws.{NoSegmentsStand, SegmentsAreMade, SegmentsGoOn}
use Rattle.vm_prover.specs.Progress.{CanProve, UnderWay, Progress, FitsVersion, segment_from, connector_between}
use Rattle.vm_prover.proofs.ChainLemmas.{linked_more, last_pc_more, last_root_more, last_pc_low, ends_more, rows_more, sum_more, spell_more}
use Rattle.vm_prover.proofs.LeafLemmas.{rising, machine, leaves_match, leaves_after, leaves_long}

pub no_segments : (x : System) → NoSegmentsStand x
no_segments x version image hints can = record {
  canonical = tt;
  hold = tt;
  linked = tt;
  ends = tt;
  pc_is = refl;
  root_is = refl;
  rows = refl;
  ran = inl refl;
  spelled = [];
  spell = refl;
  taken = refl;
  bytes = can.bytes;
  blocks = start_blocks_are image;
  whole = length-start_map image;
}

module _ (x : System) (canonical : FilledSegmentsAreCanonical x) (version : ℕ) (image : Loaded) (hints : Hints) (segments : List Segment) (lengths : List ℕ) (from m : Machine) (leaves : Leaves)
    (done : List StepRecord) (c : Contents) (ends : Bool) (pages : List Touched) (can : CanProve x version image hints) (p : Progress x version image hints false segments lengths from leaves) (u : UnderWay x image hints from (sum lengths) done m)
    (fits : FitsVersion version (length done)) (filled : SegmentFilled x (program_of image) done c) (touched : AreTouched m.start m.now m.times pages) where
  s : Segment
  s = segment_from from done c ends leaves pages

  -- the leaves are the memory where the segment began
  began : AreBlocksOf leaves m.start
  began = subst (AreBlocksOf leaves) (sym u.began) p.blocks

  is_filled : IsFilledSegment x (program_of image) done s
  unfolding s
  is_filled = record {
    contents = c;
    records = since_records x (program_of image) from.pc done m u.since fits.few u.owned u.fillable;
    filled = filled;
    opened = record {
      fit = (touched_fit (program_of image) from.pc done m pages u.since touched).0;
      rising = rising leaves m.start m.now m.times pages began p.whole touched;
      machine = machine leaves m.start m.now m.times pages began p.whole touched;
      digests = siblings_canonical leaves (labels_of pages);
      roots = own_roots leaves pages (rising leaves m.start m.now m.times pages began p.whole touched) (leaves_match leaves m.start m.now m.times pages began p.whole touched);
    };
    is = refl;
  }

  begins_low : from.pc < modulus
  begins_low =
      let entry = entry_low can.file.bytes image can.file.has_image in
      subst (λ (n : ℕ). n < modulus) p.pc_is (last_pc_low (limits_of version) (shape_of x image) image.entry segments (omega (arith, entry)) p.canonical)

  is_canonical : IsCanonicalSegment (limits_of version) (shape_of x image) s
  unfolding s
  is_canonical = canonical (limits_of version) (program_of image) done s (program_rises image) is_filled begins_low fits.rows

  pub is_made : IsSegmentOf version (connector_between from m ends) (root leaves) (root (with_pages leaves pages)) c pages (siblings_of leaves (labels_of pages)) (segment_from from done c ends leaves pages)
  unfolding s
  is_made = (
    record {
      pc_start = refl;
      pc_end = ap (λ (q : Point). q.pc) u.since.reached;
      end_time = ap (λ (q : Point). q.time) u.since.reached;
      ends = refl;
      start_root = refl;
      end_root = refl;
      rows = refl;
      program = refl;
      xor = refl;
      range = refl;
      constants = refl;
      pages = refl;
      siblings = refl;
    },
    (shape_of x image, is_canonical),
  )

  pub one_more : FilledSegmentsHold x → FilledSegmentsCountRecords x → FilledSegmentsSpell x → Progress x version image hints ends (segments ++ segment_from from done c ends leaves pages ∷ []) (lengths ++ length done ∷ []) m (with_pages leaves pages)
  unfolding s
  one_more hold count spell = record {
    canonical = all_append (IsCanonicalSegment (limits_of version) (shape_of x image)) segments (s ∷ []) p.canonical (is_canonical, tt);
    hold = all_append (SegmentHolds x (program_of image)) segments (s ∷ []) p.hold (hold (program_of image) done s (program_rises image) is_filled, tt);
    linked = linked_more image.entry (root (start_map image)) segments s p.linked (sym p.pc_is) (sym p.root_is);
    ends = ends_more ends segments s p.ends refl;
    pc_is = last_pc_more image.entry segments s ∙ ap (λ (q : Point). q.pc) u.since.reached;
    root_is = last_root_more (root (start_map image)) segments s;
    rows = rows_more x segments s lengths (length done) p.rows (count (program_of image) done s is_filled);
    ran = subst (λ (n : ℕ). Ran (program_of image) (starting image hints) n m) (sym (sum_more lengths (length done))) u.ran;
    spelled = p.spelled ++ hints_of done;
    spell = spell_more x segments s p.spelled (hints_of done) p.spell (spell (program_of image) done s is_filled);
    taken = before_joined p.spelled (hints_of done) m.hints ∙ ap (hints_before p.spelled) u.taken ∙ p.taken;
    bytes = u.bytes;
    blocks = leaves_after leaves m.start m.now m.times pages began p.whole touched;
    whole = leaves_long leaves m.start m.now m.times pages began p.whole touched;
  }

pub segments_go_on : (x : System) → FilledSegmentsHold x → FilledSegmentsAreCanonical x → FilledSegmentsCountRecords x → FilledSegmentsSpell x → SegmentsGoOn x
segments_go_on x hold canonical count spell version image hints segments lengths from m leaves done c ends pages can p u fits filled touched =
    one_more x canonical version image hints segments lengths from m leaves done c ends pages can p u fits filled touched hold count spell

pub segments_are_made : (x : System) → FilledSegmentsAreCanonical x → SegmentsAreMade x
segments_are_made x canonical version image hints segments lengths from m leaves done c ends pages can p u fits filled touched = is_made x canonical version image hints segments lengths from m leaves done c ends pages can p u fits filled touched
