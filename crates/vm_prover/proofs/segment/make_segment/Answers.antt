use Rattle.std.proofs.Common.{◌∙◌, refl, subst, sym, ap}
use Rattle.std.specs.List.Sorted.{IsStrictlyIncreasing}
use Rattle.page_tree.specs.Kept.{leaves_of}
use Rattle.page_tree.specs.Opening.{AreLabels, siblings_of}
use Rattle.page_tree.specs.Parts.{labels_of, with_pages}
use Rattle.page_tree.specs.Tree.{root}
use Rattle.vm_executor.specs.Records.{AreRecords}
use Rattle.vm_executor.specs.State.{machine_of}
use Rattle.vm_filler.specs.Segment.{SegmentFilled}
use Rattle.vm_prover.proofs.Making.{can_be_filled, is_made, labels_are_low, labels_rise, ready_goes_on}
use Rattle.vm_prover.proofs.segment.make_segment.Goals as goal

pub take_records-requires : goal.take_records-requires
take_records-requires g c =
    let r = c.requires.ready in
    (g.E.Extension.system c.args.ext.now, (r.0, (_, ready_goes_on _ r.0 _ _ (machine_of c.args.machine.now) _ r.1.0 r.1.1.0 c.args.count c.requires.same r.1.1.1)))

pub fill_segment-requires : goal.fill_segment-requires
fill_segment-requires g c =
    let r = c.requires.ready in
    let here = ready_goes_on _ r.0 c.args.program.now _ (machine_of c.args.machine.now) _ r.1.0 r.1.1.0 c.args.count refl r.1.1.1 in
    let goes = ready_goes_on _ r.0 _ _ (machine_of c.args.machine.now) _ r.1.0 r.1.1.0 c.args.count c.requires.same r.1.1.1 in (
      (machine_of c.args.machine.now).pc,
      subst (AreRecords (g.E.Extension.system c.args.ext.now) c.args.program.now (machine_of c.args.machine.now).pc) (sym c.deref.ensures.value)
          (can_be_filled _ r.0 c.args.program.now (machine_of c.args.machine.now) (machine_of c.take_records.new.machine) _ c.args.count _ here (c.in_ok-records.ensures.taken _ r.0 _ goes)),
    )

pub open_pages-requires-clause-rising : goal.open_pages-requires-clause-rising
open_pages-requires-clause-rising g c = subst (λ pages. IsStrictlyIncreasing (labels_of pages)) (sym c.deref-2.ensures.value) (labels_rise _ _ _ _ c.in_ok-pages.ensures)

pub open_pages-requires-clause-in_tree : goal.open_pages-requires-clause-in_tree
open_pages-requires-clause-in_tree g c = subst (λ pages. AreLabels (labels_of pages)) (sym c.deref-2.ensures.value) (labels_are_low _ _ _ _ c.in_ok-pages.ensures)

pub returns-clause-made : goal.returns-clause-made
returns-clause-made g c = λ run segments lengths r.
    let from = machine_of c.args.machine.now in
    let goes = ready_goes_on _ run _ _ from _ segments lengths c.args.count c.requires.same r in
    is_made _ run c.args.program.now from (machine_of c.take_records.new.machine) (leaves_of c.args.tree.now) (leaves_of c.open_pages.new.tree) segments lengths c.args.count c.in_ok-records.records.items c.in_ok-tables.tables c.args.ends c.in_ok-pages.pages.items _
    (c.segments_go_on.ensures c.args.ext.now) r (c.in_ok-records.ensures.taken _ run _ goes)
    (subst (λ done. SegmentFilled (g.E.Extension.system c.args.ext.now) c.args.program.now done c.in_ok-tables.tables) c.deref.ensures.value c.in_ok-tables.ensures)
    c.in_ok-pages.ensures
    (record {
      connector_is = (λ i. record { pc_start = c.pc-pc_start.ensures i; pc_end = c.pc.ensures i; end_time = c.time.ensures i; ends = c.args.ends });
      start_is = c.in_ok-opening.ensures.start;
      end_is = c.in_ok-opening.ensures.end ∙ ap (λ ps. root (with_pages (leaves_of c.args.tree.now) ps)) c.deref-2.ensures.value;
      siblings_are = c.in_ok-opening.ensures.siblings ∙ ap (λ ps. siblings_of (leaves_of c.args.tree.now) (labels_of ps)) c.deref-2.ensures.value;
      tables_are = refl;
      pages_are = refl;
      leaves_are = c.in_ok-opening.ensures.leaves ∙ ap (with_pages (leaves_of c.args.tree.now)) c.deref-2.ensures.value;
    })
