use Rattle.std.proofs.Common.{List, ℕ, length, sym, ap, ◌∙◌, arith}
use Rattle.vm_trace.specs.declared.count.CountList.TheVariants.{Program, Xor, Range, ShaConst}
use Rattle.vm_transpile.proofs.RowOrder.{rises_few}
use Rattle.vm_filler.specs.Filling.{with_entries}
use Rattle.vm_filler.specs.Uses.{entries_of}
use Rattle.vm_filler.proofs.SegmentLemmas.{segment_filled}
use Rattle.vm_filler.proofs.fill_segment.Goals as goal

pub push_entries-requires : goal.push_entries-requires
push_entries-requires g c = omega (arith, ap (λ (l : List ℕ). length l) c.deref.ensures.value, c.in_ok-rows.ensures.size, rises_few 0 c.args.program.now (omega arith) c.rows_rise.ensures)

pub returns : goal.returns
returns g c =
    let ext = c.args.ext.now in
    segment_filled (g.E.Extension.system ext)
    (record { fits = g.met.E.Extension.fits ext; buses = g.met.E.Extension.buses ext; rows = g.met.E.Extension.rows ext; complete = g.met.E.Extension.complete ext; quiet = g.met.E.Extension.quiet ext })
    c.args.program.now c.requires.0 c.args.records.now c.requires.1 c.in_ok-tables.tables c.in_ok-lookups.lookups c.fill_tables.new.lookups c.in_ok-tables.ensures
    c.in_ok-rows.rows.items c.in_ok-lookups.ensures.holds c.in_ok-rows.ensures.counts c.in_ok-rows.ensures.size
    (sym (ap (λ (l : List ℕ). length l) c.xor.ensures.counts) ∙ c.xor.ensures.size) (sym (ap (λ (l : List ℕ). length l) c.range.ensures.counts) ∙ c.range.ensures.size)
    (sym (ap (λ (l : List ℕ). length l) c.constants.ensures.counts) ∙ c.constants.ensures.size)
    c.push_entries.new.tables c.push_entries-2.new.tables c.push_entries-3.new.tables c.push_entries-4.new.tables
    (c.in_ok-push_entries.ensures ∙ ap (λ (l : List ℕ). with_entries c.in_ok-tables.tables Program (entries_of l)) c.deref.ensures.value)
    (c.in_ok-push_entries-2.ensures ∙ ap (λ (l : List ℕ). with_entries c.push_entries.new.tables Xor (entries_of l)) c.xor.ensures.counts)
    (c.in_ok-push_entries-3.ensures ∙ ap (λ (l : List ℕ). with_entries c.push_entries-2.new.tables Range (entries_of l)) c.range.ensures.counts)
    (c.in_ok-push_entries-4.ensures ∙ ap (λ (l : List ℕ). with_entries c.push_entries-3.new.tables ShaConst (entries_of l)) c.constants.ensures.counts)
