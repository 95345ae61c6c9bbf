use Rattle.std.proofs.Common.{List, ◌++◌, ◌∙◌, sym, ap, subst, arith}
use Rattle.vm_trace.specs.declared.page.Touched.{Touched}
use Rattle.table_format.specs.Items.{bounds_in}
use Rattle.table_format.proofs.Drawn.{Drew, Halts, drew_of, drew_both, drew_answers, halts_of, halts_first, halts_then, halts_answers, memory_halts}
use Rattle.table_format.proofs.Draws.{draws_none}
use Rattle.air_core.specs.declared.hint.HintWord.{HintWord}
use Rattle.acceptance.specs.Events.{said_by_rows}
use Rattle.acceptance.specs.Spelled.{AreHints}
use Rattle.vm_checker.specs.Items.{said_in, siblings_of}
use Rattle.vm_checker.proofs.InsideTaken.{heard_all}
use Rattle.vm_checker.proofs.segment.take_inside.Goals as goal

pub returns-in_err-tally-clause-reads : goal.returns-in_err-tally-clause-reads
returns-in_err-tally-clause-reads g c = halts_answers c.from_residual.result c.from_residual.ensures.1 (memory_halts (draws_none c.args.stream.now (g.H.Host.state c.args.host.now) c.requires.open))

pub take_tables-requires-clause-room : goal.take_tables-requires-clause-room
take_tables-requires-clause-room g c = omega (arith, c.in_ok-tally.ensures.room)

pub take_tables-requires-clause-heard : goal.take_tables-requires-clause-heard
take_tables-requires-clause-heard g c = (_, c.in_ok-tally.ensures.said)

pub returns-in_err-take_tables-clause-reads : goal.returns-in_err-take_tables-clause-reads
returns-in_err-take_tables-clause-reads g c =
    halts_answers c.from_residual-in_err-take_tables.result c.from_residual-in_err-take_tables.ensures.1 (halts_first _ (halts_of c.in_err-take_tables.ensures.reads))

pub take_counts-requires-clause-room : goal.take_counts-requires-clause-room
take_counts-requires-clause-room g c = omega (arith, c.in_ok-tally.ensures.room, c.in_ok-take_tables.ensures.left)

pub returns-in_err-take_counts-clause-reads : goal.returns-in_err-take_counts-clause-reads
returns-in_err-take_counts-clause-reads g c =
    halts_answers c.from_residual-in_err-take_counts.result c.from_residual-in_err-take_counts.ensures.1
    (halts_then _ (drew_of c.in_ok-take_tables.ensures.reads).2 (halts_first _ (halts_of c.in_err-take_counts.ensures.reads)))

pub take_pages-requires-clause-room : goal.take_pages-requires-clause-room
take_pages-requires-clause-room g c = omega (arith, c.in_ok-tally.ensures.room, c.in_ok-take_tables.ensures.left, c.in_ok-take_counts.ensures.left)

pub returns-in_err-pages-clause-reads : goal.returns-in_err-pages-clause-reads
returns-in_err-pages-clause-reads g c =
    halts_answers c.from_residual-in_err-pages.result c.from_residual-in_err-pages.ensures.1
    (halts_then _ (drew_of c.in_ok-take_tables.ensures.reads).2 (halts_then _ (drew_of c.in_ok-take_counts.ensures.reads).2 (halts_first _ (halts_of c.in_err-pages.ensures.reads))))

pub take_siblings-requires-clause-heard : goal.take_siblings-requires-clause-heard
take_siblings-requires-clause-heard g c =
    let ts = drew_of c.in_ok-take_tables.ensures.reads in
    let ls = drew_of c.in_ok-take_counts.ensures.reads in
    let ps = drew_of c.in_ok-pages.ensures.reads in
    (_, heard_all (g.E.Extension.system c.args.ext.now) ts.0 _ _ _ c.in_ok-tally.ensures.said ts.1.heard ls.1 ps.1.1)

pub returns-in_err-siblings-clause-reads : goal.returns-in_err-siblings-clause-reads
returns-in_err-siblings-clause-reads g c =
    let x = g.E.Extension.system c.args.ext.now in
    let program = c.args.program.now in
    let ts = drew_of c.in_ok-take_tables.ensures.reads in
    let ls = drew_of c.in_ok-take_counts.ensures.reads in
    let ps = drew_of c.in_ok-pages.ensures.reads in
    let heard = heard_all x ts.0 _ _ _ c.in_ok-tally.ensures.said ts.1.heard ls.1 ps.1.1 in
    let stopped = subst (λ (pages : List Touched). Halts (siblings_of c.args.segment (said_in x program (bounds_in c.args.bounds.now) ts.0 ls.0 ps.0) pages) c.take_pages.new.stream c.take_siblings.new.stream (g.H.Host.state c.take_pages.new.host) (g.H.Host.state c.take_siblings.new.host) c.in_err-siblings.field-0.0)
    (c.deref.ensures.value ∙ ps.1.0) (halts_of (c.in_err-siblings.ensures.reads _ heard)) in
    halts_answers c.from_residual-in_err-siblings.result c.from_residual-in_err-siblings.ensures.1 (halts_then _ ts.2 (halts_then _ ls.2 (halts_then _ ps.2 stopped)))

pub returns-clause-reads : goal.returns-clause-reads
returns-clause-reads g c =
    let x = g.E.Extension.system c.args.ext.now in
    let program = c.args.program.now in
    let ts = drew_of c.in_ok-take_tables.ensures.reads in
    let ls = drew_of c.in_ok-take_counts.ensures.reads in
    let ps = drew_of c.in_ok-pages.ensures.reads in
    let heard = heard_all x ts.0 _ _ _ c.in_ok-tally.ensures.said ts.1.heard ls.1 ps.1.1 in
    let ds = drew_of (c.in_ok-siblings.ensures.reads _ heard) in
    let drew = subst (λ (pages : List Touched). Drew (siblings_of c.args.segment (said_in x program (bounds_in c.args.bounds.now) ts.0 ls.0 ps.0) pages) c.take_pages.new.stream c.take_siblings.new.stream (g.H.Host.state c.take_pages.new.host) (g.H.Host.state c.take_siblings.new.host) ds.0)
    (c.deref.ensures.value ∙ ps.1.0) ds.2 in
    drew_answers _ (drew_both _ ts.2 (drew_both _ ls.2 (drew_both _ ps.2 drew)))
    (record {
      pages = ps.1.0;
      siblings = ds.1;
      valid = ts.1.valid ∙ omega (arith, c.in_ok-tally.ensures.valid);
      hints = λ rows. subst (AreHints (said_by_rows x.parts ts.0)) (sym (ts.1.kept ∙ ap (λ (first : List HintWord). first ++ ts.1.found) c.in_ok-tally.ensures.hints)) (ts.1.hints rows);
    })
