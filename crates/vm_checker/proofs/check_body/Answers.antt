use Rattle.std.proofs.Common.{◌≡◌, refl, sym, ap, subst, ◌∙◌, []}
use Rattle.std.proofs.lemmas.Result.{err_from_is_err_and}
use Rattle.vm_host.specs.declared.Slot.TheVariants.{Second}
use Rattle.vm_host.proofs.Reading.{took_none}
use Rattle.table_format.specs.Stream.{Held, bare}
use Rattle.vm_checker.specs.Body.{ReadsAll, TellsFile}
use Rattle.vm_checker.specs.Items.{body_of}
use Rattle.vm_checker.specs.Verdicts.{JudgesBody}
use Rattle.vm_checker.proofs.Judging.{checks_body, checks_nothing}
use Rattle.vm_checker.proofs.check_body.Goals as goal

pub returns-in_err-program : goal.returns-in_err-program
returns-in_err-program g c =
    let x = g.E.Extension.system c.args.ext.now in
    let s = g.H.Host.state c.args.host.now in
    let p = err_from_is_err_and c.from_residual.result c.from_residual.ensures.1 in
    rw (p.1, p.2) (checks_nothing (JudgesBody x c.args.image.now c.args.version) s s [] (took_none Second s c.requires.open))

pub returns-in_err-stream : goal.returns-in_err-stream
returns-in_err-stream g c =
    let x = g.E.Extension.system c.args.ext.now in
    let s = g.H.Host.state c.args.host.now in
    let p = err_from_is_err_and c.from_residual-in_err-stream.result c.from_residual-in_err-stream.ensures.1 in
    rw (p.1, p.2) (checks_nothing (JudgesBody x c.args.image.now c.args.version) s s [] (took_none Second s c.requires.open))

pub returns : goal.returns
returns g c =
    let x = g.E.Extension.system c.args.ext.now in
    let image = c.args.image.now in
    let s = g.H.Host.state c.args.host.now in
    let t = g.H.Host.state c.take_whole.new.host in
    let read = subst (λ (h : Held). ReadsAll (body_of x image c.args.version) (TellsFile x image) h c.take_whole.new.stream s t c.take_whole.result) c.in_ok-stream.ensures c.take_whole.ensures in
    rw c.answer_to.ensures (checks_body x image c.args.version c.requires.first c.ranges.version.fits c.requires.times c.is_of_a_file.ensures (c.accepted_files_are_runs.ensures c.args.ext.now) (c.accepted_files_spell_hints.ensures.one c.args.ext.now)
    c.take_whole.result ((g.met.H.Host.bytes c.args.host.now).rest Second) read)
