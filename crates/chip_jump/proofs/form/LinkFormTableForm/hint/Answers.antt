use Rattle.gadget_time.specs.lemmas.FormSound.{form_no_hint}
use Rattle.chip_jump.specs.Link.{link_form}
use Rattle.chip_jump.specs.lemmas.Form.{link_form_laws, link_no_hints}
use Rattle.chip_jump.proofs.form.LinkFormTableForm.hint.Goals as goal

pub returns : goal.returns
returns g c =
    let l = g.C.LinkCore.link in
    let laws = g.met.C.LinkCore.laws in
    form_no_hint (link_form l) c.args.hi (link_form_laws l laws) (link_no_hints l laws) c.args.row.now
