use Rattle.gadget_time.specs.lemmas.FormSound.{form_no_hint}
use Rattle.adapter_regs.specs.Core.{regs_form}
use Rattle.adapter_regs.specs.lemmas.Form.{core_form, regs_no_hints}
use Rattle.adapter_regs.proofs.form.RegsFormTableForm.hint.Goals as goal

pub returns : goal.returns
returns g c =
    let core = g.C.RegsCore.core in
    let laws = g.met.C.RegsCore.laws in
    form_no_hint (regs_form core) c.args.hi (core_form core laws) (regs_no_hints core laws) c.args.row.now
