use Rattle.gadget_time.specs.lemmas.FormSound.{form_no_hint}
use Rattle.chip_branch.specs.Branch.{branch_form}
use Rattle.chip_branch.specs.lemmas.Form.{condition_form, branch_no_hints}
use Rattle.chip_branch.proofs.form.BranchFormTableForm.hint.Goals as goal

pub returns : goal.returns
returns g c =
    let condition = g.C.Condition.condition in
    let laws = g.met.C.Condition.laws in
    form_no_hint (branch_form condition) c.args.hi (condition_form condition laws) (branch_no_hints condition laws) c.args.row.now
