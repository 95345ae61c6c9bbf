use Rattle.gadget_time.specs.Nop.{nop_form}
use Rattle.gadget_time.specs.lemmas.FormSound.{form_no_hint}
use Rattle.gadget_time.specs.lemmas.NopLaws.{nop_laws, nop_no_hints}
use Rattle.gadget_time.proofs.nop.NopFormTableForm.hint.Goals as goal

pub returns : goal.returns
returns c = form_no_hint nop_form c.args.hi nop_laws nop_no_hints c.args.row.now
