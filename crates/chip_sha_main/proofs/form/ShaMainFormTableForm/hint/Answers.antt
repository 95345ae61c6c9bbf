use Rattle.gadget_time.specs.lemmas.FormSound.{form_no_hint}
use Rattle.chip_sha_main.specs.Sheet.{main_form}
use Rattle.chip_sha_main.specs.lemmas.MainLaws.{main_laws, main_no_hints}
use Rattle.chip_sha_main.proofs.form.ShaMainFormTableForm.hint.Goals as goal

pub returns : goal.returns
returns c = form_no_hint main_form c.args.hi main_laws main_no_hints c.args.row.now
