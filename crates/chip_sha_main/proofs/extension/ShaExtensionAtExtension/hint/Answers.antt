use Rattle.chip_sha_main.specs.lemmas.ShaLaws.{sha_no_hint}
use Rattle.chip_sha_main.proofs.extension.ShaExtensionAtExtension.hint.Goals as goal

pub returns : goal.returns
returns g c = sha_no_hint g.row.HI c.args.table c.args.row.now
