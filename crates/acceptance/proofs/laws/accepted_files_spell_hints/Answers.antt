use Rattle.acceptance.proofs.Whole.{accepted_spell, accepted_spell_one}
use Rattle.acceptance.proofs.laws.accepted_files_spell_hints.Goals as goal

pub returns-clause-some : goal.returns-clause-some
returns-clause-some g c = λ ext. accepted_spell _ (g.met.E.Extension.fits ext) (g.met.E.Extension.buses ext) (g.met.E.Extension.timed ext) (g.met.E.Extension.sound ext)

pub returns-clause-one : goal.returns-clause-one
returns-clause-one g c = λ ext. accepted_spell_one _ (g.met.E.Extension.fits ext) (g.met.E.Extension.buses ext) (g.met.E.Extension.timed ext) (g.met.E.Extension.sound ext)
