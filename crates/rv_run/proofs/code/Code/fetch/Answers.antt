use Rattle.std.proofs.Common.{sym, subst, Some}
use Rattle.elf_image.specs.Loaded.{text_of, word_of}
use Rattle.rv_run.specs.Code.{HasRanges}
use Rattle.rv_run.proofs.CodeLemmas.{line_at, fetched_ranges}
use Rattle.rv_run.proofs.code.Code.fetch.Goals as goal

pub returns-clause-ranged : goal.returns-clause-ranged
returns-clause-ranged c =
    let loaded = c.args.self.now.image.now in
    let word = word_of loaded c.args.pc in
    let line = line_at (text_of loaded) c.args.pc word c.args.self.now.lines.items c.in_ok-place.place c.index.result.now c.args.self.now.whole c.in_ok-place.ensures in
    subst (λ x. HasRanges (Some x)) (sym c.index.ensures) (subst HasRanges (sym line) (fetched_ranges word))
