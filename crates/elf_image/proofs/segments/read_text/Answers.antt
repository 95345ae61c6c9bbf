use Rattle.std.proofs.Common.{◌^◌, length, arith, ap, length-append}
use Rattle.std.proofs.Math.ListN.{drop_of_length-le}
use Rattle.std.proofs.lemmas.List.{append-nil}
use Rattle.std.proofs.lemmas.Result.{err_from_is_err_and}
use Rattle.elf_image.specs.declared.headers.ProgramHeader.{ProgramHeader}
use Rattle.elf_image.proofs.Loads.{text_of_headers, text_in-drop}
use Rattle.elf_image.proofs.Members.{All_in}
use Rattle.elf_image.proofs.segments.read_text.Goals as goal

pub returns-in_err-push_words-clause-refused : goal.returns-in_err-push_words-clause-refused
returns-in_err-push_words-clause-refused c =
    let p = err_from_is_err_and c.from_residual.result c.from_residual.ensures.1 in
    rw (p.1, p.2) (λ other.
    let d : ProgramHeader = record { p_type = 0; p_offset = 0; p_vaddr = 0; p_filesz = 0; p_memsz = 0; p_flags = 0 } in
    let refused = c.in_err-push_words.ensures.refused other in
    let whole = text_of_headers c.args.file.now c.args.loads.now (2 ^ 32) c.requires.apart (All_in _ _ c.requires.fit.held) in
    let so_far = c.loop-load.invariant.text in
    let step = text_in-drop (2 ^ 32) c.args.file.now c.args.loads.now c.loop-load.load-index d c.loop-load-test.true in
    let long = ap length (rw step at so_far) in
    (refused.0, rw whole (omega (arith, simp length-append at long, simp length-append at refused.1))))

pub returns-clause-text : goal.returns-clause-text
returns-clause-text c =
    let whole = text_of_headers c.args.file.now c.args.loads.now (2 ^ 32) c.requires.apart (All_in _ _ c.requires.fit.held) in
    let none = drop_of_length-le c.args.loads.now c.loop-load-test.false in
    let all = rw (none, append-nil) at c.loop-load.invariant.text in
    rw whole all
