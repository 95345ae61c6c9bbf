use Rattle.std.proofs.Common.{◌≡◌, nat_le, true, false, arith, get_or, refl, ◌∙◌}
use Rattle.std.proofs.Math.ListN.{drop_of_length-le}
use Rattle.std.proofs.lemmas.Bool.Decides.{nat_tests}
use Rattle.elf_image.specs.declared.headers.ProgramHeader.{ProgramHeader}
use Rattle.elf_image.specs.Layout.{follow}
use Rattle.elf_image.proofs.Overlaps.{not_follow_shares, follow-drop}
use Rattle.elf_image.proofs.refusals.overlap.Goals as goal

pub returns-then-load-end : goal.returns-then-load-end
returns-then-load-end c =
    let d : ProgramHeader = record { p_type = 0; p_offset = 0; p_vaddr = 0; p_filesz = 0; p_memsz = 0; p_flags = 0 } in
    let load = get_or c.args.loads.now c.loop-load.load-index d in
    let step = follow-drop c.args.loads.now c.loop-load.end c.loop-load.load-index load d c.loop-load-test.true refl in
    let here : nat_le c.loop-load.end load.p_vaddr ≡ false = grind (arith, nat_tests) in
    let fails : follow 0 c.args.loads.now ≡ false = c.loop-load.invariant ∙ rw here at step in
    (λ yes'. (not_follow_shares c.args.loads.now c.requires.rising c.requires.some).0 fails, λ h. refl)

pub returns : goal.returns
returns c =
    let none = drop_of_length-le c.args.loads.now c.loop-load-test.false in
    let follows : follow 0 c.args.loads.now ≡ true = rw none at c.loop-load.invariant in
    let decided = not_follow_shares c.args.loads.now c.requires.rising c.requires.some in
    (λ h. cc, λ h. let fails = decided.1 h in cc)
