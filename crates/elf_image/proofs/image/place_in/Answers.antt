use Rattle.std.proofs.Common.{◌≡◌, ◌<◌, ◌^◌, length, get_or, nat_cmp, Equal, arith, rules}
use Rattle.std.proofs.lemmas.List.Sorted.{answers_always}
use Rattle.std.proofs.lemmas.Option.{slice_get-get_or}
use Rattle.elf_image.specs.declared.TextWord.{TextWord}
use Rattle.elf_image.specs.Loaded.{word_of, text_below}
use Rattle.elf_image.proofs.Searches.{found_place, no_place, absent_word, at_pc}
use Rattle.elf_image.proofs.image.place_in.Goals as goal

pub returns-in-Some : goal.returns-in-Some
returns-in-Some c loaded e =
    let at = rw e at c.in-Some.ensures.1 in
    rw e (found_place (word_of loaded) (2 ^ 32) c.args.pc c.in-Some.place c.in-Some.ensures.0 at c.in-Some.ensures.2)

pub returns-in-Ok : goal.returns-in-Ok
returns-in-Ok c loaded e =
    let none : TextWord = record { pc = 0; word = 0 } in
    let text = text_below (word_of loaded) (2 ^ 32) in
    let position = c.in-Ok.ensures.position (λ word. word.pc) (answers_always _ _ _ (λ f a r g called. search rules)) in
    let within : c.in-Ok.place < length text = rw (← e) c.in-Ok.ensures.bound in
    let equal : nat_cmp (get_or text c.in-Ok.place none).pc c.args.pc ≡ Equal = rw (← e) (position none) in
    rw e (found_place (word_of loaded) (2 ^ 32) c.args.pc c.in-Ok.place (get_or text c.in-Ok.place none) (slice_get-get_or text c.in-Ok.place none within) (at_pc _ c.args.pc equal))

pub returns-in-Err : goal.returns-in-Err
returns-in-Err c loaded e =
    let position = c.in-Err.ensures.position (λ word. word.pc) (answers_always _ _ _ (λ f a r g called. search rules)) in
    rw e (no_place (word_of loaded) (2 ^ 32) c.args.pc (absent_word (word_of loaded) (2 ^ 32) c.args.pc (omega arith) c.in-Err.field-0 (rw (← e) position)))
