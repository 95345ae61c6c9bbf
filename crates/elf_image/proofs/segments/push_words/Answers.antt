use Rattle.std.proofs.Common.{◌≡◌, ◌+◌, ◌-◌, ◌^◌, [], ◌∷◌, length, arith, rules, refl, ap, append_assoc, length-append}
use Rattle.std.proofs.lemmas.List.{append-nil}
use Rattle.elf_image.specs.Image.{load_of}
use Rattle.elf_image.proofs.Loads.{words_in}
use Rattle.elf_image.proofs.Words.{words_not_executable, words_before, words_step, words_after}
use Rattle.elf_image.proofs.Text.{text_grows}
use Rattle.elf_image.proofs.segments.push_words.Goals as goal

pub returns-then-load-eq0-clause-text : goal.returns-then-load-eq0-clause-text
returns-then-load-eq0-clause-text c = rw (words_not_executable c.args.file.now c.args.load.now c.requires.given (2 ^ 32) c.if-load-eq0.true, append-nil) refl

pub loop-pc-init : goal.loop-pc-init
loop-pc-init c =
    let first = c.next_multiple_of-pc.ensures in
    let none = words_before c.args.file.now c.args.load.now c.requires.given c.next_multiple_of-pc.result first.upper_bound first.multiple in
    record { aligned = first.multiple; low = first.lower_bound; near = omega arith; most = c.requires.most; text = rw (none, append-nil) refl }

pub loop-pc-preserved : goal.loop-pc-preserved
loop-pc-preserved c =
    let kept = c.loop-pc.invariant in
    let step = words_step c.args.file.now c.args.load.now c.requires.given c.loop-pc.pc kept.aligned kept.low (omega arith) c.if-load-eq0.false in
    record {
      aligned = omega arith;
      low = omega arith;
      near = omega arith;
      most = omega (arith, c.in_ok-push.ensures.len);
      text = rw (step, ← append_assoc, ← kept.text, ← c.bytes_of-bytes.ensures, ← c.read_word-word.ensures) c.in_ok-push.ensures.items;
    }

pub returns-then-len-eq-MAX_TEXT-clause-refused : goal.returns-then-len-eq-MAX_TEXT-clause-refused
returns-then-len-eq-MAX_TEXT-clause-refused c other =
    let kept = c.loop-pc.invariant in
    let words = words_in (load_of c.args.file.now c.args.load.now ∷ []) in
    let step = words_step c.args.file.now c.args.load.now c.requires.given c.loop-pc.pc kept.aligned kept.low (omega arith) c.if-load-eq0.false in
    let more = ap length step in
    let so_far = ap length kept.text in
    let whole : c.loop-pc.pc + 4 + (2 ^ 32 - (c.loop-pc.pc + 4)) ≡ 2 ^ 32 = omega arith in
    let grows = text_grows words (c.loop-pc.pc + 4) (2 ^ 32 - (c.loop-pc.pc + 4)) in
    let grown = rw whole at grows in
    let full : length c.loop-pc.text.items ≡ 2 ^ 20 = search rules in
    (refl, rw length-append (omega (arith, simp length-append at more, simp length-append at so_far)))

pub returns-clause-text : goal.returns-clause-text
returns-clause-text c =
    let kept = c.loop-pc.invariant in
    let rest = words_after c.args.file.now c.args.load.now c.requires.given c.loop-pc.pc kept.aligned (2 ^ 32) (omega arith) (omega arith) in
    rw rest kept.text
