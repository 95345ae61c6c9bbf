use Rattle.std.proofs.Common.{◌≡◌, ◌++◌, ◌*◌, length, take, get_or, sym, ap, ◌∙◌, arith}
use Rattle.std.proofs.Math.Seq.{take-length}
use Rattle.byteorder.specs.Endian.{little_bytes}
use Rattle.vm_vectors.specs.ElfFile.{elf_file, file_header, program_header, text_bytes}
use Rattle.vm_vectors.proofs.Texts.{text_bytes-more, appended}
use Rattle.vm_vectors.proofs.Files.{file_has_image}
use Rattle.vm_vectors.proofs.elf.elf_of.Goals as goal

pub loop-word-preserved : goal.loop-word-preserved
loop-word-preserved c =
    let words = c.args.words.now in
    let front = file_header c.args.base ++ program_header c.args.base (4 * length words) in
    let more = text_bytes-more words c.loop-word.word-index c.loop-word-test.true in
    let word = little_bytes 4 (get_or words c.loop-word.word-index 0) in
    let pushed : c.extend_from_slice-in-loop-word.new.self.items ≡ c.loop-word.file.items ++ word = c.in_ok-extend_from_slice-2.ensures.items ∙ ap (λ bytes. c.loop-word.file.items ++ bytes) c.to_le_bytes.ensures in
    appended front (text_bytes (take c.loop-word.word-index words)) word c.loop-word.file.items _ pushed c.loop-word.invariant ∙ ap (λ text. front ++ text) (sym more)

pub returns-clause-image : goal.returns-clause-image
returns-clause-image c =
    let words = c.args.words.now in
    let front = file_header c.args.base ++ program_header c.args.base (4 * length words) in
    let whole : take c.loop-word.word-index words ≡ words = let ended : c.loop-word.word-index ≡ length words = omega arith in rw ended (take-length words) in
    let is : c.loop-word.file.items ≡ elf_file c.args.base words = c.loop-word.invariant ∙ ap (λ text. front ++ text_bytes text) whole in
    rw is (file_has_image c.args.base words c.requires.some c.requires.most c.requires.aligned c.requires.low)
