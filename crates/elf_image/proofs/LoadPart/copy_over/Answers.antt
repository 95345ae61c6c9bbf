use Rattle.std.proofs.Common.{◌≡◌, ◌-◌, take, drop, rules}
use Rattle.elf_image.proofs.CopyLemmas.{byte_copied}
use Rattle.elf_image.proofs.LoadPart.copy_over.Goals as goal

pub returns-then-first-end : goal.returns-then-first-end
returns-then-first-end c k within =
    let first = c.max-first.result in
    let end = c.min-end.result in
    let load = c.args.self.now in
    let copied : c.copy_from_slice.new.self ≡ take (end - load.address - (first - load.address)) (drop (first - load.address) load.bytes.now) = search rules in
    rw copied (byte_copied c.args.bytes.now load.bytes.now load.address c.args.start first end k c.max-first.ensures c.min-end.ensures c.if-first-end.true within)
