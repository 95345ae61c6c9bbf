use Rattle.std.proofs.Common.{◌≡◌, ◌<◌, ◌/◌, ◌%◌, ◌+◌, ◌-◌, Some, length, arith, rules}
use Rattle.std.proofs.Math.Path.{fun_ext}
use Rattle.std.proofs.lemmas.Grind.{common_steps}
use Rattle.rv_run.specs.Pages.{page_of}
use Rattle.rv_run.proofs.PageLemmas.{byte_stored}
use Rattle.rv_run.proofs.memory.Memory.put.Goals as goal

pub returns-in-Some-clause-stored : goal.returns-in-Some-clause-stored
returns-in-Some-clause-stored c =
    let size : length c.in-Some.page.bytes.value ≡ 4096 = search rules in
    let listed : c.args.address / 4096 < length c.args.self.now.pages.items = grind (arith, common_steps) in
    let owned : page_of c.args.self.now.pages.items c.args.address ≡ Some c.in-Some.page = grind (arith, common_steps) in
    let k : c.args.address % 4096 + length c.args.bytes.now - c.args.address % 4096 ≡ length c.args.bytes.now = omega arith in
    fun_ext (λ a. byte_stored c.args.self.now.pages.items _ c.in-Some.page _ c.args.address c.args.bytes.now owned listed size c.requires.within (cc (k, c.deref_mut.ensures.value, c.copy_from_slice.ensures.after)) a)
