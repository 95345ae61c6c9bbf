use Rattle.std.proofs.Common.{get_or, sym, subst, ◌<◌, ◌+◌, ◌∙◌, ℕ}
use Rattle.std.proofs.lemmas.List.FromFn.{fill_by_all}
use Rattle.elf_image.specs.Copies.{given_or}
use Rattle.page_tree.specs.Loading.{laid_over}
use Rattle.page_tree.proofs.start.lay_over.Goals as goal

pub returns : goal.returns
unfolding laid_over
returns c =
    fill_by_all (λ k. given_or c.args.load.now.address c.args.load.now.bytes.now (c.args.start + k) (get_or c.args.bytes.now k 0)) c.copy_over.new.bytes 64 0
    (c.copy_over.auto.bytes ∙ c.told-bytes)
    (λ k h. c.copy_over.ensures k (subst (λ (n : ℕ). k < n) (sym c.told-bytes) h))
