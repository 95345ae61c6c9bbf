use Rattle.std.proofs.Common.{sym, ap, ◌∙◌, arith}
use Rattle.page_tree.specs.Kept.{digest_of}
use Rattle.page_tree.proofs.subtree.Subtree.digest.Goals as goal

pub returns-in-Zeros : goal.returns-in-Zeros
unfolding digest_of
returns-in-Zeros c = c.requires.zeros.each c.args.level (omega arith) ∙ sym (ap (digest_of c.args.level) c.in-Zeros.is)

pub returns-in-Leaf : goal.returns-in-Leaf
unfolding digest_of
returns-in-Leaf c = ap (λ leaf. leaf.digest) c.deref.ensures ∙ sym (ap (digest_of c.args.level) c.in-Leaf.is)

pub returns-in-Pair : goal.returns-in-Pair
unfolding digest_of
returns-in-Pair c = ap (λ pair. pair.digest) c.deref-in-Pair.ensures ∙ sym (ap (digest_of c.args.level) c.in-Pair.is)
