use Rattle.std.proofs.Common.{◌≡◌, ℕ, ◌+◌, ◌-◌, drop, ◌∙◌, subst, arith}
use Rattle.std.proofs.lemmas.List.{drop_all}
use Rattle.page_tree.specs.Kept.{shown}
use Rattle.page_tree.specs.Loading.{AreLoaded}
use Rattle.page_tree.proofs.KeptLemmas.{Stands-zeros}
use Rattle.page_tree.proofs.StartLemmas.{AreLoaded-none, AreLoaded-more, AreLoaded-all, no_part}
use Rattle.page_tree.proofs.tree.Tree.of_image.Goals as goal

pub loop-left-init : goal.loop-left-init
loop-left-init c =
    let loads = c.args.image.now.loads in
    record { within = omega (arith, c.loads_len-left.ensures); shape = Stands-zeros _ 25; loaded = AreLoaded-none (drop c.loads_len-left.result loads) (drop_all c.loads_len-left.result loads (omega (arith, c.loads_len-left.ensures))) }

pub loop-left-preserved-in-Continue-1 : goal.loop-left-preserved-in-Continue-1
loop-left-preserved-in-Continue-1 c =
    let loads = c.args.image.now.loads in
    let left = c.loop-left.left in
    let next : left ≡ left - 1 + 1 = omega (arith, c.loop-left-test.true) in
    let begun = subst (λ (n : ℕ). AreLoaded (drop n loads) 25 0 (shown 25 0 c.loop-left.top)) next c.loop-left.invariant.loaded in
    record {
      within = omega (arith, c.loop-left.invariant.within);
      shape = c.in_ok-lay_load.ensures.shape;
      loaded = AreLoaded-more loads (left - 1) c.in-Some.load (shown 25 0 c.loop-left.top) (shown 25 0 c.lay_load.new.self) (omega (arith, c.loop-left.invariant.within, c.loop-left-test.true)) c.in-Some.ensures begun c.in_ok-lay_load.ensures.laid;
    }

pub loop-left-preserved : goal.loop-left-preserved
loop-left-preserved c =
    absurd (no_part c.args.image.now.loads (c.loop-left.left - 1) (omega (arith, c.loop-left.invariant.within, c.loop-left-test.true)) (rw c.in_default.is at c.load.ensures))

pub returns : goal.returns
returns c =
    let none : c.loop-left.left ≡ 0 = omega (arith, c.loop-left-test.false) in
    let loaded = subst (λ (n : ℕ). AreLoaded (drop n c.args.image.now.loads) 25 0 (shown 25 0 c.loop-left.top)) none c.loop-left.invariant.loaded in
    λ label. c.hashed.ensures label ∙ AreLoaded-all c.args.image.now c.loop-left.top c.loop-left.invariant.shape loaded label
