use Rattle.std.proofs.Common.{◌≡◌, ℕ, ◌+◌, ◌*◌, List, [], ◌++◌, flat_map, get_or, take, drop, sym, ap, subst, ◌∙◌, arith}
use Rattle.std.specs.List.{range_with_len}
use Rattle.std.proofs.lemmas.List.Folds.{flat_map-map}
use Rattle.gadget_time.specs.declared.touch.Gap.{Gap}
use Rattle.gadget_time.specs.Access.{access_at, gap_cells, gap_of}
use Rattle.chip_sha_main.proofs.Puts.{put_more, columns_by, access_is}
use Rattle.chip_sha_main.proofs.fill.put_gaps.Goals as goal

pub loop-i-preserved : goal.loop-i-preserved
loop-i-preserved c =
    let at = c.args.at in
    let i = c.loop-i.i in
    let G : ℕ → List ℕ = λ i. gap_cells (gap_of (get_or c.args.done.now.accesses (c.args.from + i) (access_at [] 0))) in
    let is : gap_cells c.gap_of-gap.result ≡ G i = ap (λ (h : Gap ℕ). gap_cells h) (c.gap_of-gap.ensures ∙ ap gap_of (c.access_at.ensures ∙ access_is c.args.done.now.accesses (c.args.from + i))) in
    record {
      long = c.put.ensures.long ∙ c.loop-i.invariant.long;
      front = put_more at (at + 3 * i) (at + 3 * (i + 1)) i c.loop-i.rest c.put.new.columns c.args.rest.now (gap_cells c.gap_of-gap.result) G c.put.ensures.so_far (omega arith) is c.loop-i.invariant.front;
    }

pub returns-clause-front : goal.returns-clause-front
returns-clause-front c =
    let at = c.args.at in
    let n = c.args.count in
    let G : ℕ → List ℕ = λ i. gap_cells (gap_of (get_or c.args.done.now.accesses (c.args.from + i) (access_at [] 0))) in
    let end : c.loop-i.i ≡ n = omega (arith, c.loop-i.auto.i-end, c.loop-i-test.false) in
    subst (λ (k : ℕ). take (at + 3 * k) c.loop-i.rest ≡ take at c.args.rest.now ++ flat_map G (range_with_len 0 k)) end c.loop-i.invariant.front
    ∙ ap (λ (ys : List ℕ). take at c.args.rest.now ++ ys) (columns_by (λ x. gap_cells (gap_of x)) c.args.done.now.accesses c.args.from n (access_at [] 0) (omega (arith, c.requires.few, c.requires.accesses)) ∙ sym (flat_map-map gap_cells gap_of (take n (drop c.args.from c.args.done.now.accesses))))
