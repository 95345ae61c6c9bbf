use Rattle.std.proofs.Common.{◌≡◌, ◌∙◌, ap, sym, subst, ◌++◌, [], ◌∷◌, ℕ, List, zero-add, rules, length, arith}
use Rattle.std.specs.List.{range_with_len}
use Rattle.std.specs.Ordering.{nat_cmp}
use Rattle.std.specs.List.Sorted.{IsStableByKey}
use Rattle.std.proofs.lemmas.Fn.{always_returns_same}
use Rattle.exec_path.specs.Order.{time_at}
use Rattle.exec_path.proofs.OrderLemmas.{range_more, order_from_sort}
use Rattle.exec_path.proofs.order.order_rows.Goals as goal

pub loop-place-preserved : goal.loop-place-preserved
loop-place-preserved c =
    c.in_ok-push.ensures.items ∙ ap (λ (t : List ℕ). t ++ c.loop-place.place ∷ []) c.loop-place.invariant
    ∙ ap (λ (n : ℕ). range_with_len 0 c.loop-place.place ++ n ∷ []) (sym (zero-add c.loop-place.place)) ∙ sym (range_more 0 c.loop-place.place)

pub returns : goal.returns
returns c =
    let all : c.loop-place.places.items ≡ range_with_len 0 (length c.args.rows.now) = c.loop-place.invariant ∙ ap (range_with_len 0) (omega arith) in
    order_from_sort c.args.rows.now c.sort_by_key.new.self.items
    (rw all at c.in_ok-sort_by_key.ensures.permutation)
    (c.in_ok-sort_by_key.ensures.sorted (time_at c.args.rows.now) (always_returns_same _ (λ a r. r ≡ time_at c.args.rows.now a.0.now) _ (λ a r q k. search rules)))
    (let P : List ℕ → Type 0 = λ xs. IsStableByKey (time_at c.args.rows.now) nat_cmp xs c.sort_by_key.new.self.items in
    subst P all (c.in_ok-sort_by_key.ensures.stable (time_at c.args.rows.now) (always_returns_same _ (λ a r. r ≡ time_at c.args.rows.now a.0.now) _ (λ a r q k. search rules))))
