use Rattle.std.proofs.Common.{◌≡◌, ℕ, ◌+◌, ◌*◌, List, ◌++◌, flat_map, get_or, length, take, refl, sym, ap, subst, ◌∙◌, arith}
use Rattle.std.specs.List.{range_with_len}
use Rattle.std.proofs.lemmas.List.Folds.{flat_map-map}
use Rattle.gadget_bits.specs.declared.halves.Halves.{Halves}
use Rattle.gadget_bits.specs.Bits.{halves_filled}
use Rattle.gadget_bits.specs.Stage.{cells_of}
use Rattle.chip_sha_main.proofs.Puts.{put_more, columns_whole}
use Rattle.chip_sha_main.proofs.fill.put_halves.Goals as goal

pub loop-i-preserved : goal.loop-i-preserved
unfolding halves_filled
loop-i-preserved c =
    let at = c.args.at in
    let i = c.loop-i.i in
    let G : ℕ → List ℕ = λ i. cells_of (halves_filled (get_or c.args.words.now i 0)) in
    let is : cells_of c.halves_of-halves.result ≡ G i = ap (λ (h : Halves ℕ). cells_of h) c.halves_of-halves.ensures in
    record {
      long = c.put.ensures.long ∙ c.loop-i.invariant.long;
      front = put_more at (at + 2 * i) (at + 2 * (i + 1)) i c.loop-i.rest c.put.new.columns c.args.rest.now (cells_of c.halves_of-halves.result) G c.put.ensures.so_far (omega arith) is c.loop-i.invariant.front;
    }

pub returns-clause-front : goal.returns-clause-front
returns-clause-front c =
    let at = c.args.at in
    let n = length c.args.words.now in
    let G : ℕ → List ℕ = λ i. cells_of (halves_filled (get_or c.args.words.now i 0)) in
    let end : c.loop-i.i ≡ n = omega (arith, c.loop-i.auto.i-end, c.loop-i-test.false) in
    subst (λ (k : ℕ). take (at + 2 * k) c.loop-i.rest ≡ take at c.args.rest.now ++ flat_map G (range_with_len 0 k)) end c.loop-i.invariant.front
    ∙ ap (λ (ys : List ℕ). take at c.args.rest.now ++ ys) (columns_whole (λ x. cells_of (halves_filled x)) c.args.words.now n 0 refl ∙ sym (flat_map-map cells_of halves_filled c.args.words.now))
