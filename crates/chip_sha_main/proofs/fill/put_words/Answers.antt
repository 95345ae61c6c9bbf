use Rattle.std.proofs.Common.{◌≡◌, ℕ, ◌+◌, ◌*◌, List, ◌++◌, flat_map, get_or, length, take, refl, sym, ap, subst, ◌∙◌, arith}
use Rattle.std.specs.List.{range_with_len}
use Rattle.std.proofs.lemmas.List.Folds.{flat_map-map}
use Rattle.vm_field.specs.declared.limbs.Limbs.{Limbs}
use Rattle.vm_field.specs.Limbs.{limbs_from, list_of}
use Rattle.vm_word.specs.Word.{limbs_of}
use Rattle.chip_sha_main.proofs.Puts.{put_more, columns_whole}
use Rattle.chip_sha_main.proofs.fill.put_words.Goals as goal

four : (w : Limbs ℕ) → length (list_of w) ≡ 4
unfolding list_of
four w = refl

pub loop-i-preserved : goal.loop-i-preserved
loop-i-preserved c =
    let at = c.args.at in
    let i = c.loop-i.i in
    let G : ℕ → List ℕ = λ i. list_of (limbs_from (limbs_of (get_or c.args.words.now i 0))) in
    let is : c.array.result ≡ G i = c.array.ensures ∙ ap list_of (c.of_bytes.ensures ∙ ap limbs_from c.limbs.ensures) in
    record {
      long = c.put.ensures.long ∙ c.loop-i.invariant.long;
      front = put_more at (at + 4 * i) (at + 4 * (i + 1)) i c.loop-i.rest c.put.new.columns c.args.rest.now (c.array.result) G c.put.ensures.so_far (omega (arith, ap length c.array.ensures, four c.of_bytes.result)) is c.loop-i.invariant.front;
    }

pub returns-clause-front : goal.returns-clause-front
returns-clause-front c =
    let at = c.args.at in
    let n = length c.args.words.now in
    let G : ℕ → List ℕ = λ i. list_of (limbs_from (limbs_of (get_or c.args.words.now i 0))) in
    let end : c.loop-i.i ≡ n = omega (arith, c.loop-i.auto.i-end, c.loop-i-test.false) in
    subst (λ (k : ℕ). take (at + 4 * k) c.loop-i.rest ≡ take at c.args.rest.now ++ flat_map G (range_with_len 0 k)) end c.loop-i.invariant.front
    ∙ ap (λ (ys : List ℕ). take at c.args.rest.now ++ ys) (columns_whole (λ x. list_of (limbs_from (limbs_of x))) c.args.words.now n 0 refl ∙ sym (flat_map-map list_of (λ x. limbs_from (limbs_of x)) c.args.words.now))
