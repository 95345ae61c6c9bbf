use Rattle.std.proofs.Common.{◌≡◌, ℕ, ◌∷◌, ◌++◌, take, sym, ap, ◌∙◌, arith, slice_index}
use Rattle.std.proofs.Math.Seq.{take-length}
use Rattle.std.proofs.lemmas.Grind.{get_or_default_zero}
use Rattle.vm_field.specs.Limbs.{limbs_at, limbs_by}
use Rattle.air_core.specs.Ring.{field}
use Rattle.gadget_time.specs.Access.{register_touch}
use Rattle.chip_sha_main.specs.Main.{main_row, main_touches, run_touches, word_field, words_by, gaps_by}
use Rattle.chip_sha_main.proofs.accesses.touches.Goals as goal

pub returns : goal.returns
unfolding main_touches main_row limbs_at
returns c =
    let rest = c.args.rest.now in
    let col = slice_index rest in
    let v = c.args.valid in
    let base = c.read-base.ensures in
    let block = c.read-block.ensures in
    let rd = c.index-rest-0.is ∙ get_or_default_zero rest 0 c.index-rest-0.result (omega (arith, c.requires)) in
    let rs1 = c.index-rest-1.is ∙ get_or_default_zero rest 1 c.index-rest-1.result (omega (arith, c.requires)) in
    let g1 = c.gap_at.ensures in
    let g2 = c.gap_at-2.ensures in
    let first = c.register_read-first.ensures ∙ (λ i. register_touch field v 0 (rd i) (base i) (base i) (g1 i)) in
    let second = c.register_read-second.ensures ∙ (λ i. register_touch field v 1 (rs1 i) (block i) (block i) (g2 i)) in
    let block_field = c.word_field.ensures ∙ ap (word_field field) block in
    let base_field = c.word_field-2.ensures ∙ ap (word_field field) base in
    let front : take 18 c.put_run.new.all ≡ c.register_read-first.result ∷ c.register_read-second.result ∷ run_touches field v 2 c.word_field.result 0 (words_by col 10 16) (words_by col 10 16) (gaps_by col 192 16) = c.put_run.ensures.front in
    let back : take 26 c.put_run-2.new.all ≡ take 18 c.put_run.new.all ++ run_touches field v 18 c.word_field-2.result 0 (words_by col 74 8) (words_by col 106 8) (gaps_by col 240 8) = c.put_run-2.ensures.front in
    let whole : take 26 c.put_run-2.new.all ≡ c.put_run-2.new.all = ap (λ (k : ℕ). take k c.put_run-2.new.all) (sym c.put_run-2.ensures.long) ∙ take-length c.put_run-2.new.all in
    sym whole ∙ back
    ∙ (λ i. front i ++ run_touches field v 18 (base_field i) 0 (words_by col 74 8) (words_by col 106 8) (gaps_by col 240 8))
    ∙ (λ i. first i ∷ second i ∷ (run_touches field v 2 (block_field i) 0 (words_by col 10 16) (words_by col 10 16) (gaps_by col 192 16) ++ run_touches field v 18 (word_field field (limbs_by col 2)) 0 (words_by col 74 8) (words_by col 106 8) (gaps_by col 240 8)))
