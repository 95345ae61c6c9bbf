use Rattle.std.proofs.Common.{◌≡◌, [], ◌∷◌, flat_map, take, drop, sym, ◌∙◌, arith, slice_index}
use Rattle.std.proofs.lemmas.Grind.{get_or_default_zero}
use Rattle.vm_field.specs.Limbs.{list_of}
use Rattle.air_core.specs.Ring.{field}
use Rattle.air_core.specs.lemmas.Cells.{cells_take}
use Rattle.air_core.proofs.Counted.{on_err_anyway, on_err_map}
use Rattle.air_core.proofs.Handing.{all_all, all_some, some_none, on_ok_map}
use Rattle.gadget_limbs.specs.Ranges.{range_lines}
use Rattle.chip_sha_main.specs.Main.{main_row, main_ranges, words_by}
use Rattle.chip_sha_main.proofs.Loops.{words_cells}
use Rattle.chip_sha_main.proofs.form.emit_main_ranges.Goals as goal

pub returns-in_err-emit_ranges-clause-err : goal.returns-in_err-emit_ranges-clause-err
unfolding main_ranges main_row
returns-in_err-emit_ranges-clause-err g c =
    let rest = c.args.rest.now in
    let r = main_row 0 0 c.args.valid (slice_index rest) in
    let a = range_lines field r.flag 5 (r.base.x3 ∷ r.block.x3 ∷ []) in
    let b = range_lines field r.flag 8 (flat_map list_of r.new) in
    let x = c.index-rest-5.is ∙ get_or_default_zero rest 5 c.index-rest-5.result (omega (arith, c.requires.wide)) in
    let y = c.index-rest-9.is ∙ get_or_default_zero rest 9 c.index-rest-9.result (omega (arith, c.requires.wide)) in
    on_err_anyway _ (some_none a b (rw (c.of_u16.ensures, x, y) at c.in_err-emit_ranges.ensures.err))

pub returns-clause-ok : goal.returns-clause-ok
unfolding main_ranges main_row
returns-clause-ok g c =
    let rest = c.args.rest.now in
    let r = main_row 0 0 c.args.valid (slice_index rest) in
    let a = range_lines field r.flag 5 (r.base.x3 ∷ r.block.x3 ∷ []) in
    let b = range_lines field r.flag 8 (flat_map list_of r.new) in
    let x = c.index-rest-5.is ∙ get_or_default_zero rest 5 c.index-rest-5.result (omega (arith, c.requires.wide)) in
    let y = c.index-rest-9.is ∙ get_or_default_zero rest 9 c.index-rest-9.result (omega (arith, c.requires.wide)) in
    let limbs : take 32 (drop 106 rest) ≡ flat_map list_of (words_by (slice_index rest) 106 8) = sym (words_cells (slice_index rest) 106 0 8 ∙ cells_take rest 106 32 (omega (arith, c.requires.wide))) in
    on_ok_map c.emit_ranges-2.result (all_all a b (rw (c.of_u16.ensures, x, y) at c.in_ok-emit_ranges.ensures.ok)) (rw (c.of_u16-2.ensures, limbs) at c.emit_ranges-2.ensures.ok)

pub returns-clause-err : goal.returns-clause-err
unfolding main_ranges main_row
returns-clause-err g c =
    let rest = c.args.rest.now in
    let r = main_row 0 0 c.args.valid (slice_index rest) in
    let a = range_lines field r.flag 5 (r.base.x3 ∷ r.block.x3 ∷ []) in
    let b = range_lines field r.flag 8 (flat_map list_of r.new) in
    let x = c.index-rest-5.is ∙ get_or_default_zero rest 5 c.index-rest-5.result (omega (arith, c.requires.wide)) in
    let y = c.index-rest-9.is ∙ get_or_default_zero rest 9 c.index-rest-9.result (omega (arith, c.requires.wide)) in
    let limbs : take 32 (drop 106 rest) ≡ flat_map list_of (words_by (slice_index rest) 106 8) = sym (words_cells (slice_index rest) 106 0 8 ∙ cells_take rest 106 32 (omega (arith, c.requires.wide))) in
    on_err_map c.emit_ranges-2.result (all_some a b (rw (c.of_u16.ensures, x, y) at c.in_ok-emit_ranges.ensures.ok)) (rw (c.of_u16-2.ensures, limbs) at c.emit_ranges-2.ensures.err)
