use Rattle.std.proofs.Common.{◌≡◌, ◌∙◌, length, slice_index, arith, sym}
use Rattle.std.proofs.lemmas.Bool.{eqb-true, eqb-false}
use Rattle.std.proofs.lemmas.Grind.{get_or_default_zero}
use Rattle.chip_io.specs.lemmas.Hint.{is_hint, no_hint}
use Rattle.chip_io.proofs.hint.HintCoreMemoryCore.hint.Goals as goal

pub returns-then-eq : goal.returns-then-eq
returns-then-eq c = λ is holds.
    let row = c.args.row.now in
    let long : length row ≡ 28 = c.requires in
    let flag : c.index-row-2.result ≡ slice_index row 2 = c.index-row-2.is ∙ get_or_default_zero row 2 c.index-row-2.result (omega (arith, long)) in
    let time : c.index-row-1.result ≡ slice_index row 1 = c.index-row-1.is ∙ get_or_default_zero row 1 c.index-row-1.result (omega (arith, long)) in
    let y0 : c.index-row-16.result ≡ slice_index row 16 = c.index-row-16.is ∙ get_or_default_zero row 16 c.index-row-16.result (omega (arith, long)) in
    let y1 : c.index-row-17.result ≡ slice_index row 17 = c.index-row-17.is ∙ get_or_default_zero row 17 c.index-row-17.result (omega (arith, long)) in
    let y2 : c.index-row-18.result ≡ slice_index row 18 = c.index-row-18.is ∙ get_or_default_zero row 18 c.index-row-18.result (omega (arith, long)) in
    let y3 : c.index-row-19.result ≡ slice_index row 19 = c.index-row-19.is ∙ get_or_default_zero row 19 c.index-row-19.result (omega (arith, long)) in
    let one : c.index-row-2.result ≡ 1 = eqb-true c.index-row-2.result 1 (sym c.eq.ensures ∙ c.if-eq.true) in
    rw (time, y0, y1, y2, y3) (is_hint c.args.hi row (sym flag ∙ one))

pub returns-else-eq : goal.returns-else-eq
returns-else-eq c = λ is holds.
    let row = c.args.row.now in
    let long : length row ≡ 28 = c.requires in
    let flag : c.index-row-2.result ≡ slice_index row 2 = c.index-row-2.is ∙ get_or_default_zero row 2 c.index-row-2.result (omega (arith, long)) in
    no_hint c.args.hi row is holds (λ one. eqb-false c.index-row-2.result 1 (sym c.eq.ensures ∙ c.if-eq.false) (flag ∙ one))
