use Rattle.std.proofs.Common.{◌≡◌, ℕ, List, get_or, ap, ◌∙◌, sym}
use Rattle.vm_field.specs.Field.{field_add, field_mul}
use Rattle.air_core.specs.Ring.{field}
use Rattle.gadget_products.specs.Carry.{carries}
use Rattle.gadget_products.specs.Divide.{division_carries, division_top, division_sums, six}
use Rattle.gadget_products.proofs.AddedCode.{last_is, length-six, length-sums}
use Rattle.gadget_products.proofs.divide.Division.new.Goals as goal

pub returns-clause-carries : goal.returns-clause-carries
unfolding division_carries
returns-clause-carries c =
    c.carries-carries.ensures ∙ ap (λ (xs : List ℕ). carries field 0 xs c.six.result) c.division_sums.ensures ∙ ap (carries field 0 (division_sums field c.args.c c.args.q c.args.r)) c.six.ensures

pub returns-clause-top : goal.returns-clause-top
unfolding division_top
returns-clause-top c =
    let d : ℕ = c.index-carries-5.result in
    let highest : ℕ = field_mul c.args.c.x3 c.args.q.x3 in
    let sums = division_sums field c.args.c c.args.q c.args.r in
    let limbs = six field c.args.b in
    let same : c.carries-carries.result ≡ carries field 0 sums limbs =
    c.carries-carries.ensures ∙ ap (λ (xs : List ℕ). carries field 0 xs c.six.result) c.division_sums.ensures ∙ ap (carries field 0 sums) c.six.ensures in
    c.add-top.ensures ∙ ap (λ (x : ℕ). field_add x (get_or c.carries-carries.result 5 d)) c.mul-highest.ensures
    ∙ ap (λ (xs : List ℕ). field_add highest (get_or xs 5 d)) same
    ∙ ap (field_add highest) (sym (last_is 0 sums limbs 5 d (length-sums c.args.c c.args.q c.args.r) (length-six c.args.b)))
