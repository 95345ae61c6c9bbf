use Rattle.std.proofs.Common.{All, [], ◌≡◌, ◌++◌, Vec, Global, List, Option, ap, sym, subst, ◌∙◌, arith}
use Rattle.std.specs.List.{filter_map, cons_option}
use Rattle.std.proofs.lemmas.List.{append-nil, take_all}
use Rattle.elf_image.specs.Loaded.{text_of}
use Rattle.vm_isa.specs.declared.instr.VmInstr.{VmInstr}
use Rattle.vm_isa.specs.Instr.{InRange}
use Rattle.vm_transpile.specs.Order.{RisesFrom}
use Rattle.vm_transpile.specs.Program.{row_at, program_of}
use Rattle.vm_transpile.proofs.Ranges.{rows_in_range}
use Rattle.vm_transpile.proofs.Texts.{row_more, program_rises}
use Rattle.vm_transpile.proofs.RunsAlike.{steps_alike, ends_alike}
use Rattle.vm_transpile.proofs.text.transpile.Goals as goal
use Rattle.vm_transpile.proofs.text.transpile.Goals.{in-Some+in_ok-push, in_default}

pub loop-place-preserved : goal.loop-place-preserved
loop-place-preserved c =
    let more = row_more c.loop-place.rows.items c.match-row_at_place.rows.items (text_of c.args.image.now) c.loop-place.place c.row_at_place.result c.loop-place.invariant c.row_at_place.ensures in
    let pushed : Option VmInstr → List VmInstr = λ o. c.loop-place.rows.items ++ cons_option o [] in
    let items : Vec VmInstr Global → List VmInstr = λ v. v.items in
    elim c.match-row_at_place.branch [
      | in-Some+in_ok-push w ↦ more (ap items w.rows-is ∙ w.in_ok-push.ensures.items ∙ ap pushed (sym w.in-Some.is))
      | in_default w ↦ more (ap items w.rows-is ∙ sym (append-nil c.loop-place.rows.items) ∙ ap pushed (sym w.in_default.is))
    ]

pub new-requires-clause-rises : goal.new-requires-clause-rises
new-requires-clause-rises c =
    let all : c.loop-place.rows.items ≡ program_of c.args.image.now =
    c.loop-place.invariant ∙ ap (filter_map row_at) (take_all c.loop-place.place (text_of c.args.image.now) (omega arith)) in
    subst (RisesFrom 0) (sym all) (program_rises c.args.image.now)

pub new-requires-clause-in_range : goal.new-requires-clause-in_range
new-requires-clause-in_range c =
    let all : c.loop-place.rows.items ≡ program_of c.args.image.now =
    c.loop-place.invariant ∙ ap (filter_map row_at) (take_all c.loop-place.place (text_of c.args.image.now) (omega arith)) in
    let file = c.is_of_a_file.ensures in
    subst (All InRange) (sym all) (rows_in_range file.bytes c.args.image.now file.has_image)

pub returns-clause-steps : goal.returns-clause-steps
returns-clause-steps c =
    let all : c.loop-place.rows.items ≡ program_of c.args.image.now =
    c.loop-place.invariant ∙ ap (filter_map row_at) (take_all c.loop-place.place (text_of c.args.image.now) (omega arith)) in
    let file = c.is_of_a_file.ensures in
    steps_alike c.args.image.now c.new.result (c.new.ensures ∙ all) file.bytes file.has_image

pub returns-clause-runs : goal.returns-clause-runs
returns-clause-runs c =
    let all : c.loop-place.rows.items ≡ program_of c.args.image.now =
    c.loop-place.invariant ∙ ap (filter_map row_at) (take_all c.loop-place.place (text_of c.args.image.now) (omega arith)) in
    let file = c.is_of_a_file.ensures in
    ends_alike c.args.image.now c.new.result (c.new.ensures ∙ all) file
