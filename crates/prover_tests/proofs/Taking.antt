-- A record more, and a step that isn't done.
use Rattle.std.proofs.Common.{◌≡◌, ℕ, ◌+◌, ◌^◌, ◌<◌, ◌≤◌, Bool, true, false, ◌||◌, List, [], ◌∷◌, ◌++◌, length-append, refl, sym, ap, ◌∙◌, subst, arith, rules, lit≤}
use Rattle.std.specs.Prelude.{All, drop, not, if◌then◌else◌}
use Rattle.std.proofs.lemmas.Bool.Decides.{nat_tests}
use Rattle.std.proofs.lemmas.List.Elements.{All-contains}
use Rattle.vm_isa.specs.declared.instr.VmInstr.{VmInstr}
use Rattle.vm_isa.specs.declared.record.StepRecord.{StepRecord}
use Rattle.vm_isa.specs.Hints.{hints_used}
use Rattle.vm_isa.specs.Instr.{InRange}
use Rattle.vm_isa.specs.Means.{Fillable, bars_first, bars_second, is_refused, known, word_at}
use Rattle.vm_isa.specs.Opcodes.{has_meaning}
use Rattle.vm_isa.specs.Slots.{slots_of}
use Rattle.vm_isa.specs.Words.{IsBytes}
use Rattle.vm_isa.proofs.NextLaws.{meant}
use Rattle.air_core.specs.ListLemmas.{all_append}
use Rattle.air_core.specs.System.{is_owned}
use Rattle.vm_transpile.proofs.Kept.{all_drop}
use Rattle.vm_config.specs.Config.{full}
use Rattle.vm_config.proofs.FullLines.{full_is}
use Rattle.vm_executor.specs.declared.machine.Machined.{Machined}
use Rattle.vm_executor.specs.declared.machine.Machined.TheVariants.{Went, Ended, Stuck}
use Rattle.vm_executor.specs.Machine.{Machine, begun, Goes}
use Rattle.vm_executor.specs.State.{IsStep}
use Rattle.vm_executor.specs.Records.{AreRecords}
use Rattle.vm_executor.proofs.SinceLemmas.{since_begun, since_more, since_records, step_fillable}
use Rattle.prover_tests.specs.TookSteps.{TookSteps}

pub taken_none : (program : List VmInstr) (m : Machine) → IsBytes m.hints → TookSteps program m.pc 0 [] (begun m)
taken_none program m bytes = record { since = since_begun program m; few = omega arith; fillable = tt; owned = tt; in_time = omega arith; bytes = bytes }

few_by : (a b c d : Bool) → (if a then 3 else if b then 2 else if c then 1 else if d then 26 else 0) ≤ 26
few_by true b c d = lit≤ tt
few_by false true c d = lit≤ tt
few_by false false true d = lit≤ tt
few_by false false false true = lit≤ tt
few_by false false false false = lit≤ tt

slots_few : (op : ℕ) → slots_of op ≤ 26
slots_few op = few_by _ _ _ _

first_false : (a b : Bool) → (not a || b) ≡ false → a ≡ true
first_false true b h = refl
first_false false b h = absurd (cc)

means_something : (i : VmInstr) (olds : List (List ℕ)) → is_refused i olds ≡ false → has_meaning i.op ≡ true
unfolding is_refused
means_something i olds fits = first_false (has_meaning i.op) (known olds 0 (bars_first i (word_at olds 0)) || known olds 1 (bars_second i (word_at olds 1))) fits

meaning_owned : (op : ℕ) → has_meaning op ≡ true → is_owned (full 8).parts op ≡ true
meaning_owned op h =
    let low : 1 ≤ op = grind (arith, nat_tests) in
    let high : op ≤ 40 = grind (arith, nat_tests) in
    ((full_is 8).owns op).1 (low, high)

pub taken_more : (program : List VmInstr) (pc n : ℕ) (done : List StepRecord) (s t : Machine) (d : StepRecord) → All InRange program → n < 16384 → TookSteps program pc n done s → Goes program s t d
    → TookSteps program pc (n + 1) (done ++ d ∷ []) t
taken_more program pc n done s t d range few taken goes =
    let ends : s.time + slots_of d.instr.op ≤ 2 ^ 24 = omega (arith, slots_few d.instr.op, taken.in_time, few) in
    let fits = (meant d.instr _ _ goes.meaning goes.means).fits in
    record {
      since = since_more program pc done s t d taken.since goes;
      few = omega (arith, length-append done (d ∷ []), taken.few);
      fillable = all_append (Fillable 24) done (d ∷ []) taken.fillable (step_fillable 24 program s t d goes (All-contains InRange program d.instr range goes.stands) taken.bytes taken.since.early ends, tt);
      owned = all_append (λ (e : StepRecord). is_owned (full 8).parts e.instr.op ≡ true) done (d ∷ []) taken.owned (meaning_owned d.instr.op (means_something d.instr _ fits), tt);
      in_time = omega (arith, ap (λ (m : Machine). m.time) goes.after, slots_few d.instr.op, taken.in_time);
      bytes = subst IsBytes (sym (ap (λ (m : Machine). m.hints) goes.after)) (all_drop (hints_used d.instr.op) s.hints taken.bytes);
    }

pub taken_same : (program : List VmInstr) (pc n : ℕ) (done : List StepRecord) (s t : Machine) → t ≡ s → TookSteps program pc n done s → TookSteps program pc (n + 1) done t
taken_same program pc n done s t same taken =
    subst (TookSteps program pc (n + 1) done) (sym same)
    (record { since = taken.since; few = omega (arith, taken.few); fillable = taken.fillable; owned = taken.owned; in_time = omega (arith, taken.in_time); bytes = taken.bytes })

pub taken_records : (program : List VmInstr) (pc n : ℕ) (done : List StepRecord) (m : Machine) → n ≤ 16384 → TookSteps program pc n done m → AreRecords (full 8) program pc done
taken_records program pc n done m few taken = since_records (full 8) program pc done m taken.since (omega (arith, taken.few, few)) taken.owned taken.fillable

-- an answer that is no step leaves the machine
pub stays : (program : List VmInstr) (s t : Machine) (answer : Machined) → IsStep program s t answer → ((d : StepRecord) → answer ≡ Went d → ⊥) → t ≡ s
stays program s t (Went d) step never = absurd (never d refl)
stays program s t (Ended code) step never = step.0
stays program s t Stuck step never = step.stays
