-- The segment under way, at its begin and with a record more.
use Rattle.std.proofs.Common.{◌≡◌, ◌≢◌, ℕ, zero, suc, ◌+◌, ◌^◌, ◌≤◌, Bool, true, false, List, [], ◌∷◌, ◌++◌, length, length-append, inl, inr, refl, sym, ap, ◌∙◌, subst, arith, lit≤, pow_mono}
use Rattle.std.specs.Prelude.{sum, if◌then◌else◌}
use Rattle.std.proofs.lemmas.Bool.Decides.{nat_tests}
use Rattle.std.proofs.lemmas.List.Elements.{All-contains}
use Rattle.vm_isa.specs.declared.instr.VmInstr.{VmInstr}
use Rattle.vm_isa.specs.declared.record.StepRecord.{StepRecord}
use Rattle.vm_isa.specs.Instr.{InRange}
use Rattle.vm_isa.specs.Means.{Fillable}
use Rattle.vm_isa.specs.Opcodes.{has_meaning, is_opcode}
use Rattle.vm_isa.specs.Slots.{slots_of}
use Rattle.vm_transpile.specs.Program.{program_of}
use Rattle.vm_transpile.proofs.Ranges.{rows_in_range}
use Rattle.air_core.specs.ExtensionLaws.{ExtensionFits}
use Rattle.air_core.specs.ListLemmas.{all_append}
use Rattle.air_core.specs.System.{System, is_owned}
use Rattle.vm_executor.specs.Machine.{Machine, begun, Goes}
use Rattle.vm_executor.specs.Runs.{Ran, StaysOrBegins, starting}
use Rattle.vm_executor.proofs.RunLemmas.{no_end}
use Rattle.vm_executor.proofs.SinceLemmas.{since_begun, since_more, since_records, step_fillable}
use Rattle.vm_prover.specs.Laws.{AllOpcodesOwnRows, SegmentsComeUnderWay, RecordsGoOn, RecordsCanBeFilled}
use Rattle.vm_prover.proofs.HintLemmas.{hints_more, bytes_left}

-- a segment may begin with each machine of a run
begun_stays : (m n : Machine) → StaysOrBegins m n → StaysOrBegins m (begun n)
begun_stays m n (inl e) = inr (ap begun e)
begun_stays m n (inr e) = inr (ap begun e)

ran_begun : (program : List VmInstr) (from : Machine) (n : ℕ) (m : Machine) → Ran program from n m → Ran program from n (begun m)
ran_begun program from zero m ran = begun_stays from m ran
ran_begun program from (suc n) m (before, after, done, ran, step, stays) = (before, after, done, ran, step, begun_stays after m stays)

pub comes_under_way : (x : System) → SegmentsComeUnderWay x
comes_under_way x version image hints ended segments lengths m leaves p =
    let none : sum lengths + 0 ≡ sum lengths = omega arith in
    record {
      since = since_begun (program_of image) m;
      ran = subst (λ (n : ℕ). Ran (program_of image) (starting image hints) n (begun m)) (sym none) (ran_begun (program_of image) (starting image hints) (sum lengths) m p.ran);
      fillable = tt;
      owned = tt;
      in_time = omega arith;
      began = refl;
      taken = refl;
      bytes = p.bytes;
    }

-- a step is no TERMINATE
goes_no_end : (program : List VmInstr) (s t : Machine) (d : StepRecord) → Goes program s t d → d.instr.op ≢ 41
goes_no_end program s t d goes e = no_end d.instr _ _ goes.meaning e goes.means

few_by : (a b c d : Bool) → (if a then 3 else if b then 2 else if c then 1 else if d then 26 else 0) ≤ 26
few_by true b c d = lit≤ tt
few_by false true c d = lit≤ tt
few_by false false true d = lit≤ tt
few_by false false false true = lit≤ tt
few_by false false false false = lit≤ tt

-- a step has at most 26 slots
slots_few : (op : ℕ) → slots_of op ≤ 26
slots_few op = few_by _ _ _ _

pub records_go_on : (x : System) → ExtensionFits x → RecordsGoOn x
records_go_on x fits version image hints from s t steps done d can u few goes =
    let program = program_of image in
    let number : length (done ++ d ∷ []) ≡ length done + 1 = length-append done (d ∷ []) in
    let range : InRange d.instr = All-contains InRange program d.instr (rows_in_range can.file.bytes image can.file.has_image) goes.stands in
    let time : t.time ≡ s.time + slots_of d.instr.op = ap (λ (m : Machine). m.time) goes.after in
    let least : 2 ^ 24 ≤ 2 ^ x.time_bits = pow_mono fits.bits_low in
    let ends : s.time + slots_of d.instr.op ≤ 2 ^ x.time_bits = omega (arith, slots_few d.instr.op, u.in_time, few, least) in
    let next : suc (steps + length done) ≡ steps + length (done ++ d ∷ []) = omega (arith, number) in
    record {
      since = since_more program from.pc done s t d u.since goes;
      ran = subst (λ (n : ℕ). Ran program (starting image hints) n t) next (s, t, d, u.ran, goes, inl refl);
      fillable = all_append (Fillable x.time_bits) done (d ∷ []) u.fillable (step_fillable x.time_bits program s t d goes range u.bytes u.since.early ends, tt);
      owned = all_append (λ (e : StepRecord). is_owned x.parts e.instr.op ≡ true) done (d ∷ []) u.owned (can.owns.owned d.instr goes.stands (goes_no_end program s t d goes), tt);
      in_time = omega (arith, number, time, slots_few d.instr.op, u.in_time);
      began = ap (λ (m : Machine). m.start) goes.after ∙ u.began;
      taken = hints_more program s t done d goes u.bytes ∙ u.taken;
      bytes = bytes_left program s t d goes u.bytes;
    }

pub records_can_be_filled : (x : System) → RecordsCanBeFilled x
records_can_be_filled x image hints from m steps done u few = since_records x (program_of image) from.pc done m u.since few u.owned u.fillable

-- ---- rows

meaning_by : (op : ℕ) → is_opcode op ≡ true → op ≢ 41 → has_meaning op ≡ true
meaning_by op is other = grind (arith, nat_tests)

pub all_opcodes_own_rows : (x : System) → AllOpcodesOwnRows x
all_opcodes_own_rows x image file owns = record {
  owned = λ row stands other.
      let range : InRange row = All-contains InRange (program_of image) row (rows_in_range file.bytes image file.has_image) stands in
      owns row.op (meaning_by row.op range.opcode other);
}
