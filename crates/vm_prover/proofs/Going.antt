-- A run that is cut as it goes on, and how it ends.
use Rattle.std.proofs.Common.{◌≡◌, ℕ, suc, ◌+◌, ◌*◌, ◌≤◌, ◌<◌, Bool, List, [], ◌∷◌, ◌++◌, length, length-append, append_assoc, append-nil, refl, sym, ap, ◌∙◌, subst, arith}
use Rattle.std.proofs.Math.Nat.{mul-le-mul_left}
use Rattle.elf_image.specs.Loaded.{Loaded}
use Rattle.std.specs.Prelude.{Option}
use Rattle.std.specs.Option.{option_and_then}
use Rattle.rv_decode.specs.declared.instr.Instr.{Instr}
use Rattle.rv_decode.specs.Listing.{decode_of}
use Rattle.elf_image.specs.Loaded.{word_of}
use Rattle.rv_run.specs.declared.outcome.Trap.{Trap}
use Rattle.rv_run.specs.declared.outcome.Stepped.{Stepped as Step}
use Rattle.rv_run.specs.declared.outcome.Stepped.TheVariants.{Went, Ended, Trapped}
use Rattle.rv_run.specs.declared.state.State.{State}
use Rattle.rv_run.specs.State.{machine_of, program_of, IsStep}
use Rattle.rv_run.specs.Machine.{Machine, start}
use Rattle.rv_run.specs.Step.{ends, goes, step_of, traps}
use Rattle.rv_run.specs.Run.{Goes}
use Rattle.vm_prover.specs.declared.cutting.Cutting.{Cutting}
use Rattle.vm_prover.specs.Cut.{CutsTo, StepsLead, cut, has_sha_block, is_sha_block}
use Rattle.vm_prover.specs.Cutting.{IsCutSoFar, cut_behind}
use Rattle.vm_prover.specs.Survey.{EndsCut, GoesPast, TrapsCut}
use Rattle.vm_prover.proofs.Lengths.{cuts_are_within, within_sum}

-- ---- steps

-- one more
stepped_more : (loaded : Loaded) (from m next : Machine) (kinds : List Bool) (kind : Bool) → StepsLead loaded from kinds m → step_of loaded m ≡ goes next → kind ≡ has_sha_block loaded m → StepsLead loaded from (kinds ++ kind ∷ []) next
stepped_more loaded from m next [] kind s went is = (next, ap (step_of loaded) (sym s) ∙ went, is ∙ ap (has_sha_block loaded) s, refl)
stepped_more loaded from m next (k ∷ kinds) kind s went is = (s.0, s.1, s.2, stepped_more loaded s.0 m next kinds kind s.3 went is)

goes_on : (loaded : Loaded) (hints : List ℕ) (n : ℕ) (from to : Machine) (kinds : List Bool) → Goes loaded hints n from → StepsLead loaded from kinds to → Goes loaded hints (n + length kinds) to
goes_on loaded hints n from to [] h s = subst (λ k. Goes loaded hints k to) (omega arith) (subst (Goes loaded hints n) (sym s) h)
goes_on loaded hints n from to (kind ∷ kinds) h s = subst (λ k. Goes loaded hints k to) (omega arith) (goes_on loaded hints (suc n) s.0 to kinds (from, h, s.1) s.3)

-- steps from the start are a run
pub stepped_goes : (loaded : Loaded) (hints : List ℕ) (n : ℕ) (to : Machine) (kinds : List Bool) → StepsLead loaded (start loaded hints) kinds to → length kinds ≡ n → Goes loaded hints n to
stepped_goes loaded hints n to kinds s e = subst (λ k. Goes loaded hints k to) (omega (arith, e)) (goes_on loaded hints 0 (start loaded hints) to kinds refl s)

-- ---- the run so far

pub taken : (loaded : Loaded) (hints : List ℕ) (n : ℕ) (c d : Cutting) (steps : ℕ) (m next : Machine) (kind : Bool) → IsCutSoFar loaded hints n c steps m → step_of loaded m ≡ goes next → kind ≡ has_sha_block loaded m
    → ((more : List Bool) → cut_behind d more ≡ cut_behind c (kind ∷ more)) → IsCutSoFar loaded hints n d (steps + 1) next
taken loaded hints n c d steps m next kind so went is same = record {
  kinds = so.kinds ++ kind ∷ [];
  stepped = stepped_more loaded (start loaded hints) m next so.kinds kind so.stepped went is;
  count = length-append so.kinds (kind ∷ []) ∙ ap (λ k. k + 1) so.count;
  same = λ more. ap (cut n) (append_assoc so.kinds (kind ∷ []) more) ∙ so.same (kind ∷ more) ∙ sym (same more);
}

lengths_are : (loaded : Loaded) (hints : List ℕ) (n : ℕ) (c : Cutting) (steps : ℕ) (m : Machine) (so : IsCutSoFar loaded hints n c steps m) → cut_behind c [] ≡ cut n so.kinds
lengths_are loaded hints n c steps m so = sym (so.same []) ∙ ap (cut n) (append-nil so.kinds)

cuts : (loaded : Loaded) (hints : List ℕ) (n : ℕ) (c : Cutting) (steps : ℕ) (m : Machine) → IsCutSoFar loaded hints n c steps m → CutsTo loaded hints n steps (cut_behind c [])
cuts loaded hints n c steps m so = record {
  kinds = so.kinds;
  last = m;
  stepped = so.stepped;
  count = so.count;
  are = lengths_are loaded hints n c steps m so;
}

segments_of : (c : Cutting) → length (cut_behind c []) ≡ length c.closed.items + 1
segments_of c = length-append c.closed.items (c.steps ∷ [])

pub ended : (loaded : Loaded) (hints : List ℕ) (n : ℕ) (c : Cutting) (steps : ℕ) (m : Machine) (code : ℕ) (shown lengths : List ℕ) → IsCutSoFar loaded hints n c steps m → step_of loaded m ≡ ends code → m.public_bytes ≡ shown
    → lengths ≡ cut_behind c [] → length c.closed.items < 4096 → EndsCut loaded hints n steps lengths code shown
ended loaded hints n c steps m code shown lengths so end is are few = record {
  ends = record { last = m; reached = stepped_goes loaded hints steps m so.kinds so.stepped so.count; ended = end; shown = is };
  cuts = subst (CutsTo loaded hints n steps) (sym are) (cuts loaded hints n c steps m so);
  few = omega (arith, segments_of c, ap length are, few);
}

pub trapped : (loaded : Loaded) (hints : List ℕ) (n : ℕ) (c : Cutting) (steps : ℕ) (m : Machine) (trap : Trap) → IsCutSoFar loaded hints n c steps m → step_of loaded m ≡ traps trap → length c.closed.items < 4096
    → TrapsCut loaded hints n trap
trapped loaded hints n c steps m trap so end few = record {
  steps = steps;
  lengths = cut_behind c [];
  traps = record { last = m; reached = stepped_goes loaded hints steps m so.kinds so.stepped so.count; trapped = end };
  cuts = cuts loaded hints n c steps m so;
  few = omega (arith, segments_of c, few);
}

pub past : (loaded : Loaded) (hints : List ℕ) (n : ℕ) (c : Cutting) (steps : ℕ) (m : Machine) → IsCutSoFar loaded hints n c steps m → 4096 ≤ length c.closed.items → GoesPast loaded hints n
past loaded hints n c steps m so many = record {
  steps = steps;
  lengths = cut_behind c [];
  cuts = cuts loaded hints n c steps m so;
  many = omega (arith, segments_of c, many);
}

-- so many steps have no cut of at most 4,096 segments
pub too_many_steps : (loaded : Loaded) (hints : List ℕ) (n : ℕ) (c : Cutting) (steps : ℕ) (m : Machine) → IsCutSoFar loaded hints n c steps m → n * 4096 < steps → 1 ≤ n → length c.closed.items < 4096 → ⊥
too_many_steps loaded hints n c steps m so many least few =
    let are = lengths_are loaded hints n c steps m so in
    let sum : length so.kinds ≤ n * length (cut n so.kinds) = within_sum n (cut n so.kinds) so.kinds (cuts_are_within n so.kinds least) in
    let short : length (cut n so.kinds) ≤ 4096 = omega (arith, segments_of c, ap length are, few) in
    let most : n * length (cut n so.kinds) ≤ n * 4096 = mul-le-mul_left n short in
    omega (arith, sum, most, so.count, many)

-- ---- as the loop sees it

-- a step that went on
pub went : (loaded : Loaded) (old new : State) (done : Step) → program_of old ≡ loaded → IsStep (program_of old) (machine_of old) (machine_of new) done → done ≡ Went → step_of loaded (machine_of old) ≡ goes (machine_of new)
went loaded old new done same step is =
    let on : step_of (program_of old) (machine_of old) ≡ goes (machine_of new) = subst (λ d. IsStep (program_of old) (machine_of old) (machine_of new) d) is step in
    ap (λ l. step_of l (machine_of old)) (sym same) ∙ on

pub came_to_end : (loaded : Loaded) (old new : State) (done : Step) (code : ℕ) → program_of old ≡ loaded → IsStep (program_of old) (machine_of old) (machine_of new) done → done ≡ Ended code
    → (step_of loaded (machine_of old) ≡ ends code) × ((machine_of old).public_bytes ≡ (machine_of new).public_bytes)
came_to_end loaded old new done code same step is =
    let end : (step_of (program_of old) (machine_of old) ≡ ends code) × (machine_of new ≡ machine_of old) = subst (λ d. IsStep (program_of old) (machine_of old) (machine_of new) d) is step in
    (ap (λ l. step_of l (machine_of old)) (sym same) ∙ end.0, ap (λ (m : Machine). m.public_bytes) (sym end.1))

pub came_to_trap : (loaded : Loaded) (old new : State) (done : Step) (trap : Trap) → program_of old ≡ loaded → IsStep (program_of old) (machine_of old) (machine_of new) done → done ≡ Trapped trap → step_of loaded (machine_of old) ≡ traps trap
came_to_trap loaded old new done trap same step is =
    let end : (step_of (program_of old) (machine_of old) ≡ traps trap) × (machine_of new ≡ machine_of old) = subst (λ d. IsStep (program_of old) (machine_of old) (machine_of new) d) is step in
    ap (λ l. step_of l (machine_of old)) (sym same) ∙ end.0

-- the kind of the next step
pub kind_of_next : (loaded : Loaded) (state : State) (instr : Option Instr) (kind : Bool) → program_of state ≡ loaded → instr ≡ option_and_then decode_of (word_of (program_of state) (machine_of state).pc) → kind ≡ is_sha_block instr
    → kind ≡ has_sha_block loaded (machine_of state)
kind_of_next loaded state instr kind same is e = e ∙ ap is_sha_block is ∙ ap (λ l. has_sha_block l (machine_of state)) same
