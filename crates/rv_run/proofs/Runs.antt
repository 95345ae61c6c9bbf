-- A run is one: what is reached after a number of steps, and how the run ends.
use Rattle.std.proofs.Common.{◌≡◌, ℕ, zero, suc, ◌+◌, ◌≤◌, ◌<◌, List, refl, sym, ap, ◌∙◌, arith, add-one, subst, inl, inr}
use Rattle.std.proofs.lemmas.Bool.{cases_lt}
use Rattle.elf_image.specs.Loaded.{Loaded}
use Rattle.rv_run.specs.declared.outcome.Trap.{Trap}
use Rattle.rv_run.specs.declared.outcome.RunEnd.TheVariants.{Ended, StepLimit, Trapped}
use Rattle.rv_run.specs.Machine.{Machine}
use Rattle.rv_run.specs.Step.{Next, goes, ends, traps, step_of}
use Rattle.rv_run.specs.Run.{Goes}
use Rattle.rv_run.specs.declared.outcome.Stepped.{Stepped}
use Rattle.rv_run.specs.declared.outcome.Stepped.TheVariants.{Went}
use Rattle.rv_run.specs.declared.state.State.{State}
use Rattle.rv_run.specs.State.{machine_of, program_of, IsStep}
use Rattle.rv_run.specs.Laws.{RunEndIsOne}

-- one more step
pub goes_more : (loaded : Loaded) (hints : List ℕ) (n : ℕ) (m next : Machine) → Goes loaded hints n m → step_of loaded m ≡ goes next → Goes loaded hints (n + 1) next
goes_more loaded hints n m next reached went = rw (add-one n) (m, reached, went)

-- one more step, as it is seen from the state that is kept
pub goes_by_step : (loaded : Loaded) (hints : List ℕ) (n : ℕ) (old new : State) (done : Stepped) → Goes loaded hints n (machine_of old) → program_of old ≡ loaded → IsStep (program_of old) (machine_of old) (machine_of new) done → done ≡ Went → Goes loaded hints (n + 1) (machine_of new)
goes_by_step loaded hints n old new done reached same step went =
    let P : Stepped → Type 0 = λ d. IsStep (program_of old) (machine_of old) (machine_of new) d in
    let on : step_of (program_of old) (machine_of old) ≡ goes (machine_of new) = subst P went step in
    goes_more loaded hints n (machine_of old) (machine_of new) reached (ap (λ l. step_of l (machine_of old)) (sym same) ∙ on)

-- the state after n steps is one
pub goes_is_one : (loaded : Loaded) (hints : List ℕ) (n : ℕ) (a b : Machine) → Goes loaded hints n a → Goes loaded hints n b → a ≡ b
goes_is_one loaded hints zero a b x y = x ∙ sym y
goes_is_one loaded hints (suc n) a b x y =
    let before : x.0 ≡ y.0 = goes_is_one loaded hints n x.0 y.0 x.1 y.1 in
    let step : goes a ≡ goes b = sym x.2 ∙ ap (step_of loaded) before ∙ y.2 in
    cc

-- a run that got further went on from each state on the way
pub went_on : (loaded : Loaded) (hints : List ℕ) (n k : ℕ) (s t : Machine) → Goes loaded hints n s → Goes loaded hints k t → k < n → (next : Machine) × (step_of loaded t ≡ goes next)
went_on loaded hints zero k s t x y short = absurd (omega arith)
went_on loaded hints (suc n) k s t x y short =
    elim (cases_lt k n) as (λ _. (next : Machine) × (step_of loaded t ≡ goes next)) [
      | inl less ↦ went_on loaded hints n k x.0 t x.1 y less
      | inr more ↦
          let same : k ≡ n = omega arith in
          let P : ℕ → Type 0 = λ j. Goes loaded hints j t in
          (s, ap (step_of loaded) (goes_is_one loaded hints n t x.0 (subst P same y) x.1) ∙ x.2)
    ]

-- no step follows one that doesn't go on
no_further : (loaded : Loaded) (hints : List ℕ) (n k : ℕ) (s t : Machine) (next : Next) → Goes loaded hints n s → Goes loaded hints k t → step_of loaded t ≡ next → ((m : Machine) → next ≡ goes m → ⊥) → n ≤ k
no_further loaded hints n k s t next x y is stops =
    elim (cases_lt k n) as (λ _. n ≤ k) [
      | inl less ↦ let on = went_on loaded hints n k s t x y less in absurd (stops on.0 (sym is ∙ on.1))
      | inr more ↦ more
    ]

-- two steps that don't go on are the same one
pub stop_is_one : (loaded : Loaded) (hints : List ℕ) (n k : ℕ) (s t : Machine) (next other : Next) → Goes loaded hints n s → Goes loaded hints k t → step_of loaded s ≡ next → step_of loaded t ≡ other → ((m : Machine) → next ≡ goes m → ⊥) → ((m : Machine) → other ≡ goes m → ⊥) → (n ≡ k) × (s ≡ t) × (next ≡ other)
stop_is_one loaded hints n k s t next other x y is_next is_other stops stops_other =
    let low : n ≤ k = no_further loaded hints n k s t other x y is_other stops_other in
    let high : k ≤ n = no_further loaded hints k n t s next y x is_next stops in
    let same : n ≡ k = omega arith in
    let P : ℕ → Type 0 = λ j. Goes loaded hints j s in
    let state : s ≡ t = goes_is_one loaded hints k s t (subst P same x) y in
    (same, state, sym is_next ∙ ap (step_of loaded) state ∙ is_other)

end_is_no_step : (code : ℕ) (m : Machine) → ends code ≡ goes m → ⊥
end_is_no_step code m e = cc

trap_is_no_step : (trap : Trap) (m : Machine) → traps trap ≡ goes m → ⊥
trap_is_no_step trap m e = cc

-- a run that stops within the limit doesn't go past it
past_limit : (loaded : Loaded) (hints : List ℕ) (n limit : ℕ) (s t : Machine) (next : Next) → n ≤ limit → Goes loaded hints n s → step_of loaded s ≡ next → ((m : Machine) → next ≡ goes m → ⊥) → Goes loaded hints (limit + 1) t → ⊥
past_limit loaded hints n limit s t next within x is stops y =
    let low : limit + 1 ≤ n = no_further loaded hints (limit + 1) n t s next y x is stops in
    omega arith

pub run_end_is_one : RunEndIsOne
run_end_is_one loaded hints limit (Ended n code shown) (Ended k code' shown') a b =
    let one = stop_is_one loaded hints n k a.1.last b.1.last (ends code) (ends code') a.1.reached b.1.reached a.1.ended b.1.ended (end_is_no_step code) (end_is_no_step code') in
    let same : shown ≡ shown' = sym a.1.shown ∙ ap (λ (m : Machine). m.public_bytes) one.1 ∙ b.1.shown in
    cc (one.0, one.2, same)
run_end_is_one loaded hints limit (Ended n code shown) (Trapped k trap) a b =
    let one = stop_is_one loaded hints n k a.1.last b.1.last (ends code) (traps trap) a.1.reached b.1.reached a.1.ended b.1.trapped (end_is_no_step code) (trap_is_no_step trap) in
    absurd (cc (one.2))
run_end_is_one loaded hints limit (Ended n code shown) StepLimit a b =
    absurd (past_limit loaded hints n limit a.1.last b.0 (ends code) a.0 a.1.reached a.1.ended (end_is_no_step code) b.1)
run_end_is_one loaded hints limit (Trapped n trap) (Ended k code shown) a b =
    let one = stop_is_one loaded hints n k a.1.last b.1.last (traps trap) (ends code) a.1.reached b.1.reached a.1.trapped b.1.ended (trap_is_no_step trap) (end_is_no_step code) in
    absurd (cc (one.2))
run_end_is_one loaded hints limit (Trapped n trap) (Trapped k trap') a b =
    let one = stop_is_one loaded hints n k a.1.last b.1.last (traps trap) (traps trap') a.1.reached b.1.reached a.1.trapped b.1.trapped (trap_is_no_step trap) (trap_is_no_step trap') in
    cc (one.0, one.2)
run_end_is_one loaded hints limit (Trapped n trap) StepLimit a b =
    absurd (past_limit loaded hints n limit a.1.last b.0 (traps trap) a.0 a.1.reached a.1.trapped (trap_is_no_step trap) b.1)
run_end_is_one loaded hints limit StepLimit (Ended k code shown) a b =
    absurd (past_limit loaded hints k limit b.1.last a.0 (ends code) b.0 b.1.reached b.1.ended (end_is_no_step code) a.1)
run_end_is_one loaded hints limit StepLimit (Trapped k trap) a b =
    absurd (past_limit loaded hints k limit b.1.last a.0 (traps trap) b.0 b.1.reached b.1.trapped (trap_is_no_step trap) a.1)
run_end_is_one loaded hints limit StepLimit StepLimit a b = refl
