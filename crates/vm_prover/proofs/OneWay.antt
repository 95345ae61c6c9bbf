-- A run ends in one way.
use Rattle.std.proofs.Common.{◌≡◌, ℕ, ◌≤◌, ◌<◌, Bool, List, [], ◌∷◌, ◌++◌, length, refl, sym, ap, ◌∙◌, subst, arith}
use Rattle.elf_image.specs.Loaded.{Loaded}
use Rattle.rv_run.specs.declared.outcome.Trap.{Trap}
use Rattle.rv_run.specs.Machine.{Machine, start}
use Rattle.rv_run.specs.Step.{ends, goes, step_of, traps}
use Rattle.rv_run.specs.Run.{Goes}
use Rattle.rv_run.proofs.Runs.{goes_is_one}
use Rattle.vm_prover.specs.Cut.{CutsTo, StepsLead, cut}
use Rattle.vm_prover.specs.declared.proving.Proved.{Proved}
use Rattle.vm_prover.specs.declared.proving.Proving.TheVariants as proving
use Rattle.vm_prover.specs.Proving.{EndsSo, ProvingIsOne}
use Rattle.vm_prover.specs.Survey.{EndsCut, GoesPast, TrapsCut}
use Rattle.vm_prover.proofs.Going.{stepped_goes}
use Rattle.vm_prover.proofs.Lengths.{cuts_grow}

-- no step follows
abbrev Stops : Loaded → Machine → Type 0
Stops loaded m = (next : Machine) → step_of loaded m ≡ goes next → ⊥

end_stops : (loaded : Loaded) (m : Machine) (code : ℕ) → step_of loaded m ≡ ends code → Stops loaded m
end_stops loaded m code e next g = let no : ends code ≡ goes next = sym e ∙ g in absurd (cc)

trap_stops : (loaded : Loaded) (m : Machine) (trap : Trap) → step_of loaded m ≡ traps trap → Stops loaded m
trap_stops loaded m trap e next g = let no : traps trap ≡ goes next = sym e ∙ g in absurd (cc)

same_next : (loaded : Loaded) (from a b : Machine) → step_of loaded from ≡ goes a → step_of loaded from ≡ goes b → b ≡ a
same_next loaded from a b x y = let step : goes b ≡ goes a = sym y ∙ x in cc

-- steps that stop are at least as many as any others, and begin with these
begins : (loaded : Loaded) (from m k : Machine) (ms ks : List Bool) → StepsLead loaded from ms m → Stops loaded m → StepsLead loaded from ks k → (rest : List Bool) × (ms ≡ ks ++ rest)
begins loaded from m k ms [] s stop t = (ms, refl)
begins loaded from m k [] (b ∷ ks) s stop t = absurd (stop t.0 (ap (step_of loaded) s ∙ t.1))
begins loaded from m k (a ∷ ms) (b ∷ ks) s stop t =
    let next : t.0 ≡ s.0 = same_next loaded from s.0 t.0 s.1 t.1 in
    let rest = begins loaded s.0 m k ms ks s.3 stop (subst (λ x. StepsLead loaded x ks k) next t.3) in
    (rest.0, (λ i. (s.2 ∙ sym t.2) i ∷ rest.1 i))

-- both stop: they are the same
same_steps : (loaded : Loaded) (from m k : Machine) (ms ks : List Bool) → StepsLead loaded from ms m → Stops loaded m → StepsLead loaded from ks k → Stops loaded k → (ms ≡ ks) × (m ≡ k)
same_steps loaded from m k [] [] s stop t end = (refl, s ∙ sym t)
same_steps loaded from m k [] (b ∷ ks) s stop t end = absurd (stop t.0 (ap (step_of loaded) s ∙ t.1))
same_steps loaded from m k (a ∷ ms) [] s stop t end = absurd (end s.0 (ap (step_of loaded) t ∙ s.1))
same_steps loaded from m k (a ∷ ms) (b ∷ ks) s stop t end =
    let next : t.0 ≡ s.0 = same_next loaded from s.0 t.0 s.1 t.1 in
    let rest = same_steps loaded s.0 m k ms ks s.3 stop (subst (λ x. StepsLead loaded x ks k) next t.3) end in
    ((λ i. (s.2 ∙ sym t.2) i ∷ rest.0 i), rest.1)

-- ---- runs that are cut

-- the machine that they lead to is that of the run
last_is : (loaded : Loaded) (hints : List ℕ) (per n : ℕ) (lengths : List ℕ) (m : Machine) (c : CutsTo loaded hints per n lengths) → Goes loaded hints n m → m ≡ c.last
last_is loaded hints per n lengths m c h = goes_is_one loaded hints n m c.last h (stepped_goes loaded hints n c.last c.kinds c.stepped c.count)

-- a run that stops has no fewer segments than any steps of it
not_past : (loaded : Loaded) (hints : List ℕ) (per n : ℕ) (lengths : List ℕ) (c : CutsTo loaded hints per n lengths) → Stops loaded c.last → length lengths ≤ 4096 → GoesPast loaded hints per → ⊥
not_past loaded hints per n lengths c stop few past =
    let other = past.cuts in
    let rest = begins loaded (start loaded hints) c.last other.last c.kinds other.kinds c.stepped stop other.stepped in
    let grow : length (cut per other.kinds) ≤ length (cut per (other.kinds ++ rest.0)) = cuts_grow per other.kinds rest.0 in
    let same : length (cut per c.kinds) ≡ length (cut per (other.kinds ++ rest.0)) = ap (λ ks. length (cut per ks)) rest.1 in
    let many : 4096 < length (cut per other.kinds) = subst (λ ls. 4096 < length ls) other.are past.many in
    let short : length (cut per c.kinds) ≤ 4096 = subst (λ ls. length ls ≤ 4096) c.are few in
    omega (arith, grow, same, many, short)

-- two that stop are one
one_stop : (loaded : Loaded) (hints : List ℕ) (per n k : ℕ) (lengths others : List ℕ) (c : CutsTo loaded hints per n lengths) (d : CutsTo loaded hints per k others) → Stops loaded c.last → Stops loaded d.last
    → (n ≡ k) × (lengths ≡ others) × (c.last ≡ d.last)
one_stop loaded hints per n k lengths others c d stop end =
    let same = same_steps loaded (start loaded hints) c.last d.last c.kinds d.kinds c.stepped stop d.stepped end in
    (sym c.count ∙ ap length same.0 ∙ d.count, c.are ∙ ap (cut per) same.0 ∙ sym d.are, same.1)

ends_there : (loaded : Loaded) (hints : List ℕ) (per n : ℕ) (lengths : List ℕ) (code : ℕ) (shown : List ℕ) (e : EndsCut loaded hints per n lengths code shown) → (step_of loaded e.cuts.last ≡ ends code) × (e.cuts.last.public_bytes ≡ shown)
ends_there loaded hints per n lengths code shown e =
    let last : e.ends.last ≡ e.cuts.last = last_is loaded hints per n lengths e.ends.last e.cuts e.ends.reached in
    (subst (λ m. step_of loaded m ≡ ends code) last e.ends.ended, subst (λ (m : Machine). m.public_bytes ≡ shown) last e.ends.shown)

traps_there : (loaded : Loaded) (hints : List ℕ) (per : ℕ) (trap : Trap) (t : TrapsCut loaded hints per trap) → step_of loaded t.cuts.last ≡ traps trap
traps_there loaded hints per trap t =
    let last : t.traps.last ≡ t.cuts.last = last_is loaded hints per t.steps t.lengths t.traps.last t.cuts t.traps.reached in
    subst (λ m. step_of loaded m ≡ traps trap) last t.traps.trapped

pub two_ends : (loaded : Loaded) (hints : List ℕ) (per n k : ℕ) (lengths others : List ℕ) (code other : ℕ) (shown too : List ℕ) → EndsCut loaded hints per n lengths code shown → EndsCut loaded hints per k others other too
    → (n ≡ k) × (lengths ≡ others) × (code ≡ other) × (shown ≡ too)
two_ends loaded hints per n k lengths others code other shown too a b =
    let x = ends_there loaded hints per n lengths code shown a in
    let y = ends_there loaded hints per k others other too b in
    let one = one_stop loaded hints per n k lengths others a.cuts b.cuts (end_stops loaded a.cuts.last code x.0) (end_stops loaded b.cuts.last other y.0) in
    let codes : ends code ≡ ends other = sym x.0 ∙ ap (step_of loaded) one.2 ∙ y.0 in
    (one.0, one.1, cc, sym x.1 ∙ ap (λ (m : Machine). m.public_bytes) one.2 ∙ y.1)

two_traps : (loaded : Loaded) (hints : List ℕ) (per : ℕ) (trap other : Trap) → TrapsCut loaded hints per trap → TrapsCut loaded hints per other → trap ≡ other
two_traps loaded hints per trap other a b =
    let x = traps_there loaded hints per trap a in
    let y = traps_there loaded hints per other b in
    let one = one_stop loaded hints per a.steps b.steps a.lengths b.lengths a.cuts b.cuts (trap_stops loaded a.cuts.last trap x) (trap_stops loaded b.cuts.last other y) in
    let same : traps trap ≡ traps other = sym x ∙ ap (step_of loaded) one.2 ∙ y in
    cc

end_and_trap : (loaded : Loaded) (hints : List ℕ) (per n : ℕ) (lengths : List ℕ) (code : ℕ) (shown : List ℕ) (trap : Trap) → EndsCut loaded hints per n lengths code shown → TrapsCut loaded hints per trap → ⊥
end_and_trap loaded hints per n lengths code shown trap a b =
    let x = ends_there loaded hints per n lengths code shown a in
    let y = traps_there loaded hints per trap b in
    let one = one_stop loaded hints per n b.steps lengths b.lengths a.cuts b.cuts (end_stops loaded a.cuts.last code x.0) (trap_stops loaded b.cuts.last trap y) in
    let no : ends code ≡ traps trap = sym x.0 ∙ ap (step_of loaded) one.2 ∙ y in
    absurd (cc)

end_or_past : (loaded : Loaded) (hints : List ℕ) (per n : ℕ) (lengths : List ℕ) (code : ℕ) (shown : List ℕ) → EndsCut loaded hints per n lengths code shown → GoesPast loaded hints per → ⊥
end_or_past loaded hints per n lengths code shown a = not_past loaded hints per n lengths a.cuts (end_stops loaded a.cuts.last code (ends_there loaded hints per n lengths code shown a).0) a.few

trap_or_past : (loaded : Loaded) (hints : List ℕ) (per : ℕ) (trap : Trap) → TrapsCut loaded hints per trap → GoesPast loaded hints per → ⊥
trap_or_past loaded hints per trap a = not_past loaded hints per a.steps a.lengths a.cuts (trap_stops loaded a.cuts.last trap (traps_there loaded hints per trap a)) a.few

-- ---- what a prover answers

same_claim : (loaded : Loaded) (hints : List ℕ) (per : ℕ) (a b : Proved) → EndsSo loaded hints per a → EndsSo loaded hints per b → a ≡ b
same_claim loaded hints per a b x y =
    let one = two_ends loaded hints per a.steps b.steps x.lengths y.lengths a.code b.code a.public b.public x.ends y.ends in
    let segments : a.segments ≡ b.segments = x.count ∙ ap length one.1 ∙ sym y.count in
    (λ i. record { code = one.2 i; public = one.3 i; segments = segments i; steps = one.0 i })

pub proving_is_one : ProvingIsOne
proving_is_one loaded hints per (proving.Proved a) (proving.Proved b) x y = ap proving.Proved (same_claim loaded hints per a b x y)
proving_is_one loaded hints per (proving.Proved a) (proving.Trapped t) x y = absurd (end_and_trap loaded hints per _ _ _ _ t x.ends y)
proving_is_one loaded hints per (proving.Proved a) proving.TooManySegments x y = absurd (end_or_past loaded hints per _ _ _ _ x.ends y)
proving_is_one loaded hints per (proving.Trapped t) (proving.Proved b) x y = absurd (end_and_trap loaded hints per _ _ _ _ t y.ends x)
proving_is_one loaded hints per (proving.Trapped t) (proving.Trapped u) x y = ap proving.Trapped (two_traps loaded hints per t u x y)
proving_is_one loaded hints per (proving.Trapped t) proving.TooManySegments x y = absurd (trap_or_past loaded hints per t x y)
proving_is_one loaded hints per proving.TooManySegments (proving.Proved b) x y = absurd (end_or_past loaded hints per _ _ _ _ y.ends x)
proving_is_one loaded hints per proving.TooManySegments (proving.Trapped u) x y = absurd (trap_or_past loaded hints per u y x)
proving_is_one loaded hints per proving.TooManySegments proving.TooManySegments x y = refl
