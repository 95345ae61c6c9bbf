-- A run with no SHA block: how many segments it is cut into.
use Rattle.std.proofs.Common.{◌≡◌, ◌≢◌, ℕ, zero, suc, ◌+◌, ◌*◌, ◌≤◌, ◌<◌, Bool, true, false, List, [], ◌∷◌, length, replicate, Option, Some, None, refl, sym, ap, ◌∙◌, subst, arith, inl, inr}
use Rattle.std.specs.Prelude.{if◌then◌else◌}
use Rattle.std.specs.Int.{div_ceil}
use Rattle.std.specs.Option.{option_and_then}
use Rattle.std.proofs.Math.Nat.{mul-suc, mul-le-mul_left}
use Rattle.std.proofs.lemmas.Bool.{cases_lt}
use Rattle.std.proofs.lemmas.Bool.Decides.{nat_tests}
use Rattle.std.proofs.lemmas.Grind.{div_ceil_times}
use Rattle.std.proofs.lemmas.List.{length-replicate}
use Rattle.elf_image.specs.Loaded.{Loaded, word_of}
use Rattle.rv_decode.specs.declared.instr.Instr.{Instr}
use Rattle.rv_decode.specs.declared.instr.Instr.TheVariants.{ShaBlock}
use Rattle.rv_decode.specs.Listing.{decode_of}
use Rattle.rv_run.specs.Machine.{Machine, start}
use Rattle.rv_run.specs.Run.{Goes}
use Rattle.rv_run.specs.Step.{goes, step_of}
use Rattle.vm_prover.specs.Cut.{CutsTo, StepsLead, cut, cut_on, ends_before, has_sha_block, is_sha_block}

-- ---- its steps

-- no text word is a SHA block
abbrev pub HasNoShaBlock : Loaded → Type 0
HasNoShaBlock loaded = (pc word state block : ℕ) → word_of loaded pc ≡ Some word → decode_of word ≢ Some (ShaBlock state block)

instr_is_plain : (instr : Option Instr) → ((state block : ℕ) → instr ≢ Some (ShaBlock state block)) → is_sha_block instr ≡ false
instr_is_plain (Some (ShaBlock state block)) none = absurd (none state block refl)
instr_is_plain _ none = refl

word_is_plain : (word : Option ℕ) → ((here state block : ℕ) → word ≡ Some here → decode_of here ≢ Some (ShaBlock state block))
    → is_sha_block (option_and_then decode_of word) ≡ false
word_is_plain None none = refl
word_is_plain (Some here) none = instr_is_plain (decode_of here) (λ state block. none here state block refl)

module _ (loaded : Loaded) (plain : HasNoShaBlock loaded) where
  next_is_plain : (m : Machine) → has_sha_block loaded m ≡ false
  next_is_plain m = word_is_plain (word_of loaded m.pc) (plain m.pc)

  -- each of its steps is of the kind that is no SHA block
  pub plain_kinds : (from to : Machine) (kinds : List Bool) → StepsLead loaded from kinds to → kinds ≡ replicate (length kinds) false
  plain_kinds from to [] stepped = refl
  plain_kinds from to (kind ∷ kinds) stepped =
      let here : kind ≡ false = stepped.2 ∙ next_is_plain from in
      (λ i. here i ∷ plain_kinds stepped.0 to kinds stepped.3 i)

  one_more : (from m next : Machine) (steps : ℕ) → StepsLead loaded from (replicate steps false) m → step_of loaded m ≡ goes next → StepsLead loaded from (replicate (suc steps) false) next
  one_more from m next zero stepped went = (next, ap (step_of loaded) (sym stepped) ∙ went, sym (next_is_plain from), refl)
  one_more from m next (suc steps) stepped went = (stepped.0, stepped.1, stepped.2, one_more stepped.0 m next steps stepped.3 went)

  plain_steps : (hints : List ℕ) (steps : ℕ) (m : Machine) → Goes loaded hints steps m → StepsLead loaded (start loaded hints) (replicate steps false) m
  plain_steps hints zero m went = went
  plain_steps hints (suc steps) m went = one_more (start loaded hints) went.0 m steps (plain_steps hints steps went.0 went.1) went.2

-- ---- its segments

-- so many segments hold these steps, and only the last of them may have room for more
record Counts (per_segment steps count : ℕ) : Type 0 where
  enough : steps ≤ per_segment * count
  no_more : per_segment * count < steps + per_segment

one_segment : (per_segment steps : ℕ) → 1 ≤ steps → steps ≤ per_segment → Counts per_segment steps 1
one_segment per_segment steps some fits = record { enough = omega arith; no_more = omega arith }

full_segment : (per_segment steps more count : ℕ) → per_segment ≤ steps → steps ≤ per_segment → Counts per_segment (1 + more) count → Counts per_segment (steps + suc more) (suc count)
full_segment per_segment steps more count full fits behind =
    let product = mul-suc per_segment count in
    record { enough = omega (arith, product, behind.enough); no_more = omega (arith, product, behind.no_more) }

same_counts : (per_segment a b count : ℕ) → a ≡ b → Counts per_segment a count → Counts per_segment b count
same_counts per_segment a b count same counts = subst (λ n. Counts per_segment n count) same counts

next_step : (per_segment steps more : ℕ) (full : Bool) (closed going : List ℕ) → ends_before per_segment steps 0 false ≡ full → steps ≤ per_segment
    → Counts per_segment (1 + more) (length closed) → (steps + 1 ≤ per_segment → Counts per_segment (steps + suc more) (length going))
    → Counts per_segment (steps + suc more) (length (if full then steps ∷ closed else going))
next_step per_segment steps more true closed going is fits behind on = full_segment per_segment steps more (length closed) (grind (arith, nat_tests)) fits behind
next_step per_segment steps more false closed going is fits behind on = on (grind (arith, nat_tests))

counts_on : (per_segment steps more : ℕ) → 1 ≤ per_segment → steps ≤ per_segment → 1 ≤ steps + more
    → Counts per_segment (steps + more) (length (cut_on per_segment steps 0 (replicate more false)))
counts_on per_segment steps zero least fits some = same_counts per_segment steps (steps + zero) 1 (omega arith) (one_segment per_segment steps (omega arith) fits)
counts_on per_segment steps (suc more) least fits some =
    next_step per_segment steps more (ends_before per_segment steps 0 false) _ _ refl fits
    (counts_on per_segment 1 more least least (omega arith))
    (λ room. same_counts per_segment (steps + 1 + more) (steps + suc more) _ (omega arith) (counts_on per_segment (steps + 1) more least room (omega arith)))

-- two numbers of segments of the same steps are one
no_fewer : (per_segment steps a b : ℕ) → Counts per_segment steps a → Counts per_segment steps b → a ≤ b
no_fewer per_segment steps a b x y =
    elim (cases_lt b a) as (λ _. a ≤ b) [
      | inl less ↦
          let products : per_segment * suc b ≤ per_segment * a = mul-le-mul_left per_segment less in
          absurd (omega (arith, products, mul-suc per_segment b, x.no_more, y.enough))
      | inr more ↦ more
    ]

ceil_counts : (per_segment steps : ℕ) → 1 ≤ per_segment → Counts per_segment steps (div_ceil steps per_segment)
ceil_counts per_segment steps least =
    let times = div_ceil_times steps per_segment least in
    record { enough = grind (arith, times.0); no_more = grind (arith, times.1) }

-- steps with no SHA block are as many segments as they fill
pub plain_cut : (per_segment steps : ℕ) → 1 ≤ per_segment → 1 ≤ steps → length (cut per_segment (replicate steps false)) ≡ div_ceil steps per_segment
plain_cut per_segment steps least some =
    let counts = same_counts per_segment (0 + steps) steps _ (omega arith) (counts_on per_segment 0 steps least (omega arith) (omega arith)) in
    let ceil = ceil_counts per_segment steps least in
    let low = no_fewer per_segment steps _ _ counts ceil in
    let high = no_fewer per_segment steps _ _ ceil counts in
    omega (arith, low, high)

module _ (loaded : Loaded) (plain : HasNoShaBlock loaded) (hints : List ℕ) (per_segment steps : ℕ) where
  -- a run of so many steps has a cut
  pub plain_run_is_cut : (m : Machine) → Goes loaded hints steps m → CutsTo loaded hints per_segment steps (cut per_segment (replicate steps false))
  plain_run_is_cut m went = record {
    kinds = replicate steps false;
    last = m;
    stepped = plain_steps loaded plain hints steps m went;
    count = length-replicate steps false;
    are = refl;
  }

  -- and each cut of it has so many segments
  pub plain_segments : (lengths : List ℕ) → 1 ≤ per_segment → 1 ≤ steps → CutsTo loaded hints per_segment steps lengths → length lengths ≡ div_ceil steps per_segment
  plain_segments lengths least some cuts =
      let kinds : cuts.kinds ≡ replicate steps false =
      plain_kinds loaded plain (start loaded hints) cuts.last cuts.kinds cuts.stepped ∙ ap (λ n. replicate n false) cuts.count in
      ap length cuts.are ∙ ap (λ ks. length (cut per_segment ks)) kinds ∙ plain_cut per_segment steps least some
