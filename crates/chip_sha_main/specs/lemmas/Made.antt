-- The accesses of a filled row are those of its record.
use Rattle.std.proofs.Common.{◌≡◌, ℕ, ◌+◌, ◌*◌, ◌^◌, ◌<◌, ◌≤◌, List, [], ◌∷◌, ◌++◌, length, map, Option, Some, refl, sym, ap, subst, ◌∙◌, arith}
use Rattle.std.specs.List.{AllByRecursion}
use Rattle.vm_field.specs.Field.{field_add, field_mul}
use Rattle.vm_field.specs.declared.limbs.Limbs.{Limbs}
use Rattle.vm_field.specs.Limbs.{limbs_from, list_of}
use Rattle.vm_field.proofs.LimbLemmas.{list_of-from}
use Rattle.vm_word.specs.Arithmetic.{word_sum}
use Rattle.vm_isa.specs.Words.{IsWord}
use Rattle.vm_isa.specs.declared.access.TimedAccess.{TimedAccess}
use Rattle.gadget_time.specs.declared.touch.Touch.{Touch}
use Rattle.gadget_time.specs.Told.{MadeBy, MadeByAll, made}
use Rattle.air_core.specs.Ring.{field}
use Rattle.gadget_time.specs.Access.{gap_of, register_touch}
use Rattle.chip_sha_main.specs.Main.{run_touches}
use Rattle.chip_sha_main.specs.lemmas.Runs.{AllNew}
use Rattle.gadget_bits.specs.Record.{old_of}
use Rattle.gadget_bits.proofs.ShaRecord.{PlacedAs, AllPlaced}

abbrev pub somes : List TimedAccess → List (Option TimedAccess)
somes accesses = map (λ a. Some a) accesses

pub made_somes : (accesses : List TimedAccess) → made (somes accesses) ≡ accesses
made_somes [] = refl
made_somes (a ∷ more) = ap (λ (xs : List TimedAccess). a ∷ xs) (made_somes more)

pub made_both : (hi time : ℕ) (ts us : List (Touch ℕ)) (os ps : List (Option TimedAccess)) → MadeByAll hi time ts os → MadeByAll hi time us ps → MadeByAll hi time (ts ++ us) (os ++ ps)
made_both hi time [] us [] ps a b = b
made_both hi time [] us (o ∷ os) ps a b = absurd a
made_both hi time (t ∷ ts) us [] ps a b = absurd a
made_both hi time (t ∷ ts) us (o ∷ os) ps a b = (a.0, made_both hi time ts us os ps a.1 b)

-- an access of a record in its row: its word, its time, and that it is in time
pub record InTime (hi : ℕ) (a : TimedAccess) : Type 0 where
  pub word : IsWord a.access.old
  pub before : a.before < a.time
  pub ends : a.time < 2 ^ (16 + hi)

old_back : (x : List ℕ) → IsWord x → list_of (limbs_from x) ≡ x
old_back x w = list_of-from x w.four

-- a register that is read
pub register_made : (hi time slot number cell : ℕ) (a : TimedAccess) (new : List ℕ) → PlacedAs a time slot 1 (4 * number) new → new ≡ a.access.old → cell ≡ number → number < 32 → InTime hi a
    → MadeBy hi time (register_touch field 1 slot cell (limbs_from a.access.old) (limbs_from a.access.old) (gap_of a)) a
register_made hi time slot number cell a new p keeps same low in_time =
    let pointer : field_mul 4 cell ≡ 4 * number = omega arith in
    record {
      count = refl;
      at_time = p.time_is;
      space = sym p.space_is;
      pointer = pointer ∙ sym p.pointer_is;
      old = old_back a.access.old in_time.word;
      new = old_back a.access.old in_time.word ∙ sym (p.new_is ∙ keeps);
      gap = refl;
      before = in_time.before;
      ends = in_time.ends;
    }

-- words one after another
pub run_made : (hi time : ℕ) (new : ℕ → List ℕ → List ℕ) (first b base a : ℕ) (xs : List TimedAccess) (ys : List (Limbs ℕ)) → base ≡ b → b < 2 ^ 29 → a + length xs ≤ 64 → length ys ≡ length xs
    → AllPlaced new time first b a xs → AllNew new (first + a) (map limbs_from (map old_of xs)) ys → AllByRecursion (InTime hi) xs
    → MadeByAll hi time (run_touches field 1 (first + a) base (4 * a) (map limbs_from (map old_of xs)) ys (map gap_of xs)) (somes xs)
unfolding run_touches
run_made hi time new first b base a [] ys at low few long p news t = tt
run_made hi time new first b base a (x ∷ xs) [] at low few long p news t = absurd (omega (arith, long))
run_made hi time new first b base a (x ∷ xs) (y ∷ ys) at low few long p news t =
    let here : PlacedAs x time (first + a) 2 (word_sum b (4 * a)) (new (first + a) x.access.old) = p.0 in
    let in_time : InTime hi x = t.0 in
    let pointer : field_add base (4 * a) ≡ word_sum b (4 * a) = omega arith in
    let back = old_back x.access.old in_time.word in
    let written : list_of y ≡ new (first + a) x.access.old = sym news.0 ∙ ap (new (first + a)) back in
    let slot_next : first + a + 1 ≡ first + (a + 1) = omega arith in
    let offset_next : 4 * a + 4 ≡ 4 * (a + 1) = omega arith in
    let rest = run_made hi time new first b base (a + 1) xs ys at low (omega arith) (omega (arith, long)) p.1 (subst (λ (s : ℕ). AllNew new s (map limbs_from (map old_of xs)) ys) slot_next news.1) t.1 in (
      record {
        count = refl;
        at_time = here.time_is;
        space = sym here.space_is;
        pointer = pointer ∙ sym here.pointer_is;
        old = back;
        new = written ∙ sym here.new_is;
        gap = refl;
        before = in_time.before;
        ends = in_time.ends;
      },
      subst (λ (s : ℕ). MadeByAll hi time (run_touches field 1 s base (4 * a + 4) (map limbs_from (map old_of xs)) ys (map gap_of xs)) (somes xs)) (sym slot_next)
          (subst (λ (o : ℕ). MadeByAll hi time (run_touches field 1 (first + (a + 1)) base o (map limbs_from (map old_of xs)) ys (map gap_of xs)) (somes xs)) (sym offset_next) rest),
    )
