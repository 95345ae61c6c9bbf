-- What next_access_of says of the meanings.
use Rattle.std.proofs.Common.{◌≡◌, ℕ, ◌+◌, ◌<◌, ◌≤◌, zero, suc, Bool, true, false, ◌&&◌, ◌||◌, not, nat_eq, nat_lt, List, [], ◌∷◌, ◌++◌, Option, Some, None, length, slice_get, refl, ap, ◌∙◌, arith}
use Rattle.std.proofs.Math.ListN.{get_or-append, length-append}
use Rattle.std.proofs.lemmas.Bool.Decides.{nat_tests}
use Rattle.std.proofs.lemmas.Option.{slice_get_past}
use Rattle.vm_isa.specs.declared.instr.VmInstr.{VmInstr}
use Rattle.vm_isa.specs.declared.meaning.Place.{Place}
use Rattle.vm_isa.specs.declared.meaning.NextAccess.TheVariants.{NoMeaning, At, Done}
use Rattle.vm_isa.specs.Opcodes.{has_meaning}
use Rattle.vm_isa.specs.Means.{Accessed, Meaning, means_of, is_refused, bars_first, bars_second, known, places_of, accessed_by, new_at, at_place, in_places, next_access_of, word_at}
use Rattle.vm_isa.specs.Laws.{NoMeaningIsFinal, DoneIsAMeaning, NextIsTheMeanings}
use Rattle.vm_isa.proofs.MeansLaws.{whole, done_whole}
use Rattle.vm_isa.proofs.FormLaws.{places_by-length, next_place}

and_left : (a b : Bool) → a && b ≡ true → a ≡ true
and_left true b h = refl
and_left false b h = absurd (cc)

and_right : (a b : Bool) → a && b ≡ true → b ≡ true
and_right true b h = h
and_right false b h = absurd (cc)

or_more : (n p q r s : Bool) → (p ≡ true → r ≡ true) → (q ≡ true → s ≡ true) → n || (p || q) ≡ true → n || (r || s) ≡ true
or_more true p q r s f g h = refl
or_more false true q r s f g h = rw (f refl) refl
or_more false false true true s f g h = refl
or_more false false true false s f g h = g refl
or_more false false false r s f g h = absurd (cc)

below_true : (k n : ℕ) → nat_lt k n ≡ true → k < n
below_true k n h = grind (arith, nat_tests)

true_below : (k n : ℕ) → k < n → nat_lt k n ≡ true
true_below k n h = grind (arith, nat_tests)

word_at-append : (olds more : List (List ℕ)) (k : ℕ) → k < length olds → word_at (olds ++ more) k ≡ word_at olds k
unfolding word_at
word_at-append olds more k h = rw (get_or-append olds more [] k h) refl

known_more : (test : ℕ → Bool) (olds more : List (List ℕ)) (k : ℕ)
    → known olds k (test (word_at olds k)) ≡ true → known (olds ++ more) k (test (word_at (olds ++ more) k)) ≡ true
known_more test olds more k h =
    let low : k < length olds = below_true k (length olds) (and_right (test (word_at olds k)) (nat_lt k (length olds)) h) in
    let holds : test (word_at olds k) ≡ true = and_left (test (word_at olds k)) (nat_lt k (length olds)) h in
    let long : length (olds ++ more) ≡ length olds + length more = length-append olds more in
    let still : nat_lt k (length (olds ++ more)) ≡ true = true_below k (length (olds ++ more)) (omega arith) in
    rw (word_at-append olds more k low, holds, still) refl

pub refused_more : (i : VmInstr) (olds more : List (List ℕ)) → is_refused i olds ≡ true → is_refused i (olds ++ more) ≡ true
unfolding is_refused
refused_more i olds more h =
    or_more (not (has_meaning i.op)) (known olds 0 (bars_first i (word_at olds 0))) (known olds 1 (bars_second i (word_at olds 1)))
    (known (olds ++ more) 0 (bars_first i (word_at (olds ++ more) 0))) (known (olds ++ more) 1 (bars_second i (word_at (olds ++ more) 1)))
    (known_more (bars_first i) olds more 0) (known_more (bars_second i) olds more 1) h

-- ---- what each answer says of the tests

pub record Meant (i : VmInstr) (olds : List (List ℕ)) (given : List ℕ) (m : Meaning) : Type 0 where
  pub fits : is_refused i olds ≡ false
  pub long : length olds ≡ length (places_of i olds)
  pub is : m ≡ whole i olds given

meant_by : (r e : Bool) (i : VmInstr) (olds : List (List ℕ)) (given : List ℕ) (m : Meaning) → is_refused i olds ≡ r → nat_eq (length olds) (length (places_of i olds)) ≡ e
    → means_of i olds given ≡ Some m → Meant i olds given m
unfolding means_of
meant_by true e i olds given m p q h = let no : None ≡ Some m = rw p at h in absurd (cc)
meant_by false false i olds given m p q h = let no : None ≡ Some m = rw (p, q) at h in absurd (cc)
meant_by false true i olds given m p q h =
    let yes : Some (whole i olds given) ≡ Some m = rw (p, q) at h in
    record { fits = p; long = grind (arith, nat_tests); is = cc }

pub meant : (i : VmInstr) (olds : List (List ℕ)) (given : List ℕ) (m : Meaning) → means_of i olds given ≡ Some m → Meant i olds given m
meant i olds given m h = meant_by (is_refused i olds) (nat_eq (length olds) (length (places_of i olds))) i olds given m refl refl h

pub is_done : (i : VmInstr) (olds : List (List ℕ)) → is_refused i olds ≡ false → length olds ≡ length (places_of i olds) → next_access_of i olds ≡ Done
unfolding next_access_of
is_done i olds fits long =
    let past : slice_get (places_of i olds) (length olds) ≡ None = slice_get_past (places_of i olds) (length olds) (omega arith) in
    let ends : nat_eq (length olds) (length (places_of i olds)) ≡ true = grind (arith, nat_tests) in
    rw (fits, past, ends) refl

pub done_is_a_meaning : DoneIsAMeaning
done_is_a_meaning i olds given = (
  (λ h. (whole i olds given, done_whole i olds given h)),
  (λ (m, h). let is = meant i olds given m h in is_done i olds is.fits is.long),
)

-- the places end before a number without one
get_none : (ps : List Place) (k : ℕ) (d : Place) → slice_get ps k ≡ None → length ps ≤ k
get_none [] k d h = omega arith
get_none (p ∷ ps) zero d h = absurd (cc)
get_none (p ∷ ps) (suc k) d h = let more = get_none ps k d h in omega arith

at_place-none : (o : Option Place) (ends : Bool) → at_place o ends ≡ NoMeaning → (o ≡ None) × (ends ≡ false)
at_place-none (Some p) ends h = absurd (cc)
at_place-none None true h = absurd (cc)
at_place-none None false h = (refl, refl)

too_long : (i : VmInstr) (olds : List (List ℕ)) → in_places (places_of i olds) (length olds) ≡ NoMeaning → length (places_of i olds) < length olds
too_long i olds h =
    let parts = at_place-none (slice_get (places_of i olds) (length olds)) (nat_eq (length olds) (length (places_of i olds))) h in
    let least : length (places_of i olds) ≤ length olds = get_none (places_of i olds) (length olds) (record { slot = 0; space = 0; pointer = 0 }) parts.0 in
    let other : nat_eq (length olds) (length (places_of i olds)) ≡ false = parts.1 in
    grind (arith, nat_tests)

none_or_refused : (r : Bool) (i : VmInstr) (olds : List (List ℕ)) → is_refused i olds ≡ r → next_access_of i olds ≡ NoMeaning
    → (is_refused i olds ≡ false → length olds ≤ length (places_of i olds) → ⊥)
unfolding next_access_of
none_or_refused true i olds r h fits long = absurd (cc)
none_or_refused false i olds r h fits long =
    let no : in_places (places_of i olds) (length olds) ≡ NoMeaning = rw r at h in
    let more : length (places_of i olds) < length olds = too_long i olds no in
    absurd (omega arith)

fits_before : (r : Bool) (i : VmInstr) (olds more : List (List ℕ)) → is_refused i olds ≡ r → is_refused i (olds ++ more) ≡ false → is_refused i olds ≡ false
fits_before true i olds more r h = let still = refused_more i olds more r in absurd (cc)
fits_before false i olds more r h = r

-- words that begin those of a meaning are no further than its accesses
pub begins : (i : VmInstr) (olds more : List (List ℕ)) (given : List ℕ) (m : Meaning) → means_of i (olds ++ more) given ≡ Some m → next_access_of i olds ≡ NoMeaning → ⊥
begins i olds more given m e h =
    let is = meant i (olds ++ more) given m e in
    let fits : is_refused i olds ≡ false = fits_before (is_refused i olds) i olds more refl is.fits in
    let total : length (olds ++ more) ≡ length olds + length more = length-append olds more in
    let long : length (olds ++ more) ≡ length (places_of i (olds ++ more)) = is.long in
    let equal : length (places_of i (olds ++ more)) ≡ length (places_of i olds) = places_by-length i _ _ _ _ in
    none_or_refused (is_refused i olds) i olds refl h fits (omega arith)

final_by : (o : Option Meaning) → ((m : Meaning) → o ≡ Some m → ⊥) → o ≡ None
final_by None h = refl
final_by (Some m) h = absurd (h m refl)

pub no_meaning_is_final : NoMeaningIsFinal
no_meaning_is_final i olds h more given = final_by (means_of i (olds ++ more) given) (λ m e. begins i olds more given m e h)

-- ---- the next access

record Found (accesses : List Accessed) (k : ℕ) (p : Place) : Type 0 where
  access : Accessed
  at : slice_get accesses k ≡ Some access
  slot : access.slot ≡ p.slot
  space : access.space ≡ p.space
  pointer : access.pointer ≡ p.pointer

found : (new : ℕ → List ℕ → List ℕ) (ps : List Place) (xs : List (List ℕ)) (k : ℕ) (p : Place) → length xs ≡ length ps → slice_get ps k ≡ Some p → Found (accessed_by new ps xs) k p
unfolding accessed_by
found new [] xs k p long h = absurd (cc)
found new (q ∷ ps) [] k p long h = absurd (omega arith)
found new (q ∷ ps) (x ∷ xs) zero p long h =
    let same : q ≡ p = cc in
    record { access = record { slot = q.slot; space = q.space; pointer = q.pointer; old = x; new = new q.slot x }; at = refl; slot = rw same refl; space = rw same refl; pointer = rw same refl }
found new (q ∷ ps) (x ∷ xs) (suc k) p long h =
    let f = found new ps xs k p (omega arith) h in
    record { access = f.access; at = f.at; slot = f.slot; space = f.space; pointer = f.pointer }

at_place-at : (o : Option Place) (ends : Bool) (slot space pointer : ℕ) → at_place o ends ≡ At slot space pointer → (p : Place) × (o ≡ Some p) × (p.slot ≡ slot) × (p.space ≡ space) × (p.pointer ≡ pointer)
at_place-at (Some p) ends slot space pointer h = (p, refl, cc, cc, cc)
at_place-at None true slot space pointer h = absurd (cc)
at_place-at None false slot space pointer h = absurd (cc)

at_fits : (r : Bool) (i : VmInstr) (olds : List (List ℕ)) (slot space pointer : ℕ) → is_refused i olds ≡ r → next_access_of i olds ≡ At slot space pointer
    → in_places (places_of i olds) (length olds) ≡ At slot space pointer
unfolding next_access_of
at_fits true i olds slot space pointer r h = let no : NoMeaning ≡ At slot space pointer = rw r at h in absurd (cc)
at_fits false i olds slot space pointer r h = rw r at h

pub next_is_the_meanings : NextIsTheMeanings
next_is_the_meanings i olds more given slot space pointer m h e =
    let is = meant i (olds ++ more) given m e in
    let here = at_place-at (slice_get (places_of i olds) (length olds)) (nat_eq (length olds) (length (places_of i olds))) slot space pointer (at_fits (is_refused i olds) i olds slot space pointer refl h) in
    let get : slice_get (places_of i (olds ++ more)) (length olds) ≡ Some here.0 = next_place i olds more ∙ here.1 in
    let f = found (new_at i (olds ++ more) given) (places_of i (olds ++ more)) (olds ++ more) (length olds) here.0 is.long get in
    let same : m ≡ whole i (olds ++ more) given = is.is in
    (f.access, ap (λ (x : Meaning). slice_get x.accesses (length olds)) same ∙ f.at, f.slot ∙ here.2, f.space ∙ here.3, f.pointer ∙ here.4)
