-- Calls that only read, one after another.
use Rattle.std.proofs.Common.{◌≡◌, ℕ, ◌+◌, ◌<◌, List, [], ◌∷◌, ◌++◌, length, take, refl, suc, zero, ap, ◌∙◌, append_assoc, arith, IfSome, None, Some, replicate, sym, subst}
use Rattle.std.proofs.lemmas.List.{length-replicate, append-nil}
use Rattle.std.proofs.Math.Seq.{take-nil}
use Rattle.std.specs.declared.option.Option.{Option}
use Rattle.vm_host.specs.declared.Slot.{Slot}
use Rattle.vm_host.specs.declared.Place.{Place}
use Rattle.vm_host.specs.State.{HostState, then_more}
use Rattle.vm_tool.specs.ReadFile.{Quiet}
use Rattle.vm_tool.specs.Files.{IsContent}
use Rattle.vm_tool.specs.Outcome.{WritesNothing}

pub more_both : {A : Type 0} (told : Option (List A)) (xs ys : List A) → then_more (then_more told xs) ys ≡ then_more told (xs ++ ys)
more_both None xs ys = refl
more_both (Some zs) xs ys = ap Some (append_assoc zs xs ys)

-- nothing was done
pub quiet_none : (s : HostState) → Quiet s s []
quiet_none s = record { later = omega arith; named = no_more s.named; frame = refl }
  where
    no_more : {A : Type 0} (told : Option (List A)) → told ≡ then_more told []
    no_more None = refl
    no_more (Some xs) = ap Some (sym (append-nil xs))

pub quiet_both : (s t u : HostState) (xs ys : List (Place × List ℕ)) → Quiet s t xs → Quiet t u ys → Quiet s u (xs ++ ys)
quiet_both s t u xs ys a b = record {
  later = omega arith;
  named = b.named ∙ ap (λ o. then_more o ys) a.named ∙ more_both s.named xs ys;
  frame = b.frame ∙ ap (λ (y : HostState). record y { faults = u.faults; input = u.input; named = u.named }) a.frame;
}

pub same_content : (s t : HostState) (names : List (Place × List ℕ)) → Quiet s t names → t.content ≡ s.content
same_content s t names q = ap (λ (y : HostState). y.content) q.frame

pub same_said : (s t : HostState) (names : List (Place × List ℕ)) → Quiet s t names → t.said ≡ s.said
same_said s t names q = ap (λ (y : HostState). y.said) q.frame

-- calls that only read write nothing
pub writes_nothing : (s t : HostState) (names : List (Place × List ℕ)) → Quiet s t names → WritesNothing s t
writes_nothing s t names q =
    q.frame ∙ ap (λ said. record s { faults = t.faults; input = t.input; said = said; named = t.named }) (sym (same_said s t names q))

-- what is told of a file after calls that only read was told before
pub told_before : (s t : HostState) (names : List (Place × List ℕ)) (slot : Slot) (name bytes : List ℕ) → Quiet s t names → IsContent (t.content slot name) bytes → IsContent (s.content slot name) bytes
told_before s t names slot name bytes q told =
    let P : (Slot → List ℕ → Option (List ℕ)) → Type 0 = λ content. IsContent (content slot name) bytes in
    subst P (same_content s t names q) told

-- a part of the first item is a part of all
pub part_of_first : {A : Type 0} (a : A) (rest : List A) (n : ℕ) → (m : ℕ) × (take n (a ∷ []) ≡ take m (a ∷ rest))
part_of_first a rest zero = (0, refl)
part_of_first a rest (suc n) = (1, ap (λ xs. a ∷ xs) (take-nil n))

-- bytes that are the content, where it is told
pub some_content : (told : Option (List ℕ)) → (bytes : List ℕ) × IsContent told bytes
some_content None = ([], tt)
some_content (Some all) = (all, refl)

-- long bytes that are the content, where it is told
pub long_content : (told : Option (List ℕ)) (limit : ℕ) → IfSome told (λ all. limit < length all) → (bytes : List ℕ) × IsContent told bytes × (limit < length bytes)
long_content None limit h = (replicate (limit + 1) 0, tt, omega (arith, length-replicate {A = ℕ} (limit + 1) 0))
long_content (Some all) limit h = (all, refl, h)

-- the content is one, where it is told
pub told_is : (told : Option (List ℕ)) (all bytes : List ℕ) → told ≡ Some all → IsContent told bytes → all ≡ bytes
told_is None all bytes e h = absurd cc
told_is (Some xs) all bytes e h = let same : xs ≡ all = cc in sym same ∙ h
