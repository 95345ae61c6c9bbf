use Rattle.std.proofs.Common.{[], ◌∷◌, ◌≡◌, ◌<◌, ℕ, Bool, true, false, None, Some, List, cond, length, sym, ap, ◌∙◌, subst, refl, arith}
use Rattle.vm_trace.specs.declared.page.Touched.{Touched}
use Rattle.vm_trace.specs.Pages.{IsWhole}
use Rattle.vm_executor.specs.Pages.{begun_page}
use Rattle.vm_executor.specs.Memory.{Begins, IsSegment, Kept, entry_at}
use Rattle.vm_executor.proofs.KeepLemmas.{AreKept-begun, begins, placed, same_key}
use Rattle.vm_executor.proofs.SegmentLemmas.{Beginning, beginning_ends, beginning_goes_on, beginning_starts}
use Rattle.vm_executor.proofs.memory.Memory.begin_segment.Goals as goal

pub loop-place-init : goal.loop-place-init
loop-place-init c = record {
  same = refl;
  places = λ label. refl;
  on = beginning_starts c.self.inside.image.now c.self.inside.pages.items c.self.inside.segment.entries c.self.invariant.2;
  kept = c.self.invariant.0;
}

pub index_mut-requires : goal.index_mut-requires
index_mut-requires c =
    let none : Touched = record { label = 0; old = []; new = []; times = [] } in
    let on = c.loop-place.invariant.on in
    let label = c.in-Some.field-0-0 in
    let pages = c.loop-place.self-inside.pages in
    omega (arith, (placed pages.items label c.in-Some.place none (on.places label ∙ on.stands label c.in-Some.place c.in-Some.ensures.value)).within, pages.ok.0)

pub loop-place-preserved : goal.loop-place-preserved
loop-place-preserved c =
    let on = c.loop-place.invariant.on in
    let label = c.in-Some.field-0-0 in
    let place = c.in-Some.place in
    let pages = c.loop-place.self-inside.pages.items in
    let before = c.index_mut.result.now in
    let page = c.begin.new.page in
    let at : entry_at c.loop-place.self-inside.segment.entries label ≡ Some place = c.in-Some.ensures.value in
    let within = (placed pages label place before (on.places label ∙ on.stands label place at)).within in
    let begun = c.begin.ensures.begun ∙ ap begun_page c.index_mut.ensures.value in
    let whole = c.begin.ensures.whole (subst IsWhole (sym c.index_mut.ensures.value) (c.loop-place.invariant.kept.whole place before within)) in
    record {
      same = c.loop-place.invariant.same;
      places = c.loop-place.invariant.places;
      on = beginning_goes_on c.self.inside.pages.items pages c.loop-place.self-inside.segment.entries c.pop_first.new.self.entries label place page before on at
          (λ l. c.in-Some.ensures.updates.0 l ∙ ap (λ (b : Bool). cond b None (entry_at c.loop-place.self-inside.segment.entries l)) (same_key label l)) begun;
      kept = AreKept-begun pages place before page within begun whole c.loop-place.invariant.kept;
    }

true_not_false : true ≡ false → ⊥
true_not_false h = absurd (cc)

none_left : (entries : List (ℕ × ℕ)) → (0 < length entries → ⊥) → entries ≡ []
none_left [] h = refl
none_left (e ∷ es) h = absurd (h (omega arith))

pub invariant_of-self : goal.invariant_of-self
invariant_of-self c =
    let start = c.self.inside.pages.items in
    let inside = c.loop-place.self-inside in
    let over : inside.segment.entries ≡ [] = none_left inside.segment.entries (λ h. true_not_false (sym (c.in_default.ensures.variant.1 h))) in
    let empty : c.pop_first.new.self.entries ≡ [] = c.in_default.ensures.unchanged ∙ over in
    let on = subst (Beginning start inside.pages.items) over c.loop-place.invariant.on in (
      c.loop-place.invariant.kept,
      λ label. c.loop-place.invariant.places label ∙ c.self.invariant.1 label ∙ sym (on.places label),
      subst (λ (entries : List (ℕ × ℕ)). IsSegment (record { loaded = inside.image.now; pages = inside.pages.items; reached = entries })) (sym empty)
          (beginning_ends inside.image.now start inside.pages.items on),
    )

pub returns : goal.returns
returns c =
    let start = c.self.inside.pages.items in
    let inside = c.loop-place.self-inside in
    let over : inside.segment.entries ≡ [] = none_left inside.segment.entries (λ h. true_not_false (sym (c.in_default.ensures.variant.1 h))) in
    let on = subst (Beginning start inside.pages.items) over c.loop-place.invariant.on in
    let old : Kept = record { loaded = c.self.inside.image.now; pages = start; reached = c.self.inside.segment.entries } in
    let new : Kept = record { loaded = inside.image.now; pages = inside.pages.items; reached = c.pop_first.new.self.entries } in
    subst (λ (k : Kept). Begins k new) c.self.view_is (begins old new c.loop-place.invariant.same (λ label. on.begun label refl))
