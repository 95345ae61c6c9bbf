use Rattle.std.proofs.Common.{[], ◌≡◌, ◌∷◌, ℕ, List, Bor, sym, ◌∙◌, subst, arith}
use Rattle.std.specs.Map.Iter.{deref_pair}
use Rattle.std.proofs.lemmas.Cmp.{nat_cmp_total}
use Rattle.std.proofs.lemmas.Map.Iter.{rest_more}
use Rattle.std.proofs.lemmas.Map.Lookups.{exact_unsigned}
use Rattle.std.proofs.lemmas.Map.Views.{btree_map_get_iff}
use Rattle.vm_trace.specs.declared.page.Touched.{Touched}
use Rattle.vm_executor.specs.Memory.{Kept, now_of, began_of, times_of}
use Rattle.vm_executor.specs.Pages.{AreTouched}
use Rattle.vm_executor.proofs.TouchedLemmas.{Gathered, IsFirst, first_page, gathered_all, gathered_more, gathered_none, gathered_past}
use Rattle.vm_executor.proofs.memory.Memory.touched.Goals as goal
use Rattle.vm_executor.proofs.memory.Memory.touched.Goals.{In-Some}

pub loop-place-init : goal.loop-place-init
loop-place-init c =
    let map = c.self.inside.segment in
    let kept : Kept = record { loaded = c.self.inside.image.now; pages = c.self.inside.pages.items; reached = map.entries } in
    let none = gathered_none kept map.entries c.iter-place-items.ensures.ordered c.iter-place-items.ensures.found (λ label place h. (btree_map_get_iff nat_cmp_total exact_unsigned map c.iter-place-items.ensures.ordered label place).0 h) in
    subst (λ (k : Kept). Gathered k c.into_iter-place-iterator.result c.new-touched.result.items) c.self.view_is
    (subst (λ (left : List (ℕ × ℕ)). Gathered kept left c.new-touched.result.items) (sym (c.into_iter-place-iterator.ensures.into_iter_gives ∙ c.iter-place-items.ensures.rest))
    (subst (Gathered kept map.entries) (sym c.new-touched.ensures.items) none))

-- the entry of this turn
turn : (c : In-Some) → c.loop-place.place-iterator ≡ deref_pair (c.in-Some.field-0-0, c.in-Some.place) ∷ c.next.new.self
turn c =
    let x : Bor ℕ × Bor ℕ = (c.in-Some.field-0-0, c.in-Some.place) in
    rest_more deref_pair c.loop-place.place-iterator c.next.new.self c.next.result x c.in-Some.is c.next.ensures.steps

pub index-page-requires : goal.index-page-requires
index-page-requires c =
    let kept : Kept = record { loaded = c.self.inside.image.now; pages = c.self.inside.pages.items; reached = c.self.inside.segment.entries } in
    let none : Touched = record { label = 0; old = []; new = []; times = [] } in
    let on = subst (λ (k : Kept). Gathered k c.loop-place.place-iterator c.loop-place.touched.items) (sym c.self.view_is) c.loop-place.invariant in
    let here = subst (λ (left : List (ℕ × ℕ)). Gathered kept left c.loop-place.touched.items) (turn ((goal.at.index-page-requires c).In-Some)) on in
    omega (arith, (first_page kept _ _ c.loop-place.touched.items none c.self.invariant.2 here).0, c.self.inside.pages.ok.0)

pub loop-place-preserved-in-Continue-1 : goal.loop-place-preserved-in-Continue-1
loop-place-preserved-in-Continue-1 c =
    let kept : Kept = record { loaded = c.self.inside.image.now; pages = c.self.inside.pages.items; reached = c.self.inside.segment.entries } in
    let page = c.index-page.result.now in
    let on = subst (λ (k : Kept). Gathered k c.loop-place.place-iterator c.loop-place.touched.items) (sym c.self.view_is) c.loop-place.invariant in
    let here = subst (λ (left : List (ℕ × ℕ)). Gathered kept left c.loop-place.touched.items) (turn ((goal.at.loop-place-preserved-in-Continue-1 c).In-Some)) on in
    let first = subst (IsFirst kept _) (sym c.index-page.ensures) (first_page kept _ _ c.loop-place.touched.items page c.self.invariant.2 here).1 in
    subst (λ (k : Kept). Gathered k c.next.new.self c.push.new.self.items) c.self.view_is
    (subst (Gathered kept c.next.new.self) (sym c.in_ok-push.ensures.items)
    (gathered_more kept _ _ c.loop-place.touched.items page here first (c.has_access.ensures.accessed c.if-has_access.true)))

pub loop-place-preserved : goal.loop-place-preserved
loop-place-preserved c =
    let kept : Kept = record { loaded = c.self.inside.image.now; pages = c.self.inside.pages.items; reached = c.self.inside.segment.entries } in
    let page = c.index-page.result.now in
    let on = subst (λ (k : Kept). Gathered k c.loop-place.place-iterator c.loop-place.touched.items) (sym c.self.view_is) c.loop-place.invariant in
    let here = subst (λ (left : List (ℕ × ℕ)). Gathered kept left c.loop-place.touched.items) (turn ((goal.at.loop-place-preserved c).In-Some)) on in
    let first = subst (IsFirst kept _) (sym c.index-page.ensures) (first_page kept _ _ c.loop-place.touched.items page c.self.invariant.2 here).1 in
    subst (λ (k : Kept). Gathered k c.next.new.self c.loop-place.touched.items) c.self.view_is
    (gathered_past kept _ _ c.loop-place.touched.items page here first (c.has_access.ensures.idle c.if-has_access.false))

pub returns : goal.returns
returns c =
    let kept : Kept = record { loaded = c.self.inside.image.now; pages = c.self.inside.pages.items; reached = c.self.inside.segment.entries } in
    let on = subst (λ (k : Kept). Gathered k c.loop-place.place-iterator c.loop-place.touched.items) (sym c.self.view_is) c.loop-place.invariant in
    let over : c.loop-place.place-iterator ≡ [] = (rw c.in-None.is at c.next.ensures.steps).0 in
    subst (λ (k : Kept). AreTouched (began_of k) (now_of k) (times_of k) c.loop-place.touched.items) c.self.view_is
    (gathered_all kept c.loop-place.touched.items c.self.invariant.0 c.self.invariant.2 (subst (λ (left : List (ℕ × ℕ)). Gathered kept left c.loop-place.touched.items) over on))
