use Rattle.std.proofs.Common.{Bool, Option, nat_cmp, ◌≡◌, ℕ, Some, None, List, length, cond, nat_eq, sym, ap, ◌∙◌, subst, refl}
use Rattle.std.specs.BTreeMap.{get}
use Rattle.std.proofs.lemmas.Bool.{cond-true, eq-eqb}
use Rattle.vm_trace.specs.declared.page.Touched.{Touched}
use Rattle.vm_trace.specs.Pages.{IsMachineLabel}
use Rattle.vm_executor.specs.Memory.{AreKept, IsSegment, Kept, KeepsAll, label_of, page_at, place_at}
use Rattle.vm_executor.proofs.KeepLemmas.{PutPage, machine_label, same_key, AreKept-push, fresh_in, page-push, place-push, unplaced}
use Rattle.vm_executor.proofs.SegmentLemmas.{segment_push}
use Rattle.vm_executor.proofs.memory.Memory.own.Goals as goal

pub invariant_of-self-in_default-insert : goal.invariant_of-self-in_default-insert
invariant_of-self-in_default-insert c =
    let pages = c.self.inside.pages.items in
    let label = c.label_of-label.result in
    let none : place_at pages label ≡ None = sym (c.self.invariant.1 label) ∙ sym (rw c.in_default.is at c.get.ensures.value) in
    let updates = rw c.in_default-insert.is at c.insert.ensures.updates in
    let page = c.fresh_page.result in
    let none_of_page = ap (place_at pages) c.fresh_page.ensures.label ∙ none in (
      subst AreKept (sym c.in_ok-push.ensures.items)
          (AreKept-push c.self.inside.image.now pages page (subst IsMachineLabel (sym (c.fresh_page.ensures.label ∙ c.label_of-label.ensures)) (machine_label c.args.space c.args.pointer c.requires)) c.fresh_page.ensures.whole c.fresh_page.ensures.fresh c.self.invariant.0),
      λ l.
          updates.0 l
          ∙ ap (λ (b : Bool). cond b (Some c.len-place.result) (get nat_cmp c.self.inside.places l)) (same_key label l)
          ∙ ap (λ (o : Option ℕ). cond (nat_eq label l) (Some c.len-place.result) o) (c.self.invariant.1 l)
          ∙ ap (λ (n : ℕ). cond (nat_eq label l) (Some n) (place_at pages l)) (c.len-place.ensures ∙ c.self.inside.pages.ok.0)
          ∙ ap (λ (n : ℕ). cond (nat_eq n l) (Some (length pages)) (place_at pages l)) (sym c.fresh_page.ensures.label)
          ∙ sym (ap (λ (xs : List Touched). place_at xs l) c.in_ok-push.ensures.items ∙ place-push pages page l none_of_page),
      subst (λ (xs : List Touched). IsSegment (record { loaded = c.self.inside.image.now; pages = xs; reached = c.self.inside.segment.entries })) (sym c.in_ok-push.ensures.items)
          (segment_push c.self.inside.image.now pages c.self.inside.segment.entries page none_of_page c.fresh_page.ensures.fresh c.self.invariant.2),
    )

pub returns-clause-place : goal.returns-clause-place
returns-clause-place c =
    let pages = c.self.inside.pages.items in
    let label = c.label_of-label.result in
    let page = c.fresh_page.result in
    let none : place_at pages label ≡ None = sym (c.self.invariant.1 label) ∙ sym (rw c.in_default.is at c.get.ensures.value) in
    ap (place_at c.push.new.self.items) (sym c.label_of-label.ensures)
    ∙ ap (λ (xs : List Touched). place_at xs label) c.in_ok-push.ensures.items
    ∙ place-push pages page label (ap (place_at pages) c.fresh_page.ensures.label ∙ none)
    ∙ cond-true _ _ _ (eq-eqb page.label label c.fresh_page.ensures.label) ∙ ap Some (sym (c.len-place.ensures ∙ c.self.inside.pages.ok.0))

pub returns-clause-keeps : goal.returns-clause-keeps
returns-clause-keeps c =
    let pages = c.self.inside.pages.items in
    let entries = c.self.inside.segment.entries in
    let label = c.label_of-label.result in
    let page = c.fresh_page.result in
    let none : place_at pages label ≡ None = sym (c.self.invariant.1 label) ∙ sym (rw c.in_default.is at c.get.ensures.value) in
    let old : Kept = record { loaded = c.self.inside.image.now; pages = pages; reached = entries } in
    let new : Kept = record { loaded = c.self.inside.image.now; pages = c.push.new.self.items; reached = entries } in
    let is : page.label ≡ label_of c.args.space c.args.pointer = c.fresh_page.ensures.label ∙ c.label_of-label.ensures in
    let was = unplaced pages label none in
    let put : PutPage old new c.args.space c.args.pointer page = record {
      same = refl;
      put = λ l. ap (λ (xs : List Touched). page_at xs l) c.in_ok-push.ensures.items ∙ page-push pages page l (ap (page_at pages) c.fresh_page.ensures.label ∙ was)
          ∙ ap (λ (n : ℕ). cond (nat_eq n l) (Some page) (page_at pages l)) is;
    } in
    subst (λ (k : Kept). KeepsAll k new) c.self.view_is
    (fresh_in old new c.args.space c.args.pointer page c.requires is put (ap (page_at pages) (sym c.label_of-label.ensures) ∙ was) c.fresh_page.ensures.fresh)
