use Rattle.std.proofs.Common.{◌≡◌, ℕ, Some, get_or, set, sym, ap, ◌∙◌, subst, refl, arith, [], cond, nat_eq}
use Rattle.vm_trace.specs.declared.page.Touched.{Touched}
use Rattle.vm_trace.specs.Pages.{IsWhole}
use Rattle.vm_executor.specs.Pages.{IsPut}
use Rattle.vm_executor.specs.Memory.{IsReached, Kept, PutBlock, label_of, block_in, entry_at, page_at, place_at}
use Rattle.vm_executor.proofs.KeepLemmas.{PutPage, AreKept-set, place-set, page-set, put_in}
use Rattle.vm_executor.proofs.SegmentLemmas.{reached_page, segment_set}
use Rattle.vm_executor.proofs.memory.Memory.put.Goals as goal

pub index_mut-requires : goal.index_mut-requires
index_mut-requires c =
    let kept : Kept = record { loaded = c.self.inside.image.now; pages = c.self.inside.pages.items; reached = c.self.inside.segment.entries } in
    let reached = subst (λ (k : Kept). IsReached k c.args.block.now) (sym c.self.view_is) c.requires.reached in
    let none : Touched = record { label = 0; old = []; new = []; times = [] } in
    omega (arith, (reached_page kept c.args.block.now none c.self.invariant.2 reached).within, c.self.inside.pages.ok.0)

pub invariant_of-self : goal.invariant_of-self
invariant_of-self c =
    let kept : Kept = record { loaded = c.self.inside.image.now; pages = c.self.inside.pages.items; reached = c.self.inside.segment.entries } in
    let reached = subst (λ (k : Kept). IsReached k c.args.block.now) (sym c.self.view_is) c.requires.reached in
    let block = c.args.block.now in
    let page = c.put.new.page in
    let before = c.index_mut.result.now in
    let there = reached_page kept block before c.self.invariant.2 reached in
    let put : IsPut (get_or kept.pages block.page before) page (block_in block.pointer) c.args.word c.args.time = subst (λ (p : Touched). IsPut p page (block_in block.pointer) c.args.word c.args.time) c.index_mut.ensures.value c.put.ensures.put in
    let whole : IsWhole page = c.put.ensures.whole (subst IsWhole (sym c.index_mut.ensures.value) (c.self.invariant.0.whole block.page before there.within)) in
    let labelled : page.label ≡ label_of block.space block.pointer = put.label_is ∙ there.labelled in (
      AreKept-set kept.pages block.page (block_in block.pointer) page before c.args.word c.args.time there.within c.requires.begun whole put c.self.invariant.0,
      λ l. c.self.invariant.1 l ∙ sym (place-set kept.pages block.page page before l there.within put.label_is),
      segment_set kept.loaded kept.pages kept.reached block.page page before put.label_is (ap (entry_at kept.reached) labelled ∙ reached.at) c.self.invariant.2,
    )

pub returns-clause-put : goal.returns-clause-put
returns-clause-put c =
    let kept : Kept = record { loaded = c.self.inside.image.now; pages = c.self.inside.pages.items; reached = c.self.inside.segment.entries } in
    let reached = subst (λ (k : Kept). IsReached k c.args.block.now) (sym c.self.view_is) c.requires.reached in
    let block = c.args.block.now in
    let s = block.space in
    let p = block.pointer in
    let page = c.put.new.page in
    let before = c.index_mut.result.now in
    let new : Kept = record { loaded = kept.loaded; pages = set kept.pages block.page page; reached = kept.reached } in
    let there = reached_page kept block before c.self.invariant.2 reached in
    let at : place_at kept.pages (label_of s p) ≡ Some block.page = c.self.invariant.2.stands (label_of s p) block.page reached.at in
    let put : IsPut (get_or kept.pages block.page before) page (block_in p) c.args.word c.args.time = subst (λ (q : Touched). IsPut q page (block_in p) c.args.word c.args.time) c.index_mut.ensures.value c.put.ensures.put in
    let label : page.label ≡ label_of s p = put.label_is ∙ there.labelled in
    let puts : PutPage kept new s p page = record {
      same = refl;
      put = λ l. page-set kept.pages block.page page before l put.label_is (ap (place_at kept.pages) label ∙ at) ∙ ap (λ (n : ℕ). cond (nat_eq n l) (Some page) (page_at kept.pages l)) label;
    } in
    subst (λ (k : Kept). PutBlock k new s p c.args.word c.args.time) c.self.view_is
    (put_in kept new s p (get_or kept.pages block.page before) page c.args.word c.args.time reached.on puts there.page put)
