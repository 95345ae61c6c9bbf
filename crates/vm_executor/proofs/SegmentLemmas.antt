-- The pages that were reached in a segment.
use Rattle.std.proofs.Common.{◌≡◌, ℕ, Bool, false, cond, nat_eq, List, [], ◌∷◌, ◌++◌, length, get_or, set, replicate, Option, Some, None, refl, sym, ap, ◌∙◌, subst}
use Rattle.std.specs.Option.{option_map}
use Rattle.std.proofs.lemmas.Bool.{eqb-true}
use Rattle.elf_image.specs.Loaded.{Loaded}
use Rattle.vm_trace.specs.declared.page.Touched.{Touched}
use Rattle.vm_executor.specs.Pages.{begun_page}
use Rattle.vm_executor.specs.Memory.{Kept, IsReached, entry_at, label_of, place_at, page_at, IsAtRest, IsFresh, IsSegment}
use Rattle.vm_executor.specs.declared.block.Reached.{Reached}
use Rattle.vm_executor.proofs.KeepLemmas.{Placed, by_test, placed, unplaced, page-push, place-push, page-set, place-set}

-- the page of a block that was reached
pub reached_page : (kept : Kept) (block : Reached) (d : Touched) → IsSegment kept → IsReached kept block → Placed kept.pages (label_of block.space block.pointer) block.page d
reached_page kept block d segment reached = placed kept.pages (label_of block.space block.pointer) block.page d (segment.stands (label_of block.space block.pointer) block.page reached.at)

-- nothing was reached
pub segment_begins : (loaded : Loaded) → IsSegment (record { loaded = loaded; pages = []; reached = [] })
unfolding page_at
segment_begins loaded = record { stands = λ label place h. absurd (let no : None ≡ Some place = h in cc); rests = λ label h. tt }

-- a page more
pub segment_push : (loaded : Loaded) (pages : List Touched) (reached : List (ℕ × ℕ)) (page : Touched) → place_at pages page.label ≡ None → IsFresh loaded page → IsSegment (record { loaded = loaded; pages = pages; reached = reached })
    → IsSegment (record { loaded = loaded; pages = pages ++ page ∷ []; reached = reached })
segment_push loaded pages reached page none fresh segment = record {
  stands = λ label place h.
      let at = segment.stands label place h in
      place-push pages page label none
      ∙ by_test (nat_eq page.label label)
      (λ e. absurd (let no : None ≡ Some place = sym none ∙ ap (place_at pages) (eqb-true page.label label e) ∙ at in cc))
      (λ e. ap (λ (b : Bool). cond b (Some (length pages)) (place_at pages label)) e ∙ at);
  rests = λ label h.
      subst IsAtRest (sym (page-push pages page label (unplaced pages page.label none)))
      (by_test (nat_eq page.label label)
      (λ e. subst (λ (b : Bool). IsAtRest (cond b (Some page) (page_at pages label))) (sym e) rest)
      (λ e. subst (λ (b : Bool). IsAtRest (cond b (Some page) (page_at pages label))) (sym e) (segment.rests label h)));
}
  where
    rest : begun_page page ≡ page
    rest =
        ap (λ (old : List ℕ). record { label = page.label; old = old; new = page.new; times = replicate 16 0 }) (sym fresh.same)
        ∙ ap (λ (times : List ℕ). record { label = page.label; old = page.old; new = page.new; times = times }) (sym fresh.times)

-- a page that was reached is another one
pub segment_set : (loaded : Loaded) (pages : List Touched) (reached : List (ℕ × ℕ)) (k : ℕ) (page d : Touched) → page.label ≡ (get_or pages k d).label → entry_at reached page.label ≡ Some k
    → IsSegment (record { loaded = loaded; pages = pages; reached = reached }) → IsSegment (record { loaded = loaded; pages = set pages k page; reached = reached })
segment_set loaded pages reached k page d same at segment =
    let here = segment.stands page.label k at in
    let within = (placed pages page.label k d here).within in
    record {
      stands = λ label place h. place-set pages k page d label within same ∙ segment.stands label place h;
      rests = λ label h.
          subst IsAtRest (sym (page-set pages k page d label same here))
          (by_test (nat_eq page.label label)
          (λ e. absurd (let no : Some k ≡ None = sym at ∙ ap (entry_at reached) (eqb-true page.label label e) ∙ h in cc))
          (λ e. subst (λ (b : Bool). IsAtRest (cond b (Some page) (page_at pages label))) (sym e) (segment.rests label h)));
    }

-- ---- where a segment begins

-- The pages that are still to begin are as they were, and the others have begun.
pub record Beginning (start pages : List Touched) (reached : List (ℕ × ℕ)) : Type 0 where
  pub places : (label : ℕ) → place_at pages label ≡ place_at start label
  pub stands : (label place : ℕ) → entry_at reached label ≡ Some place → place_at start label ≡ Some place
  pub waits : (label place : ℕ) → entry_at reached label ≡ Some place → page_at pages label ≡ page_at start label
  pub begun : (label : ℕ) → entry_at reached label ≡ None → page_at pages label ≡ option_map begun_page (page_at start label)

rest_begun : (o : Option Touched) → IsAtRest o → o ≡ option_map begun_page o
rest_begun None h = refl
rest_begun (Some page) h = ap Some (sym h)

pub beginning_starts : (loaded : Loaded) (pages : List Touched) (reached : List (ℕ × ℕ)) → IsSegment (record { loaded = loaded; pages = pages; reached = reached }) → Beginning pages pages reached
beginning_starts loaded pages reached segment = record {
  places = λ label. refl;
  stands = segment.stands;
  waits = λ label place h. refl;
  begun = λ label h. rest_begun (page_at pages label) (segment.rests label h);
}

pub beginning_goes_on : (start pages : List Touched) (old new : List (ℕ × ℕ)) (label place : ℕ) (page d : Touched) → Beginning start pages old → entry_at old label ≡ Some place → ((l : ℕ) → entry_at new l ≡ cond (nat_eq label l) None (entry_at old l))
    → page ≡ begun_page (get_or pages place d) → Beginning start (set pages place page) new
beginning_goes_on start pages old new label place page d on at is begun =
    let there = placed pages label place d (on.places label ∙ on.stands label place at) in
    let same : page.label ≡ (get_or pages place d).label = ap (λ (p : Touched). p.label) begun in
    let labelled : page.label ≡ label = same ∙ there.labelled in
    let here : place_at pages page.label ≡ Some place = ap (place_at pages) labelled ∙ on.places label ∙ on.stands label place at in
    let set_is : (l : ℕ) → page_at (set pages place page) l ≡ cond (nat_eq label l) (Some page) (page_at pages l) =
    λ l. page-set pages place page d l same here ∙ ap (λ (n : ℕ). cond (nat_eq n l) (Some page) (page_at pages l)) labelled in
    let other : (l : ℕ) (o : Option ℕ) → nat_eq label l ≡ false → entry_at new l ≡ o → entry_at old l ≡ o = λ l o e h. ap (λ (b : Bool). cond b None (entry_at old l)) (sym e) ∙ sym (is l) ∙ h in
    record {
      places = λ l. place-set pages place page d l there.within same ∙ on.places l;
      stands = λ l k h. by_test (nat_eq label l)
          (λ e. absurd (let no : None ≡ Some k = ap (λ (b : Bool). cond b None (entry_at old l)) (sym e) ∙ sym (is l) ∙ h in cc))
          (λ e. on.stands l k (other l (Some k) e h));
      waits = λ l k h. by_test (nat_eq label l)
          (λ e. absurd (let no : None ≡ Some k = ap (λ (b : Bool). cond b None (entry_at old l)) (sym e) ∙ sym (is l) ∙ h in cc))
          (λ e. set_is l ∙ ap (λ (b : Bool). cond b (Some page) (page_at pages l)) e ∙ on.waits l k (other l (Some k) e h));
      begun = λ l h. by_test (nat_eq label l)
          (λ e.
          let one = eqb-true label l e in
          let was : page_at start l ≡ Some (get_or pages place d) = sym (on.waits l place (ap (entry_at old) (sym one) ∙ at)) ∙ ap (page_at pages) (sym one) ∙ there.page in
          set_is l ∙ ap (λ (b : Bool). cond b (Some page) (page_at pages l)) e ∙ ap Some begun ∙ sym (ap (option_map begun_page) was))
          (λ e. set_is l ∙ ap (λ (b : Bool). cond b (Some page) (page_at pages l)) e ∙ on.begun l (other l None e h));
    }

pub beginning_ends : (loaded : Loaded) (start pages : List Touched) → Beginning start pages [] → IsSegment (record { loaded = loaded; pages = pages; reached = [] })
beginning_ends loaded start pages on = record {
  stands = λ label place h. absurd (let no : None ≡ Some place = h in cc);
  rests = λ label h. subst IsAtRest (sym (on.begun label h)) (go (page_at start label));
}
  where
    go : (o : Option Touched) → IsAtRest (option_map begun_page o)
    go None = tt
    go (Some page) = refl
