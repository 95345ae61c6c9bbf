-- Pages by their labels, and what the blocks are after one of them was put.
use Rattle.std.proofs.Common.{◌≡◌, ◌≢◌, inl, inr, ℕ, zero, suc, ◌+◌, ◌/◌, ◌%◌, ◌<◌, ◌≤◌, ◌&&◌, Bool, true, false, cond, nat_eq, nat_lt, List, [], ◌∷◌, ◌++◌, length, get_or, set, slice_index, replicate, Option, Some, None, refl, sym, ap, ◌∙◌, subst, ⊎_elim, arith}
use Rattle.std.specs.Option.{option_map}
use Rattle.std.specs.Ordering.{is_eq, nat_cmp}
use Rattle.std.specs.Cmp.{nat_cmp_is}
use Rattle.std.specs.declared.cmp.Ordering.TheVariants.{Less, Equal, Greater}
use Rattle.std.proofs.Math.Path.{fun_ext}
use Rattle.std.proofs.lemmas.Bool.{cases_eq, cases_lt, and_parts, ltb-true, eqb-true, eq-eqb, ne_eqb, both_ways}
use Rattle.std.proofs.lemmas.List.Elements.{All-nil, All-cons, All-append, All-set}
use Rattle.elf_image.specs.Loaded.{Loaded}
use Rattle.vm_isa.specs.Blocks.{Blocks, is_block, space_size, with_block}
use Rattle.vm_isa.proofs.SpaceLaws.{block_low}
use Rattle.vm_trace.specs.declared.page.Touched.{Touched}
use Rattle.vm_trace.specs.Pages.{block_word, page_space, block_pointer, IsMachineLabel, IsWhole}
use Rattle.vm_transpile.specs.Start.{start_blocks}
use Rattle.vm_executor.specs.Machine.{with_time}
use Rattle.vm_executor.specs.Pages.{IsPut, begun_page, never}
use Rattle.vm_executor.specs.Memory.{Kept, place_at, page_at, label_of, block_in, word_by, time_by, blocks_by, now_of, began_of, times_of, AreKept, IsIdle, PutBlock, IsFresh, KeepsAll, Begins}

pub by_test : {P : Type 0} (b : Bool) → (b ≡ true → P) → (b ≡ false → P) → P
by_test true holds fails = holds refl
by_test false holds fails = fails refl

some_same : {A : Type 0} (x y : A) → (Some x) ≡ (Some y) → x ≡ y
some_same x y h = cc

-- ---- places

pub record Placed (pages : List Touched) (label k : ℕ) (d : Touched) : Type 0 where
  pub within : k < length pages
  pub page : page_at pages label ≡ Some (get_or pages k d)
  pub labelled : (get_or pages k d).label ≡ label

placed_by : (page : Touched) (pages : List Touched) (label k : ℕ) (d : Touched) (b : Bool) → nat_eq page.label label ≡ b → ((j : ℕ) → place_at pages label ≡ Some j → Placed pages label j d)
    → cond b (Some 0) (option_map (λ n. n + 1) (place_at pages label)) ≡ Some k → Placed (page ∷ pages) label k d
unfolding page_at
placed_by page pages label zero d true e rest h = record { within = omega arith; page = rw e refl; labelled = eqb-true page.label label e }
placed_by page pages label (suc k) d true e rest h = absurd (let no : 0 ≡ suc k = some_same 0 (suc k) h in omega arith)
placed_by page pages label k d false e rest h = go (place_at pages label) refl h
  where
    go : (o : Option ℕ) → place_at pages label ≡ o → option_map (λ n. n + 1) o ≡ Some k → Placed (page ∷ pages) label k d
    go None f g = absurd (cc)
    go (Some j) f g =
        let next : suc j ≡ k = (let s : j + 1 ≡ k = some_same (j + 1) k g in omega arith) in
        let at = rest j f in
        subst (λ (n : ℕ). Placed (page ∷ pages) label n d) next (record { within = omega (arith, at.within); page = rw e at.page; labelled = at.labelled })

pub placed : (pages : List Touched) (label k : ℕ) (d : Touched) → place_at pages label ≡ Some k → Placed pages label k d
unfolding place_at
placed [] label k d h = absurd (cc)
placed (page ∷ pages) label k d h = placed_by page pages label k d (nat_eq page.label label) refl (λ j. placed pages label j d) h

pub unplaced : (pages : List Touched) (label : ℕ) → place_at pages label ≡ None → page_at pages label ≡ None
unfolding place_at page_at
unplaced [] label h = refl
unplaced (page ∷ pages) label h = by_test (nat_eq page.label label) (λ e. absurd (let no : Some 0 ≡ None = rw e at h in cc)) (λ e. rw e (unplaced pages label (none_of (place_at pages label) (rw e at h))))
  where
    none_of : (o : Option ℕ) → option_map (λ n. n + 1) o ≡ None → o ≡ None
    none_of None f = refl
    none_of (Some j) f = absurd (cc)

-- ---- a page more

pub page-push : (pages : List Touched) (page : Touched) (label : ℕ) → page_at pages page.label ≡ None → page_at (pages ++ page ∷ []) label ≡ cond (nat_eq page.label label) (Some page) (page_at pages label)
unfolding page_at
page-push [] page label h = refl
page-push (p ∷ pages) page label h =
    by_test (nat_eq p.label page.label)
    (λ e. absurd (let no : Some p ≡ None = rw e at h in cc))
    (λ e. by_test (nat_eq p.label label)
    (λ f. rw (f, ne_eqb page.label label (λ g. both_ways (nat_eq p.label page.label) e (eq-eqb p.label page.label (eqb-true p.label label f ∙ sym g)))) refl)
    (λ f. rw f (page-push pages page label (rw e at h))))

pub place-push : (pages : List Touched) (page : Touched) (label : ℕ) → place_at pages page.label ≡ None → place_at (pages ++ page ∷ []) label ≡ cond (nat_eq page.label label) (Some (length pages)) (place_at pages label)
unfolding place_at
place-push [] page label h = refl
place-push (p ∷ pages) page label h =
    by_test (nat_eq p.label page.label)
    (λ e. absurd (let no : Some 0 ≡ None = rw e at h in cc))
    (λ e.
    let none = none_of (place_at pages page.label) (rw e at h) in
    by_test (nat_eq p.label label)
    (λ f. rw (f, ne_eqb page.label label (λ g. both_ways (nat_eq p.label page.label) e (eq-eqb p.label page.label (eqb-true p.label label f ∙ sym g)))) refl)
    (λ f. rw f (ap (option_map (λ n. n + 1)) (place-push pages page label none) ∙ mapped (nat_eq page.label label) (place_at pages label))))
  where
    none_of : (o : Option ℕ) → option_map (λ n. n + 1) o ≡ None → o ≡ None
    none_of None f = refl
    none_of (Some j) f = absurd (cc)

    mapped : (b : Bool) (o : Option ℕ) → option_map (λ n. n + 1) (cond b (Some (length pages)) o) ≡ cond b (Some (length (p ∷ pages))) (option_map (λ n. n + 1) o)
    mapped true o = let next : length pages + 1 ≡ suc (length pages) = omega arith in ap Some next
    mapped false o = refl

-- ---- a page in the place of one of its label

pub place-set : (pages : List Touched) (k : ℕ) (page d : Touched) (label : ℕ) → k < length pages → page.label ≡ (get_or pages k d).label → place_at (set pages k page) label ≡ place_at pages label
unfolding place_at
place-set [] k page d label h e = absurd (omega arith)
place-set (p ∷ pages) zero page d label h e = ap (λ (n : ℕ). cond (nat_eq n label) (Some 0) (option_map (λ n. n + 1) (place_at pages label))) e
place-set (p ∷ pages) (suc k) page d label h e = ap (λ o. cond (nat_eq p.label label) (Some 0) (option_map (λ n. n + 1) o)) (place-set pages k page d label (omega arith) e)

pub page-set : (pages : List Touched) (k : ℕ) (page d : Touched) (label : ℕ) → page.label ≡ (get_or pages k d).label → place_at pages page.label ≡ Some k → page_at (set pages k page) label ≡ cond (nat_eq page.label label) (Some page) (page_at pages label)
unfolding page_at place_at
page-set [] k page d label e h = absurd (cc)
page-set (p ∷ pages) zero page d label e h =
    by_test (nat_eq page.label label)
    (λ f. rw f refl)
    (λ f. rw (f, ap (λ (n : ℕ). nat_eq n label) (sym e) ∙ f) refl)
page-set (p ∷ pages) (suc k) page d label e h =
    by_test (nat_eq p.label page.label)
    (λ f. absurd (let no : 0 ≡ suc k = some_same 0 (suc k) (rw f at h) in omega arith))
    (λ f.
    let below = below_of (place_at pages page.label) (rw f at h) in
    by_test (nat_eq p.label label)
    (λ g. rw (g, ne_eqb page.label label (λ i. both_ways (nat_eq p.label page.label) f (eq-eqb p.label page.label (eqb-true p.label label g ∙ sym i)))) refl)
    (λ g. rw g (page-set pages k page d label e below)))
  where
    below_of : (o : Option ℕ) → option_map (λ n. n + 1) o ≡ Some (suc k) → o ≡ Some k
    below_of None g = absurd (cc)
    below_of (Some j) g = let same : j ≡ k = (let s : j + 1 ≡ suc k = some_same (j + 1) (suc k) g in omega arith) in ap Some same

-- ---- blocks and their pages

pub one_block : (s p s' p' : ℕ) → is_block s p ≡ true → is_block s' p' ≡ true → label_of s p ≡ label_of s' p' → block_in p ≡ block_in p' → (s' ≡ s) × (p' ≡ p)
one_block s p s' p' h h' label block =
    let low = block_low s p h in
    let low' = block_low s' p' h' in
    let space : s' ≡ s = omega (arith, low.1, low'.1, label) in
    let leaf : p / 64 ≡ p' / 64 = omega (arith, label, space) in
    (space, omega (arith, low.0, low'.0, block, leaf))

itself : (s p s' p' : ℕ) → (nat_eq s' s && nat_eq p' p) ≡ true → (s' ≡ s) × (p' ≡ p)
itself s p s' p' h = let parts = and_parts (nat_eq s' s) (nat_eq p' p) h in (eqb-true s' s parts.0, eqb-true p' p parts.1)

-- the page of a block was put, and no other
pub record PutPage (old new : Kept) (space pointer : ℕ) (page : Touched) : Type 0 where
  pub same : new.loaded ≡ old.loaded
  pub put : (label : ℕ) → page_at new.pages label ≡ cond (nat_eq (label_of space pointer) label) (Some page) (page_at old.pages label)

-- what the blocks are then, by what the page's block is
put_block : (side : Touched → List ℕ) (old new : Kept) (s p : ℕ) (before page : Touched) (word : List ℕ) → is_block s p ≡ true → PutPage old new s p page → page_at old.pages (label_of s p) ≡ Some before
    → block_word (side page) (block_in p) ≡ word → ((other : ℕ) → other ≢ block_in p → block_word (side page) other ≡ block_word (side before) other)
    → (s' p' : ℕ) → blocks_by side new s' p' ≡ with_block (blocks_by side old) s p word s' p'
unfolding blocks_by
put_block side old new s p before page word h put was here others s' p' =
    by_test (is_block s' p')
    (λ b.
    by_test (nat_eq (label_of s p) (label_of s' p'))
    (λ e.
    let label = eqb-true (label_of s p) (label_of s' p') e in
    let there : page_at old.pages (label_of s' p') ≡ Some before = ap (page_at old.pages) (sym label) ∙ was in
    ⊎_elim
    (λ (same : block_in p' ≡ block_in p).
    let one = one_block s p s' p' h b label (sym same) in
    rw (b, put.put (label_of s' p'), e, eq-eqb s' s one.0, eq-eqb p' p one.1) (ap (block_word (side page)) same ∙ here))
    (λ (other : block_in p' ≡ block_in p → ⊥).
    let apart : (nat_eq s' s && nat_eq p' p) ≡ false = by_test (nat_eq s' s && nat_eq p' p) (λ t. absurd (other (ap block_in (itself s p s' p' t).1))) (λ f. f) in
    rw (b, put.put (label_of s' p'), e, apart, there) (others (block_in p') other))
    (cases_eq (block_in p') (block_in p)))
    (λ e.
    let apart : (nat_eq s' s && nat_eq p' p) ≡ false =
    by_test (nat_eq s' s && nat_eq p' p) (λ t. absurd (let one = itself s p s' p' t in both_ways (nat_eq (label_of s p) (label_of s' p')) e (eq-eqb (label_of s p) (label_of s' p') (ap (λ (a : ℕ). label_of a p) (sym one.0) ∙ ap (label_of s') (sym one.1))))) (λ f. f) in
    rw (b, put.put (label_of s' p'), e, apart, put.same) refl))
    (λ b.
    let apart : (nat_eq s' s && nat_eq p' p) ≡ false =
    by_test (nat_eq s' s && nat_eq p' p) (λ t. absurd (let one = itself s p s' p' t in both_ways (is_block s' p') b (ap (λ (a : ℕ). is_block a p') one.0 ∙ ap (is_block s) one.1 ∙ h))) (λ f. f) in
    rw (b, apart, put.same) refl)

kept_word : (side : Touched → List ℕ) (old : Kept) (s p : ℕ) (before : Touched) → is_block s p ≡ true → page_at old.pages (label_of s p) ≡ Some before → blocks_by side old s p ≡ block_word (side before) (block_in p)
unfolding blocks_by
kept_word side old s p before h was = rw (h, was) refl

unchanged : (blocks : Blocks) (s p : ℕ) (word : List ℕ) → blocks s p ≡ word → with_block blocks s p word ≡ blocks
unchanged blocks s p word h = fun_ext (λ s'. fun_ext (λ p'. by_test (nat_eq s' s && nat_eq p' p) (λ e. let one = itself s p s' p' e in rw e (sym h ∙ ap (λ (a : ℕ). blocks a p) (sym one.0) ∙ ap (blocks s') (sym one.1))) (λ e. rw e refl)))

put_time : (old new : Kept) (s p : ℕ) (before page : Touched) (time : ℕ) → is_block s p ≡ true → PutPage old new s p page → page_at old.pages (label_of s p) ≡ Some before
    → slice_index page.times (block_in p) ≡ time → ((other : ℕ) → other ≢ block_in p → slice_index page.times other ≡ slice_index before.times other)
    → (s' p' : ℕ) → times_of new s' p' ≡ with_time (times_of old) s p time s' p'
unfolding times_of
put_time old new s p before page time h put was here others s' p' =
    by_test (is_block s' p')
    (λ b.
    by_test (nat_eq (label_of s p) (label_of s' p'))
    (λ e.
    let label = eqb-true (label_of s p) (label_of s' p') e in
    let there : page_at old.pages (label_of s' p') ≡ Some before = ap (page_at old.pages) (sym label) ∙ was in
    ⊎_elim
    (λ (same : block_in p' ≡ block_in p).
    let one = one_block s p s' p' h b label (sym same) in
    rw (b, put.put (label_of s' p'), e, eq-eqb s' s one.0, eq-eqb p' p one.1) (ap (slice_index page.times) same ∙ here))
    (λ (other : block_in p' ≡ block_in p → ⊥).
    let apart : (nat_eq s' s && nat_eq p' p) ≡ false = by_test (nat_eq s' s && nat_eq p' p) (λ t. absurd (other (ap block_in (itself s p s' p' t).1))) (λ f. f) in
    rw (b, put.put (label_of s' p'), e, apart, there) (others (block_in p') other))
    (cases_eq (block_in p') (block_in p)))
    (λ e.
    let apart : (nat_eq s' s && nat_eq p' p) ≡ false =
    by_test (nat_eq s' s && nat_eq p' p) (λ t. absurd (let one = itself s p s' p' t in both_ways (nat_eq (label_of s p) (label_of s' p')) e (eq-eqb (label_of s p) (label_of s' p') (ap (λ (a : ℕ). label_of a p) (sym one.0) ∙ ap (label_of s') (sym one.1))))) (λ f. f) in
    rw (b, put.put (label_of s' p'), e, apart) refl))
    (λ b.
    let apart : (nat_eq s' s && nat_eq p' p) ≡ false =
    by_test (nat_eq s' s && nat_eq p' p) (λ t. absurd (let one = itself s p s' p' t in both_ways (is_block s' p') b (ap (λ (a : ℕ). is_block a p') one.0 ∙ ap (is_block s) one.1 ∙ h))) (λ f. f) in
    rw (b, apart) refl)

pub put_in : (old new : Kept) (s p : ℕ) (before page : Touched) (word : List ℕ) (time : ℕ) → is_block s p ≡ true → PutPage old new s p page → page_at old.pages (label_of s p) ≡ Some before → IsPut before page (block_in p) word time
    → PutBlock old new s p word time
put_in old new s p before page word time h put was is = record {
  now = fun_ext (λ s'. fun_ext (λ p'. put_block (λ page. page.new) old new s p before page word h put was is.word_is is.others s' p'));
  began = fun_ext (λ s'. fun_ext (λ p'. put_block (λ page. page.old) old new s p before page (block_word before.old (block_in p)) h put was (ap (λ (xs : List ℕ). block_word xs (block_in p)) is.start_is) (λ other e. ap (λ (xs : List ℕ). block_word xs other) is.start_is) s' p'))
      ∙ unchanged (began_of old) s p (block_word before.old (block_in p)) (kept_word (λ page. page.old) old s p before h was);
  times = fun_ext (λ s'. fun_ext (λ p'. put_time old new s p before page time h put was is.time_is is.other_times s' p'));
}

-- ---- a page that is kept from now on

pub place_of_block : (s p label : ℕ) → is_block s p ≡ true → label ≡ label_of s p → (page_space label ≡ s) × (block_pointer label (block_in p) ≡ p) × (block_in p < 16)
place_of_block s p label h e =
    let low = block_low s p h in
    (omega (arith, low.1, e), omega (arith, low.0, low.1, e), omega arith)

fresh_block : (side : Touched → List ℕ) (old new : Kept) (s p : ℕ) (page : Touched) → is_block s p ≡ true → page.label ≡ label_of s p → PutPage old new s p page → page_at old.pages (label_of s p) ≡ None
    → ((block : ℕ) → block < 16 → block_word (side page) block ≡ start_blocks old.loaded (page_space page.label) (block_pointer page.label block))
    → (s' p' : ℕ) → blocks_by side new s' p' ≡ blocks_by side old s' p'
unfolding blocks_by
fresh_block side old new s p page h is put was words s' p' =
    by_test (is_block s' p')
    (λ b.
    by_test (nat_eq (label_of s p) (label_of s' p'))
    (λ e.
    let label = eqb-true (label_of s p) (label_of s' p') e in
    let there : page_at old.pages (label_of s' p') ≡ None = ap (page_at old.pages) (sym label) ∙ was in
    let at = place_of_block s' p' page.label b (is ∙ label) in
    rw (b, put.put (label_of s' p'), e, there) (words (block_in p') at.2 ∙ ap (λ (a : ℕ). start_blocks old.loaded a (block_pointer page.label (block_in p'))) at.0 ∙ ap (start_blocks old.loaded s') at.1))
    (λ e. rw (b, put.put (label_of s' p'), e, put.same) refl))
    (λ b. rw (b, put.same) refl)

zero_time : (k : ℕ) → k < 16 → slice_index (replicate 16 0) k ≡ 0
zero_time k h = go 16 k
  where
    go : (n k : ℕ) → slice_index (replicate n 0) k ≡ 0
    go zero k = refl
    go (suc n) zero = refl
    go (suc n) (suc k) = go n k

fresh_time : (old new : Kept) (s p : ℕ) (page : Touched) → is_block s p ≡ true → PutPage old new s p page → page_at old.pages (label_of s p) ≡ None → page.times ≡ replicate 16 0 → (s' p' : ℕ) → times_of new s' p' ≡ times_of old s' p'
unfolding times_of
fresh_time old new s p page h put was times s' p' =
    by_test (is_block s' p')
    (λ b.
    by_test (nat_eq (label_of s p) (label_of s' p'))
    (λ e.
    let there : page_at old.pages (label_of s' p') ≡ None = ap (page_at old.pages) (sym (eqb-true (label_of s p) (label_of s' p') e)) ∙ was in
    rw (b, put.put (label_of s' p'), e, there) (ap (λ (xs : List ℕ). slice_index xs (block_in p')) times ∙ zero_time (block_in p') (omega arith)))
    (λ e. rw (b, put.put (label_of s' p'), e) refl))
    (λ b. rw b refl)

pub fresh_in : (old new : Kept) (s p : ℕ) (page : Touched) → is_block s p ≡ true → page.label ≡ label_of s p → PutPage old new s p page → page_at old.pages (label_of s p) ≡ None → IsFresh old.loaded page → KeepsAll old new
fresh_in old new s p page h is put was fresh = record {
  now = fun_ext (λ s'. fun_ext (λ p'. fresh_block (λ page. page.new) old new s p page h is put was fresh.words s' p'));
  began = fun_ext (λ s'. fun_ext (λ p'. fresh_block (λ page. page.old) old new s p page h is put was (λ block low. ap (λ (xs : List ℕ). block_word xs block) fresh.same ∙ fresh.words block low) s' p'));
  times = fun_ext (λ s'. fun_ext (λ p'. fresh_time old new s p page h put was fresh.times s' p'));
}

-- ---- where a segment begins

begun_word : (side : Touched → List ℕ) (old new : Kept) (s p : ℕ) → new.loaded ≡ old.loaded → ((label : ℕ) → page_at new.pages label ≡ option_map begun_page (page_at old.pages label))
    → ((page : Touched) → side (begun_page page) ≡ page.new) → blocks_by side new s p ≡ now_of old s p
unfolding blocks_by
begun_word side old new s p same pages is = by_test (is_block s p) (λ b. rw (b, pages (label_of s p), same) (go (page_at old.pages (label_of s p)))) (λ b. rw (b, same) refl)
  where
    go : (o : Option Touched) → word_by side (option_map begun_page o) (block_in p) (start_blocks old.loaded s p) ≡ word_by (λ page. page.new) o (block_in p) (start_blocks old.loaded s p)
    go None = refl
    go (Some page) = ap (λ (xs : List ℕ). block_word xs (block_in p)) (is page)

begun_time : (old new : Kept) (s p : ℕ) → ((label : ℕ) → page_at new.pages label ≡ option_map begun_page (page_at old.pages label)) → times_of new s p ≡ 0
unfolding times_of
begun_time old new s p pages = by_test (is_block s p) (λ b. rw (b, pages (label_of s p)) (go (page_at old.pages (label_of s p)))) (λ b. rw b refl)
  where
    go : (o : Option Touched) → time_by (option_map begun_page o) (block_in p) ≡ 0
    go None = refl
    go (Some page) = zero_time (block_in p) (omega arith)

pub begins : (old new : Kept) → new.loaded ≡ old.loaded → ((label : ℕ) → page_at new.pages label ≡ option_map begun_page (page_at old.pages label)) → Begins old new
begins old new same pages = record {
  now = fun_ext (λ s. fun_ext (λ p. begun_word (λ page. page.new) old new s p same pages (λ page. refl)));
  began = fun_ext (λ s. fun_ext (λ p. begun_word (λ page. page.old) old new s p same pages (λ page. refl)));
  times = fun_ext (λ s. fun_ext (λ p. begun_time old new s p pages));
}

-- ---- what stands at a block

pub found_word : (kept : Kept) (s p k : ℕ) (d : Touched) → is_block s p ≡ true → place_at kept.pages (label_of s p) ≡ Some k → block_word (get_or kept.pages k d).new (block_in p) ≡ now_of kept s p
found_word kept s p k d h at = sym (kept_word (λ page. page.new) kept s p (get_or kept.pages k d) h (placed kept.pages (label_of s p) k d at).page)

pub found_time : (kept : Kept) (s p k : ℕ) (d : Touched) → is_block s p ≡ true → place_at kept.pages (label_of s p) ≡ Some k → slice_index (get_or kept.pages k d).times (block_in p) ≡ times_of kept s p
unfolding times_of
found_time kept s p k d h at = rw (h, (placed kept.pages (label_of s p) k d at).page) refl

-- nothing is kept where the run begins
pub none_kept : (loaded : Loaded) (reached : List (ℕ × ℕ)) (side : Touched → List ℕ) → blocks_by side (record { loaded = loaded; pages = []; reached = reached }) ≡ start_blocks loaded
unfolding blocks_by page_at
none_kept loaded reached side = fun_ext (λ s. fun_ext (λ p. by_test (is_block s p) (λ b. rw b refl) (λ b. rw b refl)))

pub never_kept : (loaded : Loaded) (reached : List (ℕ × ℕ)) → times_of (record { loaded = loaded; pages = []; reached = reached }) ≡ never
unfolding times_of page_at
never_kept loaded reached = fun_ext (λ s. fun_ext (λ p. by_test (is_block s p) (λ b. rw b refl) (λ b. rw b refl)))

-- what was reached changes no block
pub same_kept : (loaded : Loaded) (pages : List Touched) (old new : List (ℕ × ℕ)) → KeepsAll (record { loaded = loaded; pages = pages; reached = old }) (record { loaded = loaded; pages = pages; reached = new })
unfolding blocks_by times_of
same_kept loaded pages old new = record { now = refl; began = refl; times = refl }

pub keeps_both : (a b c : Kept) → KeepsAll a b → KeepsAll b c → KeepsAll a c
keeps_both a b c h k = record { now = k.now ∙ h.now; began = k.began ∙ h.began; times = k.times ∙ h.times }

-- ---- the invariant

abbrev HasLabel : Touched → Type 0
HasLabel page = IsMachineLabel page.label

-- the order of numbers tells equal ones
pub same_key : (a b : ℕ) → is_eq (nat_cmp a b) ≡ nat_eq a b
same_key a b =
    ⊎_elim
    (λ (less : a < b). ap is_eq (sym (nat_cmp_is a b Less less)) ∙ sym (ne_eqb a b (λ e. omega arith)))
    (λ (not_less : b ≤ a). ⊎_elim
    (λ (same : a ≡ b). ap is_eq (sym (nat_cmp_is a b Equal same)) ∙ sym (eq-eqb a b same))
    (λ (other : a ≡ b → ⊥). ap is_eq (sym (nat_cmp_is a b Greater (omega arith))) ∙ sym (ne_eqb a b other))
    (cases_eq a b))
    (cases_lt a b)

pub AreKept-none : AreKept []
AreKept-none = record { machine = λ k d h. absurd (omega arith); whole = λ k d h. absurd (omega arith); idle = λ k d h. absurd (omega arith) }

pub AreKept-push : (loaded : Loaded) (pages : List Touched) (page : Touched) → IsMachineLabel page.label → IsWhole page → IsFresh loaded page → AreKept pages → AreKept (pages ++ page ∷ [])
AreKept-push loaded pages page label whole fresh kept = record {
  machine = All-append HasLabel pages (page ∷ []) kept.machine (All-cons HasLabel page [] label (All-nil HasLabel));
  whole = All-append IsWhole pages (page ∷ []) kept.whole (All-cons IsWhole page [] whole (All-nil IsWhole));
  idle = All-append IsIdle pages (page ∷ []) kept.idle (All-cons IsIdle page [] (record { stays = λ b low t. ap (λ (xs : List ℕ). block_word xs b) (sym fresh.same) }) (All-nil IsIdle));
}

pub AreKept-set : (pages : List Touched) (k block : ℕ) (page d : Touched) (word : List ℕ) (time : ℕ) → k < length pages → 1 ≤ time → IsWhole page → IsPut (get_or pages k d) page block word time → AreKept pages → AreKept (set pages k page)
AreKept-set pages k block page d word time within begun whole put kept = record {
  machine = All-set HasLabel pages k page (subst IsMachineLabel (sym put.label_is) (kept.machine k d within)) kept.machine;
  whole = All-set IsWhole pages k page whole kept.whole;
  idle = All-set IsIdle pages k page (record {
    stays = λ b low t.
        ⊎_elim
        (λ (same : b ≡ block). absurd (let at : slice_index page.times b ≡ time = ap (slice_index page.times) same ∙ put.time_is in omega (arith, at, t, begun)))
        (λ (other : b ≡ block → ⊥). put.others b other ∙ (kept.idle k d within).stays b low (sym (put.other_times b other) ∙ t) ∙ ap (λ (xs : List ℕ). block_word xs b) (sym put.start_is))
        (cases_eq b block);
  }) kept.idle;
}

pub AreKept-begun : (pages : List Touched) (k : ℕ) (d page : Touched) → k < length pages → page ≡ begun_page (get_or pages k d) → IsWhole page → AreKept pages → AreKept (set pages k page)
AreKept-begun pages k d page within begun whole kept = record {
  machine = All-set HasLabel pages k page (subst IsMachineLabel (sym (ap (λ (p : Touched). p.label) begun)) (kept.machine k d within)) kept.machine;
  whole = All-set IsWhole pages k page whole kept.whole;
  idle = All-set IsIdle pages k page (record { stays = λ b low t. ap (λ (p : Touched). block_word p.new b) begun ∙ sym (ap (λ (p : Touched). block_word p.old b) begun) }) kept.idle;
}

-- the label of a block's page is one of the machine's
pub machine_label : (s p : ℕ) → is_block s p ≡ true → IsMachineLabel (label_of s p)
machine_label s p h =
    by_test (nat_eq s 1)
    (λ e. let at = eqb-true s 1 e in let small : p < 128 = size_of s p 128 h (rw at refl) in
    ⊎_elim (λ (low : p < 64). inl (omega arith)) (λ (high : 64 ≤ p). inr (inl (omega arith))) (cases_lt p 64))
    (λ e. by_test (nat_eq s 2)
    (λ f. let at = eqb-true s 2 f in let small : p < 536870912 = size_of s p 536870912 h (rw at refl) in inr (inr (inl (omega arith, omega arith))))
    (λ f. by_test (nat_eq s 3)
    (λ g. let at = eqb-true s 3 g in let small : p < 64 = size_of s p 64 h (rw at refl) in inr (inr (inr (omega arith))))
    (λ g. absurd (let none : p < 0 = size_of s p 0 h (rw (e, f, g) refl) in omega arith))))
  where
    size_of : (s p n : ℕ) → is_block s p ≡ true → space_size s ≡ n → p < n
    size_of s p n h e = subst (λ (m : ℕ). p < m) e (ltb-true p (space_size s) (and_parts (nat_eq (p % 4) 0) (nat_lt p (space_size s)) h).1)
