-- The opening lemma at the root, said of pages.
use Rattle.std.proofs.Common.{◌≡◌, ℕ, ◌+◌, ◌<◌, List, [], ◌∷◌, ◌++◌, length, take, get_or, slice_index, refl, ap, sym, subst, ◌∙◌, inl, inr, ⊎_elim, arith}
use Rattle.std.specs.List.{All, Contains}
use Rattle.std.specs.List.Sorted.{IsStrictlyIncreasing}
use Rattle.std.proofs.lemmas.List.{map-append, take_more, length-map, get_or_default}
use Rattle.std.proofs.lemmas.List.Elements.{Contains-get_or}
use Rattle.page_tree.specs.Tree.{Leaves, root, IsNode, Collision}
use Rattle.page_tree.specs.Opening.{AreDigests, AreLabels, OpensTree, IsComplete, opening_root, opening_nodes, siblings_needed, siblings_of}
use Rattle.page_tree.specs.Parts.{label_of, labels_of, labelled_bytes, old_bytes_at, new_bytes_at, with_pages, AreRoots, PagesOpenOrCollide, IsOpenedBy, AreTreeRoots}
use Rattle.vm_trace.specs.declared.page.Touched.{Touched}
use Rattle.page_tree.proofs.RootLemmas.{opens_tree}
use Rattle.page_tree.proofs.CompleteLemmas.{is_complete}
use Rattle.page_tree.proofs.PartLemmas.{labelled_bytes-place, labels_of-place, length-labels_of}

label-contained : (pages : List Touched) (k : ℕ) (d : Touched) → k < length pages → Contains (labels_of pages) (get_or pages k d).label
label-contained pages k d h =
    let in_list : k < length (labels_of pages) = omega (arith, length-labels_of pages) in
    subst (λ x. Contains (labels_of pages) x) (labels_of-place pages k d h) (Contains-get_or (labels_of pages) k 0 in_list)

pub pages_open : (m : Leaves) (pages : List Touched) (siblings : List (List ℕ)) (start end : List ℕ) → IsStrictlyIncreasing (labels_of pages) → AreLabels (labels_of pages) → AreDigests siblings → start ≡ opening_root (labels_of pages) (old_bytes_at pages) siblings → end ≡ opening_root (labels_of pages) (new_bytes_at pages) siblings → start ≡ root m → PagesOpenOrCollide m pages siblings end
unfolding old_bytes_at new_bytes_at labels_of with_pages
pages_open m pages siblings start end rising in_tree digests is_start is_end e =
    ⊎_elim
    (λ (o : OpensTree m (labels_of pages) (old_bytes_at pages) (new_bytes_at pages) siblings).
    inl (record {
      matches = λ k d h. sym (labelled_bytes-place label_of (λ p. p.old) [] pages k d rising h) ∙ o.matches (get_or pages k d).label (label-contained pages k d h);
      end_root = is_end ∙ o.new_root;
      nodes = o.nodes;
    }))
    (λ (c : Collision (IsNode m) (Contains (opening_nodes (labels_of pages) (old_bytes_at pages) siblings))). inr c)
    (opens_tree m (old_bytes_at pages) (new_bytes_at pages) (labels_of pages) siblings in_tree digests (sym is_start ∙ e))

-- one page more, of the next label
pub labels_of-push : (pages : List Touched) (labels : List ℕ) (i : ℕ) (page : Touched) → i < length labels → labels_of pages ≡ take i labels → page.label ≡ slice_index labels i → labels_of (pages ++ page ∷ []) ≡ take (i + 1) labels
unfolding labels_of
labels_of-push pages labels i page in_list before label =
    map-append label_of pages (page ∷ [])
    ∙ ap (λ (xs : List ℕ). xs ++ page.label ∷ []) before
    ∙ ap (λ (x : ℕ). take i labels ++ x ∷ []) label
    ∙ sym (take_more labels i 0 in_list)

-- where the pages' old bytes are a tree's, so are those at each of their labels
old_bytes : (m : Leaves) (pages : List Touched) → IsStrictlyIncreasing (labels_of pages) → All (λ p. p.old ≡ m p.label) pages → (j : ℕ) → Contains (labels_of pages) j → old_bytes_at pages j ≡ m j
unfolding old_bytes_at labels_of
old_bytes m pages rising matches j h =
    let d : Touched = record { label = 0; old = []; new = []; times = [] } in
    let place : h.0 < length pages = omega (arith, h.1, length-map pages label_of) in
    let at : (get_or pages h.0 d).label ≡ j = sym (labels_of-place pages h.0 d place) ∙ get_or_default (labels_of pages) h.0 0 j h.1 ∙ h.2 in
    subst (λ (k : ℕ). labelled_bytes label_of (λ p. p.old) [] pages k ≡ m k) at
    (labelled_bytes-place label_of (λ p. p.old) [] pages h.0 d rising place ∙ matches h.0 d place)

-- a tree's own siblings open it
opened_by : (m : Leaves) (pages : List Touched) (siblings : List (List ℕ)) → IsStrictlyIncreasing (labels_of pages) → IsOpenedBy m pages siblings → IsComplete m (labels_of pages) (old_bytes_at pages) (new_bytes_at pages)
opened_by m pages siblings rising opened = is_complete m (old_bytes_at pages) (new_bytes_at pages) (labels_of pages) (old_bytes m pages rising opened.matches)

pub opened_number : (m : Leaves) (pages : List Touched) (siblings : List (List ℕ)) → IsStrictlyIncreasing (labels_of pages) → IsOpenedBy m pages siblings → length siblings ≡ siblings_needed (labels_of pages)
opened_number m pages siblings rising opened = ap length opened.own ∙ (opened_by m pages siblings rising opened).number

pub opened_roots : (m : Leaves) (pages : List Touched) (siblings : List (List ℕ)) (old new : List ℕ) → IsStrictlyIncreasing (labels_of pages) → old ≡ opening_root (labels_of pages) (old_bytes_at pages) siblings → new ≡ opening_root (labels_of pages) (new_bytes_at pages) siblings
    → IsOpenedBy m pages siblings → AreTreeRoots m pages old new
unfolding with_pages
opened_roots m pages siblings old new rising is_old is_new opened =
    let whole = opened_by m pages siblings rising opened in
    record {
      old_root = is_old ∙ ap (opening_root (labels_of pages) (old_bytes_at pages)) opened.own ∙ whole.old_root;
      new_root = is_new ∙ ap (opening_root (labels_of pages) (new_bytes_at pages)) opened.own ∙ whole.new_root;
    }

-- so it leads from the tree's root to the root of the tree with the new bytes
pub own_roots : (m : Leaves) (pages : List Touched) → IsStrictlyIncreasing (labels_of pages) → All (λ p. p.old ≡ m p.label) pages → AreRoots pages (siblings_of m (labels_of pages)) (root m) (root (with_pages m pages))
unfolding with_pages
own_roots m pages rising matches =
    let whole = opened_by m pages (siblings_of m (labels_of pages)) rising (record { matches = matches; own = refl }) in
    record { number = whole.number; old_root = sym whole.old_root; new_root = sym whole.new_root }
