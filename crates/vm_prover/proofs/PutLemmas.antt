-- Pages that are put into a tree one after the other.
use Rattle.std.proofs.Common.{◌≡◌, ◌≢◌, ℕ, zero, suc, ◌+◌, ◌<◌, List, [], ◌∷◌, length, map, take, get_or, slice_get, Some, refl, sym, ap, ◌∙◌, subst, arith, ⊎_elim, eq-eqb}
use Rattle.std.specs.Prelude.{AllPairs}
use Rattle.std.proofs.Math.Path.{fun_ext}
use Rattle.std.proofs.lemmas.Bool.{cases_eq, ne_eqb}
use Rattle.std.proofs.lemmas.List.{length-map, get_or-map}
use Rattle.std.proofs.lemmas.List.Kept.{AllPairs-from_increasing}
use Rattle.std.proofs.lemmas.Option.{slice_get_within, get_or_from_slice_get}
use Rattle.vm_trace.specs.declared.page.Touched.{Touched}
use Rattle.page_tree.specs.Kept.{put_at}
use Rattle.page_tree.specs.Parts.{label_of, labels_of, labelled_bytes, new_bytes_at, with_pages}
use Rattle.page_tree.specs.Tree.{Leaves, replaced}
use Rattle.page_tree.proofs.KeptLemmas.{put_at-same}
use Rattle.vm_prover.specs.Laws.{PutsGoOn}

-- at the label of the first page, and elsewhere
at_first : (m : Leaves) (p : Touched) (ps : List Touched) (j : ℕ) → p.label ≡ j → with_pages m (p ∷ ps) j ≡ p.new
unfolding with_pages replaced labels_of new_bytes_at labelled_bytes
at_first m p ps j same = rw (eq-eqb p.label j same, eq-eqb j p.label (sym same)) refl

not_first : (m : Leaves) (p : Touched) (ps : List Touched) (j : ℕ) → p.label ≢ j → with_pages m (p ∷ ps) j ≡ with_pages m ps j
unfolding with_pages replaced labels_of new_bytes_at labelled_bytes
not_first m p ps j other = rw (ne_eqb p.label j other, ne_eqb j p.label (λ e. other (sym e))) refl

put_there : (m : Leaves) (label : ℕ) (bytes : List ℕ) (j : ℕ) → label ≡ j → put_at m label bytes j ≡ bytes
unfolding put_at
put_there m label bytes j same = rw (eq-eqb label j same) refl

put_elsewhere : (m : Leaves) (label : ℕ) (bytes : List ℕ) (j : ℕ) → label ≢ j → put_at m label bytes j ≡ m j
unfolding put_at
put_elsewhere m label bytes j other = rw (ne_eqb label j other) refl

later_label : (p : Touched) (ps : List Touched) (k : ℕ) (page : Touched) → AllPairs (λ x y. x < y) (map label_of (p ∷ ps)) → slice_get ps k ≡ Some page → p.label < page.label
later_label p ps k page up stands =
    let within : k < length ps = slice_get_within ps k page stands in
    let label : get_or (map label_of ps) k 0 ≡ page.label = get_or-map label_of ps k page 0 within ∙ ap label_of (get_or_from_slice_get ps k page page stands) in
    omega (arith, up 0 (suc k) 0 (omega arith) (omega (arith, within, length-map ps label_of)), label)

put_by : (m : Leaves) (pages : List Touched) (k : ℕ) (page : Touched) (j : ℕ) → AllPairs (λ x y. x < y) (map label_of pages) → slice_get pages k ≡ Some page
    → put_at (with_pages m (take k pages)) page.label page.new j ≡ with_pages m (take (suc k) pages) j
put_by m [] k page j up stands = absurd (cc)
put_by m (p ∷ ps) zero page j up stands =
    let first : p ≡ page = cc in
    ⊎_elim
    (λ (same : page.label ≡ j). put_there (with_pages m []) page.label page.new j same ∙ sym (at_first m page [] j same) ∙ ap (λ (q : Touched). with_pages m (q ∷ []) j) (sym first))
    (λ (other : page.label ≢ j). put_elsewhere (with_pages m []) page.label page.new j other ∙ sym (not_first m page [] j other) ∙ ap (λ (q : Touched). with_pages m (q ∷ []) j) (sym first))
    (cases_eq page.label j)
put_by m (p ∷ ps) (suc k) page j up stands =
    let later : p.label < page.label = later_label p ps k page up stands in
    ⊎_elim
    (λ (same : p.label ≡ j).
    put_elsewhere (with_pages m (p ∷ take k ps)) page.label page.new j (λ e. omega (arith, e, same, later))
    ∙ at_first m p (take k ps) j same
    ∙ sym (at_first m p (take (suc k) ps) j same))
    (λ (other : p.label ≢ j).
    put_at-same (with_pages m (p ∷ take k ps)) (with_pages m (take k ps)) page.label page.new j (not_first m p (take k ps) j other)
    ∙ put_by m ps k page j (λ i l d le lt. up (suc i) (suc l) d (omega (arith, le)) (omega (arith, lt))) stands
    ∙ sym (not_first m p (take (suc k) ps) j other))
    (cases_eq p.label j)

pub puts_go_on : PutsGoOn
unfolding labels_of
puts_go_on leaves pages k page rising stands =
    let next : suc k ≡ k + 1 = omega arith in
    fun_ext (λ j. subst (λ (n : ℕ). put_at (with_pages leaves (take k pages)) page.label page.new j ≡ with_pages leaves (take n pages) j) next
    (put_by leaves pages k page j (AllPairs-from_increasing (map label_of pages) rising) stands))
