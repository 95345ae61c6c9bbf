-- A tree into which pages are put.
use Rattle.std.proofs.Common.{◌≡◌, ℕ, ◌+◌, ◌<◌, ◌^◌, List, [], length, take, get_or, refl, ap, ◌∙◌, subst, arith}
use Rattle.std.specs.List.Sorted.{IsStrictlyIncreasing}
use Rattle.std.proofs.Math.Path.{fun_ext}
use Rattle.std.proofs.lemmas.Option.{slice_get-get_or}
use Rattle.vm_trace.specs.declared.page.Touched.{Touched}
use Rattle.page_tree.specs.Kept.{put_at}
use Rattle.page_tree.specs.Opening.{AreLabels}
use Rattle.page_tree.specs.Parts.{labels_of, with_pages}
use Rattle.page_tree.specs.Tree.{Leaves, replaced}
use Rattle.page_tree.proofs.PartLemmas.{labels_of-place, length-labels_of}
use Rattle.vm_prover.proofs.PutLemmas.{puts_go_on}

pub no_puts : (m : Leaves) → m ≡ with_pages m []
unfolding with_pages replaced labels_of
no_puts m = refl

pub label_low : (pages : List Touched) (k : ℕ) (d : Touched) → AreLabels (labels_of pages) → k < length pages → (get_or pages k d).label < 2 ^ 25
label_low pages k d low within = subst (λ j. j < 2 ^ 25) (labels_of-place pages k d within) (low k 0 (omega (arith, within, length-labels_of pages)))

pub put_more : (m old new : Leaves) (pages : List Touched) (k : ℕ) (d : Touched) → IsStrictlyIncreasing (labels_of pages) → k < length pages → old ≡ with_pages m (take k pages)
    → ((j : ℕ) → new j ≡ put_at old (get_or pages k d).label (get_or pages k d).new j) → new ≡ with_pages m (take (k + 1) pages)
put_more m old new pages k d rising within so put =
    fun_ext put
    ∙ ap (λ (leaves : Leaves). put_at leaves (get_or pages k d).label (get_or pages k d).new) so
    ∙ puts_go_on m pages k (get_or pages k d) rising (slice_get-get_or pages k d within)
