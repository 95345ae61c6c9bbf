-- The part of rising labels that lies below a node, and how it parts at the two children.
use Rattle.std.proofs.Common.{◌≡◌, ℕ, zero, suc, ◌+◌, ◌-◌, ◌*◌, ◌^◌, ◌<◌, ◌≤◌, true, false, eqb, List, [], ◌∷◌, length, map, get_or, slice_index, refl, sym, ap, ◌∙◌, subst, ⊎_elim, arith}
use Rattle.std.specs.List.Sorted.{IsStrictlyIncreasing}
use Rattle.std.proofs.Math.Nat.{pow-suc}
use Rattle.std.proofs.lemmas.Nat.{pow_pos}
use Rattle.std.proofs.lemmas.Bool.{cases_lt, cases_eq, cases_Bool, cond-true, cond-false, false_from_ne_true, eq-eqb, ne_eqb}
use Rattle.std.proofs.lemmas.List.{get_or-map, get_or_default, length-map}
use Rattle.std.proofs.lemmas.List.Elements.{Contains-get_or}
use Rattle.std.proofs.lemmas.List.Kept.{AllPairs-from_increasing}
use Rattle.page_tree.specs.Tree.{some_below}
use Rattle.sha2.specs.Sha256.{sha256}
use Rattle.page_tree.specs.Opening.{AreLabels, needed, walk}
use Rattle.page_tree.specs.Parts.{label_of, labels_of, labelled_bytes, IsSpan, IsParting}
use Rattle.vm_trace.specs.declared.page.Touched.{Touched}
use Rattle.page_tree.proofs.TreeLemmas.{some_below-true, some_below-from}
use Rattle.page_tree.proofs.WalkLemmas.{needed-none, needed-leaf, needed-pair, walk-page}

-- no place, no label
pub part-none : (labels : List ℕ) (l i from to : ℕ) → IsSpan labels l i from to → from ≡ to → some_below labels l i ≡ false
part-none labels l i from to part e =
    false_from_ne_true (some_below labels l i) (λ h.
    let t = some_below-true labels l i h in
    let k = t.1.0 in
    let is : slice_index labels k ≡ t.0 = get_or_default labels k 0 t.0 t.1.1 ∙ t.1.2 in
    ⊎_elim
    (λ (less : k < from). absurd (omega (arith, part.before k less, t.2.from)))
    (λ (more : from ≤ k). absurd (omega (arith, part.behind k (omega arith) t.1.1, t.2.to)))
    (cases_lt k from))

-- some place, some label
pub part-some : (labels : List ℕ) (l i from to : ℕ) → IsSpan labels l i from to → from < to → some_below labels l i ≡ true
part-some labels l i from to part h =
    some_below-from labels l i (get_or labels from 0) (Contains-get_or labels from 0 (omega (arith, part.in_list))) (record { from = part.first from (omega arith) h; to = part.last from (omega arith) h })

-- all labels lie below the root
pub part-whole : (labels : List ℕ) → AreLabels labels → IsSpan labels 25 0 0 (length labels)
part-whole labels h = record {
  ordered = omega arith;
  in_list = omega arith;
  before = λ k low. absurd (omega arith);
  first = λ k low high. omega arith;
  last = λ k low high. omega (arith, h k 0 high);
  behind = λ k low high. absurd (omega arith);
}

rises : (labels : List ℕ) (j k : ℕ) → IsStrictlyIncreasing labels → j < k → k < length labels → slice_index labels j < slice_index labels k
rises labels j k rising h in_list = AllPairs-from_increasing labels rising j k 0 h in_list

-- from the parting on, each label is `middle` or more
reached-all : (labels : List ℕ) (from to middle at k : ℕ) → IsStrictlyIncreasing labels → IsParting labels from to middle at → to ≤ length labels → at ≤ k → k < to → middle ≤ slice_index labels k
reached-all labels from to middle at k rising parts in_list low high =
    let first = parts.reached (omega arith) in
    ⊎_elim
    (λ (same : at ≡ k). subst (λ j. middle ≤ slice_index labels j) same first)
    (λ (other : at ≡ k → ⊥). omega (arith, first, rises labels at k rising (omega arith) (omega arith)))
    (cases_eq at k)

pub part-left : (labels : List ℕ) (l half i from to middle at : ℕ) → l ≡ half + 1 → middle ≡ (2 * i + 1) * 2 ^ half → IsStrictlyIncreasing labels → IsSpan labels l i from to → IsParting labels from to middle at → IsSpan labels half (2 * i) from at
part-left labels l half i from to middle at e m rising whole parts =
    let part : IsSpan labels (suc half) i from to = subst (λ n. IsSpan labels n i from to) (omega arith) whole in
    record {
      ordered = parts.low;
      in_list = omega (arith, parts.high, part.in_list);
      before = λ k h. let bound : slice_index labels k < i * 2 ^ suc half = part.before k h in let bound' = rw pow-suc at bound in omega arith;
      first = λ k low high. let bound : i * 2 ^ suc half ≤ slice_index labels k = part.first k low (omega (arith, parts.high)) in let bound' = rw pow-suc at bound in omega arith;
      last = λ k low high. omega (arith, parts.below k low high);
      behind = λ k low high.
          ⊎_elim
          (λ (inside : k < to). omega (arith, reached-all labels from to middle at k rising parts part.in_list low inside))
          (λ (outside : to ≤ k). let bound : (i + 1) * 2 ^ suc half ≤ slice_index labels k = part.behind k outside high in let bound' = rw pow-suc at bound in omega arith)
          (cases_lt k to);
    }

pub part-right : (labels : List ℕ) (l half i from to middle at : ℕ) → l ≡ half + 1 → middle ≡ (2 * i + 1) * 2 ^ half → IsStrictlyIncreasing labels → IsSpan labels l i from to → IsParting labels from to middle at → IsSpan labels half (2 * i + 1) at to
part-right labels l half i from to middle at e m rising whole parts =
    let part : IsSpan labels (suc half) i from to = subst (λ n. IsSpan labels n i from to) (omega arith) whole in
    record {
      ordered = parts.high;
      in_list = part.in_list;
      before = λ k h.
          ⊎_elim
          (λ (outside : k < from). let bound : slice_index labels k < i * 2 ^ suc half = part.before k outside in let bound' = rw pow-suc at bound in omega arith)
          (λ (inside : from ≤ k). omega (arith, parts.below k inside h))
          (cases_lt k from);
      first = λ k low high. omega (arith, reached-all labels from to middle at k rising parts part.in_list low high);
      last = λ k low high. let bound : slice_index labels k < (i + 1) * 2 ^ suc half = part.last k (omega (arith, parts.low)) high in let bound' = rw pow-suc at bound in omega arith;
      behind = λ k low high. let bound : (i + 1) * 2 ^ suc half ≤ slice_index labels k = part.behind k low high in let bound' = rw pow-suc at bound in omega arith;
    }

-- what a walk needs, over the level below
pub needed-at : (labels : List ℕ) (l half i : ℕ) → l ≡ half + 1 → some_below labels l i ≡ true → needed labels l i ≡ needed labels half (2 * i) + needed labels half (2 * i + 1)
needed-at labels l half i e h =
    let same : suc half ≡ l = omega arith in
    ap (λ n. needed labels n i) (sym same) ∙ needed-pair labels half i (subst (λ n. some_below labels n i ≡ true) (sym same) h)

-- it needs no more siblings than there are leaves
pub needed-le : (labels : List ℕ) (l i : ℕ) → needed labels l i ≤ 2 ^ l
needed-le labels zero i =
    ⊎_elim
    (λ (some : some_below labels zero i ≡ true). omega (arith, needed-leaf labels i some))
    (λ (none : some_below labels zero i ≡ false). omega (arith, needed-none labels zero i none))
    (cases_Bool (some_below labels zero i))
needed-le labels (suc l) i =
    ⊎_elim
    (λ (some : some_below labels (suc l) i ≡ true).
    rw pow-suc (omega (arith, needed-pair labels l i some, needed-le labels l (2 * i), needed-le labels l (2 * i + 1))))
    (λ (none : some_below labels (suc l) i ≡ false).
    rw pow-suc (omega (arith, needed-none labels (suc l) i none, pow_pos l)))
    (cases_Bool (some_below labels (suc l) i))

-- a level and the one below it
pub level-half : (l : ℕ) → (l ≡ 0 → ⊥) → l ≡ l - 1 + 1
level-half l h = omega arith

pow-half : (l half : ℕ) → l ≡ half + 1 → 2 ^ l ≡ 2 ^ half * 2
pow-half l half e = let same : suc half ≡ l = omega arith in subst (λ n. 2 ^ n ≡ 2 ^ half * 2) same (pow-suc 2 half)

-- the children of a node of the tree are nodes of the tree
pub in_tree-half : (l half i : ℕ) → l ≡ half + 1 → (i + 1) * 2 ^ l ≤ 33554432 → (2 * i + 1 + 1) * 2 ^ half ≤ 33554432
in_tree-half l half i e h =
    let wide : (i + 1) * (2 ^ half * 2) ≤ 33554432 = subst (λ x. (i + 1) * x ≤ 33554432) (pow-half l half e) h in omega arith

pub few-left : (l half i taken : ℕ) → l ≡ half + 1 → taken ≤ i * 2 ^ l → taken ≤ 2 * i * 2 ^ half
few-left l half i taken e h = let wide : taken ≤ i * (2 ^ half * 2) = subst (λ x. taken ≤ i * x) (pow-half l half e) h in omega arith

pub pow-le : (l i : ℕ) → (i + 1) * 2 ^ l ≤ 33554432 → 2 ^ l ≤ 33554432
pow-le l i h = omega arith

-- the bytes that a page of rising labels has at its label
rising-tail : (n : ℕ) (labels : List ℕ) → IsStrictlyIncreasing (n ∷ labels) → IsStrictlyIncreasing labels
rising-tail n labels h k low =
    let next : suc k + 1 ≡ suc (k + 1) = omega arith in
    subst (λ j. slice_index labels k < slice_index (n ∷ labels) j) next (h (suc k) (omega arith))

pub labelled_bytes-place : {P : Type 0} (label : P → ℕ) (side : P → List ℕ) (none : List ℕ) (ps : List P) (k : ℕ) (d : P) → IsStrictlyIncreasing (map label ps) → k < length ps → labelled_bytes label side none ps (label (get_or ps k d)) ≡ side (get_or ps k d)
unfolding labelled_bytes
labelled_bytes-place label side none [] k d rising h = absurd (omega arith)
labelled_bytes-place label side none (p ∷ ps) zero d rising h = cond-true (eqb (label p) (label p)) (side p) (labelled_bytes label side none ps (label p)) (eq-eqb (label p) (label p) refl)
labelled_bytes-place label side none (p ∷ ps) (suc k) d rising h =
    let q = get_or ps k d in
    let in_list : k < length ps = omega arith in
    let read : get_or (map label ps) k 0 ≡ label q = get_or-map label ps k d 0 in_list in
    let more : label p < get_or (map label ps) k 0 = rises (label p ∷ map label ps) zero (suc k) rising (omega arith) (omega (arith, length-map ps label)) in
    cond-false (eqb (label p) (label q)) (side p) (labelled_bytes label side none ps (label q)) (ne_eqb (label p) (label q) (λ e. absurd (omega arith)))
    ∙ labelled_bytes-place label side none ps k d (rising-tail (label p) (map label ps) rising) in_list

pub length-labels_of : (pages : List Touched) → length (labels_of pages) ≡ length pages
unfolding labels_of
length-labels_of pages = length-map pages label_of

pub labels_of-place : (pages : List Touched) (k : ℕ) (d : Touched) → k < length pages → slice_index (labels_of pages) k ≡ (get_or pages k d).label
unfolding labels_of
labels_of-place pages k d h = get_or-map label_of pages k d 0 h

-- at a leaf, the place has the leaf's label
pub part-leaf : (labels : List ℕ) (i from to : ℕ) → IsSpan labels 0 i from to → from < to → slice_index labels from ≡ i
part-leaf labels i from to part h = omega (arith, part.first from (omega arith) h, part.last from (omega arith) h)

pub part-item : {P : Type 0} (label : P → ℕ) (side : P → List ℕ) (none : List ℕ) (ps : List P) (i from to : ℕ) (d : P) → IsStrictlyIncreasing (map label ps) → IsSpan (map label ps) 0 i from to → from < to → labelled_bytes label side none ps i ≡ side (get_or ps from d)
part-item label side none ps i from to d rising part h =
    let in_list : from < length ps = omega (arith, part.in_list, length-map ps label) in
    let at : label (get_or ps from d) ≡ i = sym (get_or-map label ps from d 0 in_list) ∙ part-leaf (map label ps) i from to part h in
    ap (λ j. labelled_bytes label side none ps j) (sym at) ∙ labelled_bytes-place label side none ps from d rising in_list

-- the same at the walk: at a leaf it hashes the page at the place
pub walk-page_at : (side : Touched → List ℕ) (pages : List Touched) (l i from to : ℕ) (d : Touched) (s : List (List ℕ)) → l ≡ 0 → IsStrictlyIncreasing (labels_of pages) → IsSpan (labels_of pages) l i from to → from < to → sha256 (side (get_or pages from d)) ≡ (walk (labels_of pages) (labelled_bytes label_of side [] pages) l i s).digest
unfolding labels_of
walk-page_at side pages l i from to d s e rising part h =
    let labels = map label_of pages in
    let bytes = labelled_bytes label_of side [] pages in
    let part' : IsSpan labels 0 i from to = subst (λ n. IsSpan labels n i from to) e part in
    ap sha256 (sym (part-item label_of side [] pages i from to d rising part' h))
    ∙ sym (walk-page labels bytes i s (part-some labels 0 i from to part' h))
    ∙ ap (λ n. (walk labels bytes n i s).digest) (sym e)
