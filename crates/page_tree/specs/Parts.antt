-- Pages in rising order of their labels, and the part of them that lies below a node.
use Rattle.std.specs.Prelude.{◌≡◌, ℕ, ◌+◌, ◌*◌, ◌^◌, ◌<◌, ◌≤◌, ◌⊎◌, List, [], ◌∷◌, length, map, slice_index, nat_eq, if◌then◌else◌}
use Rattle.std.specs.List.{All, Contains}
use Rattle.page_tree.specs.Tree.{Leaves, root, replaced, IsNode, Collision}
use Rattle.page_tree.specs.Opening.{opening_root, opening_nodes, siblings_needed, siblings_of}
use Rattle.page_tree.specs.Chain.{Opening}
use Rattle.vm_trace.specs.declared.page.Touched.{Touched}

-- the bytes of the first of these items that has the label, or `none`
unfoldable pub labelled_bytes : {P : Type 0} → (P → ℕ) → (P → List ℕ) → List ℕ → List P → Leaves
labelled_bytes label bytes none [] j = none
labelled_bytes label bytes none (p ∷ ps) j = if nat_eq (label p) j then bytes p else labelled_bytes label bytes none ps j

-- the label of a page, and the labels of pages in order
abbrev pub label_of : Touched → ℕ
label_of p = p.label

unfoldable pub labels_of : List Touched → List ℕ
labels_of pages = map label_of pages

-- the old bytes and the new bytes at each page's label
unfoldable pub old_bytes_at : List Touched → Leaves
old_bytes_at pages = labelled_bytes label_of (λ p. p.old) [] pages

unfoldable pub new_bytes_at : List Touched → Leaves
new_bytes_at pages = labelled_bytes label_of (λ p. p.new) [] pages

-- of these labels, those that lie below node i of level l stand at the places from `from` to `to`
pub record IsSpan (labels : List ℕ) (l i from to : ℕ) : Type 0 where
  pub ordered : from ≤ to
  pub in_list : to ≤ length labels
  pub before : (k : ℕ) → k < from → slice_index labels k < i * 2 ^ l
  pub first : (k : ℕ) → from ≤ k → k < to → i * 2 ^ l ≤ slice_index labels k
  pub last : (k : ℕ) → from ≤ k → k < to → slice_index labels k < (i + 1) * 2 ^ l
  pub behind : (k : ℕ) → to ≤ k → k < length labels → (i + 1) * 2 ^ l ≤ slice_index labels k

-- `at` parts these places: labels below `middle` stand before it, the others from it on
pub record IsParting (labels : List ℕ) (from to middle at : ℕ) : Type 0 where
  pub low : from ≤ at
  pub high : at ≤ to
  pub below : (k : ℕ) → from ≤ k → k < at → slice_index labels k < middle
  pub reached : at < to → middle ≤ slice_index labels at

-- the opening of these pages with these siblings
abbrev pub opening_of_pages : List Touched → List (List ℕ) → Opening
opening_of_pages pages siblings = record { labels = labels_of pages; old = old_bytes_at pages; new = new_bytes_at pages; siblings = siblings }

-- the leaves with the pages' new bytes at their labels
unfoldable pub with_pages : Leaves → List Touched → Leaves
with_pages m pages = replaced m (labels_of pages) (new_bytes_at pages)

-- the two roots of an opening of these pages: there are as many siblings as it needs, and the roots are those of the walks
pub record AreRoots (pages : List Touched) (siblings : List (List ℕ)) (old new : List ℕ) : Type 0 where
  pub number : length siblings ≡ siblings_needed (labels_of pages)
  pub old_root : old ≡ opening_root (labels_of pages) (old_bytes_at pages) siblings
  pub new_root : new ≡ opening_root (labels_of pages) (new_bytes_at pages) siblings

-- what an opening of pages shows of the tree m: each page's old bytes are the leaf, `end` is the root of the tree with
-- the new bytes, and each node of that tree is one of m or was hashed
pub record PagesOpen (m : Leaves) (pages : List Touched) (siblings : List (List ℕ)) (end : List ℕ) : Type 0 where
  pub matches : All (λ p. p.old ≡ m p.label) pages
  pub end_root : end ≡ root (with_pages m pages)
  pub nodes : (x : List ℕ) → IsNode (with_pages m pages) x → IsNode m x ⊎ Contains (opening_nodes (labels_of pages) (new_bytes_at pages) siblings) x

-- or a node of m and a node that the opening hashed differ and have one digest
abbrev pub PagesOpenOrCollide : Leaves → List Touched → List (List ℕ) → List ℕ → Type 0
PagesOpenOrCollide m pages siblings end =
    PagesOpen m pages siblings end ⊎ Collision (IsNode m) (Contains (opening_nodes (labels_of pages) (old_bytes_at pages) siblings))

-- the tree m opens these pages: their old bytes are m's leaves, and the siblings are m's own
pub record IsOpenedBy (m : Leaves) (pages : List Touched) (siblings : List (List ℕ)) : Type 0 where
  pub matches : All (λ p. p.old ≡ m p.label) pages
  pub own : siblings ≡ siblings_of m (labels_of pages)

-- the two roots of a tree and of the tree with the pages' new bytes
pub record AreTreeRoots (m : Leaves) (pages : List Touched) (old new : List ℕ) : Type 0 where
  pub old_root : old ≡ root m
  pub new_root : new ≡ root (with_pages m pages)
