-- The opening of some leaves of a Merkle tree: a walk from a node down, left child first. Where no
-- label lies below a node, the next sibling is its digest; at a label the digest is that of the
-- leaf's bytes; else it is that of the two children's digests.
use Rattle.std.specs.Prelude.{◌≡◌, ℕ, zero, suc, ◌+◌, ◌*◌, ◌^◌, ◌<◌, List, [], ◌∷◌, ◌++◌, length, drop, replicate, slice_index_or, if◌then◌else◌, ◌⊎◌}
use Rattle.std.specs.List.{All, Contains}
use Rattle.sha2.specs.Sha256.{sha256}
use Rattle.page_tree.specs.Tree.{Leaves, node, root, some_below, replaced, IsBelow, IsNodeBelow, IsNode, Collision}

-- each is a digest, of 32 bytes
abbrev pub AreDigests : List (List ℕ) → Type 0
AreDigests siblings = All (λ d. length d ≡ 32) siblings

-- what a walk gives: the digest of the node, the siblings that it left, and the nodes of 64 bytes
-- that it hashed
pub record Walked : Type 0 where
  pub digest : List ℕ
  pub left : List (List ℕ)
  pub hashed : List (List ℕ)

-- the next sibling stands for the node; where there is none, 32 zeros do
unfoldable pub at_sibling : List (List ℕ) → Walked
at_sibling siblings = record { digest = slice_index_or siblings 0 (replicate 32 0); left = drop 1 siblings; hashed = [] }

-- a leaf is hashed
unfoldable pub at_leaf : List ℕ → List (List ℕ) → Walked
at_leaf leaf siblings = record { digest = sha256 leaf; left = siblings; hashed = leaf ∷ [] }

-- two children are hashed
unfoldable pub at_pair : Walked → Walked → Walked
at_pair a b =
    record { digest = sha256 (a.digest ++ b.digest); left = b.left; hashed = (a.digest ++ b.digest) ∷ (a.hashed ++ b.hashed) }

-- the walk below node i of level l, with these bytes at the labels
unfoldable pub walk : List ℕ → Leaves → ℕ → ℕ → List (List ℕ) → Walked
walk labels bytes zero i siblings =
    if some_below labels zero i then at_leaf (bytes i) siblings else at_sibling siblings
walk labels bytes (suc l) i siblings =
    if some_below labels (suc l) i
    then at_pair (walk labels bytes l (2 * i) siblings) (walk labels bytes l (2 * i + 1) ((walk labels bytes l (2 * i) siblings).left))
    else at_sibling siblings

-- how many siblings it takes
unfoldable pub needed : List ℕ → ℕ → ℕ → ℕ
needed labels zero i = if some_below labels zero i then 0 else 1
needed labels (suc l) i =
    if some_below labels (suc l) i then needed labels l (2 * i) + needed labels l (2 * i + 1) else 1

-- what an opening at node i of level l shows: the bytes at the labels are the tree's; with other bytes
-- there the walk gives the digest of the tree with these leaves replaced; and each node of that tree is
-- one of the first tree or was hashed
pub record Opened (m : Leaves) (labels : List ℕ) (old new : Leaves) (l i : ℕ) (siblings : List (List ℕ)) : Type 0 where
  pub matches : (j : ℕ) → Contains labels j → IsBelow l i j → old j ≡ m j
  pub new_digest : (walk labels new l i siblings).digest ≡ sha256 (node (replaced m labels new) l i)
  pub left : (walk labels new l i siblings).left ≡ (walk labels old l i siblings).left
  pub nodes : (x : List ℕ) → IsNodeBelow (replaced m labels new) l i x → IsNodeBelow m l i x ⊎ Contains (walk labels new l i siblings).hashed x

-- the root that an opening gives, how many siblings it needs, and the nodes of 64 bytes that it hashes.
-- Its value counts only where as many siblings are given as it needs
unfoldable pub opening_root : List ℕ → Leaves → List (List ℕ) → List ℕ
opening_root labels bytes siblings = (walk labels bytes 25 0 siblings).digest

unfoldable pub siblings_needed : List ℕ → ℕ
siblings_needed labels = needed labels 25 0

unfoldable pub opening_nodes : List ℕ → Leaves → List (List ℕ) → List (List ℕ)
opening_nodes labels bytes siblings = (walk labels bytes 25 0 siblings).hashed

-- labels of the tree
abbrev pub AreLabels : List ℕ → Type 0
AreLabels labels = All (λ j. j < 2 ^ 25) labels

-- the same at the root: what an opening of the tree m shows
pub record OpensTree (m : Leaves) (labels : List ℕ) (old new : Leaves) (siblings : List (List ℕ)) : Type 0 where
  pub matches : (j : ℕ) → Contains labels j → old j ≡ m j
  pub new_root : opening_root labels new siblings ≡ root (replaced m labels new)
  pub nodes : (x : List ℕ) → IsNode (replaced m labels new) x → IsNode m x ⊎ Contains (opening_nodes labels new siblings) x

-- or a node of the tree and a node that the opening hashed differ and have one digest
abbrev pub OpensOrCollides : Leaves → List ℕ → Leaves → Leaves → List (List ℕ) → Type 0
OpensOrCollides m labels old new siblings =
    OpensTree m labels old new siblings ⊎ Collision (IsNode m) (Contains (opening_nodes labels old siblings))

-- the siblings of a tree for these labels, below node i of level l
unfoldable pub siblings_below : Leaves → List ℕ → ℕ → ℕ → List (List ℕ)
siblings_below m labels zero i = if some_below labels zero i then [] else (sha256 (node m zero i) ∷ [])
siblings_below m labels (suc l) i =
    if some_below labels (suc l) i
    then siblings_below m labels l (2 * i) ++ siblings_below m labels l (2 * i + 1)
    else (sha256 (node m (suc l) i) ∷ [])

-- the opening that a tree makes for these labels
unfoldable pub siblings_of : Leaves → List ℕ → List (List ℕ)
siblings_of m labels = siblings_below m labels 25 0

-- where these old bytes are the tree's, its own siblings open it: as many as are needed, with the tree's root over the
-- old bytes and the root of the tree with the new bytes over those
pub record IsComplete (m : Leaves) (labels : List ℕ) (old new : Leaves) : Type 0 where
  pub number : length (siblings_of m labels) ≡ siblings_needed labels
  pub digests : AreDigests (siblings_of m labels)
  pub old_root : opening_root labels old (siblings_of m labels) ≡ root m
  pub new_root : opening_root labels new (siblings_of m labels) ≡ root (replaced m labels new)
