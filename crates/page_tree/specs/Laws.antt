-- The laws of trees, openings and paths. Each is the contract of a function in src/laws.rt.
use Rattle.std.specs.Prelude.{◌≡◌, ℕ, ◌-◌, ◌^◌, ◌<◌, ◌≤◌, ◌⊎◌, List, length, drop}
use Rattle.std.specs.List.{All, Contains}
use Rattle.std.specs.List.Sorted.{IsStrictlyIncreasing}
use Rattle.sha2.specs.Sha256.{sha256}
use Rattle.elf_image.specs.Loaded.{Loaded}
use Rattle.vm_isa.specs.Blocks.{Blocks}
use Rattle.vm_trace.specs.declared.page.Touched.{Touched}
use Rattle.vm_trace.specs.PageBlocks.{ArePages, HasOldWords, HasNewWords}
use Rattle.page_tree.specs.MapBlocks.{AreBlocksOf}
use Rattle.page_tree.specs.Parts.{labels_of, with_pages}
use Rattle.page_tree.specs.Tree.{Leaves, node, root, IsNode, IsNodeBelow, Collision}
use Rattle.page_tree.specs.Opening.{AreDigests, AreLabels, walk, needed, Opened, OpensOrCollides, opening_root, opening_nodes, IsComplete}
use Rattle.page_tree.specs.Path.{climb, path_of, ShowsOrCollides}
use Rattle.page_tree.specs.Start.{start_map}
use Rattle.page_tree.specs.Chain.{Opening, IsChain, ChainOpens, AreMatched, IsChainNode, IsHeldWithPath, leaves_after}

-- A walk leaves the siblings that it does not need, whatever the bytes at the labels are.
abbrev pub WalkTakesWhatItNeeds : Type 0
WalkTakesWhatItNeeds = (labels : List ℕ) (bytes : Leaves) (l i : ℕ) (siblings : List (List ℕ))
    → (walk labels bytes l i siblings).left ≡ drop (needed labels l i) siblings

-- A walk below a node that gives the node's digest opens what lies there, or two different nodes, one of
-- the tree and one that was hashed, have one digest.
abbrev pub OpensBelow : Type 0
OpensBelow = (m old new : Leaves) (labels : List ℕ) (l i : ℕ) (siblings : List (List ℕ))
    → AreDigests siblings → (walk labels old l i siblings).digest ≡ sha256 (node m l i)
    → Opened m labels old new l i siblings ⊎ Collision (IsNodeBelow m l i) (Contains (walk labels old l i siblings).hashed)

-- the same at the root
abbrev pub OpensAtRoot : Type 0
OpensAtRoot = (m old new : Leaves) (labels : List ℕ) (siblings : List (List ℕ))
    → AreLabels labels → AreDigests siblings → opening_root labels old siblings ≡ root m
    → OpensOrCollides m labels old new siblings

-- Openings one after the other, from the root of a tree on: each opens the tree that those before it
-- left, or two different nodes that are held have one digest.
abbrev pub ChainsOpen : Type 0
ChainsOpen = (m : Leaves) (openings : List Opening) (end : List ℕ) → IsChain (root m) openings end
    → ChainOpens m openings end ⊎ Collision (IsChainNode m openings) (IsChainNode m openings)

-- a path of 25 digests from a leaf to the root of a tree shows that leaf, or a collision
abbrev pub PathsShow : Type 0
PathsShow = (m : Leaves) (label : ℕ) (leaf : List ℕ) (path : List (List ℕ))
    → label < 2 ^ 25 → length path ≡ 25 → AreDigests path → climb label leaf path ≡ root m
    → ShowsOrCollides m label leaf path

-- openings and then a path to their last root: the leaf is that of the last tree, or a collision
abbrev pub ChainsShow : Type 0
ChainsShow = (m : Leaves) (openings : List Opening) (end : List ℕ) (label : ℕ) (leaf : List ℕ) (path : List (List ℕ))
    → IsChain (root m) openings end → label < 2 ^ 25 → length path ≡ 25 → AreDigests path
    → climb label leaf path ≡ end
    → (AreMatched m openings × (leaf ≡ leaves_after m openings label))
    ⊎ Collision (IsHeldWithPath m openings label leaf path) (IsHeldWithPath m openings label leaf path)

-- a tree's own siblings open it, and give the root of the tree with other bytes at the labels
abbrev pub TreesOpen : Type 0
TreesOpen = (m old new : Leaves) (labels : List ℕ)
    → ((j : ℕ) → Contains labels j → old j ≡ m j) → IsComplete m labels old new

-- the path that a tree has leads from the leaf to its root
abbrev pub PathLeadsToTheRoot : Type 0
PathLeadsToTheRoot = (m : Leaves) (label : ℕ) → label < 2 ^ 25 → climb label (m label) (path_of m label) ≡ root m

-- where leaves have 64 bytes, so has each node of the tree
abbrev pub NodesHave64Bytes : Type 0
NodesHave64Bytes = (m : Leaves) → ((j : ℕ) → length (m j) ≡ 64) → (x : List ℕ) → IsNode m x → length x ≡ 64

-- and each node that a walk hashes
abbrev pub HashedNodesHave64Bytes : Type 0
HashedNodesHave64Bytes = (labels : List ℕ) (bytes : Leaves) (siblings : List (List ℕ)) → AreDigests siblings
    → ((j : ℕ) → Contains labels j → length (bytes j) ≡ 64) → All (λ x. length x ≡ 64) (opening_nodes labels bytes siblings)

-- the nodes of a tree are those at its levels and places
abbrev pub EachPlaceHasANode : Type 0
EachPlaceHasANode = (m : Leaves) (l i : ℕ) → l ≤ 25 → i < 2 ^ (25 - l) → IsNode m (node m l i)

abbrev pub EachNodeHasAPlace : Type 0
EachNodeHasAPlace = (m : Leaves) (x : List ℕ) → IsNode m x
    → (l : ℕ) × (i : ℕ) × (l ≤ 25) × (i < 2 ^ (25 - l)) × (x ≡ node m l i)

-- the leaves at the start have 64 bytes
abbrev pub StartLeavesHave64Bytes : Type 0
StartLeavesHave64Bytes = (image : Loaded) (label : ℕ) → length (start_map image label) ≡ 64

-- Where a map's leaves are the pages' old bytes, and blocks are the map's, the blocks have the pages' old words.
abbrev pub PagesHaveTheMapsBlocks : Type 0
PagesHaveTheMapsBlocks = (m : Leaves) (pages : List Touched) (blocks : Blocks) → ArePages pages → All (λ p. p.old ≡ m p.label) pages
    → AreBlocksOf m blocks → HasOldWords pages blocks

-- And blocks that have the pages' new words, and elsewhere what they had, are those of the map with the pages' new bytes.
abbrev pub PagesLeaveTheNewBlocks : Type 0
PagesLeaveTheNewBlocks = (m : Leaves) (pages : List Touched) (old new : Blocks) → IsStrictlyIncreasing (labels_of pages) → AreBlocksOf m old → HasNewWords pages old new
    → AreBlocksOf (with_pages m pages) new
