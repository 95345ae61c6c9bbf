-- Openings one after the other: each begins at the root at which the one before ended.
use Rattle.std.specs.Prelude.{◌≡◌, ℕ, ◌⊎◌, List, [], ◌∷◌, length}
use Rattle.std.specs.List.{Contains}
use Rattle.page_tree.specs.Tree.{Leaves, root, replaced, IsNode}
use Rattle.page_tree.specs.Opening.{AreDigests, AreLabels, opening_root, opening_nodes, siblings_needed}
use Rattle.page_tree.specs.Path.{climbed}

-- what one opening is given: labels, the bytes there before and after, and siblings
pub record Opening : Type 0 where
  pub labels : List ℕ
  pub old : Leaves
  pub new : Leaves
  pub siblings : List (List ℕ)

-- its labels are the tree's, its siblings are digests, and there are as many as it needs
pub record IsOpening (t : Opening) : Type 0 where
  pub labels : AreLabels t.labels
  pub digests : AreDigests t.siblings
  pub number : length t.siblings ≡ siblings_needed t.labels

-- the leaves after these turns
unfoldable pub leaves_after : Leaves → List Opening → Leaves
leaves_after m [] = m
leaves_after m (t ∷ ts) = leaves_after (replaced m t.labels t.new) ts

-- the turns lead from the root `start` to the root `end`
unfoldable pub IsChain : List ℕ → List Opening → List ℕ → Type 0
IsChain start [] end = start ≡ end
IsChain start (t ∷ ts) end =
    IsOpening t × (opening_root t.labels t.old t.siblings ≡ start) × IsChain (opening_root t.labels t.new t.siblings) ts end

-- each turn's old bytes are those that stand there after the turns before it
unfoldable pub AreMatched : Leaves → List Opening → Type 0
AreMatched m [] = Unit {0}
AreMatched m (t ∷ ts) = ((j : ℕ) → Contains t.labels j → t.old j ≡ m j) × AreMatched (replaced m t.labels t.new) ts

-- x was hashed in one of the turns, over old or over new bytes
unfoldable pub IsHashed : List Opening → List ℕ → Type 0
IsHashed [] x = ⊥
IsHashed (t ∷ ts) x =
    Contains (opening_nodes t.labels t.old t.siblings) x ⊎ (Contains (opening_nodes t.labels t.new t.siblings) x ⊎ IsHashed ts x)

-- x is a node of the first tree or was hashed in a turn
abbrev pub IsChainNode : Leaves → List Opening → List ℕ → Type 0
IsChainNode m ts x = IsNode m x ⊎ IsHashed ts x

-- what a chain of openings shows
pub record ChainOpens (m : Leaves) (ts : List Opening) (end : List ℕ) : Type 0 where
  pub matched : AreMatched m ts
  pub end_root : root (leaves_after m ts) ≡ end
  pub nodes : (x : List ℕ) → IsNode (leaves_after m ts) x → IsChainNode m ts x

-- x is held by the chain or was hashed on the way from the leaf at the label
abbrev pub IsHeldWithPath : Leaves → List Opening → ℕ → List ℕ → List (List ℕ) → List ℕ → Type 0
IsHeldWithPath m ts label leaf path x = IsChainNode m ts x ⊎ Contains (climbed label leaf path) x
