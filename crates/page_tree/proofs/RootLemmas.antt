-- The opening lemma at the root, and over a chain of openings.
use Rattle.std.proofs.Common.{◌≡◌, ℕ, ◌^◌, ◌<◌, List, [], ◌∷◌, length, refl, sym, ◌∙◌, inl, inr, ⊎_elim, ◌⊎◌, arith}
use Rattle.std.specs.List.{Contains}
use Rattle.std.proofs.lemmas.List.Elements.{All-contains}
use Rattle.page_tree.specs.Tree.{Leaves, root, IsNodeBelow, IsNode, IsBelow, replaced, Collision}
use Rattle.page_tree.specs.Opening.{AreDigests, AreLabels, walk, Opened, OpensTree, OpensOrCollides, opening_root, opening_nodes}
use Rattle.page_tree.specs.Chain.{Opening, leaves_after, IsChain, AreMatched, IsHashed, IsChainNode, IsHeldWithPath, ChainOpens}
use Rattle.page_tree.specs.Path.{climb, climbed}
use Rattle.page_tree.proofs.PathLemmas.{path_shows}
use Rattle.page_tree.proofs.OpeningLemmas.{opens}
use Rattle.page_tree.proofs.WalkLemmas.{Collision-weaker}

pub root_below : (labels : List ℕ) (j : ℕ) → AreLabels labels → Contains labels j → IsBelow 25 0 j
root_below labels j h has =
    let small = All-contains (λ x. x < 2 ^ 25) labels j h has in record { from = omega arith; to = omega arith }

pub opens_tree : (m old new : Leaves) (labels : List ℕ) (s : List (List ℕ)) → AreLabels labels → AreDigests s → opening_root labels old s ≡ root m → OpensOrCollides m labels old new s
unfolding opening_root opening_nodes root IsNode
opens_tree m old new labels s in_tree digests e =
    ⊎_elim
    (λ (o : Opened m labels old new 25 0 s).
    inl (record { matches = λ j has. o.matches j has (root_below labels j in_tree has); new_root = o.new_digest; nodes = o.nodes }))
    (λ (c : Collision (IsNodeBelow m 25 0) (Contains (walk labels old 25 0 s).hashed)). inr c)
    (opens m old new labels 25 0 s digests e)

-- where P has the nodes of the first tree and all that was hashed, it has the nodes of the last tree, or two of its members collide
chain_held : (P : List ℕ → Type 0) (m : Leaves) (ts : List Opening) (start end : List ℕ) → ((x : List ℕ) → IsNode m x → P x) → ((x : List ℕ) → IsHashed ts x → P x) → root m ≡ start → IsChain start ts end → (AreMatched m ts × (root (leaves_after m ts) ≡ end) × ((x : List ℕ) → IsNode (leaves_after m ts) x → P x)) ⊎ Collision P P
unfolding IsChain leaves_after AreMatched IsHashed
chain_held P m [] start end nodes hashed e chain = inl (tt, e ∙ chain, nodes)
chain_held P m (t ∷ ts) start end nodes hashed e chain =
    let m' = replaced m t.labels t.new in
    ⊎_elim
    (λ (o : OpensTree m t.labels t.old t.new t.siblings).
    ⊎_elim
    (λ (rest : AreMatched m' ts × (root (leaves_after m' ts) ≡ end) × ((x : List ℕ) → IsNode (leaves_after m' ts) x → P x)).
    inl ((o.matches, rest.0), rest.1, rest.2))
    (λ (c : Collision P P). inr c)
    (chain_held P m' ts (opening_root t.labels t.new t.siblings) end
    (λ x is. ⊎_elim (λ (was : IsNode m x). nodes x was) (λ (h : Contains (opening_nodes t.labels t.new t.siblings) x). hashed x (inr (inl h))) (o.nodes x is))
    (λ x is. hashed x (inr (inr is)))
    (sym o.new_root) chain.2))
    (λ (c : Collision (IsNode m) (Contains (opening_nodes t.labels t.old t.siblings))).
    inr (Collision-weaker _ _ _ _ nodes (λ x h. hashed x (inl h)) c))
    (opens_tree m t.old t.new t.labels t.siblings chain.0.labels chain.0.digests (chain.1 ∙ sym e))

pub chain_opens : (m : Leaves) (ts : List Opening) (end : List ℕ) → IsChain (root m) ts end → ChainOpens m ts end ⊎ Collision (IsChainNode m ts) (IsChainNode m ts)
chain_opens m ts end chain =
    ⊎_elim
    (λ (h : AreMatched m ts × (root (leaves_after m ts) ≡ end) × ((x : List ℕ) → IsNode (leaves_after m ts) x → IsChainNode m ts x)).
    inl (record { matched = h.0; end_root = h.1; nodes = h.2 }))
    (λ (c : Collision (IsChainNode m ts) (IsChainNode m ts)). inr c)
    (chain_held (λ x. IsChainNode m ts x) m ts (root m) end (λ x h. inl h) (λ x h. inr h) refl chain)

-- the whole: the turns and then the path of a leaf
pub chain_shows : (m : Leaves) (ts : List Opening) (end : List ℕ) (label : ℕ) (leaf : List ℕ) (path : List (List ℕ)) → IsChain (root m) ts end → label < 2 ^ 25 → length path ≡ 25 → AreDigests path → climb label leaf path ≡ end → (AreMatched m ts × (leaf ≡ leaves_after m ts label)) ⊎ Collision (IsHeldWithPath m ts label leaf path) (IsHeldWithPath m ts label leaf path)
chain_shows m ts end label leaf path chain small number digests e =
    ⊎_elim
    (λ (o : ChainOpens m ts end).
    ⊎_elim
    (λ (same : leaf ≡ leaves_after m ts label). inl (o.matched, same))
    (λ (c : Collision (IsNode (leaves_after m ts)) (Contains (climbed label leaf path))). inr (Collision-weaker _ _ _ _ (λ x is. inl (o.nodes x is)) (λ x is. inr is) c))
    (path_shows (leaves_after m ts) label leaf path small number digests (e ∙ sym o.end_root)))
    (λ (c : Collision (IsChainNode m ts) (IsChainNode m ts)). inr (Collision-weaker _ _ _ _ (λ x is. inl is) (λ x is. inl is) c))
    (chain_opens m ts end chain)
