-- The opening that a tree makes opens it: the walk gives the root of the tree with the leaves replaced, and leaves nothing.
use Rattle.std.proofs.Common.{◌≡◌, ℕ, zero, suc, ◌+◌, ◌*◌, true, false, eqb, List, [], ◌∷◌, ◌++◌, length, sym, ap, ◌∙◌, subst, ⊎_elim, arith, append_assoc, length-append}
use Rattle.std.specs.List.{Contains, list_any}
use Rattle.std.proofs.lemmas.Bool.{cases_Bool, cond-true, cond-false, both_ways}
use Rattle.std.proofs.lemmas.List.{append-nil}
use Rattle.std.proofs.lemmas.List.Elements.{All-append, All-cons, All-nil, All-same}
use Rattle.sha2.specs.Sha256.{sha256}
use Rattle.sha2.proofs.Facts256.{length-sha256}
use Rattle.page_tree.specs.Tree.{Leaves, node, root, some_below, replaced, IsBelow}
use Rattle.page_tree.specs.Opening.{AreDigests, Walked, at_sibling, at_leaf, at_pair, walk, needed, siblings_below, opening_root, siblings_needed, siblings_of, IsComplete}
use Rattle.page_tree.proofs.TreeLemmas.{below_leaf, below_left, below_right, some_below-true, node-same, has-true, has-from, replaced-at, replaced-other, replaced_below}
use Rattle.page_tree.proofs.WalkLemmas.{walk-none, walk-leaf, walk-pair, needed-none, needed-leaf, needed-pair}

siblings-none : (m : Leaves) (labels : List ℕ) (l i : ℕ) → some_below labels l i ≡ false → siblings_below m labels l i ≡ sha256 (node m l i) ∷ []
unfolding siblings_below
siblings-none m labels zero i h = cond-false (some_below labels zero i) _ _ h
siblings-none m labels (suc l) i h = cond-false (some_below labels (suc l) i) _ _ h

siblings-leaf : (m : Leaves) (labels : List ℕ) (i : ℕ) → some_below labels zero i ≡ true → siblings_below m labels zero i ≡ []
unfolding siblings_below
siblings-leaf m labels i h = cond-true (some_below labels zero i) _ _ h

siblings-pair : (m : Leaves) (labels : List ℕ) (l i : ℕ) → some_below labels (suc l) i ≡ true → siblings_below m labels (suc l) i ≡ siblings_below m labels l (2 * i) ++ siblings_below m labels l (2 * i + 1)
unfolding siblings_below
siblings-pair m labels l i h = cond-true (some_below labels (suc l) i) _ _ h

-- siblings depend on the leaves below the node alone
pub siblings_below-same : (m n : Leaves) (labels : List ℕ) (l i : ℕ) → ((j : ℕ) → IsBelow l i j → m j ≡ n j) → siblings_below m labels l i ≡ siblings_below n labels l i
siblings_below-same m n labels zero i h =
    ⊎_elim
    (λ (some : some_below labels zero i ≡ true). siblings-leaf m labels i some ∙ sym (siblings-leaf n labels i some))
    (λ (none : some_below labels zero i ≡ false). siblings-none m labels zero i none ∙ ap (λ x. sha256 x ∷ []) (node-same m n zero i h) ∙ sym (siblings-none n labels zero i none))
    (cases_Bool (some_below labels zero i))
siblings_below-same m n labels (suc l) i h =
    ⊎_elim
    (λ (some : some_below labels (suc l) i ≡ true).
    siblings-pair m labels l i some
    ∙ ap (λ xs. xs ++ siblings_below m labels l (2 * i + 1)) (siblings_below-same m n labels l (2 * i) (λ j b. h j (below_left l i j b)))
    ∙ ap (λ xs. siblings_below n labels l (2 * i) ++ xs) (siblings_below-same m n labels l (2 * i + 1) (λ j b. h j (below_right l i j b)))
    ∙ sym (siblings-pair n labels l i some))
    (λ (none : some_below labels (suc l) i ≡ false). siblings-none m labels (suc l) i none ∙ ap (λ x. sha256 x ∷ []) (node-same m n (suc l) i h) ∙ sym (siblings-none n labels (suc l) i none))
    (cases_Bool (some_below labels (suc l) i))

-- a tree has as many siblings as a walk needs
pub length-siblings_below : (m : Leaves) (labels : List ℕ) (l i : ℕ) → length (siblings_below m labels l i) ≡ needed labels l i
length-siblings_below m labels zero i =
    ⊎_elim
    (λ (some : some_below labels zero i ≡ true). ap length (siblings-leaf m labels i some) ∙ sym (needed-leaf labels i some))
    (λ (none : some_below labels zero i ≡ false). ap length (siblings-none m labels zero i none) ∙ sym (needed-none labels zero i none))
    (cases_Bool (some_below labels zero i))
length-siblings_below m labels (suc l) i =
    ⊎_elim
    (λ (some : some_below labels (suc l) i ≡ true).
    ap length (siblings-pair m labels l i some) ∙ length-append _ _
    ∙ ap (λ n. n + length (siblings_below m labels l (2 * i + 1))) (length-siblings_below m labels l (2 * i))
    ∙ ap (λ n. needed labels l (2 * i) + n) (length-siblings_below m labels l (2 * i + 1))
    ∙ sym (needed-pair labels l i some))
    (λ (none : some_below labels (suc l) i ≡ false). ap length (siblings-none m labels (suc l) i none) ∙ sym (needed-none labels (suc l) i none))
    (cases_Bool (some_below labels (suc l) i))

one-digest : (x : List ℕ) → AreDigests (sha256 x ∷ [])
one-digest x = All-cons (λ d. length d ≡ 32) (sha256 x) [] (length-sha256 x) (All-nil (λ d. length d ≡ 32))

pub siblings-digests : (m : Leaves) (labels : List ℕ) (l i : ℕ) → AreDigests (siblings_below m labels l i)
siblings-digests m labels zero i =
    ⊎_elim
    (λ (some : some_below labels zero i ≡ true). All-same (λ d. length d ≡ 32) _ _ (siblings-leaf m labels i some) (All-nil (λ d. length d ≡ 32)))
    (λ (none : some_below labels zero i ≡ false). All-same (λ d. length d ≡ 32) _ _ (siblings-none m labels zero i none) (one-digest (node m zero i)))
    (cases_Bool (some_below labels zero i))
siblings-digests m labels (suc l) i =
    ⊎_elim
    (λ (some : some_below labels (suc l) i ≡ true).
    All-same (λ d. length d ≡ 32) _ _ (siblings-pair m labels l i some) (All-append (λ d. length d ≡ 32) _ _ (siblings-digests m labels l (2 * i)) (siblings-digests m labels l (2 * i + 1))))
    (λ (none : some_below labels (suc l) i ≡ false). All-same (λ d. length d ≡ 32) _ _ (siblings-none m labels (suc l) i none) (one-digest (node m (suc l) i)))
    (cases_Bool (some_below labels (suc l) i))

-- what a walk with a tree's siblings gives
record Completes (m : Leaves) (labels : List ℕ) (new : Leaves) (l i : ℕ) (rest : List (List ℕ)) (w : Walked) : Type 0 where
  digest : w.digest ≡ sha256 (node (replaced m labels new) l i)
  left : w.left ≡ rest

completes_none : (m new : Leaves) (labels : List ℕ) (l i : ℕ) (rest : List (List ℕ)) → some_below labels l i ≡ false → Completes m labels new l i rest (walk labels new l i (siblings_below m labels l i ++ rest))
unfolding at_sibling
completes_none m new labels l i rest none =
    let walked : walk labels new l i (siblings_below m labels l i ++ rest) ≡ at_sibling (sha256 (node m l i) ∷ rest) =
    walk-none labels new l i (siblings_below m labels l i ++ rest) none ∙ ap (λ s. at_sibling (s ++ rest)) (siblings-none m labels l i none) in
    record {
      digest = ap (λ w. w.digest) walked ∙ ap sha256 (sym (node-same (replaced m labels new) m l i (replaced_below m labels new l i none)));
      left = ap (λ w. w.left) walked;
    }

completes : (m new : Leaves) (labels : List ℕ) (l i : ℕ) (rest : List (List ℕ)) → Completes m labels new l i rest (walk labels new l i (siblings_below m labels l i ++ rest))
unfolding at_leaf at_pair node
completes m new labels zero i rest =
    ⊎_elim
    (λ (some : some_below labels zero i ≡ true).
    let t = some_below-true labels zero i some in
    let has : Contains labels i = subst (λ j. Contains labels j) (below_leaf i t.0 t.2) t.1 in
    let walked : walk labels new zero i (siblings_below m labels zero i ++ rest) ≡ at_leaf (new i) rest =
    walk-leaf labels new i (siblings_below m labels zero i ++ rest) some ∙ ap (λ s. at_leaf (new i) (s ++ rest)) (siblings-leaf m labels i some) in
    record { digest = ap (λ w. w.digest) walked ∙ ap sha256 (sym (replaced-at m labels new i has)); left = ap (λ w. w.left) walked })
    (λ (none : some_below labels zero i ≡ false). completes_none m new labels zero i rest none)
    (cases_Bool (some_below labels zero i))
completes m new labels (suc l) i rest =
    ⊎_elim
    (λ (some : some_below labels (suc l) i ≡ true).
    let mine = siblings_below m labels l (2 * i) in
    let others = siblings_below m labels l (2 * i + 1) in
    let given : siblings_below m labels (suc l) i ++ rest ≡ mine ++ (others ++ rest) = ap (λ s. s ++ rest) (siblings-pair m labels l i some) ∙ append_assoc mine others rest in
    let a = walk labels new l (2 * i) (mine ++ (others ++ rest)) in
    let left = completes m new labels l (2 * i) (others ++ rest) in
    let right = completes m new labels l (2 * i + 1) rest in
    let walked : walk labels new (suc l) i (siblings_below m labels (suc l) i ++ rest) ≡ at_pair a (walk labels new l (2 * i + 1) (others ++ rest)) =
    ap (λ s. walk labels new (suc l) i s) given ∙ walk-pair labels new l i (mine ++ (others ++ rest)) some
    ∙ ap (λ s. at_pair a (walk labels new l (2 * i + 1) s)) left.left in
    record {
      digest = ap (λ w. w.digest) walked
          ∙ ap (λ x. sha256 (x ++ (walk labels new l (2 * i + 1) (others ++ rest)).digest)) left.digest
          ∙ ap (λ x. sha256 (sha256 (node (replaced m labels new) l (2 * i)) ++ x)) right.digest;
      left = ap (λ w. w.left) walked ∙ right.left;
    })
    (λ (none : some_below labels (suc l) i ≡ false). completes_none m new labels (suc l) i rest none)
    (cases_Bool (some_below labels (suc l) i))

-- at the root
pub siblings_of-root : (m new : Leaves) (labels : List ℕ) → opening_root labels new (siblings_of m labels) ≡ root (replaced m labels new)
unfolding opening_root siblings_of root
siblings_of-root m new labels =
    ap (λ s. (walk labels new 25 0 s).digest) (sym (append-nil (siblings_below m labels 25 0))) ∙ (completes m new labels 25 0 []).digest

pub replaced-same : (m old : Leaves) (labels : List ℕ) → ((j : ℕ) → Contains labels j → old j ≡ m j) → (j : ℕ) → replaced m labels old j ≡ m j
replaced-same m old labels h j =
    ⊎_elim
    (λ (has : list_any (eqb j) labels ≡ true). replaced-at m labels old j (has-true labels j has) ∙ h j (has-true labels j has))
    (λ (none : list_any (eqb j) labels ≡ false). replaced-other m labels old j (λ has. both_ways (list_any (eqb j) labels) none (has-from labels j has)))
    (cases_Bool (list_any (eqb j) labels))

pub root-same : (m n : Leaves) → ((j : ℕ) → m j ≡ n j) → root m ≡ root n
unfolding root
root-same m n h = ap sha256 (node-same m n 25 0 (λ j _. h j))

pub length-siblings_of : (m : Leaves) (labels : List ℕ) → length (siblings_of m labels) ≡ siblings_needed labels
unfolding siblings_of siblings_needed
length-siblings_of m labels = length-siblings_below m labels 25 0

pub siblings_of-digests : (m : Leaves) (labels : List ℕ) → AreDigests (siblings_of m labels)
unfolding siblings_of
siblings_of-digests m labels = siblings-digests m labels 25 0

pub is_complete : (m old new : Leaves) (labels : List ℕ) → ((j : ℕ) → Contains labels j → old j ≡ m j) → IsComplete m labels old new
is_complete m old new labels h = record {
  number = length-siblings_of m labels;
  digests = siblings_of-digests m labels;
  old_root = siblings_of-root m old labels ∙ root-same (replaced m labels old) m (replaced-same m old labels h);
  new_root = siblings_of-root m new labels;
}

-- the siblings below a node, where the level below is written level - 1
pub siblings-at_none : (m : Leaves) (labels : List ℕ) (l i : ℕ) → some_below labels l i ≡ false → siblings_below m labels l i ≡ sha256 (node m l i) ∷ []
siblings-at_none m labels l i h = siblings-none m labels l i h

pub siblings-at_leaf : (m : Leaves) (labels : List ℕ) (l i : ℕ) → l ≡ 0 → some_below labels l i ≡ true → siblings_below m labels l i ≡ []
siblings-at_leaf m labels l i e h = ap (λ n. siblings_below m labels n i) e ∙ siblings-leaf m labels i (subst (λ n. some_below labels n i ≡ true) e h)

pub siblings-at_pair : (m : Leaves) (labels : List ℕ) (l half i : ℕ) → l ≡ half + 1 → some_below labels l i ≡ true → siblings_below m labels half (2 * i) ++ siblings_below m labels half (2 * i + 1) ≡ siblings_below m labels l i
siblings-at_pair m labels l half i e h =
    let same : suc half ≡ l = omega arith in
    sym (siblings-pair m labels half i (subst (λ n. some_below labels n i ≡ true) (sym same) h)) ∙ ap (λ n. siblings_below m labels n i) same
