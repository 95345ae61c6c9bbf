-- Texts that are put together from the left are those that are put together from the right.
use Rattle.std.proofs.Common.{◌≡◌, ℕ, List, [], ◌∷◌, ◌++◌, refl, sym, ◌∙◌, append_assoc}

unfoldable pub join_right : List ℕ → List (List ℕ) → List ℕ
join_right x [] = x
join_right x (y ∷ ys) = x ++ join_right y ys

unfoldable pub join_left : List ℕ → List (List ℕ) → List ℕ
join_left x [] = x
join_left x (y ∷ ys) = join_left (x ++ y) ys

-- a text before others
before_right : (x y : List ℕ) (ys : List (List ℕ)) → x ++ join_right y ys ≡ join_right (x ++ y) ys
unfolding join_right
before_right x y [] = refl
before_right x y (z ∷ zs) = sym (append_assoc x y (join_right z zs))

pub joined : (x : List ℕ) (ys : List (List ℕ)) → join_right x ys ≡ join_left x ys
unfolding join_right join_left
joined x [] = refl
joined x (y ∷ ys) = before_right x y ys ∙ joined (x ++ y) ys

pub joined_behind : (x y : List ℕ) (ys : List (List ℕ)) → x ++ join_right y ys ≡ join_left (x ++ y) ys
joined_behind x y ys = before_right x y ys ∙ joined (x ++ y) ys
