-- An element of a list, by recursion on the list.
use Rattle.std.proofs.Common.{◌≡◌, ℕ, zero, suc, ◌<◌, ◌⊎◌, Bool, true, false, cond, List, [], ◌∷◌, ◌++◌, length, get_or, map, filter, Contains, All, inl, inr, refl, sym, ap, arith}

abbrev pub In : {X : Type 0} → X → List X → Type 0
In x [] = ⊥
In x (y ∷ ys) = (x ≡ y) ⊎ In x ys

module _ {X : Type 0} where
  pub in_at : (xs : List X) (k : ℕ) (d : X) → k < length xs → In (get_or xs k d) xs
  in_at [] k d h = absurd (omega arith)
  in_at (x ∷ xs) zero d h = inl refl
  in_at (x ∷ xs) (suc k) d h = inr (in_at xs k d (omega arith))

  -- the place at which it stands
  pub place_in : (x : X) (xs : List X) → In x xs → (k : ℕ) × (k < length xs) × ((d : X) → get_or xs k d ≡ x)
  place_in x [] h = absurd h
  place_in x (y ∷ ys) (inl e) = (0, omega arith, λ d. sym e)
  place_in x (y ∷ ys) (inr h) = let rest = place_in x ys h in (suc rest.0, (let below : rest.0 < length ys = rest.1 in omega arith), rest.2)

  pub in_from_Contains : (x : X) (xs : List X) → Contains xs x → In x xs
  in_from_Contains x xs h = let k : In (get_or xs h.0 x) xs = in_at xs h.0 x h.1 in rw h.2 at k

  pub Contains_from_in : (x : X) (xs : List X) → In x xs → Contains xs x
  Contains_from_in x xs h = let rest = place_in x xs h in (rest.0, rest.1, rest.2 x)

  pub in_append : (x : X) (xs ys : List X) → In x (xs ++ ys) → In x xs ⊎ In x ys
  in_append x [] ys h = inr h
  in_append x (z ∷ zs) ys (inl e) = inl (inl e)
  in_append x (z ∷ zs) ys (inr h) = elim (in_append x zs ys h) [ inl a ↦ inl (inr a) | inr b ↦ inr b ]

  pub in_append_left : (x : X) (xs ys : List X) → In x xs → In x (xs ++ ys)
  in_append_left x [] ys h = absurd h
  in_append_left x (z ∷ zs) ys (inl e) = inl e
  in_append_left x (z ∷ zs) ys (inr h) = inr (in_append_left x zs ys h)

  pub in_append_right : (x : X) (xs ys : List X) → In x ys → In x (xs ++ ys)
  in_append_right x [] ys h = h
  in_append_right x (z ∷ zs) ys h = inr (in_append_right x zs ys h)

  pub in_from_filter : (p : X → Bool) (x : X) (xs : List X) → In x (filter p xs) → In x xs
  in_from_filter p x [] h = absurd h
  in_from_filter p x (y ∷ ys) h = by_test (p y) h (in_from_filter p x ys) where
    by_test : (b : Bool) → In x (cond b (y ∷ filter p ys) (filter p ys)) → (In x (filter p ys) → In x ys) → In x (y ∷ ys)
    by_test true (inl e) rest = inl e
    by_test true (inr k) rest = inr (rest k)
    by_test false k rest = inr (rest k)

  pub in_filter : (p : X → Bool) (x : X) (xs : List X) → In x xs → p x ≡ true → In x (filter p xs)
  in_filter p x [] h t = absurd h
  in_filter p x (y ∷ ys) (inl e) t = let k : p y ≡ true = rw e at t in rw k (inl e)
  in_filter p x (y ∷ ys) (inr h) t = by_test (p y) (in_filter p x ys h t) where
    by_test : (b : Bool) → In x (filter p ys) → In x (cond b (y ∷ filter p ys) (filter p ys))
    by_test true k = inr k
    by_test false k = k

  pub filter_passes : (p : X → Bool) (x : X) (xs : List X) → In x (filter p xs) → p x ≡ true
  filter_passes p x [] h = absurd h
  filter_passes p x (y ∷ ys) h = by_test (p y) refl h (filter_passes p x ys) where
    by_test : (b : Bool) → p y ≡ b → In x (cond b (y ∷ filter p ys) (filter p ys)) → (In x (filter p ys) → p x ≡ true) → p x ≡ true
    by_test true e (inl same) rest = rw same e
    by_test true e (inr k) rest = rest k
    by_test false e k rest = rest k

-- an element of a list's image under a function comes from an element
pub in_map : {X Y : Type 0} (f : X → Y) (y : Y) (xs : List X) → In y (map f xs) → (x : X) × In x xs × (y ≡ f x)
in_map f y [] h = absurd h
in_map f y (x ∷ xs) (inl e) = (x, inl refl, e)
in_map f y (x ∷ xs) (inr h) = let rest = in_map f y xs h in (rest.0, inr rest.1, rest.2)

pub map_in : {X Y : Type 0} (f : X → Y) (x : X) (xs : List X) → In x xs → In (f x) (map f xs)
map_in f x [] h = absurd h
map_in f x (y ∷ ys) (inl e) = inl (ap f e)
map_in f x (y ∷ ys) (inr h) = inr (map_in f x ys h)

pub All_in : {X : Type 0} (P : X → Type 0) (xs : List X) → All P xs → (x : X) → In x xs → P x
All_in P xs all x h = let at = place_in x xs h in let here = at.2 x in let k = all at.0 x at.1 in rw here at k
