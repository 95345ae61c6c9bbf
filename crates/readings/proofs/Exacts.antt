-- Readings are exact where their parts are.
use Rattle.std.proofs.Common.{◌≡◌, ℕ, zero, suc, ◌+◌, ◌^◌, ◌<◌, ◌≤◌, Bool, true, false, cond, ltb, List, [], ◌∷◌, ◌++◌, length, take, drop, Option, Some, None, Result, Ok, Err, refl, sym, ap, subst, ◌∙◌, append_assoc, arith, inl, inr}
use Rattle.std.specs.Prelude.{◌↔◌}
use Rattle.std.specs.Int.{w32, from_le_bytes, to_le_bytes}
use Rattle.std.specs.List.{flat_map}
use Rattle.std.proofs.lemmas.Bool.{cases_lt, ltb-false, le-ltb}
use Rattle.std.proofs.lemmas.List.{take_at, drop_at, take-append-drop, length-append, length-take, get_or-drop, get_or-take, get_or_past, append-nil}
use Rattle.std.proofs.lemmas.Nat.{le_bytes_4, from_le_bytes-to_le_bytes_4}
use Rattle.readings.specs.Readings.{Rest, rest_at, Reading, after, gives, raw, seen, both, refusing, unless, only, chain, listed, number, leftover, reason_in, first_reason}
use Rattle.readings.specs.Exact.{IsBytes, Takes, Exact, Each, AreListed, listed_text}

IsBytes-drop : (n : ℕ) (bytes : List ℕ) → IsBytes bytes → IsBytes (drop n bytes)
IsBytes-drop n bytes h i = rw get_or-drop (h (n + i))

IsBytes-take : (n : ℕ) (bytes : List ℕ) → IsBytes bytes → IsBytes (take n bytes)
IsBytes-take n bytes h i =
    elim (cases_lt i n) [
      | inl lt ↦ rw (get_or-take n bytes i 0 lt) (h i)
      | inr le ↦ rw (get_or_past (take n bytes) i 0 (omega (arith, length-take n bytes))) (omega arith)
    ]

front_fits : (bytes front rest : List ℕ) → IsBytes bytes → bytes ≡ front ++ rest → IsBytes front
front_fits bytes front rest h e = subst IsBytes (ap (take (length front)) e ∙ take_at front rest (length front) refl) (IsBytes-take (length front) bytes h)

takes_none : (s : Rest) → IsBytes s.bytes → Takes s [] s
takes_none s h = record { parts = refl; fits = h; place = omega arith }

takes_both : {s t u : Rest} {x y : List ℕ} → Takes s x t → Takes t y u → Takes s (x ++ y) u
takes_both {x = x} {y} p q = record {
  parts = p.parts ∙ ap (λ (k : List ℕ). x ++ k) q.parts ∙ sym (append_assoc x y _);
  fits = q.fits;
  place = omega (arith, p.place, q.place, length-append x y);
}

module _ {R : Type 0} where
  -- the steps of a reading that did not stop
  pub after_ok : {A B : Type 0} (r : Result (A × Rest) R) (f : A → Reading R B) (y : B × Rest) → after r f ≡ Ok y → (x : A × Rest) × (r ≡ Ok x) × (f x.0 x.1 ≡ Ok y)
  after_ok (Ok x) f y e = (x, refl, e)
  after_ok (Err d) f y e = absurd cc

  guard_ok : {A : Type 0} (b : Bool) (d : R) (x y : A) → cond b (Err d) (Ok x) ≡ Ok y → (b ≡ false) × (x ≡ y)
  guard_ok true d x y e = absurd cc
  guard_ok false d x y e = (refl, cc)

  only_ok : {A : Type 0} (b : Bool) (d : R) (x y : A) → cond b (Ok x) (Err d) ≡ Ok y → (b ≡ true) × (x ≡ y)
  only_ok true d x y e = (refl, cc)
  only_ok false d x y e = absurd cc

  pub refusing_ok : {A : Type 0} (o : Option R) (x y : A) → refusing o x ≡ Ok y → (o ≡ None) × (x ≡ y)
  refusing_ok None x y e = (refl, cc)
  refusing_ok (Some d) x y e = absurd cc

  abbrev pub done : {A : Type 0} → A → Result A R
  done x = Ok x

  pub ok_is : {A : Type 0} (x y : A) → done x ≡ done y → x ≡ y
  ok_is x y e = cc

  pub exact_gives : {V : Type 0} (v : V) → Exact {R = R} (gives v) (λ (w : V). []) (λ (w : V). w ≡ v)
  exact_gives v = record {
    found = λ s t w h e. let same = ok_is (v, s) (w, t) e in (sym (ap (λ (p : _ × Rest). p.0) same), subst (λ (u : Rest). Takes s [] u) (ap (λ (p : _ × Rest). p.1) same) (takes_none s h));
    again = λ at w rest is. rw is (ap (λ (n : ℕ). done (v, rest_at n rest)) (omega arith));
  }

  pub exact_raw : (cut : ℕ → R) (n : ℕ) → Exact (raw cut n) (λ bytes. bytes) (λ bytes. length bytes ≡ n)
  exact_raw cut n = record {
    found = λ s t v h e.
        let g = guard_ok (ltb (length s.bytes) n) (cut (s.at + length s.bytes)) (take n s.bytes, rest_at (s.at + n) (drop n s.bytes)) (v, t) e in
        let long : n ≤ length s.bytes = ltb-false _ _ g.0 in
        let size : length (take n s.bytes) ≡ n = omega (arith, length-take n s.bytes) in
        subst (λ (p : List ℕ × Rest). (length p.0 ≡ n) × Takes s p.0 p.1) g.1
        (size, record { parts = sym (take-append-drop n s.bytes); fits = IsBytes-drop n s.bytes h; place = omega (arith, size) });
    again = λ at v rest size.
        let long : ltb (length (v ++ rest)) n ≡ false = le-ltb _ _ (omega (arith, length-append v rest, size)) in
        rw (long, take_at v rest n size, drop_at v rest n size, size) refl;
  }

  pub exact_number : (cut : ℕ → R) → Exact (number cut) (to_le_bytes w32) (λ n. n < 2 ^ 32)
  exact_number cut = record {
    found = λ s t v h e.
        let a = after_ok (raw cut 4 s) (λ bytes u. Ok (from_le_bytes w32 bytes, u)) (v, t) e in
        let r = (exact_raw cut 4).found s a.0.1 a.0.0 h a.1 in
        let same = ok_is (from_le_bytes w32 a.0.0, a.0.1) (v, t) a.2 in
        let is : from_le_bytes w32 a.0.0 ≡ v = ap (λ (p : ℕ × Rest). p.0) same in
        let fits : IsBytes a.0.0 = λ i. front_fits s.bytes a.0.0 a.0.1.bytes h r.1.parts i in
        let back : to_le_bytes w32 v ≡ a.0.0 = le_bytes_4 a.0.0 v r.0 fits (sym is) in
        (rw (← is) (omega (arith, fits 0, fits 1, fits 2, fits 3)), subst (λ (p : List ℕ × Rest). Takes s p.0 p.1) (ap (λ (k : List ℕ). (k, a.0.1)) (sym back) ∙ ap (λ (u : Rest). (to_le_bytes w32 v, u)) (ap (λ (p : ℕ × Rest). p.1) same)) r.1);
    again = λ at v rest lt. rw ((exact_raw cut 4).again at (to_le_bytes w32 v) rest refl, from_le_bytes-to_le_bytes_4 v lt) refl;
  }

  -- seen otherwise
  pub exact_seen : {A B : Type 0} {r : Reading R A} {text : A → List ℕ} {other : B → List ℕ} {Good : A → Type 0} {Fair : B → Type 0} (f : A → B) → Exact r text Good
      → ((a : A) → Good a → Fair (f a) × (text a ≡ other (f a)))
      → ((b : B) → Fair b → (a : A) × (f a ≡ b) × Good a) → Exact (seen f r) other Fair
  exact_seen {r = r} {text} {other} {Good} {Fair} f x to from = record {
    found = λ s t v h e.
        let a = after_ok (r s) (λ w u. Ok (f w, u)) (v, t) e in
        let q = x.found s a.0.1 a.0.0 h a.1 in
        let g = to a.0.0 q.0 in
        subst (λ p. Fair p.0 × Takes s (other p.0) p.1) (ok_is (f a.0.0, a.0.1) (v, t) a.2)
        (g.0, subst (λ (k : List ℕ). Takes s k a.0.1) g.1 q.1);
    again = λ at v rest good.
        let b = from v good in
        let g = to b.0 b.2 in
        let same : text b.0 ≡ other v = g.1 ∙ ap other b.1 in
        ap (λ (k : List ℕ). seen f r (rest_at at (k ++ rest))) (sym same)
        ∙ rw (x.again at b.0 rest b.2) (rw (b.1, same) refl);
  }

  -- what is good, said otherwise
  pub exact_so : {V : Type 0} {r : Reading R V} {text : V → List ℕ} {Good Fair : V → Type 0} → Exact r text Good → ((v : V) → Good v → Fair v) → ((v : V) → Fair v → Good v) → Exact r text Fair
  exact_so x to from = record {
    found = λ s t v h e. let q = x.found s t v h e in (to v q.0, q.1);
    again = λ at v rest fair. x.again at v rest (from v fair);
  }

  -- one after the other
  pub exact_both : {A B : Type 0} {r : Reading R A} {f : A → Reading R B} {text : A → List ℕ} {more : B → List ℕ} {Good : A → Type 0} {Then : A → B → Type 0} → Exact r text Good
      → ((a : A) → Good a → Exact (f a) more (Then a)) → Exact (both r f) (λ p. text p.0 ++ more p.1) (λ p. Good p.0 × Then p.0 p.1)
  exact_both {r = r} {f} {text} {more} {Good} {Then} x y = record {
    found = λ s t v h e.
        let a = after_ok (r s) (λ w u. after (f w u) (λ b k. Ok ((w, b), k))) (v, t) e in
        let q = x.found s a.0.1 a.0.0 h a.1 in
        let b = after_ok (f a.0.0 a.0.1) (λ w k. Ok ((a.0.0, w), k)) (v, t) a.2 in
        let z = (y a.0.0 q.0).found a.0.1 b.0.1 b.0.0 q.1.fits b.1 in
        subst (λ p. (Good p.0.0 × Then p.0.0 p.0.1) × Takes s (text p.0.0 ++ more p.0.1) p.1) (ok_is ((a.0.0, b.0.0), b.0.1) (v, t) b.2)
        ((q.0, z.0), takes_both q.1 z.1);
    again = λ at v rest good.
        ap (λ (k : List ℕ). both r f (rest_at at k)) (append_assoc (text v.0) (more v.1) rest)
        ∙ rw (x.again at v.0 (more v.1 ++ rest) good.0, (y v.0 good.0).again (at + length (text v.0)) v.1 rest good.1)
        (ap (λ (n : ℕ). done (v, rest_at n rest)) (omega (arith, length-append (text v.0) (more v.1))));
  }

  -- tests
  pub exact_unless : {V : Type 0} {r : Reading R V} {text : V → List ℕ} {Good : V → Type 0} (refuse : V → Option R) → Exact r text Good → Exact (unless refuse r) text (λ v. Good v × (refuse v ≡ None))
  exact_unless {r = r} {text} {Good} refuse x = record {
    found = λ s t v h e.
        let a = after_ok (r s) (λ w u. refusing (refuse w) (w, u)) (v, t) e in
        let q = x.found s a.0.1 a.0.0 h a.1 in
        let k = refusing_ok (refuse a.0.0) a.0 (v, t) a.2 in
        subst (λ p. (Good p.0 × (refuse p.0 ≡ None)) × Takes s (text p.0) p.1) k.1 ((q.0, k.0), q.1);
    again = λ at v rest good. rw (x.again at v rest good.0, good.1) refl;
  }

  pub exact_only : {V : Type 0} {r : Reading R V} {text : V → List ℕ} {Good : V → Type 0} (ok : V → Bool) (why : ℕ → R) → Exact r text Good → Exact (only ok why r) text (λ v. Good v × (ok v ≡ true))
  exact_only {r = r} {text} {Good} ok why x = record {
    found = λ s t v h e.
        let a = after_ok (r s) (λ w u. cond (ok w) (Ok (w, u)) (Err (why s.at))) (v, t) e in
        let q = x.found s a.0.1 a.0.0 h a.1 in
        let k = only_ok (ok a.0.0) (why s.at) a.0 (v, t) a.2 in
        subst (λ p. (Good p.0 × (ok p.0 ≡ true)) × Takes s (text p.0) p.1) k.1 ((q.0, k.0), q.1);
    again = λ at v rest good. rw (x.again at v rest good.0, good.1) refl;
  }

  -- so many
  none_again : {S V : Type 0} (r : S → Reading R V) (text : V → List ℕ) (Good : S → V → Type 0) (next : S → V → S) (x : S) (at : ℕ) (vs : List V) (rest : List ℕ)
      → (length vs ≡ 0) × Each Good next x vs → chain r next 0 x (rest_at at (flat_map text vs ++ rest)) ≡ Ok (vs, rest_at (at + length (flat_map text vs)) rest)
  unfolding chain
  none_again r text Good next x at [] rest good = ap (λ (n : ℕ). done ([], rest_at n rest)) (omega arith)
  none_again r text Good next x at (v ∷ vs) rest good = absurd (omega (arith, good.0))

  more_again : {S V : Type 0} (r : S → Reading R V) (text : V → List ℕ) (Good : S → V → Type 0) (next : S → V → S) {x : S} → Exact (r x) text (Good x) → (n : ℕ)
      → ((w : V) → Exact (chain r next n (next x w)) (flat_map text) (λ ws. (length ws ≡ n) × Each Good next (next x w) ws)) → (at : ℕ) (vs : List V) (rest : List ℕ)
      → (length vs ≡ suc n) × Each Good next x vs → chain r next (suc n) x (rest_at at (flat_map text vs ++ rest)) ≡ Ok (vs, rest_at (at + length (flat_map text vs)) rest)
  unfolding chain
  more_again r text Good next y n z at [] rest good = absurd (omega (arith, good.0))
  more_again r text Good next {x} y n z at (v ∷ vs) rest good =
      ap (λ (k : List ℕ). chain r next (suc n) x (rest_at at k)) (append_assoc (text v) (flat_map text vs) rest)
      ∙ rw (y.again at v (flat_map text vs ++ rest) good.1.0, (z v).again (at + length (text v)) vs rest (omega (arith, good.0), good.1.1))
      (ap (λ (k : ℕ). done (v ∷ vs, rest_at k rest)) (omega (arith, length-append (text v) (flat_map text vs))))

  pub exact_chain : {S V : Type 0} {r : S → Reading R V} {text : V → List ℕ} {Good : S → V → Type 0} (next : S → V → S) → ((x : S) → Exact (r x) text (Good x)) → (n : ℕ) (x : S)
      → Exact (chain r next n x) (flat_map text) (λ vs. (length vs ≡ n) × Each Good next x vs)
  unfolding chain
  exact_chain {r = r} {text} {Good} next y zero x = record {
    found = λ s t v h e.
        subst (λ p. ((length p.0 ≡ 0) × Each Good next x p.0) × Takes s (flat_map text p.0) p.1) (ok_is ([], s) (v, t) e) ((refl, tt), takes_none s h);
    again = λ at v rest good. none_again r text Good next x at v rest good;
  }
  exact_chain {r = r} {text} {Good} next y (suc n) x = record {
    found = λ s t v h e.
        let a = after_ok (r x s) (λ w u. after (chain r next n (next x w) u) (λ ws k. Ok (w ∷ ws, k))) (v, t) e in
        let q = (y x).found s a.0.1 a.0.0 h a.1 in
        let b = after_ok (chain r next n (next x a.0.0) a.0.1) (λ ws k. Ok (a.0.0 ∷ ws, k)) (v, t) a.2 in
        let z = (exact_chain next y n (next x a.0.0)).found a.0.1 b.0.1 b.0.0 q.1.fits b.1 in
        subst (λ p. ((length p.0 ≡ suc n) × Each Good next x p.0) × Takes s (flat_map text p.0) p.1) (ok_is (a.0.0 ∷ b.0.0, b.0.1) (v, t) b.2)
        ((omega (arith, z.0.0), (q.0, z.0.1)), takes_both q.1 z.1);
    again = λ at v rest good. more_again r text Good next (y x) n (λ w. exact_chain next y n (next x w)) at v rest good;
  }

  -- up to a mark
  module _ {S V : Type 0} (full : R) (may closed : S → Option R) (mark : Reading R Bool) (flag : Bool → List ℕ) (r : S → Reading R V) (text : V → List ℕ) (Good : S → V → Type 0) (next : S → V → S)
      (m : Exact mark flag (λ b. Unit {0})) (y : (x : S) → Exact (r x) text (Good x)) where
    abbrev all : ℕ → S → Reading R (List V)
    all n x = listed full may closed mark r next n x

    abbrev Are : ℕ → S → List V → Type 0
    Are n x vs = AreListed may closed Good next n x vs

    abbrev words : List V → List ℕ
    words vs = listed_text flag text vs

    abbrev none_at : Rest → List V × Rest
    none_at t = ([], t)

    -- behind the mark of one more
    abbrev one_more : ℕ → S → Reading R (List V)
    one_more n x t = after (refusing (may x) (x, t)) (λ _ u. after (r x u) (λ v k. after (all n (next x v) k) (λ vs l. Ok (v ∷ vs, l))))

    nothing_listed : (n : ℕ) (x : S) → closed x ≡ None → Are n x []
    nothing_listed zero x h = h
    nothing_listed (suc n) x h = h

    no_more : (n : ℕ) (x : S) (s t u : Rest) (vs : List V) → Takes s (flag false) t → refusing (closed x) (none_at t) ≡ done (vs, u) → Are n x vs × Takes s (words vs) u
    no_more n x s t u vs took e =
        let k = refusing_ok (closed x) ([], t) (vs, u) e in
        subst (λ (p : List V × Rest). Are n x p.0 × Takes s (words p.0) p.1) k.1 (nothing_listed n x k.0, took)

    found_zero : (x : S) (s t u : Rest) (vs : List V) (more : Bool) → Takes s (flag more) t → cond more (Err full) (refusing (closed x) (none_at t)) ≡ done (vs, u) → Are 0 x vs × Takes s (words vs) u
    found_zero x s t u vs true took e = absurd cc
    found_zero x s t u vs false took e = no_more 0 x s t u vs took e

    found_more : (n : ℕ) (x : S) → ((z : S) → Exact (all n z) words (Are n z)) → (s t u : Rest) (vs : List V) (more : Bool) → Takes s (flag more) t
        → cond more (one_more n x t) (refusing (closed x) (none_at t)) ≡ done (vs, u)
        → Are (suc n) x vs × Takes s (words vs) u
    found_more n x z s t u vs false took e = no_more (suc n) x s t u vs took e
    found_more n x z s t u vs true took e =
        let a = after_ok (refusing (may x) (x, t)) (λ _ k. after (r x k) (λ v k. after (all n (next x v) k) (λ vs l. Ok (v ∷ vs, l)))) (vs, u) e in
        let k = refusing_ok (may x) (x, t) a.0 a.1 in
        let from : after (r x t) (λ v k. after (all n (next x v) k) (λ vs l. Ok (v ∷ vs, l))) ≡ done (vs, u) = subst (λ (p : S × Rest). after (r x p.1) (λ v k. after (all n (next x v) k) (λ vs l. Ok (v ∷ vs, l))) ≡ done (vs, u)) (sym k.1) a.2 in
        let b = after_ok (r x t) (λ v k. after (all n (next x v) k) (λ vs l. Ok (v ∷ vs, l))) (vs, u) from in
        let q = (y x).found t b.0.1 b.0.0 took.fits b.1 in
        let c = after_ok (all n (next x b.0.0) b.0.1) (λ vs l. Ok (b.0.0 ∷ vs, l)) (vs, u) b.2 in
        let w = (z (next x b.0.0)).found b.0.1 c.0.1 c.0.0 q.1.fits c.1 in
        subst (λ (p : List V × Rest). Are (suc n) x p.0 × Takes s (words p.0) p.1) (ok_is (b.0.0 ∷ c.0.0, c.0.1) (vs, u) c.2)
        ((k.0, q.0, w.0), takes_both took (takes_both q.1 w.1))

    again_none : (n : ℕ) (x : S) (at : ℕ) (rest : List ℕ) → closed x ≡ None → all n x (rest_at at (flag false ++ rest)) ≡ done ([], rest_at (at + length (flag false)) rest)
    unfolding listed
    again_none zero x at rest h = rw (m.again at false rest tt, h) refl
    again_none (suc n) x at rest h = rw (m.again at false rest tt, h) refl

    again_listed : (n : ℕ) (x : S) (at : ℕ) (vs : List V) (rest : List ℕ) → Are n x vs → all n x (rest_at at (words vs ++ rest)) ≡ done (vs, rest_at (at + length (words vs)) rest)
    unfolding listed
    again_listed zero x at [] rest h = again_none 0 x at rest h
    again_listed (suc n) x at [] rest h = again_none (suc n) x at rest h
    again_listed zero x at (v ∷ vs) rest h = absurd h
    again_listed (suc n) x at (v ∷ vs) rest h =
        ap (λ (k : List ℕ). all (suc n) x (rest_at at k)) (append_assoc (flag true) (text v ++ words vs) rest ∙ ap (λ (k : List ℕ). flag true ++ k) (append_assoc (text v) (words vs) rest))
        ∙ rw (m.again at true (text v ++ (words vs ++ rest)) tt, h.0, (y x).again (at + length (flag true)) v (words vs ++ rest) h.1, again_listed n (next x v) (at + length (flag true) + length (text v)) vs rest h.2)
        (ap (λ (k : ℕ). done (v ∷ vs, rest_at k rest)) (omega (arith, length-append (flag true) (text v ++ words vs), length-append (text v) (words vs))))

    pub exact_listed : (n : ℕ) (x : S) → Exact (listed full may closed mark r next n x) (listed_text flag text) (AreListed may closed Good next n x)
    unfolding listed
    exact_listed zero x = record {
      found = λ s t v h e.
          let a = after_ok (mark s) (λ more u. cond more (Err full) (refusing (closed x) ([], u))) (v, t) e in
          found_zero x s a.0.1 t v a.0.0 (m.found s a.0.1 a.0.0 h a.1).1 a.2;
      again = again_listed 0 x;
    }
    exact_listed (suc n) x = record {
      found = λ s t v h e.
          let a = after_ok (mark s) (λ more u. cond more (one_more n x u) (refusing (closed x) ([], u))) (v, t) e in
          found_more n x (exact_listed n) s a.0.1 t v a.0.0 (m.found s a.0.1 a.0.0 h a.1).1 a.2;
      again = again_listed (suc n) x;
    }

  -- ---- the whole

  leftover_none : (trailing : R) (bytes : List ℕ) → leftover trailing bytes ≡ None → bytes ≡ []
  leftover_none trailing [] e = refl
  leftover_none trailing (b ∷ bytes) e = absurd cc

  none_of : {V : Type 0} (trailing : ℕ → R) (result : Result (V × Rest) R) → reason_in trailing result ≡ None → (x : V × Rest) × (result ≡ Ok x) × (x.1.bytes ≡ [])
  none_of trailing (Ok x) e = (x, refl, leftover_none (trailing x.1.at) x.1.bytes e)
  none_of trailing (Err d) e = absurd cc

  -- a first reason exists exactly where the bytes are the text of no good value
  pub no_reason_exactly : {V : Type 0} {r : Reading R V} {text : V → List ℕ} {Good : V → Type 0} (trailing : ℕ → R) → Exact r text Good → (bytes : List ℕ) → IsBytes bytes
      → (first_reason trailing r bytes ≡ None) ↔ ((v : V) × Good v × (bytes ≡ text v))
  no_reason_exactly {r = r} {text} trailing x bytes fits = (
    λ none.
        let a = none_of trailing (r (rest_at 0 bytes)) none in
        let q = x.found (rest_at 0 bytes) a.0.1 a.0.0 fits a.1 in
        (a.0.0, q.0, q.1.parts ∙ ap (λ (k : List ℕ). text a.0.0 ++ k) a.2 ∙ append-nil (text a.0.0)),
    λ v. ap (reason_in trailing) (ap (λ (k : List ℕ). r (rest_at 0 k)) (v.2 ∙ sym (append-nil (text v.0))) ∙ x.again 0 v.0 [] v.1),
  )

  -- and good values of one text are one
  pub one_spelling : {V : Type 0} {r : Reading R V} {text : V → List ℕ} {Good : V → Type 0} → Exact r text Good → (v w : V) → Good v → Good w → text v ≡ text w → v ≡ w
  one_spelling {r = r} {text} x v w p q e =
      ap (λ (k : _ × Rest). k.0) (ok_is _ _ (sym (x.again 0 v [] p) ∙ ap (λ (k : List ℕ). r (rest_at 0 (k ++ []))) e ∙ x.again 0 w [] q))
