-- A reader whose next answers are told by a reading of the bytes that follow: what it gives while these are read, and how it goes on.
use Rattle.std.proofs.Common.{◌≡◌, ◌⊎◌, inl, inr, ℕ, zero, suc, List, [], ◌∷◌, ◌++◌, length, Option, Some, None, Result, Ok, Err, refl, sym, ap, subst, ◌∙◌, append_assoc, arith}
use Rattle.readings.specs.Readings.{Rest, Reading, after, gives, seen, both, unless, chain}
use Rattle.readings.proofs.Exacts.{after_ok, ok_is}
use Rattle.readings.proofs.Gives.{state_after}
use Rattle.table_format.specs.declared.reason.Reason.{Reason}
use Rattle.table_format.specs.Reader.{Form, Spot, Step, item_at}
use Rattle.table_format.specs.Given.{Given, given_by, GivesFrom}

-- what comes next, by what is known of the items given so far
abbrev pub Pending : Type 0
Pending = Spot → Reading Reason Step

abbrev pub Answer : Type 0
Answer = Result (Step × Rest) Reason

-- a reading that stops does so in its first part or behind it
after_err : {A B : Type 0} (r : Result (A × Rest) Reason) (f : A → Reading Reason B) (e : Reason) → after r f ≡ Err e → (r ≡ Err e) ⊎ ((x : A × Rest) × (r ≡ Ok x) × (f x.0 x.1 ≡ Err e))
after_err (Ok x) f e h = inr (x, refl, h)
after_err (Err d) f e h = inl (let same : d ≡ e = cc in ap (λ (k : Reason). Err k) same)

seen_err : {A B : Type 0} (f : A → B) (r : Result (A × Rest) Reason) (e : Reason) → after r (λ a t. Ok (f a, t)) ≡ Err e → r ≡ Err e
seen_err f (Ok x) e h = absurd cc
seen_err f (Err d) e h = let same : d ≡ e = cc in ap (λ (k : Reason). Err k) same

pair_err : {A B : Type 0} (r : Result (B × Rest) Reason) (v : A) (e : Reason) → after {B = A × B} r (λ b l. Ok ((v, b), l)) ≡ Err e → r ≡ Err e
pair_err r v e h = seen_err (λ b. (v, b)) r e h

-- a silent part: what is read behind it is the answer
pub behind : {A B : Type 0} (v : A) (r : Result (B × Rest) Reason) → after {A = A × B} (after r (λ b u. Ok ((v, b), u))) (λ p u. Ok (p.1, u)) ≡ r
behind v (Ok x) = refl
behind v (Err d) = refl

unpaired : {V : Type 0} (v : V) (r : Result (List V × Rest) Reason) → after r (λ vs u. Ok (v ∷ vs, u)) ≡ after {A = V × List V} (after r (λ vs u. Ok ((v, vs), u))) (λ z u. Ok (z.0 ∷ z.1, u))
unpaired v (Ok x) = refl
unpaired v (Err d) = refl

pub unchained : {V : Type 0} (a : Result (V × Rest) Reason) (f : V → Reading Reason (List V))
    → after a (λ v t. after (f v t) (λ vs u. Ok (v ∷ vs, u))) ≡ after {A = V × List V} (after a (λ v t. after (f v t) (λ vs u. Ok ((v, vs), u)))) (λ z u. Ok (z.0 ∷ z.1, u))
unchained (Ok x) f = unpaired x.0 (f x.0 x.1)
unchained (Err e) f = refl

pub untested : {V : Type 0} (r : Result (V × Rest) Reason) → after r (λ v t. Ok (v, t)) ≡ r
untested (Ok x) = refl
untested (Err d) = refl

module _ (form : Form) where
  -- after these items it goes on with that answer
  abbrev pub Goes : Answer → List Given → Answer → Type 0
  Goes a gs b = (hs : List Given) (end : Option Reason) → GivesFrom form b hs end → GivesFrom form a (gs ++ hs) end

  goes_both : (a b c : Answer) (gs hs : List Given) → Goes a gs b → Goes b hs c → Goes a (gs ++ hs) c
  goes_both a b c gs hs x y more end h = subst (λ (k : List Given). GivesFrom form a k end) (sym (append_assoc gs hs more)) (x (hs ++ more) end (y more end h))

  -- While a value is read, the reader gives its items, and goes on as that value tells. Where a test fails it gives some, and that reason.
  pub record Follows {V : Type 0} (p : Pending) (r : Reading Reason V) (items : V → List Given) (q : V → Pending) (s : Rest) : Type 0 where
    pub goes : (x : Spot) (v : V) (t : Rest) → r s ≡ Ok (v, t) → (y : Spot) × Goes (p x s) (items v) (q v y t)
    pub stops : (x : Spot) (e : Reason) → r s ≡ Err e → (gs : List Given) × GivesFrom form (p x s) gs (Some e)

  -- one item
  pub one_follows : {V : Type 0} {p : Pending} {r : Reading Reason V} {q : V → Pending} (step : Spot → V → Step) (item : V → Given) (s : Rest) → ((x : Spot) → p x s ≡ seen (step x) r s)
      → ((x : Spot) (v : V) → given_by (step x v) ≡ item v) → ((x : Spot) (v : V) (t : Rest) → (y : Spot) × (item_at form (step x v).1 t ≡ q v y t)) → Follows p r (λ v. item v ∷ []) q s
  one_follows {r = r} step item s is gives on = record {
    goes = λ x v t e. let k = on x v t in (k.0, λ hs end h. rw (is x, e) (gives x v, subst (λ (a : Answer). GivesFrom form a hs end) (sym k.1) h));
    stops = λ x e f. ([], rw (is x, f) refl);
  }

  -- what is read gives no item
  pub silent_follows : {V : Type 0} {r : Reading Reason V} (q : V → Pending) (s : Rest) → Follows (λ x. seen (λ p. p.1) (both r (λ v. q v x))) r (λ v. []) q s
  silent_follows {r = r} q s = record {
    goes = λ x v t e. (x, λ hs end h. rw e (subst (λ (a : Answer). GivesFrom form a hs end) (sym (behind v (q v x t))) h));
    stops = λ x e f. ([], rw f refl);
  }

  -- nothing is read
  pub none_follows : {V : Type 0} {p : Pending} {r : Reading Reason V} {q : V → Pending} (v : V) (s : Rest) → r s ≡ Ok (v, s) → ((x : Spot) → (y : Spot) × (p x s ≡ q v y s)) → Follows p r (λ w. []) q s
  none_follows {p = p} {r} {q} v s is on = record {
    goes = λ x w t e.
        let same = ok_is (v, s) (w, t) (sym is ∙ e) in
        let k = on x in
        (k.0, λ hs end h. subst (λ (a : Answer). GivesFrom form a hs end) (sym (k.1 ∙ ap (λ (z : _ × Rest). q z.0 k.0 z.1) same)) h);
    stops = λ x e f. absurd cc;
  }

  -- the items, said otherwise
  pub items_so : {V : Type 0} {p : Pending} {r : Reading Reason V} {items : V → List Given} {q : V → Pending} {s : Rest} (others : V → List Given) → ((v : V) (t : Rest) → r s ≡ Ok (v, t) → items v ≡ others v)
      → Follows p r items q s → Follows p r others q s
  items_so {p = p} {q = q} {s} others same f = record {
    goes = λ x v t e. let k = f.goes x v t e in (k.0, subst (λ (gs : List Given). Goes (p x s) gs (q v k.0 t)) (same v t e) k.1);
    stops = f.stops;
  }

  -- how it goes on, said otherwise
  pub then_so : {V : Type 0} {p : Pending} {r : Reading Reason V} {items : V → List Given} {q : V → Pending} {s : Rest} (k : V → Pending) → ((v : V) (y : Spot) (t : Rest) → r s ≡ Ok (v, t) → (z : Spot) × (q v y t ≡ k v z t))
      → Follows p r items q s → Follows p r items k s
  then_so {p = p} {items = items} {s = s} k so f = record {
    goes = λ x v t e. let g = f.goes x v t e in let z = so v g.0 t e in (z.0, subst (λ (a : Answer). Goes (p x s) (items v) a) z.1 g.1);
    stops = f.stops;
  }

  -- what comes next, said otherwise
  pub next_so : {V : Type 0} {p : Pending} {r : Reading Reason V} {items : V → List Given} {q : V → Pending} {s : Rest} (k : Pending) → ((x : Spot) → (y : Spot) × (k x s ≡ p y s)) → Follows p r items q s → Follows k r items q s
  next_so {items = items} {q} {s} k so f = record {
    goes = λ x v t e. let y = so x in let g = f.goes y.0 v t e in (g.0, subst (λ (a : Answer). Goes a (items v) (q v g.0 t)) (sym y.1) g.1);
    stops = λ x e h. let y = so x in let g = f.stops y.0 e h in (g.0, subst (λ (a : Answer). GivesFrom form a g.0 (Some e)) (sym y.1) g.1);
  }

  -- the reading, said otherwise
  pub reading_so : {V : Type 0} {p : Pending} {r : Reading Reason V} {items : V → List Given} {q : V → Pending} {s : Rest} (z : Reading Reason V) → z s ≡ r s → Follows p r items q s → Follows p z items q s
  reading_so z same f = record {
    goes = λ x v t e. f.goes x v t (sym same ∙ e);
    stops = λ x e h. f.stops x e (sym same ∙ h);
  }

  pub unless_follows : {V : Type 0} {p : Pending} {r : Reading Reason V} {items : V → List Given} {q : V → Pending} {s : Rest} → Follows p r items q s → Follows p (unless (λ v. None) r) items q s
  unless_follows {r = r} {s = s} f = reading_so (unless (λ v. None) r) (untested (r s)) f

  pub seen_follows : {A B : Type 0} {p : Pending} {r : Reading Reason A} {items : B → List Given} {q : B → Pending} {s : Rest} (f : A → B) → Follows p r (λ a. items (f a)) (λ a. q (f a)) s → Follows p (seen f r) items q s
  seen_follows {p = p} {r} {items} {q} {s} f g = record {
    goes = λ x v t e.
        let a = after_ok (r s) (λ w u. Ok (f w, u)) (v, t) e in
        let k = g.goes x a.0.0 a.0.1 a.1 in
        subst (λ (z : _ × Rest). (y : Spot) × Goes (p x s) (items z.0) (q z.0 y z.1)) (ok_is (f a.0.0, a.0.1) (v, t) a.2) k;
    stops = λ x e h. g.stops x e (seen_err f (r s) e h);
  }

  -- one behind the other
  pub both_follows : {A B : Type 0} {p : Pending} {r : Reading Reason A} {f : A → Reading Reason B} {items : A → List Given} {more : A → B → List Given} {q : A → Pending} {k : A × B → Pending} {s : Rest}
      → Follows p r items q s → ((v : A) (t : Rest) → r s ≡ Ok (v, t) → Follows (q v) (f v) (more v) (λ w. k (v, w)) t) → Follows p (both r f) (λ z. items z.0 ++ more z.0 z.1) k s
  both_follows {p = p} {r} {f} {items} {more} {q} {k} {s} g h = record {
    goes = λ x v t e.
        let a = after_ok (r s) (λ w u. after (f w u) (λ b l. Ok ((w, b), l))) (v, t) e in
        let b = after_ok (f a.0.0 a.0.1) (λ c l. Ok ((a.0.0, c), l)) (v, t) a.2 in
        let m = g.goes x a.0.0 a.0.1 a.1 in
        let n = (h a.0.0 a.0.1 a.1).goes m.0 b.0.0 b.0.1 b.1 in
        subst (λ (z : (_ × _) × Rest). (y : Spot) × Goes (p x s) (items z.0.0 ++ more z.0.0 z.0.1) (k z.0 y z.1)) (ok_is ((a.0.0, b.0.0), b.0.1) (v, t) b.2)
        (n.0, goes_both (p x s) (q a.0.0 m.0 a.0.1) (k (a.0.0, b.0.0) n.0 b.0.1) (items a.0.0) (more a.0.0 b.0.0) m.1 n.1);
    stops = λ x e d.
        elim (after_err (r s) (λ w u. after (f w u) (λ b l. Ok ((w, b), l))) e d) [
          | inl first ↦ g.stops x e first
          | inr a ↦
              let m = g.goes x a.0.0 a.0.1 a.1 in
              let n = (h a.0.0 a.0.1 a.1).stops m.0 e (pair_err (f a.0.0 a.0.1) a.0.0 e a.2) in
              (items a.0.0 ++ n.0, m.1 n.0 (Some e) n.1)
        ];
  }

  -- ---- values one after another

  -- the first of so many, and the others
  pub chain_more : {S V : Type 0} {p : Pending} {k : List V → Pending} (r : S → Reading Reason V) (next : S → V → S) (n : ℕ) (x : S) (s : Rest) {q : V → Pending} (one : V → List Given) (more : V → List V → List Given) (items : List V → List Given)
      → ((v : V) (vs : List V) → one v ++ more v vs ≡ items (v ∷ vs)) → Follows p (r x) one q s → ((v : V) (t : Rest) → r x s ≡ Ok (v, t) → Follows (q v) (chain r next n (next x v)) (more v) (λ vs. k (v ∷ vs)) t)
      → Follows p (chain r next (suc n) x) items k s
  unfolding chain
  chain_more {k = k} r next n x s one more items same f g = reading_so (chain r next (suc n) x) (unchained (r x s) (λ v. chain r next n (next x v)))
      (seen_follows (λ z. z.0 ∷ z.1) (items_so (λ z. items (z.0 ∷ z.1)) (λ z t e. same z.0 z.1) (both_follows {k = λ z. k (z.0 ∷ z.1)} f g)))

  pub chain_none : {S V : Type 0} {p : Pending} {k : List V → Pending} (r : S → Reading Reason V) (next : S → V → S) (x : S) (s : Rest) (items : List V → List Given) → items [] ≡ [] → ((y : Spot) → (z : Spot) × (p y s ≡ k [] z s))
      → Follows p (chain r next 0 x) items k s
  unfolding chain
  chain_none r next x s items same on = items_so items (λ v t e. let is = ok_is ([], s) (v, t) e in sym (ap (λ (z : List _ × Rest). items z.0) (sym is) ∙ same)) (none_follows [] s refl on)

  -- each by what was read before it
  pub chain_follows : {S V : Type 0} (p : ℕ → S → Pending) (r : S → Reading Reason V) (next : S → V → S) (one : S → V → Given) (items : S → List V → List Given) → ((x : S) → items x [] ≡ [])
      → ((x : S) (v : V) (vs : List V) → one x v ∷ items (next x v) vs ≡ items x (v ∷ vs)) → ((n : ℕ) (x : S) (s : Rest) → Follows (p (suc n) x) (r x) (λ v. one x v ∷ []) (λ v. p n (next x v)) s)
      → (n : ℕ) (x : S) (s : Rest) → Follows (p n x) (chain r next n x) (items x) (λ vs. p 0 (state_after next x vs)) s
  chain_follows p r next one items none same step zero x s = chain_none r next x s (items x) (none x) (λ y. (y, refl))
  chain_follows p r next one items none same step (suc n) x s =
      chain_more r next n x s (λ v. one x v ∷ []) (λ v. items (next x v)) (items x) (same x) (step n x s) (λ v t e. chain_follows p r next one items none same step n (next x v) t)

pub chained_length : {S V : Type 0} (r : S → Reading Reason V) (next : S → V → S) (n : ℕ) (x : S) (s t : Rest) (vs : List V) → chain r next n x s ≡ Ok (vs, t) → length vs ≡ n
unfolding chain
chained_length r next zero x s t vs e = let same = ok_is ([], s) (vs, t) e in ap (λ (z : List _ × Rest). length z.0) (sym same)
chained_length r next (suc n) x s t vs e =
    let a = after_ok (r x s) (λ v u. after (chain r next n (next x v) u) (λ ws k. Ok (v ∷ ws, k))) (vs, t) e in
    let b = after_ok (chain r next n (next x a.0.0) a.0.1) (λ ws k. Ok (a.0.0 ∷ ws, k)) (vs, t) a.2 in
    let same = ok_is (a.0.0 ∷ b.0.0, b.0.1) (vs, t) b.2 in
    let more = chained_length r next n (next x a.0.0) a.0.1 b.0.1 b.0.0 b.1 in
    ap (λ (z : List _ × Rest). length z.0) (sym same) ∙ omega (arith, more)
