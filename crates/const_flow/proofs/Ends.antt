-- Rounds of a flow problem end in its least solution.
use Rattle.std.proofs.Common.{◌≡◌, ◌⊎◌, inl, inr, refl, sym, ap, ap₂, ◌∙◌, subst, ℕ, zero, suc, ◌+◌, ◌*◌, ◌<◌, ◌≤◌, Bool, true, false, nat_eq, if◌then◌else◌, List, [], ◌∷◌, length, Option, Some, None, slice_get, arith}
use Rattle.std.proofs.lemmas.Bool.{eqb-true}
use Rattle.flow_engine.specs.Flow.{Arrow, Flow, Solves, Least}
use Rattle.const_flow.specs.Rounds.{along, gather, rows_from, round, repeated}
use Rattle.flow_engine.proofs.Laws.{Laws}
use Rattle.const_flow.specs.Same.{same_or_not}

some_one : {A : Type 0} {x y : A} → Some x ≡ Some y → x ≡ y
some_one e = grind arith

not_both : (a b : ℕ) → nat_eq a b ≡ false → a ≡ b → ⊥
not_both a b e d = go (same_or_not a b)
  where
    go : ((nat_eq a b ≡ true) × (a ≡ b)) ⊎ ((nat_eq a b ≡ false) × (a ≡ b → ⊥)) → ⊥
    go (inl h) = let z : true ≡ false = sym h.0 ∙ e in grind arith
    go (inr h) = h.1 d

strict : (n a b : ℕ) → n ≤ a → a ≤ b → (a ≡ b → ⊥) → suc n ≤ b
strict n a b q le ne = go (same_or_not a b)
  where
    go : ((nat_eq a b ≡ true) × (a ≡ b)) ⊎ ((nat_eq a b ≡ false) × (a ≡ b → ⊥)) → suc n ≤ b
    go (inl h) = absurd (ne h.1)
    go (inr h) = grind arith

less : (a b : ℕ) → a ≤ b → (a ≡ b → ⊥) → a < b
less a b le ne = strict a a b (omega arith) le ne

between : (n a b : ℕ) → n ≤ a → a ≤ b → b ≤ n → a ≡ b
between n a b p q r = omega arith

module _ {A : Type 0} (Ok : A → Type 0) (Below : A → A → Type 0) (rank : A → ℕ) (h : ℕ) (p : Flow A) (laws : Laws Ok Below rank h p) where
  abbrev pub AllOk : List A → Type 0
  AllOk [] = Unit {0}
  AllOk (x ∷ xs) = Ok x × AllOk xs

  abbrev pub AllBelow : List A → List A → Type 0
  AllBelow [] [] = Unit {0}
  AllBelow (x ∷ xs) (y ∷ ys) = Below x y × AllBelow xs ys
  AllBelow _ _ = ⊥

  abbrev pub total : List A → ℕ
  total [] = 0
  total (x ∷ xs) = rank x + total xs

  -- the edges that are left are the problem's
  abbrev Part : List (Arrow A) → Type 0
  Part es = (i : ℕ) (e : Arrow A) → slice_get es i ≡ Some e → (n : ℕ) × (slice_get p.arrows n ≡ Some e)

  part_head : (e : Arrow A) (es : List (Arrow A)) → Part (e ∷ es) → (n : ℕ) × (slice_get p.arrows n ≡ Some e)
  part_head e es k = k 0 e refl

  part_tail : (e : Arrow A) (es : List (Arrow A)) → Part (e ∷ es) → Part es
  part_tail e es k i d q = k (suc i) d q

  get_ok : (xs : List A) (i : ℕ) (x : A) → AllOk xs → slice_get xs i ≡ Some x → Ok x
  get_ok [] i x k e = absurd (grind arith)
  get_ok (y ∷ xs) zero x k e = subst Ok (some_one e) k.0
  get_ok (y ∷ xs) (suc i) x k e = get_ok xs i x k.1 e

  get_below : (xs ys : List A) (i : ℕ) (x y : A) → AllBelow xs ys → slice_get xs i ≡ Some x → slice_get ys i ≡ Some y → Below x y
  get_below (a ∷ xs) (b ∷ ys) zero x y k e d = subst (λ x. Below x y) (some_one e) (subst (λ y. Below a y) (some_one d) k.0)
  get_below (a ∷ xs) (b ∷ ys) (suc i) x y k e d = get_below xs ys i x y k.1 e d
  get_below [] ys i x y k e d = absurd (grind arith)
  get_below (a ∷ xs) [] i x y k e d = absurd k

  get_both : (xs ys : List A) (i : ℕ) → AllBelow xs ys → (x : A) → slice_get xs i ≡ Some x → (y : A) × (slice_get ys i ≡ Some y)
  get_both (a ∷ xs) (b ∷ ys) zero k x e = (b, refl)
  get_both (a ∷ xs) (b ∷ ys) (suc i) k x e = get_both xs ys i k.1 x e
  get_both [] ys i k x e = absurd (grind arith)
  get_both (a ∷ xs) [] i k x e = absurd k

  -- what is gathered
  along_ok : (e : Arrow A) (n : ℕ) → slice_get p.arrows n ≡ Some e → (xs : List A) (acc : A) → AllOk xs → Ok acc → Ok (along p.join acc e.flow (slice_get xs e.from))
  along_ok e n is xs acc k q = go (slice_get xs e.from) refl
    where
      go : (o : Option A) → slice_get xs e.from ≡ o → Ok (along p.join acc e.flow o)
      go None g = q
      go (Some x) g = laws.join_ok acc (e.flow x) q (laws.flow_ok n e x is (get_ok xs e.from x k g))

  gather_ok : (es : List (Arrow A)) → Part es → (xs : List A) (b : ℕ) (acc : A) → AllOk xs → Ok acc → Ok (gather p.join es xs b acc)
  gather_ok [] k xs b acc o q = q
  gather_ok (e ∷ es) k xs b acc o q = gather_ok es (part_tail e es k) xs b _ o (pick (nat_eq e.to b))
    where
      pick : (c : Bool) → Ok (if c then along p.join acc e.flow (slice_get xs e.from) else acc)
      pick true = let (n, is) = part_head e es k in along_ok e n is xs acc o q
      pick false = q

  -- it only grows
  along_grows : (e : Arrow A) (n : ℕ) → slice_get p.arrows n ≡ Some e → (xs : List A) (acc : A) → AllOk xs → Ok acc → Below acc (along p.join acc e.flow (slice_get xs e.from))
  along_grows e n is xs acc k q = go (slice_get xs e.from) refl
    where
      go : (o : Option A) → slice_get xs e.from ≡ o → Below acc (along p.join acc e.flow o)
      go None g = laws.same acc q
      go (Some x) g = laws.left acc (e.flow x) q (laws.flow_ok n e x is (get_ok xs e.from x k g))

  pub gather_grows : (es : List (Arrow A)) → Part es → (xs : List A) (b : ℕ) (acc : A) → AllOk xs → Ok acc → Below acc (gather p.join es xs b acc)
  gather_grows [] k xs b acc o q = laws.same acc q
  gather_grows (e ∷ es) k xs b acc o q = laws.then_below acc _ _ (pick (nat_eq e.to b)).0 (gather_grows es (part_tail e es k) xs b _ o (pick (nat_eq e.to b)).1)
    where
      pick : (c : Bool) → Below acc (if c then along p.join acc e.flow (slice_get xs e.from) else acc) × Ok (if c then along p.join acc e.flow (slice_get xs e.from) else acc)
      pick true = let (n, is) = part_head e es k in (along_grows e n is xs acc o q, along_ok e n is xs acc o q)
      pick false = (laws.same acc q, q)

  -- each edge is in it
  gather_has : (es : List (Arrow A)) → Part es → (xs : List A) (b : ℕ) (acc : A) → AllOk xs → Ok acc → (i : ℕ) (e : Arrow A) (x : A) → slice_get es i ≡ Some e → e.to ≡ b → slice_get xs e.from ≡ Some x → Below (e.flow x) (gather p.join es xs b acc)
  gather_has [] k xs b acc o q i e x is to from = absurd (grind arith)
  gather_has (d ∷ es) k xs b acc o q (suc i) e x is to from = gather_has es (part_tail d es k) xs b _ o (pick (nat_eq d.to b)) i e x is to from
    where
      pick : (c : Bool) → Ok (if c then along p.join acc d.flow (slice_get xs d.from) else acc)
      pick true = let (n, is') = part_head d es k in along_ok d n is' xs acc o q
      pick false = q
  gather_has (d ∷ es) k xs b acc o q zero e x is to from = subst (λ e'. Below (e'.flow x) (gather p.join (d ∷ es) xs b acc)) (some_one is) (at_head (nat_eq d.to b) refl (λ a z. gather_grows es (part_tail d es k) xs b a o z))
    where
      to_d : d.to ≡ b
      to_d = ap (λ e. e.to) (some_one is) ∙ to

      from_d : slice_get xs d.from ≡ Some x
      from_d = ap (λ e. slice_get xs e.from) (some_one is) ∙ from

      ok_x : (n : ℕ) → slice_get p.arrows n ≡ Some d → Ok (d.flow x)
      ok_x n is' = laws.flow_ok n d x is' (get_ok xs d.from x o from_d)

      at_head : (c : Bool) → nat_eq d.to b ≡ c → ((a : A) → Ok a → Below a (gather p.join es xs b a)) → Below (d.flow x) (gather p.join es xs b (if c then along p.join acc d.flow (slice_get xs d.from) else acc))
      at_head true c grow =
          let (n, is') = part_head d es k in
          subst (λ r. Below (d.flow x) (gather p.join es xs b (along p.join acc d.flow r))) (sym from_d) (laws.then_below (d.flow x) _ _ (laws.right acc (d.flow x) q (ok_x n is')) (grow (p.join acc (d.flow x)) (laws.join_ok acc (d.flow x) q (ok_x n is'))))
      at_head false c grow = absurd (not_both d.to b c to_d)

  -- more gives more
  join_below : (a b x y : A) → Ok a → Ok b → Ok x → Ok y → Below a b → Below x y → Below (p.join a x) (p.join b y)
  join_below a b x y oa ob ox oy k l = laws.least a x (p.join b y) oa ox (laws.then_below a b _ k (laws.left b y ob oy)) (laws.then_below x y _ l (laws.right b y ob oy))

  along_below : (e : Arrow A) (n : ℕ) → slice_get p.arrows n ≡ Some e → (xs ys : List A) (a b : A) → AllOk xs → AllOk ys → Ok a → Ok b → AllBelow xs ys → Below a b → Below (along p.join a e.flow (slice_get xs e.from)) (along p.join b e.flow (slice_get ys e.from))
  along_below e n is xs ys a b ox oy oa ob k l = go (slice_get xs e.from) refl
    where
      none : slice_get xs e.from ≡ None → Below a (along p.join b e.flow (slice_get ys e.from))
      none g = laws.then_below a b _ l (along_grows e n is ys b oy ob)

      go : (o : Option A) → slice_get xs e.from ≡ o → Below (along p.join a e.flow o) (along p.join b e.flow (slice_get ys e.from))
      go None g = none g
      go (Some x) g =
          let (y, g') = get_both xs ys e.from k x g in
          subst (λ o. Below (p.join a (e.flow x)) (along p.join b e.flow o)) (sym g') (join_below a b (e.flow x) (e.flow y) oa ob (laws.flow_ok n e x is (get_ok xs e.from x ox g)) (laws.flow_ok n e y is (get_ok ys e.from y oy g')) l (laws.flow_below n e x y is (get_ok xs e.from x ox g) (get_ok ys e.from y oy g') (get_below xs ys e.from x y k g g')))

  gather_below : (es : List (Arrow A)) → Part es → (xs ys : List A) (t : ℕ) (a b : A) → AllOk xs → AllOk ys → Ok a → Ok b → AllBelow xs ys → Below a b → Below (gather p.join es xs t a) (gather p.join es ys t b)
  gather_below [] k xs ys t a b ox oy oa ob le l = l
  gather_below (e ∷ es) k xs ys t a b ox oy oa ob le l = (let (x, y, z) = pick (nat_eq e.to t) in gather_below es (part_tail e es k) xs ys t _ _ ox oy x y le z)
    where
      pick : (c : Bool) → Ok (if c then along p.join a e.flow (slice_get xs e.from) else a) × Ok (if c then along p.join b e.flow (slice_get ys e.from) else b) × Below (if c then along p.join a e.flow (slice_get xs e.from) else a) (if c then along p.join b e.flow (slice_get ys e.from) else b)
      pick true = let (n, is) = part_head e es k in (along_ok e n is xs a ox oa, along_ok e n is ys b oy ob, along_below e n is xs ys a b ox oy oa ob le l)
      pick false = (oa, ob, l)

  all_edges : Part p.arrows
  all_edges i e q = (i, q)

  ok_all : (xs : List A) → ((b : ℕ) (x : A) → slice_get xs b ≡ Some x → Ok x) → AllOk xs
  ok_all [] k = tt
  ok_all (x ∷ xs) k = (k 0 x refl, ok_all xs (λ b y e. k (suc b) y e))

  starts_all : AllOk p.starts
  starts_all = ok_all p.starts laws.starts_ok

  -- rows
  rows_ok : (xs : List A) → AllOk xs → (b : ℕ) (ss : List A) → AllOk ss → AllOk (rows_from p xs b ss)
  rows_ok xs k b [] q = tt
  rows_ok xs k b (s ∷ ss) q = (gather_ok p.arrows all_edges xs b s k q.0, rows_ok xs k (suc b) ss q.1)

  rows_below : (xs ys : List A) → AllOk xs → AllOk ys → AllBelow xs ys → (b : ℕ) (ss : List A) → AllOk ss → AllBelow (rows_from p xs b ss) (rows_from p ys b ss)
  rows_below xs ys k l le b [] q = tt
  rows_below xs ys k l le b (s ∷ ss) q = (gather_below p.arrows all_edges xs ys b s s k l q.0 q.0 le (laws.same s q.0), rows_below xs ys k l le (suc b) ss q.1)

  rows_length : (xs : List A) (b : ℕ) (ss : List A) → length (rows_from p xs b ss) ≡ length ss
  rows_length xs b [] = refl
  rows_length xs b (s ∷ ss) = ap suc (rows_length xs (suc b) ss)

  rows_at : (xs : List A) (b : ℕ) (ss : List A) (i : ℕ) (y : A) → slice_get (rows_from p xs b ss) i ≡ Some y → (s : A) × (slice_get ss i ≡ Some s) × (gather p.join p.arrows xs (b + i) s ≡ y)
  rows_at xs b [] i y e = absurd (grind arith)
  rows_at xs b (s ∷ ss) zero y e = (s, refl, ap (λ n. gather p.join p.arrows xs n s) (let z : b + 0 ≡ b = omega arith in z) ∙ some_one e)
  rows_at xs b (s ∷ ss) (suc i) y e = let (t, f, g) = rows_at xs (suc b) ss i y e in (t, f, ap (λ n. gather p.join p.arrows xs n t) (let z : b + suc i ≡ suc b + i = omega arith in z) ∙ g)

  abbrev R : List A → List A
  R = round p

  round_ok : (xs : List A) → AllOk xs → AllOk (R xs)
  unfolding round
  round_ok xs k = rows_ok xs k 0 p.starts starts_all

  round_below : (xs ys : List A) → AllOk xs → AllOk ys → AllBelow xs ys → AllBelow (R xs) (R ys)
  unfolding round
  round_below xs ys k l le = rows_below xs ys k l le 0 p.starts starts_all

  round_length : (xs : List A) → length (R xs) ≡ length p.starts
  unfolding round
  round_length xs = rows_length xs 0 p.starts

  round_at : (xs : List A) (i : ℕ) (y : A) → slice_get (R xs) i ≡ Some y → (s : A) × (slice_get p.starts i ≡ Some s) × (gather p.join p.arrows xs i s ≡ y)
  unfolding round
  round_at xs i y e = let (s, f, g) = rows_at xs 0 p.starts i y e in (s, f, ap (λ n. gather p.join p.arrows xs n s) (let z : i ≡ 0 + i = omega arith in z) ∙ g)

  -- heights
  total_below : (xs ys : List A) → AllBelow xs ys → total xs ≤ total ys
  total_below [] [] k = omega arith
  total_below (x ∷ xs) (y ∷ ys) k = let a = laws.rank_below x y k.0 in let b = total_below xs ys k.1 in omega arith
  total_below [] (y ∷ ys) k = absurd k
  total_below (x ∷ xs) [] k = absurd k

  total_same : (xs ys : List A) → AllBelow xs ys → total xs ≡ total ys → xs ≡ ys
  total_same [] [] k e = refl
  total_same (x ∷ xs) (y ∷ ys) k e =
      let a = laws.rank_below x y k.0 in
      let b = total_below xs ys k.1 in
      ap₂ (λ z zs. z ∷ zs) (laws.rank_same x y k.0 (omega arith)) (total_same xs ys k.1 (omega arith))
  total_same [] (y ∷ ys) k e = absurd k
  total_same (x ∷ xs) [] k e = absurd k

  total_high : (xs : List A) → AllOk xs → total xs ≤ length xs * h
  total_high [] k = omega arith
  total_high (x ∷ xs) k =
      let a = laws.height x k.0 in
      let b = total_high xs k.1 in
      let c : suc (length xs) * h ≡ h + length xs * h = grind arith in
      subst (λ n. rank x + total xs ≤ n) (sym c) (omega arith)

  -- what doesn't change any more is a solution
  pub solves : (xs : List A) → AllOk xs → round p xs ≡ xs → Solves Below p xs
  solves xs k e = record {
    same_length = ap length (sym e) ∙ round_length xs;
    start = λ b s x is ix. (let (s', is', g) = round_at xs b x (ap (λ ys. slice_get ys b) e ∙ ix) in subst (Below s) g (subst (λ s'. Below s (gather p.join p.arrows xs b s')) (some_one (sym is ∙ is')) (gather_grows p.arrows all_edges xs b s k (get_ok p.starts b s starts_all is))));
    edge = λ i a x y is ix iy. (let (s, is', g) = round_at xs a.to y (ap (λ ys. slice_get ys a.to) e ∙ iy) in subst (Below (a.flow x)) g (gather_has p.arrows all_edges xs a.to s k (get_ok p.starts a.to s starts_all is') i a x is refl ix));
  }

  -- and the least
  gather_least : (es : List (Arrow A)) → Part es → (xs : List A) (b : ℕ) (acc z : A) → AllOk xs → Ok acc → Below acc z → ((i : ℕ) (e : Arrow A) (x : A) → slice_get es i ≡ Some e → e.to ≡ b → slice_get xs e.from ≡ Some x → Below (e.flow x) z) → Below (gather p.join es xs b acc) z
  gather_least [] k xs b acc z o q l all = l
  gather_least (e ∷ es) k xs b acc z o q l all = (let (m, n) = pick (nat_eq e.to b) refl in gather_least es (part_tail e es k) xs b _ z o m n (λ i d x is. all (suc i) d x is))
    where
      joined : e.to ≡ b → (r : Option A) → slice_get xs e.from ≡ r → Below (along p.join acc e.flow r) z
      joined to None g = l
      joined to (Some x) g = let (n, is) = part_head e es k in laws.least acc (e.flow x) z q (laws.flow_ok n e x is (get_ok xs e.from x o g)) l (all 0 e x refl to g)

      pick : (c : Bool) → nat_eq e.to b ≡ c → Ok (if c then along p.join acc e.flow (slice_get xs e.from) else acc) × Below (if c then along p.join acc e.flow (slice_get xs e.from) else acc) z
      pick true c = let (n, is) = part_head e es k in (along_ok e n is xs acc o q, joined (eqb-true e.to b c) (slice_get xs e.from) refl)
      pick false c = (q, l)

  below_all : (xs ys : List A) → length xs ≡ length ys → ((b : ℕ) (x y : A) → slice_get xs b ≡ Some x → slice_get ys b ≡ Some y → Below x y) → AllBelow xs ys
  below_all [] [] e k = tt
  below_all (x ∷ xs) (y ∷ ys) e k = (k 0 x y refl refl, below_all xs ys (grind arith) (λ b x y q r. k (suc b) x y q r))
  below_all [] (y ∷ ys) e k = absurd (grind arith)
  below_all (x ∷ xs) [] e k = absurd (grind arith)

  round_under : (ys : List A) → AllOk ys → Solves Below p ys → AllBelow (R ys) ys
  round_under ys k s = below_all (R ys) ys (round_length ys ∙ sym s.same_length) (λ b x y ix iy. (let (t, it, g) = round_at ys b x ix in subst (λ x. Below x y) g (gather_least p.arrows all_edges ys b t y k (get_ok p.starts b t starts_all it) (s.start b t y it iy) (λ i e z ie to from. s.edge i e z y ie from (ap (slice_get ys) to ∙ iy)))))

  all_then : (xs ys zs : List A) → AllBelow xs ys → AllBelow ys zs → AllBelow xs zs
  all_then [] [] [] k l = tt
  all_then (x ∷ xs) (y ∷ ys) (z ∷ zs) k l = (laws.then_below x y z k.0 l.0, all_then xs ys zs k.1 l.1)
  all_then [] (y ∷ ys) zs k l = absurd k
  all_then (x ∷ xs) [] zs k l = absurd k
  all_then [] [] (z ∷ zs) k l = absurd l
  all_then (x ∷ xs) (y ∷ ys) [] k l = absurd l

  -- for `solve`, in any order of edges: from the starts, each change is a join along an edge
  pub starts_under : (ys : List A) → Solves Below p ys → AllBelow p.starts ys
  starts_under ys s = below_all p.starts ys (sym s.same_length) (λ b x y ix iy. s.start b x y ix iy)

  pub raise_under : (ys : List A) → AllOk ys → Solves Below p ys → (i : ℕ) (e : Arrow A) (acc x y z : A) → slice_get p.arrows i ≡ Some e → slice_get ys e.from ≡ Some y → slice_get ys e.to ≡ Some z → Ok acc → Ok x → Below x y → Below acc z → Below (p.join acc (e.flow x)) z
  raise_under ys k s i e acc x y z is iy iz oa ox le l =
      laws.least acc (e.flow x) z oa (laws.flow_ok i e x is ox) l (laws.then_below (e.flow x) (e.flow y) z (laws.flow_below i e x y is ox (get_ok ys e.from y k iy) le) (s.edge i e y z is iy iz))

  -- a change makes the rank larger, so there are at most blocks times height changes
  pub raise_climbs : (acc x : A) → Ok acc → Ok x → (p.join acc x ≡ acc → ⊥) → rank acc < rank (p.join acc x)
  raise_climbs acc x oa ox ne = less (rank acc) (rank (p.join acc x)) (laws.rank_below acc (p.join acc x) (laws.left acc x oa ox)) (λ e. ne (sym (laws.rank_same acc (p.join acc x) (laws.left acc x oa ox) e)))

  -- where no edge changes anything it is a solution
  pub still_solves : (xs : List A) → AllOk xs → length xs ≡ length p.starts → AllBelow p.starts xs → ((i : ℕ) (e : Arrow A) (x y : A) → slice_get p.arrows i ≡ Some e → slice_get xs e.from ≡ Some x → slice_get xs e.to ≡ Some y → p.join y (e.flow x) ≡ y) → Solves Below p xs
  still_solves xs k len st all = record {
    same_length = len;
    start = λ b s x is ix. get_below p.starts xs b s x st is ix;
    edge = λ i e x y is ix iy. subst (Below (e.flow x)) (all i e x y is ix iy) (laws.right y (e.flow x) (get_ok xs e.to y k iy) (laws.flow_ok i e x is (get_ok xs e.from x k ix)));
  }

  -- rounds from a bottom
  module _ (bottom : A) (bottom_ok : Ok bottom) (bottom_below : (x : A) → Ok x → Below bottom x) where
    -- the bottom
    abbrev pub bottoms : List A → List A
    bottoms [] = []
    bottoms (s ∷ ss) = bottom ∷ bottoms ss

    bottoms_ok : (ss : List A) → AllOk (bottoms ss)
    bottoms_ok [] = tt
    bottoms_ok (s ∷ ss) = (bottom_ok, bottoms_ok ss)

    bottoms_below : (ss ys : List A) → length ys ≡ length ss → AllOk ys → AllBelow (bottoms ss) ys
    bottoms_below [] [] e k = tt
    bottoms_below (s ∷ ss) (y ∷ ys) e k = (bottom_below y k.0, bottoms_below ss ys (grind arith) k.1)
    bottoms_below [] (y ∷ ys) e k = absurd (grind arith)
    bottoms_below (s ∷ ss) [] e k = absurd (grind arith)

    abbrev pub rounds : ℕ → List A
    rounds n = repeated n (round p) (bottoms p.starts)

    pub rounds_ok : (n : ℕ) → AllOk (rounds n)
    rounds_ok zero = bottoms_ok p.starts
    rounds_ok (suc n) = round_ok (rounds n) (rounds_ok n)

    rounds_grow : (n : ℕ) → AllBelow (rounds n) (rounds (suc n))
    rounds_grow zero = bottoms_below p.starts (R (bottoms p.starts)) (round_length (bottoms p.starts)) (round_ok (bottoms p.starts) (bottoms_ok p.starts))
    rounds_grow (suc n) = round_below (rounds n) (rounds (suc n)) (rounds_ok n) (rounds_ok (suc n)) (rounds_grow n)

    climbs : (n : ℕ) → (rounds (suc n) ≡ rounds n) ⊎ (n ≤ total (rounds n))
    climbs zero = inr (omega arith)
    climbs (suc n) = go (climbs n)
      where
        le : total (rounds n) ≤ total (rounds (suc n))
        le = total_below (rounds n) (rounds (suc n)) (rounds_grow n)

        next : n ≤ total (rounds n) → ((nat_eq (total (rounds n)) (total (rounds (suc n))) ≡ true) × (total (rounds n) ≡ total (rounds (suc n)))) ⊎ ((nat_eq (total (rounds n)) (total (rounds (suc n))) ≡ false) × (total (rounds n) ≡ total (rounds (suc n)) → ⊥)) → (rounds (suc (suc n)) ≡ rounds (suc n)) ⊎ (suc n ≤ total (rounds (suc n)))
        next q (inl e) = inl (ap (round p) (sym (total_same (rounds n) (rounds (suc n)) (rounds_grow n) e.1)))
        next q (inr e) = inr (strict n (total (rounds n)) (total (rounds (suc n))) q le e.1)

        go : (rounds (suc n) ≡ rounds n) ⊎ (n ≤ total (rounds n)) → (rounds (suc (suc n)) ≡ rounds (suc n)) ⊎ (suc n ≤ total (rounds (suc n)))
        go (inl e) = inl (ap (round p) e)
        go (inr q) = next q (same_or_not (total (rounds n)) (total (rounds (suc n))))

    bottoms_length : (ss : List A) → length (bottoms ss) ≡ length ss
    bottoms_length [] = refl
    bottoms_length (s ∷ ss) = ap suc (bottoms_length ss)

    rounds_length : (n : ℕ) → length (rounds n) ≡ length p.starts
    rounds_length zero = bottoms_length p.starts
    rounds_length (suc n) = round_length (rounds n)

    -- after these rounds nothing changes
    abbrev pub enough : ℕ
    enough = length p.starts * h

    pub ends : round p (rounds enough) ≡ rounds enough
    ends = go (climbs enough)
      where
        high : total (rounds (suc enough)) ≤ enough
        high = subst (λ n. total (rounds (suc enough)) ≤ n * h) (rounds_length (suc enough)) (total_high (rounds (suc enough)) (rounds_ok (suc enough)))

        le : total (rounds enough) ≤ total (rounds (suc enough))
        le = total_below (rounds enough) (rounds (suc enough)) (rounds_grow enough)

        go : (rounds (suc enough) ≡ rounds enough) ⊎ (enough ≤ total (rounds enough)) → round p (rounds enough) ≡ rounds enough
        go (inl e) = e
        go (inr q) = sym (total_same (rounds enough) (rounds (suc enough)) (rounds_grow enough) (between enough (total (rounds enough)) (total (rounds (suc enough))) q le high))

    rounds_under : (n : ℕ) (ys : List A) → AllOk ys → Solves Below p ys → AllBelow (rounds n) ys
    rounds_under zero ys k s = bottoms_below p.starts ys s.same_length k
    rounds_under (suc n) ys k s = all_then (R (rounds n)) (R ys) ys (round_below (rounds n) ys (rounds_ok n) k (rounds_under n ys k s)) (round_under ys k s)

    -- the engine's law
    pub least_solution : Least Ok Below p (rounds enough)
    least_solution = record {
      solves = solves (rounds enough) (rounds_ok enough) ends;
      facts = λ b x e. get_ok (rounds enough) b x (rounds_ok enough) e;
      least = λ ys k s b x y ix iy. get_below (rounds enough) ys b x y (rounds_under enough ys (ok_all ys k) s) ix iy;
    }
