-- Where each block is gone over in two halves, from its start to its end and from there to its targets, the least solution has at the starts the
-- least one of the problem whose edges go over a block at once.
use Rattle.std.proofs.Common.{◌≡◌, ◌⊎◌, inl, inr, refl, sym, ap, ap₂, ◌∙◌, subst, ℕ, zero, suc, ◌+◌, ◌*◌, ◌<◌, List, [], ◌∷◌, length, get_or, Some, slice_get, arith}
use Rattle.std.proofs.lemmas.Option.{slice_get_within, slice_get-get_or}
use Rattle.flow_engine.specs.Flow.{Arrow, Flow, Solves, AllFacts, Least}
use Rattle.flow_engine.proofs.Laws.{Laws}
use Rattle.const_flow.specs.Nodes.{at_starts}
use Rattle.const_flow.proofs.Numbering.{IsEnd, end_low, node_is, starts_get, starts_long}

some_one : {A : Type 0} {x y : A} → Some x ≡ Some y → x ≡ y
some_one e = grind arith

-- ---- lists

lists_same : {A : Type 0} (xs ys : List A) → length xs ≡ length ys → ((b : ℕ) (x y : A) → slice_get xs b ≡ Some x → slice_get ys b ≡ Some y → x ≡ y) → xs ≡ ys
lists_same [] [] e k = refl
lists_same (x ∷ xs) (y ∷ ys) e k = ap₂ (λ z zs. z ∷ zs) (k 0 x y refl refl) (lists_same xs ys (omega arith) (λ b. k (suc b)))
lists_same [] (y ∷ ys) e k = absurd (omega arith)
lists_same (x ∷ xs) [] e k = absurd (omega arith)

-- what comes to the nodes, of what stands at the starts
abbrev nodes_of : {A : Type 0} → (ℕ → A → A) → ℕ → List A → List A
nodes_of half i [] = []
nodes_of half i (x ∷ xs) = half i x ∷ x ∷ half i x ∷ nodes_of half (suc i) xs

nodes_long : {A : Type 0} (half : ℕ → A → A) (i : ℕ) (xs : List A) → length (nodes_of half i xs) ≡ 3 * length xs
nodes_long half i [] = refl
nodes_long half i (x ∷ xs) = omega (arith, nodes_long half (suc i) xs)

start_at : {A : Type 0} (half : ℕ → A → A) (i : ℕ) (xs : List A) (b : ℕ) → slice_get (nodes_of half i xs) (3 * b + 1) ≡ slice_get xs b
start_at half i [] b = refl
start_at half i (x ∷ xs) zero = refl
start_at half i (x ∷ xs) (suc b) = subst (λ m. slice_get (half i x ∷ x ∷ half i x ∷ nodes_of half (suc i) xs) m ≡ slice_get xs b) (let z : suc (suc (suc (3 * b + 1))) ≡ 3 * suc b + 1 = omega arith in z) (start_at half (suc i) xs b)

end_at : {A : Type 0} (half : ℕ → A → A) (i : ℕ) (xs : List A) (b m : ℕ) (y : A) → IsEnd b m → slice_get (nodes_of half i xs) m ≡ Some y → (x : A) × (slice_get xs b ≡ Some x) × (y ≡ half (i + b) x)
end_at half i [] b m y k e = absurd (grind arith)
end_at half i (x ∷ xs) zero m y (inl k) e = (x, refl, sym (some_one (ap (slice_get (nodes_of half i (x ∷ xs))) (let z : 0 ≡ m = omega arith in z) ∙ e)) ∙ ap (λ n. half n x) (let z : i ≡ i + 0 = omega arith in z))
end_at half i (x ∷ xs) zero m y (inr k) e = (x, refl, sym (some_one (ap (slice_get (nodes_of half i (x ∷ xs))) (let z : 2 ≡ m = omega arith in z) ∙ e)) ∙ ap (λ n. half n x) (let z : i ≡ i + 0 = omega arith in z))
end_at half i (x ∷ xs) (suc b) zero y k e = absurd (let z : IsEnd (suc b) zero = k in elim z [ inl q ↦ (let r = q in omega arith) | inr q ↦ (let r = q in omega arith) ])
end_at half i (x ∷ xs) (suc b) (suc zero) y k e = absurd (let z : IsEnd (suc b) (suc zero) = k in elim z [ inl q ↦ (let r = q in omega arith) | inr q ↦ (let r = q in omega arith) ])
end_at half i (x ∷ xs) (suc b) (suc (suc zero)) y k e = absurd (let z : IsEnd (suc b) (suc (suc zero)) = k in elim z [ inl q ↦ (let r = q in omega arith) | inr q ↦ (let r = q in omega arith) ])
end_at half i (x ∷ xs) (suc b) (suc (suc (suc m))) y k e =
    let p = end_at half (suc i) xs b m y (elim k [ inl q ↦ inl (omega arith) | inr q ↦ inr (omega arith) ]) e in
    (p.0, p.1, p.2 ∙ ap (λ n. half n p.0) (let z : suc i + b ≡ i + suc b = omega arith in z))

-- ---- one least solution

pub least_one : {A : Type 0} (Ok : A → Type 0) (Below : A → A → Type 0) (rank : A → ℕ) (h : ℕ) (p : Flow A) → Laws Ok Below rank h p → (xs ys : List A) → Least Ok Below p xs → Least Ok Below p ys → xs ≡ ys
least_one Ok Below rank h p laws xs ys l m = lists_same xs ys (l.solves.same_length ∙ sym m.solves.same_length) (λ b x y gx gy.
    let up = l.least ys m.facts m.solves b x y gx gy in
    let down = m.least xs l.facts l.solves b y x gy gx in
    laws.rank_same x y up (let c = laws.rank_below x y up in let d = laws.rank_below y x down in omega arith))

-- ---- halves

-- an arrow over a block, from its start to one of its ends
pub record IsOver {A : Type 0} (n : ℕ) (half : ℕ → A → A) (b : ℕ) (e : Arrow A) : Type 0 where
  pub low : b < n
  pub from : e.from ≡ 3 * b + 1
  pub to : IsEnd b e.to
  pub flows : (x : A) → e.flow x ≡ half b x

-- what is left of an arrow behind its block's end
pub record IsBehind {A : Type 0} (n : ℕ) (half : ℕ → A → A) (a e : Arrow A) : Type 0 where
  pub low : a.from < n
  pub low_to : a.to < n
  pub from : IsEnd a.from e.from
  pub to : e.to ≡ 3 * a.to + 1
  pub flows : (x : A) → a.flow x ≡ e.flow (half a.from x)

-- two arrows for one
pub record IsWay {A : Type 0} (n : ℕ) (half : ℕ → A → A) (arrows : List (Arrow A)) (a : Arrow A) : Type 0 where
  pub first : ℕ
  pub over : Arrow A
  pub over_there : slice_get arrows first ≡ Some over
  pub is_over : IsOver n half a.from over
  pub second : ℕ
  pub behind : Arrow A
  pub behind_there : slice_get arrows second ≡ Some behind
  pub is_behind : IsBehind n half a behind
  pub meets : over.to ≡ behind.from

-- of the problem p, a problem q with halves
pub record IsHalves {A : Type 0} (Ok : A → Type 0) (Below : A → A → Type 0) (n : ℕ) (half : ℕ → A → A) (p q : Flow A) : Type 0 where
  pub short : length p.starts ≡ n
  pub long : length q.starts ≡ 3 * n
  pub begin : (b : ℕ) → b < n → slice_get q.starts (3 * b + 1) ≡ slice_get p.starts b
  pub bottom : (b m : ℕ) (s x : A) → IsEnd b m → slice_get q.starts m ≡ Some s → Below s x
  pub same : (x : A) → Ok x → Below x x
  pub then_below : (x y z : A) → Below x y → Below y z → Below x z
  pub half_ok : (b : ℕ) (x : A) → Ok x → Ok (half b x)
  pub rises : (i : ℕ) (e : Arrow A) (x y : A) → slice_get q.arrows i ≡ Some e → Ok x → Ok y → Below x y → Below (e.flow x) (e.flow y)
  pub only : (i : ℕ) (e : Arrow A) → slice_get q.arrows i ≡ Some e → ((b : ℕ) × IsOver n half b e) ⊎ ((j : ℕ) × (a : Arrow A) × (slice_get p.arrows j ≡ Some a) × IsBehind n half a e)
  pub way : (j : ℕ) (a : Arrow A) → slice_get p.arrows j ≡ Some a → a.from < n → a.to < n → IsWay n half q.arrows a

module _ {A : Type 0} (Ok : A → Type 0) (Below : A → A → Type 0) (n : ℕ) (half : ℕ → A → A) (p q : Flow A) (h : IsHalves Ok Below n half p q) where
  -- a solution, with what it has at the ends
  module _ (zs : List A) (ok : AllFacts Ok zs) (s : Solves Below p zs) where
    abbrev whole : List A
    whole = nodes_of half 0 zs

    count : length zs ≡ n
    count = s.same_length ∙ h.short

    at_start : (b : ℕ) (x : A) → slice_get (nodes_of half 0 zs) (3 * b + 1) ≡ Some x → slice_get zs b ≡ Some x
    at_start b x g = sym (start_at half 0 zs b) ∙ g

    at_end : (b m : ℕ) (y : A) → IsEnd b m → slice_get (nodes_of half 0 zs) m ≡ Some y → (x : A) × (slice_get zs b ≡ Some x) × (y ≡ half b x)
    at_end b m y k g =
        let p = end_at half 0 zs b m y k g in
        (p.0, p.1, p.2 ∙ ap (λ i. half i p.0) (let z : 0 + b ≡ b = omega arith in z))

    whole_ok : AllFacts Ok (nodes_of half 0 zs)
    whole_ok i x g = (let (b, k) = node_is i in elim k [
      | inl e ↦ ok b x (at_start b x (ap (slice_get (nodes_of half 0 zs)) (sym e) ∙ g))
      | inr e ↦ (let w = at_end b i x e g in subst Ok (sym w.2) (h.half_ok b w.0 (ok b w.0 w.1)))
    ])

    whole_start : (i : ℕ) (t x : A) → slice_get q.starts i ≡ Some t → slice_get (nodes_of half 0 zs) i ≡ Some x → Below t x
    whole_start i t x is g = (let (b, k) = node_is i in elim k [
      | inl e ↦ (let here : slice_get zs b ≡ Some x = at_start b x (ap (slice_get (nodes_of half 0 zs)) (sym e) ∙ g) in
          s.start b t x (sym (h.begin b (let l = slice_get_within zs b x here in omega (arith, count))) ∙ ap (slice_get q.starts) (sym e) ∙ is) here)
      | inr e ↦ h.bottom b i t x e is
    ])

    whole_edge : (i : ℕ) (e : Arrow A) (x y : A) → slice_get q.arrows i ≡ Some e → slice_get (nodes_of half 0 zs) e.from ≡ Some x → slice_get (nodes_of half 0 zs) e.to ≡ Some y → Below (e.flow x) y
    whole_edge i e x y is gx gy = elim (h.only i e is) [
      | inl (b, o) ↦ over b o
      | inr (j, a, ia, w) ↦ behind j a ia w
    ]
      where
        over : (b : ℕ) → IsOver n half b e → Below (e.flow x) y
        over b o =
            let zx = at_start b x (ap (slice_get (nodes_of half 0 zs)) (sym o.from) ∙ gx) in
            let w = at_end b e.to y o.to gy in
            let one : w.0 ≡ x = some_one (sym w.1 ∙ zx) in
            let is_y : half b x ≡ y = ap (half b) (sym one) ∙ sym w.2 in
            subst (λ z. Below z y) (sym (o.flows x)) (subst (Below (half b x)) is_y (h.same (half b x) (h.half_ok b x (ok b x zx))))

        behind : (j : ℕ) (a : Arrow A) → slice_get p.arrows j ≡ Some a → IsBehind n half a e → Below (e.flow x) y
        behind j a ia w =
            let u = at_end a.from e.from x w.from gx in
            let zy = at_start a.to y (ap (slice_get (nodes_of half 0 zs)) (sym w.to) ∙ gy) in
            subst (λ z. Below (e.flow z) y) (sym u.2) (subst (λ z. Below z y) (w.flows u.0) (s.edge j a u.0 y ia u.1 zy))

    whole_solves : Solves Below q (nodes_of half 0 zs)
    whole_solves = record {
      same_length = nodes_long half 0 zs ∙ (let d = h.long in let m = count in omega arith);
      start = whole_start;
      edge = whole_edge;
    }

  pub halves_least : (ys : List A) → Least Ok Below q ys → Least Ok Below p (at_starts ys)
  halves_least ys l = record {
    solves = record {
      same_length = starts_long ys n long ∙ sym h.short;
      start = λ b s x is ix. l.solves.start (3 * b + 1) s x (h.begin b (inside b x ix) ∙ is) (starts_get ys b x ix);
      edge = edge;
    };
    facts = λ b x e. l.facts (3 * b + 1) x (starts_get ys b x e);
    least = λ zs ok s b x z ix iz. l.least (nodes_of half 0 zs) (whole_ok zs ok s) (whole_solves zs ok s) (3 * b + 1) x z (starts_get ys b x ix) (start_at half 0 zs b ∙ iz);
  }
    where
      long : length ys ≡ 3 * n
      long = l.solves.same_length ∙ h.long

      inside : (b : ℕ) (x : A) → slice_get (at_starts ys) b ≡ Some x → b < n
      inside b x g = omega (arith, slice_get_within (at_starts ys) b x g, starts_long ys n long)

      edge : (j : ℕ) (a : Arrow A) (x y : A) → slice_get p.arrows j ≡ Some a → slice_get (at_starts ys) a.from ≡ Some x → slice_get (at_starts ys) a.to ≡ Some y → Below (a.flow x) y
      edge j a x y is ix iy =
          let gx = starts_get ys a.from x ix in
          let gy = starts_get ys a.to y iy in
          let low = inside a.from x ix in
          let w = h.way j a is low (inside a.to y iy) in
          let e = w.behind in
          let m = get_or ys w.over.to x in
          let gm : slice_get ys w.over.to ≡ Some m = slice_get-get_or ys w.over.to x (let k = end_low a.from w.over.to n w.is_over.to low in omega (arith, long)) in
          let first : Below (half a.from x) m = subst (λ z. Below z m) (w.is_over.flows x) (l.solves.edge w.first w.over x m w.over_there (ap (slice_get ys) w.is_over.from ∙ gx) gm) in
          let second : Below (e.flow m) y = l.solves.edge w.second e m y w.behind_there (ap (slice_get ys) (sym w.meets) ∙ gm) (ap (slice_get ys) w.is_behind.to ∙ gy) in
          let up : Below (e.flow (half a.from x)) (e.flow m) = h.rises w.second e (half a.from x) m w.behind_there (h.half_ok a.from x (l.facts (3 * a.from + 1) x gx)) (l.facts w.over.to m gm) first in
          subst (λ z. Below z y) (sym (w.is_behind.flows x)) (h.then_below (e.flow (half a.from x)) (e.flow m) y up second)
