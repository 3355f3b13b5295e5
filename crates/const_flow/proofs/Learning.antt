-- Cells that are put in the place of a span are what is learnt of its place.
use Rattle.std.proofs.Common.{◌≡◌, refl, sym, ap, ap₂, ◌∙◌, ℕ, zero, suc, ◌+◌, ◌-◌, ◌≤◌, ◌<◌, List, [], ◌∷◌, ◌++◌, map, length, take, drop, set, replicate, Option, Some, None, is_some, IsTrue, arith}
use Rattle.std.proofs.lemmas.List.{length-take, length-drop, length-append, length-map, length-replicate, drop_at, take_at}
use Rattle.std.proofs.lemmas.List.Edits.{paste_none, paste_all, fill_from_more}
use lib.Seq.{paste}
use Rattle.mir_syntax.specs.declared.body.Proj.{Proj}
use Rattle.mir_syntax.specs.declared.body.Place.{Place}
use Rattle.place_map.specs.Tracked.{way, SpansUnder}
use Rattle.place_map.proofs.Sides.{way_is}
use Rattle.const_flow.specs.declared.cell.Cell.{Cell}
use Rattle.const_flow.specs.Facts.{Fact, put_known, learn, always}
use Rattle.const_flow.specs.Cells.{facts_of, put_from, places_between, known_under}

-- ---- a place of the span, and one that is outside

there : {A : Type 0} (o : Option A) → IsTrue (is_some o) → (x : A) × (o ≡ Some x)
there None h = absurd cc
there (Some x) h = (x, refl)

gone : {A : Type 0} (o : Option A) → (IsTrue (is_some o) → ⊥) → o ≡ None
gone None h = refl
gone (Some x) h = absurd (h refl)

-- the way to a place under another is what is left of its path
way_left : (q p : Place) (r : List Proj) → way q p ≡ Some r → drop (length q.proj) p.proj ≡ r
way_left q p r e = ap (λ (x : Place). drop (length q.proj) x.proj) (way_is q p r e) ∙ drop_at q.proj r (length q.proj) refl

put_under : (q : Place) (new : List Proj → Cell) (p : Place) (k : Cell) → IsTrue (is_some (way q p)) → record { place = p; known = known_under q new p } ≡ put_known new (record { place = p; known = k }) (way q p)
put_under q new p k h =
    let r = there (way q p) h in
    let fact : Cell → Fact = λ c. record { place = p; known = c } in
    ap fact (ap new (way_left q p r.0 r.1)) ∙ sym (ap (put_known new (fact k)) r.1)

put_outside : (q : Place) (new : List Proj → Cell) (p : Place) (k : Cell) → (IsTrue (is_some (way q p)) → ⊥) → record { place = p; known = k } ≡ put_known new (record { place = p; known = k }) (way q p)
put_outside q new p k h =
    let fact : Fact = record { place = p; known = k } in
    sym (ap (put_known new fact) (gone (way q p) h))

-- ---- spans, place by place

module _ (q : Place) (new : List Proj → Cell) where
  -- the span begins at the first place
  begun : (ps : List Place) (ks : List Cell) (n : ℕ) → length ks ≡ length ps → n ≤ length ps → SpansUnder ps q 0 n → facts_of ps (map (known_under q new) (take n ps) ++ drop n ks) ≡ learn q new (facts_of ps ks)
  unfolding learn
  begun [] [] zero l b h = refl
  begun [] [] (suc n) l b h = absurd (omega arith)
  begun [] (k ∷ ks) n l b h = absurd (omega arith)
  begun (p ∷ ps) [] n l b h = absurd (omega arith)
  begun (p ∷ ps) (k ∷ ks) zero l b h =
      let out : IsTrue (is_some (way q p)) → ⊥ = λ s. (let z = (h 0 p refl).0 s in omega arith) in
      let none : SpansUnder ps q 0 0 = λ i x s. (λ w. (let z = (h (suc i) x s).0 w in absurd (omega arith)), λ y. absurd (omega arith)) in
      ap₂ ◌∷◌ (put_outside q new p k out) (begun ps ks 0 (omega arith) (omega arith) none)
  begun (p ∷ ps) (k ∷ ks) (suc n) l b h =
      let at : IsTrue (is_some (way q p)) = (h 0 p refl).1 (omega arith, omega arith) in
      let others : SpansUnder ps q 0 n = λ i x s. (λ w. (let z = (h (suc i) x s).0 w in (omega arith, omega arith)), λ y. (h (suc i) x s).1 (omega arith, omega arith)) in
      ap₂ ◌∷◌ (put_under q new p k at) (begun ps ks n (omega arith) (omega arith) others)

  later : (ps : List Place) (ks : List Cell) (from n to : ℕ) → to ≡ from + n → length ks ≡ length ps → to ≤ length ps → SpansUnder ps q from to
      → facts_of ps (take from ks ++ (map (known_under q new) (take n (drop from ps)) ++ drop to ks)) ≡ learn q new (facts_of ps ks)
  unfolding learn
  later ps ks zero n to e l b h =
      let same : to ≡ n = omega arith in
      rw same (begun ps ks n l (omega arith) (λ i x s. (λ w. (let z = (h i x s).0 w in (omega arith, omega arith)), λ y. (h i x s).1 (omega arith, omega arith))))
  later ps ks (suc f) n zero e l b h = absurd (omega arith)
  later [] ks (suc f) n (suc t) e l b h = absurd (omega arith)
  later (p ∷ ps) [] (suc f) n (suc t) e l b h = absurd (omega arith)
  later (p ∷ ps) (k ∷ ks) (suc f) n (suc t) e l b h =
      let out : IsTrue (is_some (way q p)) → ⊥ = λ s. (let z = (h 0 p refl).0 s in omega arith) in
      let others : SpansUnder ps q f t = λ i x s. (λ w. (let z = (h (suc i) x s).0 w in (omega arith, omega arith)), λ y. (h (suc i) x s).1 (omega arith, omega arith)) in
      ap₂ ◌∷◌ (put_outside q new p k out) (later ps ks f n t (omega arith) (omega arith) (omega arith) others)

  pub spread : (ps : List Place) (ks : List Cell) (from to : ℕ) → length ks ≡ length ps → (from ≤ to) × (to ≤ length ps) → SpansUnder ps q from to
      → facts_of ps (put_from ks from (map (known_under q new) (places_between ps from to))) ≡ learn q new (facts_of ps ks)
  spread ps ks from to l b h =
      let fresh = map (known_under q new) (places_between ps from to) in
      let long : length fresh ≡ to - from = length-map (places_between ps from to) (known_under q new) ∙ (length-take (to - from) (drop from ps) ∙ (let z = length-drop from ps in let up = b.0 in let within = b.1 in omega arith)) in
      let end : from + length fresh ≡ to = (let up = b.0 in omega arith) in
      ap (λ i. facts_of ps (take from ks ++ (fresh ++ drop i ks))) end ∙ later ps ks from (to - from) to (let up = b.0 in omega arith) l b.1 h

-- ---- the same of one cell

always_known : (q : Place) (k : Cell) (ps : List Place) → replicate (length ps) k ≡ map (known_under q (always k)) ps
always_known q k [] = refl
always_known q k (p ∷ ps) = ap (λ ks. k ∷ ks) (always_known q k ps)

pub spread_one : (q : Place) (k : Cell) (ps : List Place) (ks : List Cell) (from to : ℕ) → length ks ≡ length ps → (from ≤ to) × (to ≤ length ps) → SpansUnder ps q from to
    → facts_of ps (put_from ks from (replicate (to - from) k)) ≡ learn q (always k) (facts_of ps ks)
spread_one q k ps ks from to l b h =
    let long : to - from ≡ length (places_between ps from to) = sym (length-take (to - from) (drop from ps) ∙ (let z = length-drop from ps in let up = b.0 in let within = b.1 in omega arith)) in
    let same : replicate (to - from) k ≡ map (known_under q (always k)) (places_between ps from to) = ap (λ n. replicate n k) long ∙ always_known q k (places_between ps from to) in
    ap (λ fresh. facts_of ps (put_from ks from fresh)) same ∙ spread q (always k) ps ks from to l b h

-- ---- lengths

pub put_long : (ks : List Cell) (from : ℕ) (fresh : List Cell) → from + length fresh ≤ length ks → length (put_from ks from fresh) ≡ length ks
put_long ks from fresh h = length-append (take from ks) (fresh ++ drop (from + length fresh) ks)
    ∙ (let a = length-append fresh (drop (from + length fresh) ks) in let b = length-take from ks in let c = length-drop (from + length fresh) ks in omega arith)

-- ---- one cell after another

as_paste : (d : List Cell) (at i : ℕ) (y : Cell) → put_from d at (replicate i y) ≡ paste d at (replicate i y) i
as_paste d at i y = ap (λ n. take at d ++ (replicate i y ++ drop (at + n) d)) (length-replicate i y) ∙ sym (paste_all d at (replicate i y) i (sym (length-replicate i y)))

pub filled_none : (d : List Cell) (at : ℕ) (y : Cell) → d ≡ put_from d at (replicate (at - at) y)
filled_none d at y =
    let none : 0 ≡ at - at = omega arith in
    paste_none d at (replicate 0 y) ∙ (sym (as_paste d at 0 y) ∙ ap (λ n. put_from d at (replicate n y)) none)

pub filled_more : (d now : List Cell) (at path : ℕ) (y : Cell) → at ≤ path → path < length d → now ≡ put_from d at (replicate (path - at) y)
    → set now path y ≡ put_from d at (replicate (path + 1 - at) y)
filled_more d now at path y l b h =
    let i = path - at in
    let here : path ≡ at + i = omega arith in
    let next : i + 1 ≡ path + 1 - at = omega arith in
    ap (λ (ks : List Cell). set ks path y) (h ∙ as_paste d at i y) ∙ (ap (λ n. set (paste d at (replicate i y) i) n y) here
    ∙ (fill_from_more d at i y (omega arith) ∙ (sym (as_paste d at (i + 1) y) ∙ ap (λ n. put_from d at (replicate n y)) next)))

pub way_long : (q p : Place) → IsTrue (is_some (way q p)) → length q.proj ≤ length p.proj
way_long q p h =
    let r = there (way q p) h in
    let long : length p.proj ≡ length (q.proj ++ r.0) = ap (λ (x : Place). length x.proj) (way_is q p r.0 r.1) in
    omega (arith, length-append q.proj r.0)

-- ---- what a list has after a part of it was written

back : (old new : List Cell) → length new ≡ length old → take (length old) (new ++ drop (length new) old) ≡ new
back old new l = take_at new (drop (length new) old) (length old) l

pub learnt : (q : Place) (k : Cell) (ps : List Place) (old now new : List Cell) (from to : ℕ) → length old ≡ length ps → (from ≤ to) × (to ≤ length ps) → SpansUnder ps q from to
    → now ≡ old → new ≡ put_from now from (replicate (to - from) k)
    → facts_of ps (take (length old) (new ++ drop (length new) old)) ≡ learn q (always k) (facts_of ps old)
learnt q k ps old now new from to l b h e w =
    let is : new ≡ put_from old from (replicate (to - from) k) = w ∙ ap (λ (ks : List Cell). put_from ks from (replicate (to - from) k)) e in
    let fits : from + length (replicate (to - from) k) ≤ length old = (let up = b.0 in let within = b.1 in omega (arith, length-replicate (to - from) k)) in
    ap (facts_of ps) (back old new (ap length is ∙ put_long old from (replicate (to - from) k) fits) ∙ is) ∙ spread_one q k ps old from to l b h

module _ (q : Place) (new : List Proj → Cell) (ps : List Place) (from to : ℕ) (b : (from ≤ to) × (to ≤ length ps)) where
  fresh_long : length (map (known_under q new) (places_between ps from to)) ≡ to - from
  fresh_long = length-map (places_between ps from to) (known_under q new) ∙ (length-take (to - from) (drop from ps) ∙ (let z = length-drop from ps in let up = b.0 in let within = b.1 in omega arith))

  pub fresh_fits : (fresh now : List Cell) → fresh ≡ map (known_under q new) (places_between ps from to) → length now ≡ length ps → from + length fresh ≤ length now
  fresh_fits fresh now e l = let up = b.0 in let within = b.1 in let same = ap length e in omega (arith, fresh_long)

  pub assigned : (old now fresh got : List Cell) → length old ≡ length ps → SpansUnder ps q from to → now ≡ old → fresh ≡ map (known_under q new) (places_between ps from to) → got ≡ put_from now from fresh
      → facts_of ps (take (length old) (got ++ drop (length got) old)) ≡ learn q new (facts_of ps old)
  assigned old now fresh got l h e f w =
      let is : got ≡ put_from old from fresh = w ∙ ap (λ (ks : List Cell). put_from ks from fresh) e in
      let long : length got ≡ length old = ap length is ∙ put_long old from fresh (fresh_fits fresh old f l) in
      ap (facts_of ps) (back old got long ∙ (is ∙ ap (put_from old from) f)) ∙ spread q new ps old from to l b h
