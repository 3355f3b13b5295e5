-- Rvalues, statements and lists of operands that are made of operands which read alike.
use Rattle.std.proofs.Common.{◌≡◌, refl, sym, ap, ap₂, ◌∙◌, subst, ℕ, List, [], ◌∷◌, Option, Some, slice_get, arith}
use Rattle.std.specs.Prelude.{ℤ}
use Rattle.mir_syntax.specs.declared.body.Place.{Place}
use Rattle.mir_syntax.specs.declared.body.Operand.{Operand}
use Rattle.mir_syntax.specs.Crate.{TypedRvalue, «use», binary, overflow, unary, cast, discriminant, tuple, build, assign}
use Rattle.mir_syntax.specs.Crate as rvalue
use Rattle.mir_num.specs.Numbers as num
use Rattle.mir_semantics.specs.Values.{Value, number, pointer, listed}
use Rattle.mir_semantics.specs.Memory.{Memory}
use Rattle.mir_semantics.specs.Step.{read_all, read_number, read_two, scalar_in, pair_of, built, eval, exec, integers}
use Rattle.mir_syntax.proofs.Binds.{bind_some, some_bind}
use Rattle.mir_renaming.proofs.Statements.{number_rel, variant_rel, listed_rel, built_rel}
use Rattle.mir_renaming.proofs.Tight.{listed_tight, built_tight}
use Rattle.mir_relate.specs.Alike.{Between, Got, GotMemory, Sides, Same, AllSame, Reads, AllRead, Likewise, Evals, Stores, Execs}

val : {A : Type 0} {x y : A} → Some x ≡ Some y → x ≡ y
val e = grind arith

pub got_at : {A : Type 0} (V : A → A → Type 0) (Q : Between) (x r : A × Memory) (o : Option (A × Memory)) → Some x ≡ Some r → Got V Q x o → Got V Q r o
got_at V Q x r o e g = subst (λ r. Got V Q r o) (val e) g

pub got_memory : (Q : Between) (x m : Memory) (o : Option Memory) → Some x ≡ Some m → GotMemory Q x o → GotMemory Q m o
got_memory Q x m o e g = subst (λ r. GotMemory Q r o) (val e) g

module _ (X : Sides) (Q : Between) where
  abbrev pub EqualGot : {A : Type 0} → A × Memory → Option (A × Memory) → Type 0
  EqualGot = Got (λ x y. x ≡ y) Q

  pub all_read : (os ps : List Operand) → AllRead X Q os ps → (m2 m1 : Memory) (r : List Value × Memory) → Q m2 m1 → read_all X.source m1 os ≡ Some r → Got (AllSame X.lent) Q r (read_all X.target m2 ps)
  unfolding read_all
  all_read [] [] h m2 m1 r l e = got_at (AllSame X.lent) Q _ r (Some ([], m2)) e (([], m2), refl, (tt, tt), l)
  all_read (o ∷ os) (p ∷ ps) h m2 m1 r l e =
      let (x, e1, e2) = bind_some e in
      let (y, e3, e4) = bind_some e2 in
      let (x', g1, h1, l1) = h.0.reads m2 m1 x l e1 in
      let (y', g2, h2, l2) = all_read os ps h.1 x'.1 x.1 y l1 e3 in
      got_at (AllSame X.lent) Q _ r (read_all X.target m2 (p ∷ ps)) e4 ((x'.0 ∷ y'.0, y'.1), some_bind _ g1 (some_bind _ g2 refl), ((h1.0, h2.0), (h1.1, h2.1)), l2)
  all_read [] (p ∷ ps) h m2 m1 r l e = absurd h
  all_read (o ∷ os) [] h m2 m1 r l e = absurd h

  pub number_read : (o p : Operand) → Reads X Q o p → (m2 m1 : Memory) (r : ℕ × Memory) → Q m2 m1 → read_number X.source m1 o ≡ Some r → Got (λ x y. x ≡ y) Q r (read_number X.target m2 p)
  unfolding read_number
  number_read o p h m2 m1 r l e =
      let (x, e1, k1) = bind_some e in
      let (n, e2, k2) = bind_some k1 in
      let (x', g1, h1, l1) = h.reads m2 m1 x l e1 in
      got_at (λ x y. x ≡ y) Q _ r (read_number X.target m2 p) k2 ((n, x'.1), some_bind _ g1 (some_bind _ (number_rel X.lent x.0 x'.0 n h1.0 e2) refl), refl, l1)

  two_read : (a b c d : Operand) → Reads X Q a c → Reads X Q b d → (m2 m1 : Memory) (r : (ℕ × ℕ) × Memory) → Q m2 m1 → read_two X.source m1 a b ≡ Some r → Got (λ x y. x ≡ y) Q r (read_two X.target m2 c d)
  unfolding read_two
  two_read a b c d ha hb m2 m1 r l e =
      let (x, e1, k1) = bind_some e in
      let (y, e2, k2) = bind_some k1 in
      let (x', g1, h1, l1) = number_read a c ha m2 m1 x l e1 in
      let (y', g2, h2, l2) = number_read b d hb x'.1 x.1 y l1 e2 in
      got_at (λ x y. x ≡ y) Q _ r (read_two X.target m2 c d) k2 (((x'.0, y'.0), y'.1), some_bind _ g1 (some_bind _ g2 refl), ap₂ (λ n k. (n, k)) h1 h2, l2)

  pub integers_read : (os ps : List Operand) → AllRead X Q os ps → (m2 m1 : Memory) (r : List ℤ × Memory) → Q m2 m1 → integers X.source m1 os ≡ Some r → Got (λ x y. x ≡ y) Q r (integers X.target m2 ps)
  unfolding integers
  integers_read [] [] h m2 m1 r l e = got_at (λ x y. x ≡ y) Q _ r (Some ([], m2)) e (([], m2), refl, refl, l)
  integers_read (o ∷ os) (p ∷ ps) h m2 m1 r l e =
      let (t, e0, k0) = bind_some e in
      let (x, e1, k1) = bind_some k0 in
      let (y, e2, k2) = bind_some k1 in
      let (x', g1, h1, l1) = number_read o p h.0 m2 m1 x l e1 in
      let (y', g2, h2, l2) = integers_read os ps h.1 x'.1 x.1 y l1 e2 in
      got_at (λ x y. x ≡ y) Q _ r (integers X.target m2 (p ∷ ps)) k2 ((num.integer_of t x'.0 ∷ y'.0, y'.1), some_bind _ (sym h.0.scalars ∙ e0) (some_bind _ g1 (some_bind _ g2 refl)), ap₂ (λ n ns. num.integer_of t n ∷ ns) h1 h2, l2)
  integers_read [] (p ∷ ps) h m2 m1 r l e = absurd h
  integers_read (o ∷ os) [] h m2 m1 r l e = absurd h

  -- a statement: its rvalue, then its place
  assigned : (Q1 Q2 : Between) (p q : Place) (x y : TypedRvalue) → Evals X Q Q1 x y → Stores X Q1 Q2 p q → (m2 m1 m1' : Memory) → Q m2 m1 → exec X.source m1 (assign p x) ≡ Some m1' → GotMemory Q2 m1' (exec X.target m2 (assign q y))
  unfolding exec
  assigned Q1 Q2 p q x y hx hp m2 m1 m1' l e =
      let (v, e1, k1) = bind_some e in
      let (d, e2, k2) = bind_some k1 in
      let (w, g1, h1, l1) = hx.evals m2 m1 v l e1 in
      let (c, g2, (m2', g3, l3)) = hp.stores w.1 v.1 m1' d v.0 w.0 l1 h1 e2 k2 in
      (m2', some_bind _ g1 (some_bind _ g2 g3), l3)

  pub assigns : (Q1 Q2 : Between) (p q : Place) (x y : TypedRvalue) → Evals X Q Q1 x y → Stores X Q1 Q2 p q → Execs X Q Q2 (assign p x) (assign q y)
  assigns Q1 Q2 p q x y hx hp = record { execs = assigned Q1 Q2 p q x y hx hp }

  -- rvalues
  module _ (same : X.source.shapes ≡ X.target.shapes) where
    gives : (x y : TypedRvalue) → Likewise X Q x y → (m2 m1 : Memory) (r : Value × Memory) → Q m2 m1 → eval X.source m1 x ≡ Some r → Got (Same X.lent) Q r (eval X.target m2 y)
    unfolding eval
    gives («use» o) («use» p) h m2 m1 r l e = h.reads m2 m1 r l e
    gives (binary op a b) (binary op' c d) h m2 m1 r l e =
        let (t, e1, k1) = bind_some e in
        let (x, e2, k2) = bind_some k1 in
        let (n, e3, k3) = bind_some k2 in
        let (x', g2, h2, l2) = two_read a b c d h.1 h.2 m2 m1 x l e2 in
        let e3' : num.binop op' t x'.0.0 x'.0.1 ≡ Some n = subst (λ o. num.binop o t x'.0.0 x'.0.1 ≡ Some n) h.0 (subst (λ p. num.binop op t p.0 p.1 ≡ Some n) h2 e3) in
        got_at (Same X.lent) Q _ r (eval X.target m2 (binary op' c d)) k3 ((number n, x'.1), some_bind _ (sym h.1.scalars ∙ e1) (some_bind _ g2 (some_bind _ e3' refl)), (refl, tt), l2)
    gives (overflow op a b) (overflow op' c d) h m2 m1 r l e =
        let (t, e1, k1) = bind_some e in
        let (x, e2, k2) = bind_some k1 in
        let (x', g2, h2, l2) = two_read a b c d h.1 h.2 m2 m1 x l e2 in
        let same : num.over op t x.0.0 x.0.1 ≡ num.over op' t x'.0.0 x'.0.1 = ap₂ (λ o p. num.over o t p.0 p.1) h.0 h2 in
        got_at (Same X.lent) Q _ r (eval X.target m2 (overflow op' c d)) k2 ((pair_of (num.over op' t x'.0.0 x'.0.1), x'.1), some_bind _ (sym h.1.scalars ∙ e1) (some_bind _ g2 refl), subst (λ z. Same X.lent (pair_of (num.over op t x.0.0 x.0.1)) (pair_of z)) same ((refl, (refl, tt)), (tt, (tt, tt))), l2)
    gives (unary op a) (unary op' b) h m2 m1 r l e =
        let (t, e1, k1) = bind_some e in
        let (x, e2, k2) = bind_some k1 in
        let (x', g2, h2, l2) = number_read a b h.1 m2 m1 x l e2 in
        got_at (Same X.lent) Q _ r (eval X.target m2 (unary op' b)) k2 ((number (num.unary op' t x'.0), x'.1), some_bind _ (sym h.1.scalars ∙ e1) (some_bind _ g2 refl), (ap₂ (λ o n. num.unary o t n) h.0 h2, tt), l2)
    gives (cast a t) (cast b u) h m2 m1 r l e =
        let (from, e1, k1) = bind_some e in
        let (to, e2, k2) = bind_some k1 in
        let (x, e3, k3) = bind_some k2 in
        let (x', g3, h3, l3) = number_read a b h.1 m2 m1 x l e3 in
        got_at (Same X.lent) Q _ r (eval X.target m2 (cast b u)) k3 ((number (num.cast from to x'.0), x'.1), some_bind _ (sym h.1.scalars ∙ e1) (some_bind _ (ap scalar_in (sym h.0) ∙ e2) (some_bind _ g3 refl)), (ap (num.cast from to) h3, tt), l3)
    gives (rvalue.ref p) (rvalue.ref q) h m2 m1 r l e =
        let (a, e1, k1) = bind_some e in
        let (b, g1, h1) = h.refers m2 m1 a l e1 in
        got_at (Same X.lent) Q _ r (eval X.target m2 (rvalue.ref q)) k1 ((pointer b, m2), some_bind _ g1 refl, (h1, tt), l)
    gives (rvalue.ref_mut p) (rvalue.ref_mut q) h m2 m1 r l e =
        let (a, e1, k1) = bind_some e in
        let (b, g1, h1) = h.refers m2 m1 a l e1 in
        got_at (Same X.lent) Q _ r (eval X.target m2 (rvalue.ref_mut q)) k1 ((pointer b, m2), some_bind _ g1 refl, (h1, tt), l)
    gives (discriminant p) (discriminant q) h m2 m1 r l e =
        let (a, e1, k1) = bind_some e in
        let (v, e2, k2) = bind_some k1 in
        let (n, e3, k3) = bind_some k2 in
        let (b, g1, (w, g2, h2)) = h.shows m2 m1 a v l e1 e2 in
        got_at (Same X.lent) Q _ r (eval X.target m2 (discriminant q)) k3 ((number n, m2), some_bind _ g1 (some_bind _ g2 (some_bind _ (variant_rel X.lent v w n h2 e3) refl)), (refl, tt), l)
    gives (tuple os) (tuple ps) h m2 m1 r l e =
        let (x, e1, k1) = bind_some e in
        let (x', g1, h1, l1) = all_read os ps h m2 m1 x l e1 in
        got_at (Same X.lent) Q _ r (eval X.target m2 (tuple ps)) k1 ((listed x'.0, x'.1), some_bind _ g1 refl, (listed_rel X.lent x.0 x'.0 h1.0, listed_tight x.0 x'.0 h1.1), l1)
    gives (build d k os) (build d' k' ps) h m2 m1 r l e =
        let (x, e1, k1) = bind_some e in
        let (x', g1, h1, l1) = all_read os ps h.2 m2 m1 x l e1 in
        let D = X.target.shapes in
        let rel : Same X.lent (built D d k (listed x.0)) (built D d k (listed x'.0)) = (built_rel X.lent D d k (listed x.0) (listed x'.0) (listed_rel X.lent x.0 x'.0 h1.0), built_tight k (slice_get D d) (listed x.0) (listed x'.0) (listed_tight x.0 x'.0 h1.1)) in
        let rel' : Same X.lent (built X.source.shapes d k (listed x.0)) (built D d' k' (listed x'.0)) = subst (λ E. Same X.lent (built E d k (listed x.0)) (built D d' k' (listed x'.0))) (sym same) (subst (λ i. Same X.lent (built D d k (listed x.0)) (built D i k' (listed x'.0))) h.0 (subst (λ i. Same X.lent (built D d k (listed x.0)) (built D d i (listed x'.0))) h.1 rel)) in
        got_at (Same X.lent) Q _ r (eval X.target m2 (build d' k' ps)) k1 ((built D d' k' (listed x'.0), x'.1), some_bind _ g1 refl, rel', l1)
    gives x y h m2 m1 r l e = absurd h

    pub likewise : (x y : TypedRvalue) → Likewise X Q x y → Evals X Q Q x y
    likewise x y h = record { evals = gives x y h }
