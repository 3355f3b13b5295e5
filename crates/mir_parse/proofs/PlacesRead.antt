-- Parsing places is the grammar's rule, both ways.
use Rattle.std.proofs.Common.{◌≡◌, ℕ, zero, suc, ◌<◌, ◌≤◌, List, [], ◌∷◌, ◌++◌, length, Ok, refl, sym, ap, subst, ◌∙◌, arith}
use Rattle.mir_text.specs.declared.symbol.Symbol.{Symbol}
use Rattle.mir_text.specs.declared.symbol.Symbol.TheVariants as s
use Rattle.mir_text.specs.Grammar.{Put}
use Rattle.mir_text.specs.GrammarTypes.{TypeRule, type_put}
use Rattle.mir_text.specs.GrammarPlaces.{PlaceRule, local, deref, field, variant_field, field_put, variant_put, place_put}
use Rattle.mir_text.specs.Nesting.{type_depth, place_depth, Small, PlaceGood}
use Rattle.mir_tree.specs.declared.ty.TypeText.{TypeText}
use Rattle.mir_tree.specs.declared.operand.PlaceText.{PlaceText}
use Rattle.mir_tree.specs.declared.operand.ProjText.{ProjText}
use Rattle.mir_tree.specs.declared.operand.ProjText.TheVariants as p
use Rattle.mir_tree.specs.Types.{type_text, type_rule}
use Rattle.mir_tree.specs.Bodies.{place_from, place_rule}
use Rattle.mir_parse.specs.declared.place.BaseText.{BaseText}
use Rattle.mir_parse.specs.declared.place.BaseText.TheVariants as b
use Rattle.mir_parse.specs.Parser.{Parse, and_then}
use Rattle.mir_parse.specs.Signs.{close, dot, colon, name}
use Rattle.mir_parse.specs.Types.{type_text_at}
use Rattle.mir_parse.specs.Places.{with_proj, local_place, field_end, field_of, field_after, variant_end, after_base, inside_with, place_with, base_inside, base_with, place_at, base_at}
use Rattle.mir_parse.proofs.TypesRead.{type-complete, type-sound, type_rule-back, type_grows}
use Rattle.mir_parse.proofs.Laws.{in_steps, ok_same, IsRead, close-sound, dot-sound, colon-sound, name-sound, small_number-complete, small_number-sound}

-- ---- the tree of a place

abbrev pub place_text : PlaceRule → PlaceText
place_text (local n) = local_place n
place_text (deref q) = with_proj (place_text q) p.Deref
place_text (field q n t) = with_proj (place_text q) (p.Field n (type_text t))
place_text (variant_field q name_no n t) = with_proj (place_text q) (p.VariantField name_no n (type_text t))

one_proj : (q : PlaceRule) (ps : List ProjText) (x : ProjText) → place_from q (ps ++ x ∷ []) ≡ place_from (place_from q ps) (x ∷ [])
one_proj q [] x = refl
one_proj q (p.Deref ∷ ps) x = one_proj (deref q) ps x
one_proj q (p.Field n t ∷ ps) x = one_proj (field q n (type_rule t)) ps x
one_proj q (p.VariantField name_no n t ∷ ps) x = one_proj (variant_field q name_no n (type_rule t)) ps x

-- a place is that of its tree
pub place-back : (q : PlaceRule) → place_rule (place_text q) ≡ q
place-back (local n) = refl
place-back (deref q) = one_proj (local (place_text q).local) (place_text q).projs p.Deref ∙ ap deref (place-back q)
place-back (field q n t) =
    one_proj (local (place_text q).local) (place_text q).projs (p.Field n (type_text t)) ∙ ap (λ x. field x n (type_rule (type_text t))) (place-back q) ∙ ap (field q n) (type_rule-back t)
place-back (variant_field q name_no n t) =
    one_proj (local (place_text q).local) (place_text q).projs (p.VariantField name_no n (type_text t))
    ∙ ap (λ x. variant_field x name_no n (type_rule (type_text t))) (place-back q) ∙ ap (variant_field q name_no n) (type_rule-back t)

pub place_grows : (q : PlaceRule) (rest : List Symbol) → length rest < length (place_put q rest)
place_grows (local n) rest = omega arith
place_grows (deref q) rest = omega (arith, place_grows q (s.Close ∷ rest))
place_grows (field q n t) rest = omega (arith, place_grows q (field_put n t rest), type_grows t (s.Close ∷ rest))
place_grows (variant_field q name_no n t) rest = omega (arith, place_grows q (variant_put name_no (field_put n t rest)), type_grows t (s.Close ∷ rest))

-- ---- . number : type )

pub field_end-complete : (d n : ℕ) (t : TypeRule) (rest : List Symbol) → type_depth t ≤ d → n ≤ 4294967295 → field_end (type_text_at d) (field_put n t rest) ≡ Ok ((n, type_text t), rest)
unfolding field_end dot colon close
field_end-complete d n t rest h small = rw (small_number-complete n _ small, type-complete t d (s.Close ∷ rest) h refl) refl

pub field_end-sound : {R : Type 0} (d : ℕ) (ts : List Symbol) (n : ℕ) (u : TypeText) (rest : List Symbol) → field_end (type_text_at d) ts ≡ Ok ((n, u), rest)
    → ((t : TypeRule) → type_text t ≡ u → ts ≡ field_put n t rest → type_depth t ≤ d → n ≤ 4294967295 → R) → R
unfolding field_end
field_end-sound d ts n u rest h k =
    in_steps _ _ ((n, u), rest) h (λ a ts1 dotted h1.
    in_steps _ _ ((n, u), rest) h1 (λ m ts2 numbered h2.
    in_steps _ _ ((n, u), rest) h2 (λ c ts3 coloned h3.
    in_steps _ _ ((n, u), rest) h3 (λ w ts4 typed h4.
    in_steps _ _ ((n, u), rest) h4 (λ e ts5 closed same_h.
    small_number-sound ts1 (m, ts2) numbered (λ num small.
    let same = ok_same _ _ same_h in
    let t = type-sound d ts3 w ts4 typed in
    let m_is : m ≡ n = ap (λ q. q.0.0) same in
    k t.rule (t.reads ∙ ap (λ q. q.0.1) same)
    (dot-sound ts (a, ts1) dotted ∙ ap (λ l. s.Dot ∷ l) (num ∙ ap (λ l. s.Number m ∷ l) (colon-sound ts2 (c, ts3) coloned
    ∙ ap (λ l. s.Colon ∷ l) (t.yields ∙ ap (λ l. type_put t.rule l) (close-sound ts4 (e, ts5) closed ∙ ap (λ q. s.Close ∷ q.1) same))))
    ∙ ap (λ x. field_put x t.rule rest) m_is)
    t.good (subst (λ x. x ≤ 4294967295) m_is small)))))))

-- ---- a place, or a variant of one

pub data BaseRule : Type 0 where
  place : PlaceRule → BaseRule
  variant : PlaceRule → ℕ → BaseRule

abbrev pub base_put : Put BaseRule
base_put (place q) rest = place_put q rest
base_put (variant q name_no) rest = s.Open ∷ place_put q (variant_put name_no rest)

abbrev pub base_of : BaseRule → BaseText
base_of (place q) = b.Place (place_text q)
base_of (variant q name_no) = b.Variant (place_text q) name_no

abbrev pub base_depth : BaseRule → ℕ
base_depth (place q) = place_depth q
base_depth (variant q name_no) = suc (place_depth q)

abbrev pub SmallBase : BaseRule → Type 0
SmallBase (place q) = Small q
SmallBase (variant q name_no) = Small q

abbrev pub BaseGood : ℕ → BaseRule → Type 0
BaseGood d x = (base_depth x ≤ d) × SmallBase x

abbrev pub field_rule : BaseRule → ℕ → TypeRule → PlaceRule
field_rule (place q) n t = field q n t
field_rule (variant q name_no) n t = variant_field q name_no n t

field_rule-put : (x : BaseRule) (n : ℕ) (t : TypeRule) (rest : List Symbol) → place_put (field_rule x n t) rest ≡ s.Open ∷ base_put x (field_put n t rest)
field_rule-put (place q) n t rest = refl
field_rule-put (variant q name_no) n t rest = refl

field_rule-of : (x : BaseRule) (n : ℕ) (t : TypeRule) → place_text (field_rule x n t) ≡ field_of (base_of x) n (type_text t)
unfolding field_of
field_rule-of (place q) n t = refl
field_rule-of (variant q name_no) n t = refl

field_rule-good : (d : ℕ) (x : BaseRule) (n : ℕ) (t : TypeRule) → BaseGood d x → type_depth t ≤ d → n ≤ 4294967295 → PlaceGood (suc d) (field_rule x n t)
field_rule-good d (place q) n t g h small = (omega arith, (small, g.1))
field_rule-good d (variant q name_no) n t g h small = (omega arith, (small, g.1))

-- ---- what the grammar yields is read

pub field_after-complete : (d : ℕ) (x : BaseRule) (n : ℕ) (t : TypeRule) (rest : List Symbol) → type_depth t ≤ d → n ≤ 4294967295
    → field_after (type_text_at d) (base_of x) (field_put n t rest) ≡ Ok (place_text (field_rule x n t), rest)
unfolding field_after
field_after-complete d x n t rest h small = rw (field_end-complete d n t rest h small, field_rule-of x n t) refl

after_base-field : (d : ℕ) (x : BaseRule) (n : ℕ) (t : TypeRule) (rest : List Symbol) → type_depth t ≤ d → n ≤ 4294967295
    → after_base (type_text_at d) (base_of x) (field_put n t rest) ≡ Ok (b.Place (place_text (field_rule x n t)), rest)
unfolding after_base
after_base-field d (place q) n t rest h small = rw (field_after-complete d (place q) n t rest h small) refl
after_base-field d (variant q name_no) n t rest h small = rw (field_after-complete d (variant q name_no) n t rest h small) refl

-- no place begins with a star
inside-base : (base : Parse BaseText) (read : Parse PlaceText) (type : Parse TypeText) (q : PlaceRule) (rest : List Symbol) → inside_with base read type (place_put q rest) ≡ and_then (base (place_put q rest)) (λ x ts. and_then (field_after type x ts) (λ q ts. Ok (q, ts)))
unfolding inside_with
inside-base base read type (local n) rest = refl
inside-base base read type (deref q) rest = refl
inside-base base read type (field q n t) rest = refl
inside-base base read type (variant_field q name_no n t) rest = refl

base_inside-base : (base : Parse BaseText) (read : Parse PlaceText) (type : Parse TypeText) (q : PlaceRule) (rest : List Symbol) → base_inside base read type (place_put q rest) ≡ and_then (base (place_put q rest)) (λ x ts. and_then (after_base type x ts) (λ y ts. Ok (y, ts)))
unfolding base_inside
base_inside-base base read type (local n) rest = refl
base_inside-base base read type (deref q) rest = refl
base_inside-base base read type (field q n t) rest = refl
base_inside-base base read type (variant_field q name_no n t) rest = refl

no_depth : (q : PlaceRule) → place_depth q ≤ 0 → ⊥
no_depth (local n) h = omega arith
no_depth (deref q) h = omega arith
no_depth (field q n t) h = omega arith
no_depth (variant_field q name_no n t) h = omega arith

mutual
  unfolding place_at base_at place_with base_with inside_with base_inside after_base variant_end name close

  pub place-complete : (q : PlaceRule) (d : ℕ) (rest : List Symbol) → place_depth q ≤ d → Small q → place_at d (place_put q rest) ≡ Ok (place_text q, rest)
  place-complete q zero rest h small = absurd (no_depth q h)
  place-complete (local n) (suc d) rest h small = refl
  place-complete (deref q) (suc d) rest h small = rw (place-complete q d (s.Close ∷ rest) (omega arith) small) refl
  place-complete (field q n t) (suc d) rest h small =
      rw (
        inside-base (base_at d) (place_at d) (type_text_at d) q (field_put n t rest),
        as_base q d (field_put n t rest) (omega arith) small.1,
        field_after-complete d (place q) n t rest (omega arith) small.0,
      ) refl
  place-complete (variant_field q name_no n t) (suc zero) rest h small = absurd (omega arith)
  place-complete (variant_field q name_no n t) (suc (suc d)) rest h small =
      rw (
        base_inside-base (base_at d) (place_at d) (type_text_at d) q (variant_put name_no (field_put n t rest)),
        as_base q d (variant_put name_no (field_put n t rest)) (omega arith) small.1,
        field_after-complete (suc d) (variant q name_no) n t rest (omega arith) small.0,
      ) refl

  -- a place is read where a variant of one may stand
  pub as_base : (q : PlaceRule) (d : ℕ) (rest : List Symbol) → place_depth q ≤ d → Small q → base_at d (place_put q rest) ≡ Ok (b.Place (place_text q), rest)
  as_base q zero rest h small = absurd (no_depth q h)
  as_base (local n) (suc d) rest h small = refl
  as_base (deref q) (suc d) rest h small = rw (place-complete q d (s.Close ∷ rest) (omega arith) small) refl
  as_base (field q n t) (suc d) rest h small =
      rw (
        base_inside-base (base_at d) (place_at d) (type_text_at d) q (field_put n t rest),
        as_base q d (field_put n t rest) (omega arith) small.1,
        after_base-field d (place q) n t rest (omega arith) small.0,
      ) refl
  as_base (variant_field q name_no n t) (suc zero) rest h small = absurd (omega arith)
  as_base (variant_field q name_no n t) (suc (suc d)) rest h small =
      rw (
        base_inside-base (base_at d) (place_at d) (type_text_at d) q (variant_put name_no (field_put n t rest)),
        as_base q d (variant_put name_no (field_put n t rest)) (omega arith) small.1,
        after_base-field (suc d) (variant q name_no) n t rest (omega arith) small.0,
      ) refl

pub base-complete : (x : BaseRule) (d : ℕ) (rest : List Symbol) → base_depth x ≤ d → SmallBase x → base_at d (base_put x rest) ≡ Ok (base_of x, rest)
unfolding base_at base_with after_base variant_end name close
base-complete (place q) d rest h small = as_base q d rest h small
base-complete (variant q name_no) zero rest h small = absurd (omega arith)
base-complete (variant q name_no) (suc d) rest h small =
    rw (base_inside-base (base_at d) (place_at d) (type_text_at d) q (variant_put name_no rest), as_base q d (variant_put name_no rest) (omega arith) small) refl

-- ---- what is read is what the grammar yields

abbrev PlaceSound : ℕ → Type 0
PlaceSound d = (ts : List Symbol) (q : PlaceText) (rest : List Symbol) → place_at d ts ≡ Ok (q, rest) → IsRead place_put place_text (PlaceGood d) ts q rest

abbrev BaseSound : ℕ → Type 0
BaseSound d = (ts : List Symbol) (x : BaseText) (rest : List Symbol) → base_at d ts ≡ Ok (x, rest) → IsRead base_put base_of (BaseGood d) ts x rest

joins-field : (d : ℕ) (ts past rest : List Symbol) (x : BaseText) (n : ℕ) (u : TypeText) (t : TypeRule) → IsRead base_put base_of (BaseGood d) ts x past
    → type_text t ≡ u → past ≡ field_put n t rest → type_depth t ≤ d → n ≤ 4294967295 → IsRead place_put place_text (PlaceGood (suc d)) (s.Open ∷ ts) (field_of x n u) rest
joins-field d ts past rest x n u t base reads yields h small =
    record {
      rule = field_rule base.rule n t;
      reads = field_rule-of base.rule n t ∙ ap (λ y. field_of y n (type_text t)) base.reads ∙ ap (field_of x n) reads;
      yields = ap (λ l. s.Open ∷ l) (base.yields ∙ ap (base_put base.rule) yields) ∙ sym (field_rule-put base.rule n t rest);
      good = field_rule-good d base.rule n t base.good h small;
    }

pub field_after-sound : (d : ℕ) (ts past : List Symbol) (x : BaseText) (q : PlaceText) (rest : List Symbol) → IsRead base_put base_of (BaseGood d) ts x past → field_after (type_text_at d) x past ≡ Ok (q, rest)
    → IsRead place_put place_text (PlaceGood (suc d)) (s.Open ∷ ts) q rest
unfolding field_after
field_after-sound d ts past x q rest base h =
    in_steps _ _ (q, rest) h (λ f after found same_h.
    let same = ok_same _ _ same_h in
    field_end-sound d past f.0 f.1 after found (λ t reads yields nests small.
    let P : PlaceText × List Symbol → Type 0 = λ y. IsRead place_put place_text (PlaceGood (suc d)) (s.Open ∷ ts) y.0 y.1 in
    subst P same (joins-field d ts past after x f.0 f.1 t base reads yields nests small)))

pub joins-deref : (d : ℕ) (ts past rest : List Symbol) (q : PlaceText) → IsRead place_put place_text (PlaceGood d) ts q past → past ≡ s.Close ∷ rest → IsRead place_put place_text (PlaceGood (suc d)) (s.Open ∷ s.Star ∷ ts) (with_proj q p.Deref) rest
joins-deref d ts past rest q inner close_is =
    record {
      rule = deref inner.rule;
      reads = ap (λ y. with_proj y p.Deref) inner.reads;
      yields = ap (λ l. s.Open ∷ s.Star ∷ l) (inner.yields ∙ ap (place_put inner.rule) close_is);
      good = (omega (arith, inner.good.0), inner.good.1);
    }

inside-field : (d : ℕ) → BaseSound d → (ts : List Symbol) (q : PlaceText) (rest : List Symbol) → and_then (base_at d ts) (λ x ts. and_then (field_after (type_text_at d) x ts) (λ q ts. Ok (q, ts))) ≡ Ok (q, rest)
    → IsRead place_put place_text (PlaceGood (suc d)) (s.Open ∷ ts) q rest
inside-field d sound ts q rest h =
    in_steps _ _ (q, rest) h (λ x past found went.
    in_steps _ _ (q, rest) went (λ y over found2 same_h.
    let P : PlaceText × List Symbol → Type 0 = λ y. IsRead place_put place_text (PlaceGood (suc d)) (s.Open ∷ ts) y.0 y.1 in
    subst P (ok_same _ _ same_h) (field_after-sound d ts past x y over (sound ts x past found) found2)))

inside-sound : (d : ℕ) → PlaceSound d → BaseSound d → (ts : List Symbol) (q : PlaceText) (rest : List Symbol) → inside_with (base_at d) (place_at d) (type_text_at d) ts ≡ Ok (q, rest)
    → IsRead place_put place_text (PlaceGood (suc d)) (s.Open ∷ ts) q rest
unfolding inside_with
inside-sound d ps bs [] q rest h = inside-field d bs [] q rest h
inside-sound d ps bs (s.Star ∷ ts) q rest h =
    in_steps _ _ (q, rest) h (λ inner past found went.
    in_steps _ _ (q, rest) went (λ nothing over closed same_h.
    let P : PlaceText × List Symbol → Type 0 = λ y. IsRead place_put place_text (PlaceGood (suc d)) (s.Open ∷ s.Star ∷ ts) y.0 y.1 in
    subst P (ok_same _ _ same_h) (joins-deref d ts past over inner (ps ts inner past found) (close-sound past (nothing, over) closed))))
inside-sound d ps bs (x ∷ ts) q rest h = inside-field d bs (x ∷ ts) q rest h

-- a place that was read is one where a variant may stand
base-place : (d : ℕ) (ts : List Symbol) (q : PlaceText) (rest : List Symbol) → IsRead place_put place_text (PlaceGood d) ts q rest → IsRead base_put base_of (BaseGood d) ts (b.Place q) rest
base-place d ts q rest x = record { rule = place x.rule; reads = ap b.Place x.reads; yields = x.yields; good = x.good }

-- what stands behind a base: a variant's name, or a field
after_base-sound : {R : Type 0} (type : Parse TypeText) (x : BaseText) (ts : List Symbol) (y : BaseText) (rest : List Symbol) → after_base type x ts ≡ Ok (y, rest)
    → ((q : PlaceText) (name_no : ℕ) → x ≡ b.Place q → ts ≡ variant_put name_no rest → y ≡ b.Variant q name_no → R)
    → ((q : PlaceText) → field_after type x ts ≡ Ok (q, rest) → y ≡ b.Place q → R) → R
unfolding after_base variant_end
after_base-sound type (b.Place q) [] y rest h variant_k field_k =
    in_steps _ _ (y, rest) h (λ z past found same_h.
    let same = ok_same _ _ same_h in
    field_k z (found ∙ ap (λ w. Ok (z, w)) (ap (λ w. w.1) same)) (sym (ap (λ w. w.0) same)))
after_base-sound type (b.Place q) (s.As ∷ ts) y rest h variant_k field_k =
    in_steps _ _ (y, rest) h (λ n past found same_h.
    in_steps _ _ (n, past) found (λ m past1 named went.
    in_steps _ _ (n, past) went (λ nothing past2 closed same_h2.
    let same = ok_same _ _ same_h in
    let same2 = ok_same _ _ same_h2 in
    variant_k q n refl
    (ap (λ l. s.As ∷ l) (name-sound ts (m, past1) named ∙ ap (λ l. s.Name m ∷ l) (close-sound past1 (nothing, past2) closed) ∙ ap (λ z. s.Name z.0 ∷ s.Close ∷ z.1) same2)
    ∙ ap (λ l. variant_put n l) (ap (λ z. z.1) same))
    (sym (ap (λ z. z.0) same)))))
after_base-sound type (b.Variant q v) (s.As ∷ ts) y rest h variant_k field_k = absurd cc
after_base-sound type (b.Place q) (t ∷ ts) y rest h variant_k field_k =
    in_steps _ _ (y, rest) h (λ z past found same_h.
    let same = ok_same _ _ same_h in
    field_k z (found ∙ ap (λ w. Ok (z, w)) (ap (λ w. w.1) same)) (sym (ap (λ w. w.0) same)))
after_base-sound type (b.Variant q v) [] y rest h variant_k field_k =
    in_steps _ _ (y, rest) h (λ z past found same_h.
    let same = ok_same _ _ same_h in
    field_k z (found ∙ ap (λ w. Ok (z, w)) (ap (λ w. w.1) same)) (sym (ap (λ w. w.0) same)))
after_base-sound type (b.Variant q v) (t ∷ ts) y rest h variant_k field_k =
    in_steps _ _ (y, rest) h (λ z past found same_h.
    let same = ok_same _ _ same_h in
    field_k z (found ∙ ap (λ w. Ok (z, w)) (ap (λ w. w.1) same)) (sym (ap (λ w. w.0) same)))

variant-by : (d : ℕ) (ts past rest : List Symbol) (q : PlaceText) (name_no : ℕ) (x : BaseRule) → base_of x ≡ b.Place q → ts ≡ base_put x past → BaseGood d x → past ≡ variant_put name_no rest
    → IsRead base_put base_of (BaseGood (suc d)) (s.Open ∷ ts) (b.Variant q name_no) rest
variant-by d ts past rest q name_no (place x) reads yields good e =
    let same : place_text x ≡ q = cc in
    record {
      rule = variant x name_no;
      reads = ap (λ y. b.Variant y name_no) same;
      yields = ap (λ l. s.Open ∷ l) (yields ∙ ap (place_put x) e);
      good = (omega (arith, good.0), good.1);
    }
variant-by d ts past rest q name_no (variant x v) reads yields good e = absurd cc

joins-variant : (d : ℕ) (ts past rest : List Symbol) (q : PlaceText) (name_no : ℕ) → IsRead base_put base_of (BaseGood d) ts (b.Place q) past → past ≡ variant_put name_no rest
    → IsRead base_put base_of (BaseGood (suc d)) (s.Open ∷ ts) (b.Variant q name_no) rest
joins-variant d ts past rest q name_no base yields = variant-by d ts past rest q name_no base.rule base.reads base.yields base.good yields

base_inside-field : (d : ℕ) → BaseSound d → (ts : List Symbol) (x : BaseText) (rest : List Symbol) → and_then (base_at d ts) (λ x ts. and_then (after_base (type_text_at d) x ts) (λ y ts. Ok (y, ts))) ≡ Ok (x, rest)
    → IsRead base_put base_of (BaseGood (suc d)) (s.Open ∷ ts) x rest
base_inside-field d sound ts x rest h =
    in_steps _ _ (x, rest) h (λ y past found went.
    in_steps _ _ (x, rest) went (λ z over found2 same_h.
    let P : BaseText × List Symbol → Type 0 = λ w. IsRead base_put base_of (BaseGood (suc d)) (s.Open ∷ ts) w.0 w.1 in
    let base = sound ts y past found in
    subst P (ok_same _ _ same_h)
    (after_base-sound (type_text_at d) y past z over found2
    (λ q name_no is yields z_is. subst (λ w. P (w, over)) (sym z_is) (joins-variant d ts past over q name_no (subst (λ w. IsRead base_put base_of (BaseGood d) ts w past) is base) yields))
    (λ q fielded z_is. subst (λ w. P (w, over)) (sym z_is) (base-place (suc d) (s.Open ∷ ts) q over (field_after-sound d ts past y q over base fielded))))))

base_inside-sound : (d : ℕ) → PlaceSound d → BaseSound d → (ts : List Symbol) (x : BaseText) (rest : List Symbol) → base_inside (base_at d) (place_at d) (type_text_at d) ts ≡ Ok (x, rest)
    → IsRead base_put base_of (BaseGood (suc d)) (s.Open ∷ ts) x rest
unfolding base_inside
base_inside-sound d ps bs [] x rest h = base_inside-field d bs [] x rest h
base_inside-sound d ps bs (s.Star ∷ ts) x rest h =
    in_steps _ _ (x, rest) h (λ inner past found went.
    in_steps _ _ (x, rest) went (λ nothing over closed same_h.
    let P : BaseText × List Symbol → Type 0 = λ w. IsRead base_put base_of (BaseGood (suc d)) (s.Open ∷ s.Star ∷ ts) w.0 w.1 in
    subst P (ok_same _ _ same_h) (base-place (suc d) (s.Open ∷ s.Star ∷ ts) (with_proj inner p.Deref) over
    (joins-deref d ts past over inner (ps ts inner past found) (close-sound past (nothing, over) closed)))))
base_inside-sound d ps bs (y ∷ ts) x rest h = base_inside-field d bs (y ∷ ts) x rest h

mutual
  unfolding place_at base_at place_with base_with

  pub place-sound : (d : ℕ) → PlaceSound d
  place-sound zero ts q rest h = absurd cc
  place-sound (suc d) [] q rest h = absurd cc
  place-sound (suc d) (s.Local n ∷ ts) q rest h =
      let e = ok_same _ _ h in
      record { rule = local n; reads = ap (λ y. y.0) e; yields = ap (λ y. s.Local n ∷ y.1) e; good = (omega arith, tt) }
  place-sound (suc d) (s.Open ∷ ts) q rest h =
      in_steps _ _ (q, rest) h (λ y past found same_h.
      let P : PlaceText × List Symbol → Type 0 = λ w. IsRead place_put place_text (PlaceGood (suc d)) (s.Open ∷ ts) w.0 w.1 in
      subst P (ok_same _ _ same_h) (inside-sound d (place-sound d) (base-sound d) ts y past found))
  place-sound (suc d) (x ∷ ts) q rest h = absurd cc

  pub base-sound : (d : ℕ) → BaseSound d
  base-sound zero ts x rest h = absurd cc
  base-sound (suc d) [] x rest h = absurd cc
  base-sound (suc d) (s.Local n ∷ ts) x rest h =
      let e = ok_same _ _ h in
      record { rule = place (local n); reads = ap (λ y. y.0) e; yields = ap (λ y. s.Local n ∷ y.1) e; good = (omega arith, tt) }
  base-sound (suc d) (s.Open ∷ ts) x rest h =
      in_steps _ _ (x, rest) h (λ y past found same_h.
      let P : BaseText × List Symbol → Type 0 = λ w. IsRead base_put base_of (BaseGood (suc d)) (s.Open ∷ ts) w.0 w.1 in
      subst P (ok_same _ _ same_h) (base_inside-sound d (place-sound d) (base-sound d) ts y past found))
  base-sound (suc d) (y ∷ ts) x rest h = absurd cc
