-- Folded operands and rvalues give what the operands and rvalues give, where the facts hold.
use Rattle.std.proofs.Common.{◌≡◌, inl, inr, refl, sym, ap, ap₂, ◌∙◌, subst, ℕ, Bool, true, false, List, [], ◌∷◌, Option, Some, None, arith}
use Rattle.mir_syntax.specs.declared.types.ScalarTy.{ScalarTy}
use Rattle.mir_syntax.specs.declared.types.ScalarTy.TheVariants as scalar_ty
use Rattle.mir_syntax.specs.declared.body.Proj.{Proj}
use Rattle.mir_syntax.specs.declared.body.Proj.TheVariants.{Field}
use Rattle.mir_syntax.specs.declared.body.Place.{Place}
use Rattle.mir_syntax.specs.declared.body.Const.{Const}
use Rattle.mir_syntax.specs.declared.body.Const.TheVariants as constant
use Rattle.mir_syntax.specs.declared.body.Operand.{Operand}
use Rattle.mir_syntax.specs.declared.body.Operand.TheVariants as operand
use Rattle.mir_syntax.specs.declared.body.OverOp.{OverOp}
use Rattle.mir_syntax.specs.Tree.{Tree}
use Rattle.mir_syntax.specs.Crate.{TypedRvalue, «use», binary, overflow, unary, cast, discriminant, tuple, build}
use Rattle.mir_syntax.specs.Crate as rvalue
use Rattle.mir_syntax.specs.Shapes.{Shape, ◌>>=◌}
use Rattle.mir_syntax.specs.Parts.{has_deref}
use Rattle.mir_num.specs.Numbers as num
use Rattle.mir_semantics.specs.Values.{Value, number, nil, cons, whole, at_path}
use Rattle.mir_semantics.specs.Memory.{Memory}
use Rattle.mir_semantics.specs.Step.{Here, State, const_value, read, read_all, read_number, scalar_ty_of, scalar_in, eval}
use Rattle.mir_syntax.proofs.Binds.{bind_some}
use Rattle.mir_renaming.specs.Renaming.{Renaming}
use Rattle.mir_renaming.proofs.Agree.{tight_self}
use Rattle.mir_renaming.proofs.Statements.{const_rel}
use Rattle.mir_renaming.proofs.Types.{TypeMap, RvalueTy}
use Rattle.mir_relate.specs.Alike.{Sides, Same, Reads, AllRead, Refers, Shows, Likewise, Evals}
use Rattle.mir_relate.specs.Frames.{Change}
use Rattle.mir_relate.specs.Pass.{Valids, MoveOk, AllMoves, RvalueMoves}
use Rattle.mir_relate.proofs.Alike.{likewise}
use Rattle.mir_relate.proofs.Alone.{Spends, RvalueSpends, read_alone, eval_alone}
use Rattle.mir_relate.proofs.Kept as kept
use Rattle.mir_relate.proofs.Leaves.{some_val}
use Rattle.mir_relate.proofs.Near as near
use Rattle.mir_relate.proofs.Wholes.{read_at_whole, eval_whole}
use Rattle.escape_info.specs.Borrowed.{borrowed}
use Rattle.const_flow.specs.declared.cell.Cell.TheVariants.{Num}
use Rattle.const_flow.specs.Facts.{Facts, known, value_known}
use Rattle.const_flow.specs.ConstAt.{Reached, text}
use Rattle.const_flow.specs.Holding.{Fits, NumFits}
use Rattle.const_flow.proofs.sound.Statements.{same_scalar}
use Rattle.const_flow.proofs.sound.Related as related
use Rattle.const_flow.proofs.sound.Related.{RefsOk}
use Rattle.const_rewrite.specs.Folded.{literal, literal_of, or_constant, folded_operand, folded_operands, binary_result, number_or, pair_or, folded_rvalue}
use Rattle.const_rewrite.proofs.Literals.{literal_value, literal_scalar, literal_known, known_number}
use Rattle.mir_relate.proofs.Moment as moment
use Rattle.mir_relate.proofs.Moment.{Moment}
use Rattle.const_rewrite.proofs.refines.Where.{Known, words}

-- ---- constants

const_eval : (h : Here) (m : Memory) (c : Const) → eval h m («use» (operand.Const c)) ≡ Some (const_value c, m)
unfolding eval read
const_eval h m c = refl

pair_eval : (h : Here) (m : Memory) (a b : Const) → eval h m (tuple (operand.Const a ∷ operand.Const b ∷ [])) ≡ Some (cons (const_value a) (cons (const_value b) nil), m)
unfolding eval read_all read ◌>>=◌
pair_eval h m a b = refl

const_whole : (c : Const) → whole (const_value c) ≡ true
unfolding const_value
const_whole (constant.Int t n) = refl
const_whole (constant.Bool b) = refl
const_whole constant.Unit = refl

-- what is read has no hole
read_whole : (h : Here) (m : Memory) (o : Operand) (r : Value × Memory) → read h m o ≡ Some r → whole r.0 ≡ true
unfolding read
read_whole h m (operand.Copy p) r e =
    let (a, e1, k1) = bind_some e in
    let (v, e2, k2) = bind_some k1 in
    subst (λ (r : Value × Memory). whole r.0 ≡ true) (some_val k2) (read_at_whole m a v e2)
read_whole h m (operand.Move p) r e =
    let (a, e1, k1) = bind_some e in
    let (v, e2, k2) = bind_some k1 in
    let (t, e3, k3) = bind_some k2 in
    subst (λ (r : Value × Memory). whole r.0 ≡ true) (some_val k3) (read_at_whole m a v e2)
read_whole h m (operand.Const c) r e = subst (λ (r : Value × Memory). whole r.0 ≡ true) (some_val e) (const_whole c)

-- a wrapped result and a flag
pair_made : (h : Here) (m : Memory) (op : OverOp) (a b : Operand) (r : Value × Memory) → eval h m (overflow op a b) ≡ Some r → (n k : ℕ) × (r.0 ≡ cons (number n) (cons (number k) nil))
unfolding eval
pair_made h m op a b r e =
    let (t, e1, k1) = bind_some e in
    let (x, e2, k2) = bind_some k1 in
    let z = num.over op t x.0.0 x.0.1 in
    (z.0, num.flag z.1, ap (λ (r : Value × Memory). r.0) (sym (some_val k2)))

module _ {X : Change} {xs : List Reached} {V : Valids X} {Inv : State → Type 0} (now : Moment X (words X xs) V Inv) (fs : Facts) where
  open now use {s2, s1, r, runs}

  abbrev D : List Shape
  D = X.source.shapes

  abbrev j : Renaming
  j = now.r.core.lent

  abbrev G : TypeMap
  G = now.r.typed1.types

  abbrev f1 : ℕ
  f1 = now.s1.top.frame

  abbrev f2 : ℕ
  f2 = now.s2.top.frame

  abbrev ts : List Tree
  ts = X.body1.locals

  abbrev K : Renaming
  K = moment.K now

  abbrev S : Sides
  S = moment.S now

  abbrev T : Here
  T = text X.source.shapes X.body1

  -- related memories in which the facts hold
  pub record Knows (m2 m1 : Memory) : Type 0 where
    pub near : moment.Q now m2 m1
    pub known : Known X xs now.s1.top.frame m1 fs

  abbrev Q : Memory → Memory → Type 0
  Q = Knows

  -- ---- what is known of what the source reads

  abbrev Near : Memory → Memory → Type 0
  Near = moment.Q now

  holds_after : (m2 m1 : Memory) (o : Operand) (r : Value × Memory) → Q m2 m1 → read S.source m1 o ≡ Some r → Known X xs f1 r.1 fs
  holds_after m2 m1 o r q e = related.read_holds D X.body1 f1 f2 j K (moment.low now) (moment.itself now) (moment.unlent_at now) (moment.lent_at now) m2 m1 q.near.linked.mem fs q.known o r e

  value_is : (m2 m1 : Memory) (o : Operand) (r : Value × Memory) (n : ℕ) → Q m2 m1 → read S.source m1 o ≡ Some r → known fs o ≡ Num n → r.0 ≡ number n
  unfolding known
  value_is m2 m1 o r n q e is = known_number n r.0 (subst (λ k. Fits k (Some r.0)) is (related.read_fits D X.body1 f1 f2 j K (moment.low now) (moment.itself now) (moment.unlent_at now) (moment.lent_at now) m2 m1 q.near.linked.mem fs q.known o r e [])) (read_whole S.source m1 o r e)

  pub number_is : (m2 m1 : Memory) (o : Operand) (r : ℕ × Memory) → Q m2 m1 → read_number S.source m1 o ≡ Some r → NumFits (known fs o) r.0
  number_is m2 m1 o r q e = related.number_fits D X.body1 f1 f2 j K (moment.low now) (moment.itself now) (moment.unlent_at now) (moment.lent_at now) m2 m1 q.near.linked.mem fs q.known o r e

  parts_are : (m2 m1 : Memory) (x : TypedRvalue) (r : Value × Memory) → RefsOk D X.body1 x → Q m2 m1 → eval S.source m1 x ≡ Some r → (ps : List Proj) → Fits (value_known T fs x ps) (at_path ps r.0)
  parts_are m2 m1 x r ok q e = related.eval_fits D X.body1 f1 f2 j K (moment.low now) (moment.itself now) (moment.unlent_at now) (moment.lent_at now) m2 m1 q.near.linked.mem fs q.known x r ok e

  -- ---- what the source reads and evaluates alone

  read_left : (m2 m1 : Memory) (o : Operand) (r : Value × Memory) → MoveOk S.source o → Q m2 m1 → read S.source m1 o ≡ Some r → Q m2 r.1
  read_left m2 m1 o r mo q e = record { near = read_alone S Near o (moment.spends now o mo) m2 m1 r q.near e; known = holds_after m2 m1 o r q e }

  pub number_left : (m2 m1 : Memory) (o : Operand) (r : ℕ × Memory) → MoveOk S.source o → Q m2 m1 → read_number S.source m1 o ≡ Some r → Q m2 r.1
  unfolding read_number
  number_left m2 m1 o r mo q e =
      let (x, e1, k1) = bind_some e in
      let (n, e2, k2) = bind_some k1 in
      subst (λ (r : ℕ × Memory). Q m2 r.1) (some_val k2) (read_left m2 m1 o x mo q e1)

  eval_left : (m2 m1 : Memory) (x : TypedRvalue) (r : Value × Memory) → RefsOk D X.body1 x → RvalueSpends S Near x → Q m2 m1 → eval S.source m1 x ≡ Some r → Q m2 r.1
  eval_left m2 m1 x r ok sp q e = record { near = eval_alone S Near x sp m2 m1 r q.near e; known = related.eval_holds D X.body1 f1 f2 j K (moment.low now) (moment.itself now) (moment.unlent_at now) (moment.lent_at now) m2 m1 q.near.linked.mem fs q.known x r ok e }

  -- ---- operands

  pub plain_read : (o : Operand) → MoveOk S.source o → Reads S Q o o
  plain_read o mo =
      let R = kept.reads_as D ts ts f1 f2 j K (moment.low now) G (moment.bok now) (moment.lok now) Near (moment.keeps now) o o (moment.operand_self now o) mo in
      record { reads = λ m2 m1 r q e. (let (x, g, h, n) = R.reads m2 m1 r q.near e in (x, g, h, record { near = n; known = holds_after m2 m1 o r q e })); scalars = R.scalars }

  const_read : (o : Operand) (c : Const) (t : ScalarTy) (n : ℕ) → MoveOk S.source o → scalar_ty_of T o ≡ Some t → known fs o ≡ Num n → literal t n ≡ Some c → Reads S Q o (operand.Const c)
  unfolding read
  const_read o c t n mo et is el = record {
    reads = λ m2 m1 r q e.
        let same : const_value c ≡ r.0 = literal_value t n c el ∙ sym (value_is m2 m1 o r n q e is) in
        ((const_value c, m2), refl, subst (λ v. Same j v (const_value c)) same (const_rel j c, tight_self (const_value c)), read_left m2 m1 o r mo q e);
    scalars = same_scalar D ts f1 o ∙ et ∙ sym (literal_scalar S.target t n c el);
  }

  pub folded_reads : (o : Operand) → MoveOk S.source o → Reads S Q o (folded_operand T fs o)
  unfolding folded_operand
  folded_reads o mo = go (literal_of (scalar_ty_of T o) (known fs o)) refl
    where
      go : (c : Option Const) → literal_of (scalar_ty_of T o) (known fs o) ≡ c → Reads S Q o (or_constant c o)
      go None e = plain_read o mo
      go (Some c) e = let (t, n, et, is, el) = literal_known (scalar_ty_of T o) (known fs o) c e in const_read o c t n mo et is el

  pub folded_read : (os : List Operand) → AllMoves S.source os → AllRead S Q os (folded_operands T fs os)
  folded_read [] mo = tt
  folded_read (o ∷ os) mo = (folded_reads o mo.0, folded_read os mo.1)

  -- ---- rvalues

  abbrev Typed : TypedRvalue → Type 0
  Typed x = (t : Tree) × RvalueTy D G (moment.bok now) ts f1 (moment.lok now) x t

  number_evals : (x y : TypedRvalue) (o : Option ScalarTy) → RefsOk D X.body1 x → RvalueSpends S Near x → Typed x → Likewise S Q x y → Evals S Q Q x (number_or (literal_of o (value_known T fs x [])) y)
  number_evals x y o ok sp (ty, xt) h = go (literal_of o (value_known T fs x [])) refl
    where
      go : (c : Option Const) → literal_of o (value_known T fs x []) ≡ c → Evals S Q Q x (number_or c y)
      go None e = likewise S Q refl x y h
      go (Some c) e =
          let (t, n, et, is, el) = literal_known o (value_known T fs x []) c e in
          record {
            evals = λ m2 m1 r q ev.
                let w = eval_whole D G (moment.bok now) ts f1 (moment.lok now) m1 x ty r xt ev in
                let v : r.0 ≡ number n = known_number n r.0 (subst (λ k. Fits k (Some r.0)) is (parts_are m2 m1 x r ok q ev [])) w in
                ((const_value c, m2), const_eval S.target m2 c, subst (λ v. Same j v (const_value c)) (literal_value t n c el ∙ sym v) (const_rel j c, tight_self (const_value c)), eval_left m2 m1 x r ok sp q ev);
          }

  -- a number in a part of a pair
  part_is : (x : TypedRvalue) (m2 m1 : Memory) (r : Value × Memory) (p : Proj) (a n : ℕ) → RefsOk D X.body1 x → Q m2 m1 → eval S.source m1 x ≡ Some r → at_path (p ∷ []) r.0 ≡ Some (number a) → value_known T fs x (p ∷ []) ≡ Num n → number a ≡ number n
  part_is x m2 m1 r p a n ok q ev at is = known_number n (number a) (subst (λ o. Fits (Num n) o) at (subst (λ k. Fits k (at_path (p ∷ []) r.0)) is (parts_are m2 m1 x r ok q ev (p ∷ [])))) refl

  pair_evals : (op : OverOp) (a b : Operand) (y : TypedRvalue) (o o' : Option ScalarTy) → RvalueSpends S Near (overflow op a b) → Likewise S Q (overflow op a b) y → Evals S Q Q (overflow op a b) (pair_or (literal_of o (value_known T fs (overflow op a b) (Field 0 ∷ []))) (literal_of o' (value_known T fs (overflow op a b) (Field 1 ∷ []))) y)
  unfolding ◌>>=◌
  pair_evals op a b y o o' sp h = go (literal_of o (value_known T fs x (Field 0 ∷ []))) (literal_of o' (value_known T fs x (Field 1 ∷ []))) refl refl
    where
      x : TypedRvalue
      x = overflow op a b

      go : (c c' : Option Const) → literal_of o (value_known T fs x (Field 0 ∷ [])) ≡ c → literal_of o' (value_known T fs x (Field 1 ∷ [])) ≡ c' → Evals S Q Q x (pair_or c c' y)
      go None c' e e' = likewise S Q refl x y h
      go (Some c) None e e' = likewise S Q refl x y h
      go (Some c) (Some c') e e' =
          let (t, n, et, is, el) = literal_known o (value_known T fs x (Field 0 ∷ [])) c e in
          let (t', n', et', is', el') = literal_known o' (value_known T fs x (Field 1 ∷ [])) c' e' in
          record {
            evals = λ m2 m1 r q ev.
                let (i, k, made) = pair_made S.source m1 op a b r ev in
                let first = part_is x m2 m1 r (Field 0) i n tt q ev (ap (at_path (Field 0 ∷ [])) made) is in
                let second = part_is x m2 m1 r (Field 1) k n' tt q ev (ap (at_path (Field 1 ∷ [])) made) is' in
                let w = cons (const_value c) (cons (const_value c') nil) in
                let same : w ≡ r.0 = ap₂ (λ z z'. cons z (cons z' nil)) (literal_value t n c el ∙ sym first) (literal_value t' n' c' el' ∙ sym second) ∙ sym made in
                ((w, m2), pair_eval S.target m2 c c', subst (λ v. Same j v w) same ((const_rel j c, (const_rel j c', tt)), tight_self w), eval_left m2 m1 x r tt sp q ev);
          }

  ref_self : (p : Place) → (has_deref p.proj ≡ false → borrowed D X.body1 p.local ≡ true) → Refers S Q p p
  ref_self p ok = record { refers = λ m2 m1 a q e. (kept.refers_as D ts ts f1 f2 j K (moment.low now) G (moment.bok now) (moment.lok now) Near (moment.keeps now) p p (go (has_deref p.proj) refl)).refers m2 m1 a q.near e }
    where
      go : (c : Bool) → has_deref p.proj ≡ c → kept.RefAs D ts ts f1 f2 j K (moment.low now) G (moment.bok now) (moment.lok now) Near (moment.keeps now) p p
      go true e = inr (e, moment.place_self now p)
      go false e = inl (record { root = moment.lent_at now p.local (ok e); proj = refl; ty = refl })

  shown : (p : Place) → Shows S Q p p
  shown p = record { shows = λ m2 m1 a v q e ev. (kept.shows_as D ts ts f1 f2 j K (moment.low now) G (moment.bok now) (moment.lok now) Near (moment.keeps now) p p (moment.place_self now p)).shows m2 m1 a v q.near e ev }

  pub folded_evals : (x : TypedRvalue) → RvalueMoves S.source x → RefsOk D X.body1 x → Typed x → Evals S Q Q x (folded_rvalue T fs x)
  unfolding folded_rvalue
  folded_evals («use» o) mo ok ty = likewise S Q refl («use» o) («use» (folded_operand T fs o)) (folded_reads o mo)
  folded_evals (binary op a b) mo ok ty = number_evals (binary op a b) (binary op (folded_operand T fs a) (folded_operand T fs b)) (binary_result T op a) tt (moment.spends now a mo.0, moment.spends now b mo.1) ty (refl, folded_reads a mo.0, folded_reads b mo.1)
  folded_evals (overflow op a b) mo ok ty = pair_evals op a b (overflow op (folded_operand T fs a) (folded_operand T fs b)) (scalar_ty_of T a) (Some scalar_ty.Bool) (moment.spends now a mo.0, moment.spends now b mo.1) (refl, folded_reads a mo.0, folded_reads b mo.1)
  folded_evals (unary op a) mo ok ty = number_evals (unary op a) (unary op (folded_operand T fs a)) (scalar_ty_of T a) tt (moment.spends now a mo) ty (refl, folded_reads a mo)
  folded_evals (cast a t) mo ok ty = number_evals (cast a t) (cast (folded_operand T fs a) t) (scalar_in t) tt (moment.spends now a mo) ty (refl, folded_reads a mo)
  folded_evals (rvalue.ref p) mo ok ty = likewise S Q refl (rvalue.ref p) (rvalue.ref p) (ref_self p ok)
  folded_evals (rvalue.ref_mut p) mo ok ty = likewise S Q refl (rvalue.ref_mut p) (rvalue.ref_mut p) (ref_self p ok)
  folded_evals (discriminant p) mo ok ty = likewise S Q refl (discriminant p) (discriminant p) (shown p)
  folded_evals (tuple os) mo ok ty = likewise S Q refl (tuple os) (tuple (folded_operands T fs os)) (folded_read os mo)
  folded_evals (build d k os) mo ok ty = likewise S Q refl (build d k os) (build d k (folded_operands T fs os)) (refl, refl, folded_read os mo)
