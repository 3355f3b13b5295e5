-- What a statement copies and writes, with ids and without.
use Rattle.std.proofs.Common.{◌≡◌, refl, ap, ◌∙◌, ℕ, nat_eq, ◌&&◌, List, [], ◌∷◌, Option, Some, None, arith}
use Rattle.std.specs.List.{flat_map, list_any}
use Rattle.mir_syntax.specs.declared.body.Proj.{Proj}
use Rattle.mir_syntax.specs.declared.body.Place.{Place}
use Rattle.mir_syntax.specs.declared.body.Operand.TheVariants as operand
use Rattle.mir_syntax.specs.declared.body.Rvalue.TheVariants as rvalue
use Rattle.mir_syntax.specs.declared.body.Stmt.{Stmt}
use Rattle.mir_syntax.specs.declared.body.Stmt.TheVariants as stmt
use Rattle.mir_syntax.specs.Tree.{Tree}
use Rattle.mir_syntax.specs.Crate.{stmt_of}
use Rattle.liveness.specs.Live.{unless_inside, whole}
use Rattle.dest_prop.specs.declared.candidates.LocalCopy.{LocalCopy}
use Rattle.dest_prop.specs.Merged.{Pair, pairs, copies, written, stmt_writes, is_copy}
use Rattle.dest_prop.specs.Code.{unless_part, whole_local, operand_whole, both_whole, bare_copy, pair_of, bare_writes, makes_copy}
use Rattle.dest_prop.proofs.equal.Grown.{or_false}

abbrev pub pairs_of : Option LocalCopy → List Pair
pairs_of None = []
pairs_of (Some c) = pair_of c ∷ []

module _ (trees : List Tree) where
  use_is : (p q : Place) → pairs (whole p) (flat_map whole (q ∷ [])) ≡ pairs_of (both_whole (whole_local p) (whole_local q))
  use_is p q = go p.proj q.proj
    where
      go : (ps qs : List Proj) → pairs (unless_inside p.local ps) (flat_map whole (record { local = q.local; proj = qs } ∷ [])) ≡ pairs_of (both_whole (unless_part p.local ps) (unless_part q.local qs))
      go [] [] = refl
      go [] (j ∷ qs) = refl
      go (j ∷ ps) [] = refl
      go (j ∷ ps) (k ∷ qs) = refl

  const_is : (p : Place) → pairs (whole p) [] ≡ pairs_of (both_whole (whole_local p) None)
  const_is p = go p.proj
    where
      go : (ps : List Proj) → pairs (unless_inside p.local ps) [] ≡ pairs_of (both_whole (unless_part p.local ps) None)
      go [] = refl
      go (j ∷ ps) = refl

  none_is : (p : Place) → pairs (whole p) [] ≡ []
  none_is p = go p.proj
    where
      go : (ps : List Proj) → pairs (unless_inside p.local ps) [] ≡ []
      go [] = refl
      go (j ∷ ps) = refl

  pub copies_are : (s : Stmt) → copies (stmt_of trees s) ≡ pairs_of (bare_copy s)
  copies_are (stmt.Assign p (rvalue.Use (operand.Copy q))) = use_is p q
  copies_are (stmt.Assign p (rvalue.Use (operand.Move q))) = use_is p q
  copies_are (stmt.Assign p (rvalue.Use (operand.Const c))) = const_is p
  copies_are (stmt.Assign p (rvalue.Binary op a b)) = none_is p
  copies_are (stmt.Assign p (rvalue.Overflow op a b)) = none_is p
  copies_are (stmt.Assign p (rvalue.Unary op a)) = none_is p
  copies_are (stmt.Assign p (rvalue.Cast a ty)) = none_is p
  copies_are (stmt.Assign p (rvalue.Ref q)) = none_is p
  copies_are (stmt.Assign p (rvalue.RefMut q)) = none_is p
  copies_are (stmt.Assign p (rvalue.Discriminant q)) = none_is p
  copies_are (stmt.Assign p (rvalue.Tuple parts)) = none_is p
  copies_are (stmt.Assign p (rvalue.Build d v parts)) = none_is p
  copies_are (stmt.StorageLive x) = refl
  copies_are (stmt.StorageDead x) = refl
  copies_are (stmt.SetDiscriminant p k) = refl

  pub writes_are : (s : Stmt) → stmt_writes (stmt_of trees s) ≡ bare_writes s
  writes_are (stmt.Assign p r) = refl
  writes_are (stmt.StorageLive x) = refl
  writes_are (stmt.StorageDead x) = refl
  writes_are (stmt.SetDiscriminant p k) = refl

  pub copy_is : (s : Stmt) (x y : ℕ) → is_copy (stmt_of trees s) x y ≡ makes_copy (bare_copy s) x y
  copy_is s x y = ap (list_any (λ c. nat_eq c.0 x && nat_eq c.1 y)) (copies_are s) ∙ go (bare_copy s)
    where
      go : (o : Option LocalCopy) → list_any (λ c. nat_eq c.0 x && nat_eq c.1 y) (pairs_of o) ≡ makes_copy o x y
      go None = refl
      go (Some c) = or_false (nat_eq c.into x && nat_eq c.from y)

-- what copies a whole local writes it
whole_direct : (p : Place) (x : ℕ) → whole_local p ≡ Some x → written p ≡ x ∷ []
whole_direct p x e = go p.proj e
  where
    go : (ps : List Proj) → unless_part p.local ps ≡ Some x → written (record { local = p.local; proj = ps }) ≡ x ∷ []
    go [] e = ap (λ x. x ∷ []) (let q : p.local ≡ x = cc in q)
    go (j ∷ ps) e = absurd (grind arith)

pub copy_writes : (s : Stmt) (c : LocalCopy) → bare_copy s ≡ Some c → bare_writes s ≡ c.into ∷ []
copy_writes (stmt.Assign p (rvalue.Use o)) c e = go (whole_local p) (operand_whole o) refl e
  where
    go : (a d : Option ℕ) → whole_local p ≡ a → both_whole a d ≡ Some c → written p ≡ c.into ∷ []
    go (Some x) (Some y) q e = whole_direct p x q ∙ ap (λ x. x ∷ []) (let h : x ≡ c.into = cc in h)
    go (Some x) None q e = absurd (grind arith)
    go None d q e = absurd (grind arith)
copy_writes (stmt.Assign p (rvalue.Binary op a b)) c e = absurd (grind arith)
copy_writes (stmt.Assign p (rvalue.Overflow op a b)) c e = absurd (grind arith)
copy_writes (stmt.Assign p (rvalue.Unary op a)) c e = absurd (grind arith)
copy_writes (stmt.Assign p (rvalue.Cast a ty)) c e = absurd (grind arith)
copy_writes (stmt.Assign p (rvalue.Ref q)) c e = absurd (grind arith)
copy_writes (stmt.Assign p (rvalue.RefMut q)) c e = absurd (grind arith)
copy_writes (stmt.Assign p (rvalue.Discriminant q)) c e = absurd (grind arith)
copy_writes (stmt.Assign p (rvalue.Tuple parts)) c e = absurd (grind arith)
copy_writes (stmt.Assign p (rvalue.Build d v parts)) c e = absurd (grind arith)
copy_writes (stmt.StorageLive x) c e = absurd (grind arith)
copy_writes (stmt.StorageDead x) c e = absurd (grind arith)
copy_writes (stmt.SetDiscriminant p k) c e = absurd (grind arith)
