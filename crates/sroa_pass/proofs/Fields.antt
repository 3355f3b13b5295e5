-- The fields of a type that may be split.
use Rattle.std.proofs.Common.{◌≡◌, refl, sym, ap, ap₂, ◌∙◌, ℕ, zero, suc, Bool, true, false, ◌||◌, nat_lt, if◌then◌else◌, List, [], length, Option, Some, None, is_some, slice_get, arith}
use Rattle.mir_syntax.specs.Tree.{Tree, scalar, empty, more, ref, ref_mut, named}
use Rattle.mir_syntax.specs.Shapes.{◌>>=◌, Shape, fields_of, field_ty, fields_of_struct, struct_fields, destructor_of}
use Rattle.mir_syntax.proofs.Binds.{bind_some, some_bind}
use Rattle.mir_renaming.proofs.Types.{can_hole, holds_by}
use Rattle.sroa_pass.specs.Split.{parts_of, if_any, field_types}

val : {A : Type 0} {x y : A} → Some x ≡ Some y → x ≡ y
val e = grind arith

-- the types of a tuple
abbrev pub Rows : Tree → Type 0
Rows empty = Unit {0}
Rows (more t ts) = Rows ts
Rows t = ⊥

pub parts_rows : (us : Tree) (ts : List Tree) → parts_of us ≡ Some ts → Rows us
parts_rows empty ts e = tt
parts_rows (more t us) ts e = let (vs, e1, k) = bind_some e in parts_rows us vs e1
parts_rows (scalar s) ts e = absurd (grind arith)
parts_rows (ref t) ts e = absurd (grind arith)
parts_rows (ref_mut t) ts e = absurd (grind arith)
parts_rows (named d) ts e = absurd (grind arith)

pub parts_at : (us : Tree) (ts : List Tree) → parts_of us ≡ Some ts → (k : ℕ) → field_ty us k ≡ slice_get ts k
parts_at empty ts e k = ap (λ ts. slice_get ts k) (val e)
parts_at (more t us) ts e zero = let (vs, e1, k) = bind_some e in ap (λ ts. slice_get ts 0) (val k)
parts_at (more t us) ts e (suc n) = let (vs, e1, k) = bind_some e in parts_at us vs e1 n ∙ ap (λ ts. slice_get ts (suc n)) (val k)
parts_at (scalar s) ts e k = absurd (grind arith)
parts_at (ref t) ts e k = absurd (grind arith)
parts_at (ref_mut t) ts e k = absurd (grind arith)
parts_at (named d) ts e k = absurd (grind arith)

pub parts_more : (us : Tree) (ts : List Tree) → parts_of us ≡ Some ts → nat_lt 0 (length ts) ≡ true → (u us' : Tree) × (us ≡ more u us')
parts_more empty ts e h = absurd (let z : nat_lt 0 0 ≡ true = ap (λ (ts : List Tree). nat_lt 0 (length ts)) (val e) ∙ h in grind arith)
parts_more (more t us) ts e h = (t, us, refl)
parts_more (scalar s) ts e h = absurd (grind arith)
parts_more (ref t) ts e h = absurd (grind arith)
parts_more (ref_mut t) ts e h = absurd (grind arith)
parts_more (named d) ts e h = absurd (grind arith)

-- a type with fields to split
pub record Splits (D : List Shape) (t : Tree) : Type 0 where
  pub tuple : Tree
  pub fields : fields_of D t ≡ Some tuple
  pub parts : parts_of tuple ≡ Some (field_types D t)
  pub plain : destructor_of D t ≡ None
  pub solid : can_hole D t ≡ false

struct_is : (s : Shape) (us : Tree) → fields_of_struct s ≡ Some us → s.is_enum ≡ false
struct_is s us e = go s.is_enum refl
  where
    go : (c : Bool) → s.is_enum ≡ c → s.is_enum ≡ false
    go false q = q
    go true q = absurd (let z : None ≡ Some us = sym (ap (λ c. if c then None else Some (struct_fields s)) q) ∙ e in grind arith)

plain_solid : (D : List Shape) (t us : Tree) → fields_of D t ≡ Some us → destructor_of D t ≡ None → can_hole D t ≡ false
plain_solid D empty us e h = refl
plain_solid D (more t ts) us e h = refl
plain_solid D (scalar s) us e h = absurd (grind arith)
plain_solid D (ref t) us e h = absurd (grind arith)
plain_solid D (ref_mut t) us e h = absurd (grind arith)
plain_solid D (named d) us e h = (let (s, e1, k) = bind_some e in ap holds_by e1 ∙ ap₂ (λ c o. c || is_some o) (struct_is s us k) (sym (some_bind _ e1 refl) ∙ h))

unbound : (o : Option Tree) → o ≡ None → (o >>= parts_of) ≡ None
unfolding ◌>>=◌
unbound o r = ap (λ o. o >>= parts_of) r

pub splits : (D : List Shape) (t : Tree) → nat_lt 0 (length (field_types D t)) ≡ true → Splits D t
splits D t h = go (destructor_of D t) refl (fields_of D t) refl
  where
    none : field_types D t ≡ [] → Splits D t
    none e = absurd (let z : nat_lt 0 0 ≡ true = sym (ap (λ (ts : List Tree). nat_lt 0 (length ts)) e) ∙ h in grind arith)

    by : (us : Tree) → destructor_of D t ≡ None → fields_of D t ≡ Some us → (o : Option (List Tree)) → parts_of us ≡ o → field_types D t ≡ if_any o → Splits D t
    by us n e (Some ts) q same = record { tuple = us; fields = e; parts = q ∙ ap Some (sym same); plain = n; solid = plain_solid D t us e n }
    by us n e None q same = none same

    go : (o : Option ℕ) → destructor_of D t ≡ o → (p : Option Tree) → fields_of D t ≡ p → Splits D t
    go (Some g) q p r = none (ap (λ (o : Option ℕ). if is_some o then [] else if_any (fields_of D t >>= parts_of)) q)
    go None q None r = none (ap (λ (o : Option ℕ). if is_some o then [] else if_any (fields_of D t >>= parts_of)) q ∙ ap if_any (unbound (fields_of D t) r))
    go None q (Some us) r = by us q r (parts_of us) refl (ap (λ (o : Option ℕ). if is_some o then [] else if_any (fields_of D t >>= parts_of)) q ∙ ap (λ o. if_any (o >>= parts_of)) r ∙ ap if_any (some_bind (parts_of) refl refl))
