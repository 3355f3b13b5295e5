-- What is known of a body's split locals: which they are, where their fields' locals stand, and which locals stay.
use Rattle.std.proofs.Common.{◌≡◌, ◌⊎◌, inl, inr, refl, sym, ap, ap₂, ◌∙◌, ℕ, ◌+◌, false, List, [], ◌∷◌, Option, Some, None, slice_get}
use Rattle.mir_syntax.specs.declared.body.Proj.TheVariants.{Field}
use Rattle.mir_syntax.specs.declared.body.Place.{Place}
use Rattle.mir_syntax.specs.declared.body.Operand.{Operand}
use Rattle.mir_syntax.specs.declared.body.Operand.TheVariants as operand
use Rattle.mir_syntax.specs.declared.body.Term.{Term}
use Rattle.mir_syntax.specs.declared.body.Term.TheVariants.{Goto, Switch, Return, Unreachable, Drop, Call, Assert}
use Rattle.mir_syntax.specs.Tree.{Tree}
use Rattle.mir_syntax.specs.Shapes.{◌>>=◌, Shape, fields_of, field_ty, path_ty, place_ty}
use Rattle.mir_syntax.proofs.Binds.{some_bind}
use Rattle.mir_renaming.proofs.Types.{can_hole}

abbrev pub local_place : ℕ → Place
local_place x = record { local = x; proj = [] }

-- local x has field i, of this type
pub record Has (D : List Shape) (ts : List Tree) (x i : ℕ) : Type 0 where
  pub ty : Tree
  pub fields : Tree
  pub field : Tree
  pub is : slice_get ts x ≡ Some ty
  pub tuple : fields_of D ty ≡ Some fields
  pub at : field_ty fields i ≡ Some field

pub record Plan (D : List Shape) (ts1 ts2 : List Tree) : Type 0 where
  -- the first local of a split local's fields; a local that stays; one that references may lead to; whose field a new local is
  pub split : ℕ → Option ℕ
  pub stays : ℕ → Option ℕ
  pub lent : ℕ → Option ℕ
  pub owner : ℕ → Option (ℕ × ℕ)
  pub same : (x y : ℕ) → stays x ≡ Some y → y ≡ x
  pub kept : (x y : ℕ) → stays x ≡ Some y → slice_get ts1 x ≡ slice_get ts2 y
  pub lends : (x y : ℕ) → lent x ≡ Some y → stays x ≡ Some y
  pub away : (x y : ℕ) → split x ≡ Some y → stays x ≡ None
  pub back : (x y i : ℕ) → split x ≡ Some y → Has D ts1 x i → owner (y + i) ≡ Some (x, i)
  pub free : (x y : ℕ) → stays x ≡ Some y → owner y ≡ None
  pub types : (x y i : ℕ) → split x ≡ Some y → (h : Has D ts1 x i) → slice_get ts2 (y + i) ≡ Some h.field
  pub solid : (x y : ℕ) → split x ≡ Some y → (t : Tree) → slice_get ts1 x ≡ Some t → can_hole D t ≡ false

-- a place of field i of a split local, and the place of that field's local
pub record PartAs (D : List Shape) (ts1 ts2 : List Tree) (P : Plan D ts1 ts2) (p q : Place) : Type 0 where
  pub first : ℕ
  pub field : ℕ
  pub split : P.split p.local ≡ Some first
  pub has : Has D ts1 p.local field
  pub local : q.local ≡ first + field
  pub proj : p.proj ≡ Field field ∷ q.proj

-- a place of the source, and the one of the target that stands for it
abbrev pub PlaceTo : (D : List Shape) (ts1 ts2 : List Tree) → Plan D ts1 ts2 → Place → Place → Type 0
PlaceTo D ts1 ts2 P p q = ((P.stays p.local ≡ Some q.local) × (p.proj ≡ q.proj)) ⊎ PartAs D ts1 ts2 P p q

module _ (D : List Shape) (ts1 ts2 : List Tree) (P : Plan D ts1 ts2) where
  abbrev pub OperandTo : Operand → Operand → Type 0
  OperandTo (operand.Copy p) (operand.Copy q) = PlaceTo D ts1 ts2 P p q
  OperandTo (operand.Move p) (operand.Move q) = PlaceTo D ts1 ts2 P p q
  OperandTo (operand.Const c) (operand.Const d) = c ≡ d
  OperandTo _ _ = ⊥

  abbrev pub OperandsTo : List Operand → List Operand → Type 0
  OperandsTo [] [] = Unit {0}
  OperandsTo (o ∷ os) (p ∷ ps) = OperandTo o p × OperandsTo os ps
  OperandsTo _ _ = ⊥

  -- terminators
  abbrev pub TermTo : Term → Term → Type 0
  TermTo (Goto u1) (Goto u2) = u1 ≡ u2
  TermTo (Switch o arms1 u1) (Switch p arms2 u2) = OperandTo o p × (arms1 ≡ arms2) × (u1 ≡ u2)
  TermTo Return Return = Unit {0}
  TermTo Unreachable Unreachable = Unit {0}
  TermTo (Drop p u1) (Drop q u2) = PlaceTo D ts1 ts2 P p q × (u1 ≡ u2)
  TermTo (Call p g os u1) (Call q h ps u2) = PlaceTo D ts1 ts2 P p q × (g ≡ h) × OperandsTo os ps × (u1 ≡ u2)
  TermTo (Assert o c words os u1) (Assert p c' words' ps u2) = OperandTo o p × (c ≡ c') × (words ≡ words') × OperandsTo os ps × (u1 ≡ u2)
  TermTo t u = ⊥

  -- a place has the type of what stands for it
  pub place_types : (p q : Place) → PlaceTo D ts1 ts2 P p q → place_ty D ts1 p ≡ place_ty D ts2 q
  unfolding place_ty
  place_types p q (inl (s, same)) = ap₂ (λ o ps. o >>= λ t. path_ty D t ps) (P.kept p.local q.local s) same
  place_types p q (inr h) =
      let left : place_ty D ts1 p ≡ path_ty D h.has.field q.proj = ap (λ ps. slice_get ts1 p.local >>= λ t. path_ty D t ps) h.proj ∙ some_bind _ h.has.is (some_bind _ (some_bind _ h.has.tuple h.has.at) refl) in
      left ∙ sym (some_bind _ (ap (slice_get ts2) h.local ∙ P.types p.local h.first h.field h.split h.has) refl)
