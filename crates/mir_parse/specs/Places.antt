-- Parsing places.
use Rattle.std.specs.Prelude.{ℕ, zero, suc, ◌≡◌, ◌-◌, ◌<◌, refl, List, [], ◌∷◌, ◌++◌, Ok, Err}
use Rattle.std.proofs.Common.{arith}
use Rattle.mir_text.specs.declared.symbol.Symbol.{Symbol}
use Rattle.mir_text.specs.declared.symbol.Symbol.TheVariants as s
use Rattle.mir_tree.specs.declared.ty.TypeText.{TypeText}
use Rattle.mir_tree.specs.declared.operand.PlaceText.{PlaceText}
use Rattle.mir_tree.specs.declared.operand.ProjText.{ProjText}
use Rattle.mir_tree.specs.declared.operand.ProjText.TheVariants as p
use Rattle.mir_parse.specs.declared.place.BaseText.{BaseText}
use Rattle.mir_parse.specs.declared.place.BaseText.TheVariants as b
use Rattle.mir_parse.specs.declared.fault.SyntaxFault.{SyntaxFault}
use Rattle.mir_parse.specs.Faults.{no_reading, fault_at}
use Rattle.mir_parse.specs.Parser.{Parse, and_then}
use Rattle.mir_parse.specs.Signs.{close, dot, colon, name, small_number}
use Rattle.mir_parse.specs.Types.{type_text_at}

-- no place may be opened: one that begins is too deep
unfoldable pub no_place : List Symbol → SyntaxFault
no_place (s.Local n ∷ ts) = fault_at 6 (s.Local n ∷ ts)
no_place (s.LargeLocal ∷ ts) = fault_at 6 (s.LargeLocal ∷ ts)
no_place (s.Open ∷ ts) = fault_at 6 (s.Open ∷ ts)
no_place ts = no_reading ts

-- a place with one more projection
abbrev pub with_proj : PlaceText → ProjText → PlaceText
with_proj q x = record { local = q.local; projs = q.projs ++ x ∷ [] }

abbrev pub local_place : ℕ → PlaceText
local_place n = record { local = n; projs = [] }

-- . number : type )
unfoldable pub field_end : Parse TypeText → Parse (ℕ × TypeText)
field_end type ts =
    and_then (dot ts) (λ _ ts. and_then (small_number ts) (λ n ts. and_then (colon ts) (λ _ ts. and_then (type ts) (λ u ts.
    and_then (close ts) (λ _ ts. Ok ((n, u), ts))))))

unfoldable pub field_of : BaseText → ℕ → TypeText → PlaceText
field_of (b.Place q) n u = with_proj q (p.Field n u)
field_of (b.Variant q v) n u = with_proj q (p.VariantField v n u)

unfoldable pub field_after : Parse TypeText → BaseText → Parse PlaceText
field_after type base ts = and_then (field_end type ts) (λ f ts. Ok (field_of base f.0 f.1, ts))

-- name )
unfoldable pub variant_end : Parse ℕ
variant_end ts = and_then (name ts) (λ n ts. and_then (close ts) (λ _ ts. Ok (n, ts)))

-- behind a base in two parentheses: `as name )` where it is a place, or a field
unfoldable pub after_base : Parse TypeText → BaseText → Parse BaseText
after_base type (b.Place q) (s.As ∷ ts) = and_then (variant_end ts) (λ n ts. Ok (b.Variant q n, ts))
after_base type (b.Variant q v) (s.As ∷ ts) = Err (no_reading (s.As ∷ ts))
after_base type base ts = and_then (field_after type base ts) (λ q ts. Ok (b.Place q, ts))

unfoldable pub inside_with : Parse BaseText → Parse PlaceText → Parse TypeText → Parse PlaceText
inside_with base place type (s.Star ∷ ts) = and_then (place ts) (λ q ts. and_then (close ts) (λ _ ts. Ok (with_proj q p.Deref, ts)))
inside_with base place type ts = and_then (base ts) (λ x ts. and_then (field_after type x ts) (λ q ts. Ok (q, ts)))

unfoldable pub place_with : Parse BaseText → Parse PlaceText → Parse TypeText → Parse PlaceText
place_with base place type (s.Local n ∷ ts) = Ok (local_place n, ts)
place_with base place type (s.Open ∷ ts) = and_then (inside_with base place type ts) (λ q ts. Ok (q, ts))
place_with base place type (s.LargeLocal ∷ ts) = Err (fault_at 9 (s.LargeLocal ∷ ts))
place_with base place type ts = Err (no_reading ts)

unfoldable pub base_inside : Parse BaseText → Parse PlaceText → Parse TypeText → Parse BaseText
base_inside base place type (s.Star ∷ ts) = and_then (place ts) (λ q ts. and_then (close ts) (λ _ ts. Ok (b.Place (with_proj q p.Deref), ts)))
base_inside base place type ts = and_then (base ts) (λ x ts. and_then (after_base type x ts) (λ y ts. Ok (y, ts)))

unfoldable pub base_with : Parse BaseText → Parse PlaceText → Parse TypeText → Parse BaseText
base_with base place type (s.Local n ∷ ts) = Ok (b.Place (local_place n), ts)
base_with base place type (s.Open ∷ ts) = and_then (base_inside base place type ts) (λ x ts. Ok (x, ts))
base_with base place type (s.LargeLocal ∷ ts) = Err (fault_at 9 (s.LargeLocal ∷ ts))
base_with base place type ts = Err (no_reading ts)

-- a place, or a place or a variant of one, that nests no deeper than the number
unfoldable mutual
  pub place_at : ℕ → Parse PlaceText
  place_at zero ts = Err (no_place ts)
  place_at (suc d) ts = place_with (base_at d) (place_at d) (type_text_at d) ts

  pub base_at : ℕ → Parse BaseText
  base_at zero ts = Err (no_place ts)
  base_at (suc d) ts = base_with (base_at d) (place_at d) (type_text_at d) ts

pub place_at-outer : (d : ℕ) (ts : List Symbol) → 0 < d → place_at d ts ≡ place_with (base_at (d - 1)) (place_at (d - 1)) (type_text_at (d - 1)) ts
unfolding place_at
place_at-outer zero ts h = absurd (omega arith)
place_at-outer (suc d) ts h = let same : suc d - 1 ≡ d = omega arith in rw same refl

pub base_at-outer : (d : ℕ) (ts : List Symbol) → 0 < d → base_at d ts ≡ base_with (base_at (d - 1)) (place_at (d - 1)) (type_text_at (d - 1)) ts
unfolding base_at
base_at-outer zero ts h = absurd (omega arith)
base_at-outer (suc d) ts h = let same : suc d - 1 ≡ d = omega arith in rw same refl
