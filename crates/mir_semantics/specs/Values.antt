-- Values, the blank of a type, and the parts of a value. This project's own, in the manner of the Rust Reference's destructors.
use Rattle.std.specs.Prelude.{ℕ, zero, suc, Bool, true, false, not, ◌&&◌, ◌||◌, nat_eq, if◌then◌else◌, List, [], ◌∷◌, length, Option, Some, None, is_some, slice_get}
use Rattle.mir_syntax.specs.declared.body.Proj.{Proj}
use Rattle.mir_syntax.specs.declared.body.Proj.TheVariants.{Field, Downcast, Deref}
use Rattle.mir_syntax.specs.Tree.{Tree, scalar, empty, more, ref, ref_mut, named}
use Rattle.mir_syntax.specs.Shapes.{Shape, ◌>>=◌, struct_fields, needs_drop}

-- what a reference refers to: a frame's number, a local, and a path of fields and variants
pub record Addr : Type 0 where
  pub frame : ℕ
  pub local : ℕ
  pub path : List Proj

-- a list of values, of a tuple or a struct, is `nil`, or its first value with `cons`, the list of the others; a variant has the list of its
-- fields; a number is the bit pattern of a scalar
pub data Value : Type 0 where
  number : ℕ → Value
  nil : Value
  cons : Value → Value → Value
  variant : ℕ → Value → Value
  pointer : Addr → Value
  hole : Value

abbrev pub listed : List Value → Value
listed [] = nil
listed (v ∷ vs) = cons v (listed vs)

abbrev pub is_hole : Value → Bool
is_hole hole = true
is_hole _ = false

-- there is no hole anywhere in it
abbrev pub whole : Value → Bool
whole (number n) = true
whole nil = true
whole (cons v vs) = whole v && whole vs
whole (variant k v) = whole v
whole (pointer a) = true
whole hole = false

-- ---- parts

abbrev pub part : ℕ → Value → Option Value
part zero (cons v vs) = Some v
part (suc i) (cons v vs) = part i vs
part _ _ = None

-- the fields of a variant, where it is that one
abbrev pub payload : ℕ → Value → Option Value
payload k (variant j v) = if nat_eq j k then Some v else None
payload _ _ = None

abbrev pub inner : Proj → Value → Option Value
inner (Field i) v = part i v
inner (Downcast k) v = payload k v
inner Deref v = None

-- what stands at a path in a value
abbrev pub at_path : List Proj → Value → Option Value
at_path [] v = Some v
at_path (p ∷ ps) v = inner p v >>= at_path ps

abbrev pub change_part : ℕ → (Value → Value) → Value → Value
change_part zero f (cons v vs) = cons (f v) vs
change_part (suc i) f (cons v vs) = cons v (change_part i f vs)
change_part _ f v = v

abbrev pub change_payload : ℕ → (Value → Value) → Value → Value
change_payload k f (variant j v) = variant j (if nat_eq j k then f v else v)
change_payload k f v = v

abbrev pub change_inner : Proj → (Value → Value) → Value → Value
change_inner (Field i) f v = change_part i f v
change_inner (Downcast k) f v = change_payload k f v
change_inner Deref f v = v

-- a value with another at a path; where nothing stands there it stays as it is
abbrev pub put : List Proj → Value → Value → Value
put [] w v = w
put (p ∷ ps) w v = change_inner p (put ps w) v

-- ---- blanks: what a local holds before it is assigned, and what a move leaves

abbrev pub blank_by : (ℕ → Value) → Tree → Value
blank_by of_def (scalar s) = hole
blank_by of_def empty = nil
blank_by of_def (more t ts) = cons (blank_by of_def t) (blank_by of_def ts)
blank_by of_def (ref t) = hole
blank_by of_def (ref_mut t) = hole
blank_by of_def (named d) = of_def d

-- an enum, and a struct with a destructor of its own, is moved and dropped as one
abbrev pub is_unit : Shape → Bool
is_unit s = s.is_enum || is_some s.destructor

abbrev pub blank_of : (ℕ → Value) → Option Shape → Value
blank_of of_def None = hole
blank_of of_def (Some s) = if is_unit s then hole else blank_by of_def (struct_fields s)

-- to a depth of definitions inside one another; their number is depth enough
abbrev pub blank_def : List Shape → ℕ → ℕ → Value
blank_def D zero d = hole
blank_def D (suc n) d = blank_of (blank_def D n) (slice_get D d)

-- a hole for a scalar, a reference, an enum and a struct with a destructor of its own, else the list of the fields' blanks
unfoldable pub blank : List Shape → Tree → Value
blank D t = blank_by (blank_def D (length D)) t

-- ---- units of drop: the parts of a value that are dropped as one

abbrev pub full_by : (ℕ → Value → Bool) → Tree → Value → Bool
full_by of_def (more t ts) (cons v vs) = full_by of_def t v && full_by of_def ts vs
full_by of_def (more t ts) _ = false
full_by of_def (named d) v = of_def d v
full_by of_def _ _ = true

abbrev pub full_of : (ℕ → Value → Bool) → Bool → Option Shape → Value → Bool
full_of of_def true (Some s) v = if is_unit s then not (is_hole v) else full_by of_def (struct_fields s) v
full_of of_def _ _ v = true

abbrev pub full_def : List Shape → ℕ → ℕ → Value → Bool
full_def D zero d v = true
full_def D (suc n) d v = full_of (full_def D n) (needs_drop D (named d)) (slice_get D d) v

-- no unit of drop of the value, of this type, is a hole
unfoldable pub full : List Shape → Tree → Value → Bool
full D t v = full_by (full_def D (length D)) t v
