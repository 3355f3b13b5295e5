-- Values under a larger renaming; values that hold no reference, which every renaming leaves as they are.
use Rattle.std.proofs.Common.{◌≡◌, refl, ap, ap₂, Bool, true, false, ◌&&◌, List, [], ◌∷◌, arith}
use Rattle.mir_semantics.specs.Values.{Value, number, nil, cons, variant, pointer, hole}
use Rattle.mir_semantics.specs.Step.{returned, Next, stop}
use Rattle.mir_renaming.specs.Renaming.{Renaming, ValueRel, Sub}
use Rattle.std.proofs.lemmas.Bool.{and_parts}
use Rattle.mir_renaming.proofs.Memory.{sub_addr}
use Rattle.mir_renaming.proofs.Statements.{ValuesRel}

-- under a larger renaming
pub value_mono : (j k : Renaming) → Sub j k → (v w : Value) → ValueRel j v w → ValueRel k v w
value_mono j k s hole w r = tt
value_mono j k s (number n) (number i) r = r
value_mono j k s nil nil r = tt
value_mono j k s (cons v vs) (cons w ws) r = (value_mono j k s v w r.0, value_mono j k s vs ws r.1)
value_mono j k s (variant n v) (variant i w) r = (r.0, value_mono j k s v w r.1)
value_mono j k s (pointer a) (pointer b) r = sub_addr j k s a b r
value_mono j k s v w r = absurd r

-- a value with neither a hole nor a reference
abbrev pub is_plain : Value → Bool
is_plain (number n) = true
is_plain nil = true
is_plain (cons v vs) = is_plain v && is_plain vs
is_plain (variant k v) = is_plain v
is_plain (pointer a) = false
is_plain hole = false

pub plain_same : (j : Renaming) (v w : Value) → is_plain v ≡ true → ValueRel j v w → v ≡ w
plain_same j (number n) (number m) e r = ap number r
plain_same j nil nil e r = refl
plain_same j (cons v vs) (cons w ws) e r = let (a, b) = and_parts (is_plain v) (is_plain vs) e in ap₂ cons (plain_same j v w a r.0) (plain_same j vs ws b r.1)
plain_same j (variant k v) (variant i w) e r = ap₂ variant r.0 (plain_same j v w e r.1)
plain_same j v w e r = absurd (grind arith)

abbrev pub AllPlain : List Value → Type 0
AllPlain [] = Unit {0}
AllPlain (v ∷ vs) = (is_plain v ≡ true) × AllPlain vs

plain_self : (j : Renaming) (v : Value) → is_plain v ≡ true → ValueRel j v v
plain_self j (number n) e = refl
plain_self j nil e = tt
plain_self j (cons v vs) e = let (a, b) = and_parts (is_plain v) (is_plain vs) e in (plain_self j v a, plain_self j vs b)
plain_self j (variant k v) e = (refl, plain_self j v e)
plain_self j (pointer a) e = absurd (grind arith)
plain_self j hole e = tt

pub plains_self : (j : Renaming) (vs : List Value) → AllPlain vs → ValuesRel j vs vs
plains_self j [] h = tt
plains_self j (v ∷ vs) h = (plain_self j v h.0, plains_self j vs h.1)

-- a value that ends a run holds no reference
abbrev pub Flat : Next → Type 0
Flat (stop (returned v)) = is_plain v ≡ true
Flat _ = Unit {0}
