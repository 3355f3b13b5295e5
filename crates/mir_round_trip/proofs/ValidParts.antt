-- What the rules say of each function of a valid crate.
use Rattle.std.proofs.Common.{◌≡◌, ◌<◌, ℕ, zero, suc, Bool, false, List, [], ◌∷◌, length, refl, arith, Some, is_none, slice_get}
use Rattle.std.specs.List.{list_any}
use Rattle.mir_syntax.specs.declared.body.Place.{Place}
use Rattle.mir_syntax.specs.declared.body.Term.{Term}
use Rattle.mir_syntax.specs.Tree.{Tree}
use Rattle.mir_syntax.specs.Crate as C
use Rattle.mir_syntax.specs.Crate.{TypedStmt, TypedBlock, TypedBody, TypedFunction, Crate}
use Rattle.mir_syntax.specs.Shapes.{shapes_of, place_ty}
use Rattle.mir_text.specs.Grammar.{AllOf}
use Rattle.mir_syntax.specs.Parts.{rvalue_places, term_places}
use Rattle.mir_rules.specs.BodyRules.{breaks_v05, breaks_v06}
use Rattle.mir_rules.specs.Broken.{if_broken, statement_broken, terminator_broken}
use Rattle.mir_rules.specs.Valid.{Valid}
use Rattle.mir_rules.proofs.Lists.{append_empty-left, append_empty-right, if_broken_empty, or_false-left, or_false-right}
use Rattle.mir_rules.proofs.ValidCrates.{first_block, args_below, keeps, body_formed_at}
use Rattle.mir_round_trip.proofs.PlacesRead.{places_of_stmt, AllTyped}
use Rattle.mir_round_trip.proofs.FunctionsWritten.{BlockTyped, FnValid}

-- ---- lists

by-index : {A : Type 0} (P : A → Type 0) (xs : List A) → ((i : ℕ) (x : A) → slice_get xs i ≡ Some x → P x) → AllOf P xs
by-index P [] h = tt
by-index P (x ∷ xs) h = (h 0 x refl, by-index P xs (λ i y e. h (suc i) y e))

stands : {A : Type 0} (xs : List A) (n : ℕ) (x : A) → slice_get xs n ≡ Some x → n < length xs
stands [] n x h = absurd cc
stands (y ∷ xs) zero x h = omega arith
stands (y ∷ xs) (suc n) x h = let less = stands xs n x h in omega (arith, less)

none-any : {A : Type 0} (p : A → Bool) (xs : List A) → list_any p xs ≡ false → AllOf (λ x. p x ≡ false) xs
none-any p [] h = tt
none-any p (x ∷ xs) h = (or_false-left (p x) (list_any p xs) h, none-any p xs (or_false-right (p x) (list_any p xs) h))

-- ---- places

places-typed : (c : Crate) (locals : List Tree) (qs : List Place) → if_broken (breaks_v06 (shapes_of c) locals qs) 6 ≡ [] → AllTyped c locals qs
places-typed c locals qs h = none-any (λ q. is_none (place_ty (shapes_of c) locals q)) qs (if_broken_empty (breaks_v06 (shapes_of c) locals qs) 6 h)

stmt-typed : (c : Crate) (args : ℕ) (locals : List Tree) (x : TypedStmt) → statement_broken (shapes_of c) args locals x ≡ [] → AllTyped c locals (places_of_stmt x)
unfolding statement_broken
stmt-typed c args locals (C.assign q x) h = places-typed c locals (q ∷ rvalue_places x) (append_empty-left (if_broken (breaks_v06 (shapes_of c) locals (q ∷ rvalue_places x)) 6) _ h)
stmt-typed c args locals (C.storage_live x) h = tt
stmt-typed c args locals (C.storage_dead x) h = tt
stmt-typed c args locals (C.set_discriminant q k) h = places-typed c locals (q ∷ []) (append_empty-left (if_broken (breaks_v06 (shapes_of c) locals (q ∷ [])) 6) _ h)

term-typed : (c : Crate) (locals : List Tree) (t : Term) → terminator_broken c (shapes_of c) locals t ≡ [] → AllTyped c locals (term_places t)
unfolding terminator_broken
term-typed c locals t h =
    places-typed c locals (term_places t) (append_empty-left (if_broken (breaks_v06 (shapes_of c) locals (term_places t)) 6) _ (append_empty-right (if_broken (breaks_v05 t) 5) _ h))

-- ---- functions

function-valid : (c : Crate) → Valid c → (f : ℕ) (g : TypedFunction) → slice_get c.functions f ≡ Some g → FnValid c g
function-valid c valid f g e =
    let formed = body_formed_at c valid f g e in
    let first = first_block c g.body formed in
    let kept = (keeps c valid).bodies f g e in
    record {
      args = args_below c g.body formed;
      some = stands g.body.blocks 0 first.0 first.1;
      typed = by-index (BlockTyped c g.body.locals) g.body.blocks (λ j k at. record {
        stmts = by-index (λ s. AllTyped c g.body.locals (places_of_stmt s)) k.stmts (λ i s here. stmt-typed c g.body.args g.body.locals s (kept.stmts j i k s at here));
        term = term-typed c g.body.locals k.term (kept.terms j k at);
      });
    }

pub functions_valid : (c : Crate) → Valid c → AllOf (FnValid c) c.functions
functions_valid c valid = by-index (FnValid c) c.functions (function-valid c valid)
