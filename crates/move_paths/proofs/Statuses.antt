-- What a block does to a unit's status: it keeps it, or makes it one.
use Rattle.std.proofs.Common.{◌≡◌, ◌⊎◌, inl, inr, refl, sym, ap, ap₂, ◌∙◌, Bool, true, false, not, ◌&&◌, ◌||◌, List, [], ◌∷◌, Option, Some, None, IsTrue, ◌↔◌, arith}
use Rattle.mir_syntax.specs.declared.body.Place.{Place}
use Rattle.mir_syntax.specs.Crate.{TypedStmt, TypedBlock}
use Rattle.move_paths.specs.Effects.{effect, term_effect}
use Rattle.move_paths.specs.Inits.{after_effect, after_stmts, after_block}
use Rattle.move_paths.specs.Rows.{has, passed, passed_stmts, passed_block}

-- what is made of the bit of a status, and of that of the other one
abbrev pub Kind : Bool → (Bool → Bool) → (Bool → Bool) → Type 0
Kind s f g = (((x : Bool) → f x ≡ x) × ((x : Bool) → g x ≡ x)) ⊎ ((now : Bool) × ((x : Bool) → f x ≡ has s now) × ((x : Bool) → g x ≡ has (not s) now))

kind_then : (s : Bool) (f g f2 g2 : Bool → Bool) → Kind s f g → Kind s f2 g2 → Kind s (λ x. f2 (f x)) (λ x. g2 (g x))
kind_then s f g f2 g2 a (inr (now, h, k)) = inr (now, (λ x. h (f x)), (λ x. k (g x)))
kind_then s f g f2 g2 (inl (h, k)) (inl (h2, k2)) = inl ((λ x. h2 (f x) ∙ h x), (λ x. k2 (g x) ∙ k x))
kind_then s f g f2 g2 (inr (now, h, k)) (inl (h2, k2)) = inr (now, (λ x. h2 (f x) ∙ h x), (λ x. k2 (g x) ∙ k x))

kind_effect : (s : Bool) (o : Option Bool) → Kind s (passed s o) (passed (not s) o)
kind_effect s None = inl ((λ x. refl), (λ x. refl))
kind_effect s (Some now) = inr (now, (λ x. refl), (λ x. refl))

kind_stmts : (s : Bool) (u : Place) (ss : List TypedStmt) → Kind s (passed_stmts s ss u) (passed_stmts (not s) ss u)
kind_stmts s u [] = inl ((λ x. refl), (λ x. refl))
kind_stmts s u (t ∷ ss) = kind_then s (passed s (effect u t)) (passed (not s) (effect u t)) (passed_stmts s ss u) (passed_stmts (not s) ss u) (kind_effect s (effect u t)) (kind_stmts s u ss)

pub kind_block : (s : Bool) (u : Place) (k : TypedBlock) → Kind s (passed_block s k u) (passed_block (not s) k u)
kind_block s u k = kind_then s (passed_stmts s k.stmts u) (passed_stmts (not s) k.stmts u) (passed s (term_effect u k.term)) (passed (not s) (term_effect u k.term)) (kind_stmts s u k.stmts) (kind_effect s (term_effect u k.term))

-- what is made of a bit: it goes where the other status is made, and comes where this one is
pub kind_split : (s : Bool) (f g : Bool → Bool) → Kind s f g → (x : Bool) → ((x && not (g false)) || f false) ≡ f x
kind_split s f g (inl (h, k)) x = ap₂ (λ a b. (x && not a) || b) (k false) (h false) ∙ keeps x ∙ sym (h x)
  where
    keeps : (x : Bool) → ((x && not false) || false) ≡ x
    keeps true = refl
    keeps false = refl
kind_split s f g (inr (now, h, k)) x = ap₂ (λ a b. (x && not a) || b) (k false) (h false) ∙ makes s now x ∙ sym (h x)
  where
    makes : (s now x : Bool) → ((x && not (has (not s) now)) || has s now) ≡ has s now
    makes true true true = refl
    makes true true false = refl
    makes true false true = refl
    makes true false false = refl
    makes false true true = refl
    makes false true false = refl
    makes false false true = refl
    makes false false false = refl

pub kind_rises : (s : Bool) (f g : Bool → Bool) → Kind s f g → (x y : Bool) → (x ≡ true → y ≡ true) → f x ≡ true → f y ≡ true
kind_rises s f g (inl (h, k)) x y up e = h y ∙ up (sym (h x) ∙ e)
kind_rises s f g (inr (now, h, k)) x y up e = h y ∙ sym (h x) ∙ e

-- ---- bits and statuses

pub has_is : (s now : Bool) → has s now ≡ true → s ≡ now
has_is true now e = sym e
has_is false true e = absurd (grind arith)
has_is false false e = refl

pub has_self : (s : Bool) → has s s ≡ true
has_self true = refl
has_self false = refl

has_effect : (s : Bool) (o : Option Bool) (was : Bool) → has s (after_effect o was) ≡ passed s o (has s was)
has_effect s None was = refl
has_effect s (Some now) was = refl

has_stmts : (s : Bool) (u : Place) (ss : List TypedStmt) (was : Bool) → has s (after_stmts u ss was) ≡ passed_stmts s ss u (has s was)
has_stmts s u [] was = refl
has_stmts s u (t ∷ ss) was = has_stmts s u ss (after_effect (effect u t) was) ∙ ap (passed_stmts s ss u) (has_effect s (effect u t) was)

pub has_block : (s : Bool) (u : Place) (k : TypedBlock) (was : Bool) → has s (after_block u k was) ≡ passed_block s k u (has s was)
has_block s u k was = has_effect s (term_effect u k.term) (after_stmts u k.stmts was) ∙ ap (passed s (term_effect u k.term)) (has_stmts s u k.stmts was)

-- a bit that is the other of one that says something
pub other_bit : (a b : Bool) (C : Type 0) → a ≡ not b → (IsTrue b ↔ C) → IsTrue a ↔ (C → ⊥)
other_bit a true C e (h, k) = ((λ t q. absurd (let z : true ≡ false = sym t ∙ e in grind arith)), (λ n. absurd (n (h refl))))
other_bit a false C e (h, k) = ((λ t q. absurd (let z : false ≡ true = k q in grind arith)), (λ n. e))
