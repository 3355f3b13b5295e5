-- Tables that grow, and the types that stand in them.
use Rattle.std.proofs.Common.{◌≡◌, ℕ, ◌+◌, ◌<◌, ◌≤◌, List, [], ◌∷◌, ◌++◌, length, refl, sym, ap, ◌∙◌, arith}
use Rattle.std.proofs.lemmas.List.{append_assoc}
use borrow.Author.Count.{below_more}
use Rattle.mir_syntax.specs.declared.types.Ty.{Ty}
use Rattle.mir_syntax.specs.declared.program.Program.{Program}
use Rattle.mir_syntax.specs.Tree.{Extends}
use Rattle.mir_syntax.specs.Ids.{IdsInTable}
use Rattle.mir_syntax.specs.Crate.{crate_of}
use Rattle.mir_syntax.proofs.Trees.{slice_get-front}
use Rattle.mir_syntax.proofs.Growth.{Extends-same, crate_of-extends, IdsInTable-extends}
use Rattle.mir_validate.specs.Complete.{Grown, Has, mutable}

pub has_on : (old new : List Ty) (t : Ty) → Extends old new → Has old t → Has new t
has_on old new t (more, is) (k, at) = (k, rw is (slice_get-front old more k t at))

pub grown_same : (p : Program) → Grown p p
grown_same p = record { defs = refl; outsides = refl; functions = refl; types = Extends-same p.types }

pub grown_on : (a b d : Program) → Grown a b → Grown b d → Grown a d
grown_on a b d g h = record {
  defs = h.defs ∙ g.defs;
  outsides = h.outsides ∙ g.outsides;
  functions = h.functions ∙ g.functions;
  types = (g.types.0 ++ h.types.0, h.types.1 ∙ (ap (λ l. l ++ h.types.0) g.types.1 ∙ append_assoc a.types g.types.0 h.types.0));
}

abbrev pub Referred : Program → Program → ℕ → Type 0
Referred first now at = Grown first now × (length now.types ≤ length first.types + at) × ((k : ℕ) → k < at → Has now.types (mutable k))

-- one more reference
pub one_more_reference : (first now new : Program) (at : ℕ) → Referred first now at → Grown now new → length new.types ≤ length now.types + 1 → Has new.types (mutable at) → Referred first new (at + 1)
one_more_reference first now new at (grown, few, has) more one here =
    (grown_on first now new grown more, omega (arith, few, one), below_more (λ k. Has new.types (mutable k)) at (λ k h. has_on now.types new.types (mutable k) more.types (has k h)) here)

-- ---- the crate stays

pub same_crate : (old new : Program) → Grown old new → IdsInTable old → crate_of new ≡ crate_of old
same_crate old new grown ids = crate_of-extends old new grown.types grown.defs grown.outsides grown.functions ids

pub ids_stay : (old new : Program) → Grown old new → IdsInTable old → IdsInTable new
ids_stay old new grown ids = IdsInTable-extends old new grown.types grown.defs grown.outsides grown.functions ids

pub kept_drops : (now new : Program) → new.defs ≡ now.defs → new.outsides ≡ now.outsides → new.functions ≡ now.functions → new.types ≡ now.types → Grown now new
kept_drops now new defs outsides functions types = record { defs = defs; outsides = outsides; functions = functions; types = ([], types ∙ sym (append_none now.types)) }
  where
    append_none : (xs : List Ty) → xs ++ [] ≡ xs
    append_none [] = refl
    append_none (x ∷ xs) = ap (λ l. x ∷ l) (append_none xs)
