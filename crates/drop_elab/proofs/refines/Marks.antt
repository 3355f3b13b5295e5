-- The flag and the status of a unit, looked up by its place: units are different places.
use Rattle.std.proofs.Common.{◌≡◌, refl, sym, ap, ◌∙◌, subst, ℕ, zero, suc, Bool, true, false, ◌&&◌, if◌then◌else◌, List, [], ◌∷◌, Option, Some, None, slice_get, arith}
use Rattle.mir_syntax.specs.declared.body.Proj.{Proj}
use Rattle.mir_syntax.specs.declared.body.Proj.TheVariants.{Field, Downcast, Deref}
use Rattle.mir_syntax.specs.declared.body.Place.{Place}
use Rattle.mir_renaming.proofs.Frames.{equal}
use Rattle.move_paths.specs.Effects.{goes_on, is_under}
use Rattle.drop_elab.specs.Elab.{Status, dead, Flagged}
use Rattle.drop_elab.proofs.refines.Outer.{Marks}
use Rattle.drop_elab.proofs.refines.Begins.{Marked}
use Rattle.drop_elab.proofs.refines.Puts.{Fields}

abbrev pub same_unit : Place → Place → Bool
same_unit u v = is_under u v && is_under v u

abbrev pub flag_in : Place → List Flagged → Option ℕ
flag_in q [] = None
flag_in q (f ∷ fs) = if same_unit q f.unit then f.flag else flag_in q fs

abbrev pub status_in : Place → List Flagged → List Status → Status
status_in q (f ∷ fs) (s ∷ ss) = if same_unit q f.unit then s else status_in q fs ss
status_in q _ _ = dead

abbrev pub marks_of : List Flagged → List Status → Marks
marks_of fs ss = record { flag = λ q. flag_in q fs; status = λ q. status_in q fs ss }

path_self : (ps : List Proj) → Fields ps → goes_on ps ps ≡ true
path_self [] h = refl
path_self (Field i ∷ ps) h = rw (equal i i refl) (path_self ps h)
path_self (Downcast k ∷ ps) h = absurd h
path_self (Deref ∷ ps) h = absurd h

pub self_unit : (u : Place) → Fields u.proj → same_unit u u ≡ true
self_unit u h = rw (equal u.local u.local refl, path_self u.proj h) refl

-- no unit is the same as a later one
abbrev pub Apart : List Flagged → Type 0
Apart [] = Unit {0}
Apart (f ∷ fs) = ((k : ℕ) (g : Flagged) → slice_get fs k ≡ Some g → same_unit g.unit f.unit ≡ false) × Apart fs

pub marked_by : (fs : List Flagged) (ss : List Status) → Apart fs → ((k : ℕ) (f : Flagged) → slice_get fs k ≡ Some f → Fields f.unit.proj) → Marked (marks_of fs ss) fs ss
marked_by [] ss a h k f s e q = absurd (grind arith)
marked_by (g ∷ fs) [] a h k f s e q = absurd (grind arith)
marked_by (g ∷ fs) (r ∷ ss) a h zero f s e q =
    let fe : g ≡ f = grind arith in
    let se : r ≡ s = grind arith in
    let self : same_unit f.unit g.unit ≡ true = subst (λ g. same_unit f.unit g.unit ≡ true) (sym fe) (self_unit f.unit (h 0 f e)) in
    (ap (λ b. if b then g.flag else flag_in f.unit fs) self ∙ ap (λ (g : Flagged). g.flag) fe, ap (λ b. if b then r else status_in f.unit fs ss) self ∙ se)
marked_by (g ∷ fs) (r ∷ ss) a h (suc k) f s e q =
    let other = a.0 k f e in
    let (x, y) = marked_by fs ss a.1 (λ k f e. h (suc k) f e) k f s e q in
    (ap (λ b. if b then g.flag else flag_in f.unit fs) other ∙ x, ap (λ b. if b then r else status_in f.unit fs ss) other ∙ y)
