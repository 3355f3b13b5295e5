-- Parts that are read one after another.
use Rattle.std.proofs.Common.{◌≡◌, ℕ, ◌<◌, ◌≤◌, Bool, true, false, ◌||◌, List, [], ◌∷◌, ◌++◌, map, length, get_or, refl, sym, ap, ap₂, ◌∙◌, append_assoc, arith}
use Rattle.mir_text.specs.GrammarPlaces.{PlaceRule}
use Rattle.mir_text.specs.Names.{Names}
use Rattle.mir_text.specs.NamedBodies.{Declared}
use Rattle.mir_text.specs.NameFaults.{on_line, concat, each, each_item}
use Rattle.mir_tree.specs.Lists.{listed}
use Rattle.mir_resolve.proofs.Listed.{items_listed}
use Rattle.mir_text.specs.ReadLines.{is_wrong, any_wrong}
use Rattle.mir_resolve.specs.declared.draft.Draft.{Draft}
use Rattle.mir_resolve.specs.Faults.{noted}
use Rattle.mir_resolve.specs.Definitions.{Went}
use Rattle.mir_resolve.proofs.Growing.{grown_then}
use Rattle.mir_resolve.proofs.Noting.{noted_on}

-- the codes of one part after those of another
pub went_then : {line : ℕ} {a b c : Draft} {xs ys : List ℕ} → Went a b line xs → Went b c line ys → Went a c line (xs ++ ys)
went_then {line = line} {a = a} {b = b} {c = c} {xs = xs} {ys = ys} x y = record {
  grown = grown_then x.grown y.grown;
  notes = y.notes ∙ ap (λ k. noted k (on_line line ys)) x.notes ∙ sym (noted_on a.notes line xs ys);
}

or-assoc : (a b c : Bool) → a || (b || c) ≡ (a || b) || c
or-assoc true b c = refl
or-assoc false b c = refl

or-false : (a : Bool) → a || false ≡ a
or-false true = refl
or-false false = refl

pub wrong-append : (names : Names) (locals : Declared) (xs ys : List PlaceRule) → any_wrong names locals (xs ++ ys) ≡ any_wrong names locals xs || any_wrong names locals ys
wrong-append names locals [] ys = refl
wrong-append names locals (x ∷ xs) ys =
    ap (λ b. is_wrong names locals x || b) (wrong-append names locals xs ys) ∙ or-assoc (is_wrong names locals x) (any_wrong names locals xs) (any_wrong names locals ys)

-- one place
pub wrong_one : (names : Names) (locals : Declared) (q : PlaceRule) (b : Bool) → b ≡ is_wrong names locals q → b ≡ any_wrong names locals (q ∷ [])
wrong_one names locals q b h = h ∙ sym (or-false (is_wrong names locals q))

-- the places of two parts
pub wrong_two : (names : Names) (locals : Declared) (a b c : Bool) (xs ys : List PlaceRule) → c ≡ a || b → a ≡ any_wrong names locals xs → b ≡ any_wrong names locals ys
    → c ≡ any_wrong names locals (xs ++ ys)
wrong_two names locals a b c xs ys is ha hb = is ∙ ap₂ (λ x y. x || y) ha hb ∙ sym (wrong-append names locals xs ys)

-- a place and those of another part
pub wrong_after : (names : Names) (locals : Declared) (a b c : Bool) (q : PlaceRule) (ys : List PlaceRule) → c ≡ a || b → a ≡ is_wrong names locals q → b ≡ any_wrong names locals ys
    → c ≡ any_wrong names locals (q ∷ ys)
wrong_after names locals a b c q ys is ha hb = is ∙ ap₂ (λ x y. x || y) ha hb

-- ---- lists

pub parts_step : {X Y : Type 0} (f : X → Y) (made : List Y) (x : X) (y : Y) (rest : List X) (whole : List Y) → made ++ map f (x ∷ rest) ≡ whole → y ≡ f x
    → (made ++ y ∷ []) ++ map f rest ≡ whole
parts_step f made x y rest whole h is = append_assoc made (y ∷ []) (map f rest) ∙ ap (λ z. made ++ z ∷ map f rest) is ∙ h

pub wrong_step : {X : Type 0} (names : Names) (locals : Declared) (places : X → List PlaceRule) (w b w' : Bool) (x : X) (rest : List X) (whole : Bool)
    → w || any_wrong names locals (each places (x ∷ rest)) ≡ whole → b ≡ any_wrong names locals (places x) → w' ≡ w || b
    → w' || any_wrong names locals (each places rest) ≡ whole
wrong_step names locals places w b w' x rest whole h is or =
    ap (λ v. v || any_wrong names locals (each places rest)) (or ∙ ap (λ v. w || v) is)
    ∙ sym (or-assoc w (any_wrong names locals (places x)) (any_wrong names locals (each places rest)))
    ∙ ap (λ v. w || v) (sym (wrong-append names locals (places x) (each places rest))) ∙ h

pub wrong_ended : {X : Type 0} (names : Names) (locals : Declared) (places : X → List PlaceRule) (w : Bool) (left : List X) (whole : Bool) → length left < 1
    → w || any_wrong names locals (each places left) ≡ whole → w ≡ whole
wrong_ended names locals places w [] whole short h = sym (or-false w) ∙ h
wrong_ended names locals places w (x ∷ left) whole short h = absurd (omega arith)

pub mapped_short : {X Y : Type 0} (f : X → Y) (left : List X) → length left < 1 → length (map f left) < 1
mapped_short f [] short = short
mapped_short f (x ∷ left) short = absurd (omega arith)

-- ---- lists with commas

pub each_listed : {X R B : Type 0} (h : R → List B) (of : X → R) (xs : List X) (b : Bool) → each_item h (listed of xs b) ≡ each (λ x. h (of x)) xs
each_listed h of xs b = ap concat (items_listed h of xs b)

pub went_as : {line : ℕ} {a b : Draft} {xs ys : List ℕ} → Went a b line xs → xs ≡ ys → Went a b line ys
went_as {line = line} {a = a} {b = b} {xs = xs} {ys = ys} w e = record { grown = w.grown; notes = w.notes ∙ ap (λ l. noted a.notes (on_line line l)) e }

-- codes that are noted before a part is read
pub coded_then : (line : ℕ) (a b c : Draft) (xs ys : List ℕ) → b.program ≡ a.program → b.notes ≡ noted a.notes (on_line line xs) → Went b c line ys → Went a c line (xs ++ ys)
coded_then line a b c xs ys same coded w = record {
  grown = rw same at w.grown;
  notes = w.notes ∙ ap (λ k. noted k (on_line line ys)) coded ∙ sym (noted_on a.notes line xs ys);
}

-- where there is a first one, it doesn't matter what stands in for it
pub first_any : {X : Type 0} (left : List X) (d e : X) → 1 ≤ length left → get_or left 0 d ≡ get_or left 0 e
first_any [] d e h = absurd (omega arith)
first_any (x ∷ left) d e h = refl
