-- Places: the rule that writes one, its text, and back.
use Rattle.mir_round_trip.specs.Bodies.{field_type, IsVariant, Path, IsPlace}
use Rattle.std.proofs.Common.{◌≡◌, ◌≤◌, ℕ, List, [], ◌∷◌, ◌++◌, codes, refl, sym, ap, subst, arith, append_assoc, decimal}
use Rattle.std.proofs.lemmas.List.{append-nil}
use Rattle.mir_syntax.specs.declared.body.Proj.{Proj}
use Rattle.mir_syntax.specs.declared.body.Proj.TheVariants.{Field, Downcast, Deref}
use Rattle.mir_syntax.specs.declared.body.Place.{Place}
use Rattle.mir_syntax.specs.Tree.{Tree}
use Rattle.mir_syntax.specs.Crate.{Crate}
use Rattle.mir_text.specs.declared.symbol.Symbol.TheVariants as s
use Rattle.mir_text.specs.Symbols.{number_in}
use Rattle.mir_text.specs.GrammarPlaces as p
use Rattle.mir_text.specs.GrammarPlaces.{PlaceRule, place_put}
use Rattle.mir_text.specs.Names.{Strings}
use Rattle.mir_text.specs.TypeText.{piece, type_text}
use Rattle.mir_text.specs.PlaceText.{local_text, local_ty, type_after, variant_at, variant_name, opening, openings, closing, closings, place_text}
use Rattle.mir_round_trip.proofs.Spelling.{Spelt, after, and_then, alone, bare}
use Rattle.mir_round_trip.proofs.Atoms.{name_spelt, number_spelt, local_spelt}
use Rattle.mir_round_trip.proofs.Literals.{open_sign, close_sign, open_star, as_word, dot_sign, colon_space}
use Rattle.mir_round_trip.proofs.Types.{type_rule, type_spelt}

-- ---- the rule

abbrev pub walk : Crate → Strings → PlaceRule → Tree → List Proj → PlaceRule
walk c strings q t [] = q
walk c strings q t (Deref ∷ ps) = walk c strings (p.deref q) (type_after c t Deref) ps
walk c strings q t (Field n ∷ ps) = walk c strings (p.field q n (type_rule c strings (type_after c t (Field n)))) (type_after c t (Field n)) ps
walk c strings q t (Downcast k ∷ Field n ∷ ps) =
    walk c strings (p.variant_field q (number_in strings (variant_name c t k)) n (type_rule c strings (field_type c t k n))) (field_type c t k n) ps
walk c strings q t ps = q

unfoldable pub place_rule : Crate → Strings → List Tree → Place → PlaceRule
place_rule c strings locals q = walk c strings (p.local q.local) (local_ty locals q.local) q.proj

-- ---- places that a text writes

-- ---- its text

-- a number of a field is small
field-number : (n : ℕ) → n ≤ 4294967295 → Spelt (decimal n) (λ strings rest. s.Number n ∷ rest) []
field-number n h = number_spelt n (omega arith)

pub variant-text : (c : Crate) (t : Tree) (k : ℕ) (h : IsVariant c t k) → variant_name c t k ≡ (variant_at c h.def k).name
unfolding variant_name
variant-text c t k h = ap (λ u. variant_name c u k) h.is

variant-spelt : (c : Crate) (t : Tree) (k : ℕ) → IsVariant c t k → Spelt (variant_name c t k) (λ strings rest. s.Name (number_in strings (variant_name c t k)) ∷ rest) []
variant-spelt c t k h =
    let e = variant-text c t k h in
    subst (λ l. Spelt l (λ strings rest. s.Name (number_in strings l) ∷ rest) []) (sym e) (bare (name_spelt (variant_at c h.def k).name h.name))

-- one more projection around what is written
around : (a b x y z : List ℕ) → a ++ ((b ++ (x ++ y)) ++ z) ≡ (a ++ b) ++ (x ++ (y ++ z))
around a b x y z = simp append_assoc

around-two : (a b b' x y y' z : List ℕ) → a ++ ((b ++ (b' ++ (x ++ (y ++ y')))) ++ z) ≡ ((a ++ b) ++ b') ++ (x ++ (y ++ (y' ++ z)))
around-two a b b' x y y' z = simp append_assoc

walk-spelt : (c : Crate) (t : Tree) (ps : List Proj) (x : List ℕ) (q : Strings → PlaceRule) → Path c t ps → Spelt x (λ strings. place_put (q strings)) []
    → Spelt (openings ps ++ (x ++ closings c t ps)) (λ strings. place_put (walk c strings (q strings) t ps)) []
unfolding openings opening closings closing piece
walk-spelt c t [] x q h a = subst (λ l. Spelt l (λ strings. place_put (q strings)) []) (sym (append-nil x)) a
walk-spelt c t (Deref ∷ ps) x q h a =
    let b = after open_star (and_then a (λ left clear. refl) (alone close_sign)) in
    subst (λ l. Spelt l (λ strings. place_put (walk c strings (q strings) t (Deref ∷ ps))) []) (around (openings ps) (codes "(*") x (codes ")") (closings c (type_after c t Deref) ps))
    (walk-spelt c (type_after c t Deref) ps (codes "(*" ++ (x ++ codes ")")) (λ strings. p.deref (q strings)) h.1 b)
walk-spelt c t (Field n ∷ ps) x q h a =
    let u = type_after c t (Field n) in
    let y = codes "." ++ (decimal n ++ (codes ": " ++ (type_text c u ++ codes ")"))) in
    let b = after open_sign (and_then a (λ left clear. refl) (after dot_sign (and_then (field-number n h.0) (λ left clear. refl) (after colon_space (and_then (type_spelt c u h.2) (λ left clear. refl) (alone close_sign)))))) in
    subst (λ l. Spelt l (λ strings. place_put (walk c strings (q strings) t (Field n ∷ ps))) []) (around (openings ps) (codes "(") x y (closings c u ps))
    (walk-spelt c u ps (codes "(" ++ (x ++ y)) (λ strings. p.field (q strings) n (type_rule c strings u)) h.3 b)
walk-spelt c t (Downcast k ∷ Field n ∷ ps) x q h a =
    let u = field_type c t k n in
    let name = variant_name c t k in
    let y = codes " as " ++ (name ++ codes ")") in
    let y' = codes "." ++ (decimal n ++ (codes ": " ++ (type_text c u ++ codes ")"))) in
    let b' = after dot_sign (and_then (field-number n h.0) (λ left clear. refl) (after colon_space (and_then (type_spelt c u h.4) (λ left clear. refl) (alone close_sign)))) in
    let b = after open_sign (after open_sign (and_then a (λ left clear. refl) (and_then (after as_word (and_then (variant-spelt c t k h.1) (λ left clear. refl) (alone close_sign))) (λ left clear. refl) b'))) in
    subst (λ l. Spelt l (λ strings. place_put (walk c strings (q strings) t (Downcast k ∷ Field n ∷ ps))) []) (around-two (openings ps) (codes "(") (codes "(") x y y' (closings c u ps))
    (walk-spelt c u ps (codes "(" ++ (codes "(" ++ (x ++ (y ++ y')))) (λ strings. p.variant_field (q strings) (number_in strings name) n (type_rule c strings u)) h.5 b)
walk-spelt c t ps x q h a = absurd h

pub place_spelt : (c : Crate) (locals : List Tree) (q : Place) → IsPlace c locals q → Spelt (place_text c locals q) (λ strings. place_put (place_rule c strings locals q)) []
unfolding place_text place_rule
place_spelt c locals q h = walk-spelt c (local_ty locals q.local) q.proj (local_text q.local) (λ strings. p.local q.local) h.path (local_spelt q.local h.small)
